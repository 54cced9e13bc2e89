-- The count of ones over the rows.
-- The sum over the rows is the definition; what was read of them are bytes.
use Rattle.std.proofs.Common.{◌≡◌, ◌∙◌, rules}
use Rattle.std.specs.Int.Count.{ones}
use Rattle.std.specs.List.{sum_by}
use Rattle.molecule.proofs.Checks.{ones-sum, bytes-told}
use Rattle.molecule.proofs.ones_of.Goals as goal

pub returns : goal.returns
returns c =
    let total : c.sum.result ≡ sum_by ones c.args.rows.now = search rules in
    record {
      ones_are = total ∙ ones-sum c.args.rows.now;
      bytes = bytes-told c.args.rows.now (λ i. (c.type_inv.rows i).fits);
    }
