-- `search_rules::is_padded` meets its contract: each place past the length holds 0.
-- The iterator yields these places, and `skipped-padded` says what the test of each comes to.
use mathlib.Core.Path.{◌∙◌}
use lib.Dec.{eqb}
use borrow.Author.Rules.{rules}
use Rattle.std.proofs.Common.{tests}
use Rattle.std.proofs.lemmas.Iterator.{YieldsList-from_slice}
use Rattle.std.proofs.lemmas.Iterator.Adapters.{YieldsList-from_skip}
use Rattle.std.proofs.lemmas.Iterator.Search.{all_from_yields_List}
use Rattle.search_rules.proofs.Checks.{skipped-padded}
use Rattle.search_rules.proofs.is_padded.Goals as goal

pub returns : goal.returns
returns c =
    all_from_yields_List (λ a. eqb a 0) _ _ _ c.all.ensures.ran
    (YieldsList-from_skip c.args.len (YieldsList-from_slice c.args.prefix.now (cc)) (cc))
    (λ x b q k. search (rules, tests)) ∙
    skipped-padded _ _ (search rules)
