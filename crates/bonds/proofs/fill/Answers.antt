-- Rule 8, and the rows of the bonds.
-- Invariant: the rows are those of the bonds passed, none of them twice; a set bit is a bond listed before.
use Rattle.std.proofs.Common.{◌∙◌, sym, refl, arith, length}
use Rattle.molecule.specs.Record.{fresh_molecule}
use Rattle.bonds.specs.Parts.{listed}
use Rattle.bonds.proofs.Tables.{kept_of}
use Rattle.bonds.proofs.Answers.{bonds-twice}
use Rattle.bonds.proofs.Filling.{AtBond, filled_none, filled_more, filled-all, rows-size, atom-range, twice_found}
use Rattle.bonds.proofs.fill.Goals as goal
use Rattle.bonds.proofs.fill.Goals.{After-from}

-- the turn is at a bond
turn :
    (c : After-from) →
    let bonds = c.args.bonds.now in
    let x = listed bonds c.loop-left.left-index in
    AtBond c.args.n (listed bonds) (length bonds) c.loop-left.left-index c.loop-left.rows x.0 x.1
turn c =
    record {
      kept = kept_of c.requires.few c.requires.atoms c.requires.apart;
      filled = c.loop-left.invariant;
      more = c.loop-left-test.true;
      atoms = refl;
    }

pub loop-left-init : goal.loop-left-init
unfolding fresh_molecule
loop-left-init c = rw c.fresh.ensures filled_none

pub overflow_sub-i : goal.overflow_sub-i
overflow_sub-i c = rw c.from.ensures (atom-range (turn (goal.at.overflow_sub-i c).After-from)).0

pub overflow_sub-j : goal.overflow_sub-j
overflow_sub-j c = rw c.from-in-loop-left.ensures (atom-range (turn (goal.at.overflow_sub-j c).After-from)).2

pub linked-requires : goal.linked-requires
linked-requires c =
    let range = atom-range (turn (goal.at.linked-requires c).After-from) in
    omega (arith, c.from.ensures, c.from-in-loop-left.ensures)

pub returns-then-linked : goal.returns-then-linked
returns-then-linked c =
    let told = rw (c.from.ensures, c.from-in-loop-left.ensures) at c.linked.ensures in
    let twice = twice_found (turn (goal.at.returns-then-linked c).After-from) (sym told ∙ c.if-linked.true) in
    sym (bonds-twice _ _ _ c.requires.atoms c.requires.apart twice)

pub link-requires : goal.link-requires
link-requires c =
    let at = turn (goal.at.link-requires c).After-from in
    let range = atom-range at in
    record {
      row_fits = omega (arith, c.from.ensures);
      column_fits = omega (arith, c.from-in-loop-left.ensures);
      size = rows-size at.filled at.kept;
    }

pub link-requires-in-loop-left : goal.link-requires-in-loop-left
link-requires-in-loop-left c =
    let at = turn (goal.at.link-requires-in-loop-left c).After-from in
    let range = atom-range at in
    record {
      row_fits = omega (arith, c.from-in-loop-left.ensures);
      column_fits = omega (arith, c.from.ensures);
      size = c.link.auto.rows ∙ rows-size at.filled at.kept;
    }

pub loop-left-preserved : goal.loop-left-preserved
loop-left-preserved c =
    let told = rw (c.from.ensures, c.from-in-loop-left.ensures) at c.linked.ensures in
    let first = rw (c.from.ensures, c.from-in-loop-left.ensures) at c.link.ensures in
    let second = rw (c.from.ensures, c.from-in-loop-left.ensures) at c.link-in-loop-left.ensures in
    filled_more (turn (goal.at.loop-left-preserved c).After-from) (sym told ∙ c.if-linked.false) first second

pub returns : goal.returns
returns c = filled-all c.loop-left.invariant c.requires.atoms c.requires.apart c.loop-left-test.false
