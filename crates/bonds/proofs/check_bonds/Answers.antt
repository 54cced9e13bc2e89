-- Rules 6 and 7 over the bonds, in one pass.
-- Invariant: the bonds passed have both atoms in range, and `apart` tells whether none joins an atom to itself.
use Rattle.bonds.proofs.Stored.{within-both, within-left, within-right, bonds-all, bonds-broken, bonds-same, bonds-differ}
use Rattle.bonds.proofs.check_bonds.Goals as goal
use Rattle.bonds.proofs.check_bonds.Goals.{then-not-is_atom-via-then-not-is_atom, then-not-is_atom-via-else-not-is_atom+then-not-is_atom-2, then-left-right, else-left-right}

pub returns-then-not-is_atom : goal.returns-then-not-is_atom
returns-then-not-is_atom c =
    bonds-broken c.loop-left.invariant c.loop-left-test.true
    (elim c.then-not-is_atom.branch [
      | then-not-is_atom-via-then-not-is_atom w ↦ within-left _ _ _ (rw c.from.ensures at w.if-not-is_atom.ensures)
      | then-not-is_atom-via-else-not-is_atom+then-not-is_atom-2 w ↦
          within-right _ _ _ (rw c.from.ensures at w.if-not-is_atom.ensures)
          (rw w.from-else-not-is_atom.ensures at w.if-not-is_atom-2.ensures)
    ])

pub loop-left-preserved : goal.loop-left-preserved
loop-left-preserved c =
    let left = rw c.from.ensures at c.if-not-is_atom.ensures in
    let right = rw c.from-else-not-is_atom.ensures at c.if-not-is_atom-2.ensures in
    let inside = within-both _ _ _ left right in
    let more = c.loop-left-test.true in
    elim c.if-left-right.branch [
      | then-left-right w ↦ rw w.apart-is (bonds-same c.loop-left.invariant more inside w.if-left-right.true)
      | else-left-right w ↦ rw w.apart-is (bonds-differ c.loop-left.invariant more inside w.if-left-right.false)
    ]

pub returns-then-not-apart : goal.returns-then-not-apart
returns-then-not-apart c = rw c.if-not-apart.true at (bonds-all c.loop-left.invariant c.loop-left-test.false)

pub returns : goal.returns
returns c = rw c.if-not-apart.false at (bonds-all c.loop-left.invariant c.loop-left-test.false)
