-- The bonds of a record that rule 9 allows: symmetric, and no atom is bonded to itself.
-- From the rules of the rows, at the row and the column of two atoms.
use Prim.Native.Nat.{ℕ, ◌-◌, ◌*◌, ◌≤◌}
use native.Mathlib.Omega.{arith}
use mathlib.Core.Path.{◌≡◌, refl, ◌∙◌}
use mathlib.Core.Bool.{true, false, ◌&&◌}
use mathlib.Core.List.{List}
use mathlib.Core.Logic.{⊎_elim}
use lib.Dec.{leb, eqb}
use borrow.Author.Tests.{le-leb, leb-true}
use Rattle.graph.proofs.Below.{and_parts, and_both, same_test, either}
use Rattle.molecule.specs.declared.Molecule.{Molecule}
use Rattle.molecule.specs.Record.{cell, is_atom, bonded, ones_of, rows_of_bytes, symmetric, loopless}
use Rattle.molecule.specs.Record.{within, well_formed}
use Rattle.molecule.proofs.Rules.{Rows, bytes-of-rows, Mirror, Sound, sound-of-rules}

pub atom-bounds : (n a : ℕ) → is_atom n a ≡ true → (1 ≤ a) × (a ≤ n)
atom-bounds n a e = let parts = and_parts (leb 1 a) (leb a n) e in (leb-true 1 a parts.0, leb-true a n parts.1)

pub atom-of : (n a : ℕ) → 1 ≤ a → a ≤ n → is_atom n a ≡ true
atom-of n a low high = rw (le-leb 1 a low, le-leb a n high)

-- the bit of two atoms
pub bonded-cell :
    (n : ℕ) (rows : List ℕ) (a b : ℕ) → 1 ≤ a → a ≤ n → 1 ≤ b → b ≤ n → bonded n rows a b ≡ cell rows (a - 1) (b - 1)
unfolding bonded
bonded-cell n rows a b la ha lb hb = rw (le-leb 1 a la, le-leb a n ha, le-leb 1 b lb, le-leb b n hb)

-- what is known of two bonded atoms
pub record Bonded (n : ℕ) (rows : List ℕ) (a b : ℕ) : Type 0 where
  pub left_low : 1 ≤ a
  pub left_high : a ≤ n
  pub right_low : 1 ≤ b
  pub right_high : b ≤ n
  pub set : cell rows (a - 1) (b - 1) ≡ true

pub bonded-facts : (n : ℕ) (rows : List ℕ) (a b : ℕ) → bonded n rows a b ≡ true → Bonded n rows a b
unfolding bonded
bonded-facts n rows a b e =
    let outer = and_parts (is_atom n a && is_atom n b) (cell rows (a - 1) (b - 1)) e in
    let inner = and_parts (is_atom n a) (is_atom n b) outer.0 in
    let left = atom-bounds n a inner.0 in
    let right = atom-bounds n b inner.1 in
    record { left_low = left.0; left_high = left.1; right_low = right.0; right_high = right.1; set = outer.1 }

-- the parts of rule 9
pub record Rule9 (mol : Molecule) : Type 0 where
  pub atoms_high : mol.atoms ≤ 128
  pub bonds_high : mol.bonds ≤ 1024
  pub bytes : Rows mol.rows
  pub rows-sound : (symmetric mol.rows && loopless mol.rows && within mol.atoms mol.rows) ≡ true
  pub ones_count : eqb (ones_of mol.rows) (2 * mol.bonds) ≡ true

pub rule9 : (mol : Molecule) → well_formed mol ≡ true → Rule9 mol
unfolding well_formed
rule9 mol e =
    let n = mol.atoms in
    let m = mol.bonds in
    let rows = mol.rows in
    -- the tests in their order, from the first to the one named
    let to-bonds = leb n 128 && leb m 1024 in
    let to-bytes = to-bonds && rows_of_bytes rows in
    let to-symmetric = to-bytes && symmetric rows in
    let to-loopless = to-symmetric && loopless rows in
    let to-within = to-loopless && within n rows in
    -- taken apart from the last on
    let count = and_parts to-within (eqb (ones_of rows) (2 * m)) e in
    let beyond = and_parts to-loopless (within n rows) count.0 in
    let loops = and_parts to-symmetric (loopless rows) beyond.0 in
    let mirror = and_parts to-bytes (symmetric rows) loops.0 in
    let bytes = and_parts to-bonds (rows_of_bytes rows) mirror.0 in
    let numbers = and_parts (leb n 128) (leb m 1024) bytes.0 in
    record {
      atoms_high = leb-true n 128 numbers.0;
      bonds_high = leb-true m 1024 numbers.1;
      bytes = bytes-of-rows rows bytes.1;
      rows-sound = and_both _ _ (and_both _ _ mirror.1 loops.1) beyond.1;
      ones_count = count.1;
    }

module _ (mol : Molecule) (ok : well_formed mol ≡ true) where
  abbrev n : ℕ
  n = mol.atoms

  abbrev rows : List ℕ
  rows = mol.rows

  mirror : (a b : ℕ) → bonded n rows a b ≡ true → Mirror rows n (a - 1) (b - 1)
  unfolding Sound
  mirror a b e =
      let rule = rule9 mol ok in
      let f = bonded-facts n rows a b e in
      sound-of-rules rows n rule.rows-sound (a - 1) (b - 1) (omega arith) (omega arith) f.set

  one_way : (a b : ℕ) → bonded n rows a b ≡ true → bonded n rows b a ≡ true
  one_way a b e =
      let f = bonded-facts n rows a b e in
      bonded-cell n rows b a f.right_low f.right_high f.left_low f.left_high ∙ (mirror a b e).image

  -- Bonds hold both ways
  pub bonded-symmetric : (a b : ℕ) → bonded n rows a b ≡ bonded n rows b a
  bonded-symmetric a b = same_test (bonded n rows a b) (bonded n rows b a) (one_way a b) (one_way b a)

  -- No atom is bonded to itself
  pub bonded-irreflexive : (a : ℕ) → bonded n rows a a ≡ false
  bonded-irreflexive a =
      ⊎_elim (λ (e : bonded n rows a a ≡ true). absurd ((mirror a a e).off_diagonal refl)) (λ f. f)
      (either (bonded n rows a a))
