-- The word table of a record that rule 9 allows has the record's bonds, for all numbers and not only for atoms.
-- Rows and bits beyond n are zero by the rule, and no number above 128 is in a set.
use Prim.Native.Nat.{ℕ, ◌+◌, ◌-◌, ◌*◌, ◌/◌, ◌%◌, ◌≤◌}
use native.Mathlib.Omega.{arith}
use mathlib.Core.Path.{◌≡◌, sym, fun_ext, ◌∙◌}
use mathlib.Core.Bool.{true, ◌&&◌}
use mathlib.Core.List.{List}
use lib.ListN.{get_or}
use Rattle.graph.proofs.Below.{and_parts, same_test}
use Rattle.molecule.specs.declared.Molecule.{Molecule}
use Rattle.molecule.specs.Record.{bit, cell, is_atom, bonded, well_formed}
use Rattle.molecule.proofs.Bonds.{atom-bounds, bonded-cell, bonded-facts, rule9, bonded-symmetric}
use Rattle.molecule.proofs.Rules.{Sound, Mirror, sound-of-rules}
use Rattle.atomset.specs.Set.{linked_by, WordsOf}

pub record InRange (a b : ℕ) : Type 0 where
  pub left_low : 1 ≤ a
  pub left_high : a ≤ 128
  pub right_low : 1 ≤ b
  pub right_high : b ≤ 128

-- Only the atoms from 1 to 128 are bonded
pub linked-range : (table : List ℕ) (a b : ℕ) → linked_by table a b ≡ true → InRange a b
unfolding linked_by
linked-range table a b e =
    let bond = bit (get_or table (2 * (a - 1) + (b - 1) / 64) 0) ((b - 1) % 64) in
    let (atoms, set) = and_parts (is_atom 128 a && is_atom 128 b) bond e in
    let (is-a, is_b) = and_parts (is_atom 128 a) (is_atom 128 b) atoms in
    let left = atom-bounds 128 a is-a in
    let right = atom-bounds 128 b is_b in
    record { left_low = left.0; left_high = left.1; right_low = right.0; right_high = right.1 }

module _ (mol : Molecule) (ok : well_formed mol ≡ true) (table : List ℕ) (words : WordsOf mol.rows table) where
  mirror :
      (a b : ℕ) → InRange a b → cell mol.rows (a - 1) (b - 1) ≡ true →
      Mirror mol.rows mol.atoms (a - 1) (b - 1)
  unfolding Sound
  mirror a b r e =
      sound-of-rules mol.rows mol.atoms (rule9 mol ok).rows-sound (a - 1) (b - 1) (omega arith) (omega arith) e

  cell_set : (a b : ℕ) → InRange a b → linked_by table a b ≡ true → cell mol.rows (a - 1) (b - 1) ≡ true
  cell_set a b r e = sym (words a b r.left_low r.left_high r.right_low r.right_high) ∙ e

  to-bonded : (a b : ℕ) → linked_by table a b ≡ true → bonded mol.atoms mol.rows a b ≡ true
  to-bonded a b e =
      let r = linked-range table a b e in
      let set = cell_set a b r e in
      let m = mirror a b r set in
      bonded-cell mol.atoms mol.rows a b r.left_low (omega arith) r.right_low (omega arith) ∙ set

  to-linked : (a b : ℕ) → bonded mol.atoms mol.rows a b ≡ true → linked_by table a b ≡ true
  to-linked a b e =
      let f = bonded-facts mol.atoms mol.rows a b e in
      let top = (rule9 mol ok).atoms_high in
      words a b f.left_low (omega arith) f.right_low (omega arith) ∙ f.set

  -- The table has the bonds of the record
  pub linked-bonded : (a b : ℕ) → linked_by table a b ≡ bonded mol.atoms mol.rows a b
  linked-bonded a b =
      same_test (linked_by table a b) (bonded mol.atoms mol.rows a b) (to-bonded a b) (to-linked a b)

  pub linked-same : linked_by table ≡ bonded mol.atoms mol.rows
  linked-same = fun_ext (λ a. fun_ext (λ b. linked-bonded a b))

  -- and they hold both ways
  pub linked-symmetric : (a b : ℕ) → linked_by table a b ≡ linked_by table b a
  linked-symmetric a b = linked-bonded a b ∙ bonded-symmetric mol ok a b ∙ sym (linked-bonded b a)
