-- The words of an atom's row hold exactly the row's bits (document 02, F-3), for every record that rule 9 allows.
-- By `linked-bonded`, at the atom that a bit of a word stands for.
use Prim.Native.Nat.{ℕ, ◌+◌, ◌-◌, ◌*◌, ◌/◌, ◌%◌, ◌≤◌, ◌<◌}
use native.Mathlib.Omega.{arith}
use mathlib.Core.Path.{◌≡◌, sym, ◌∙◌}
use mathlib.Core.Bool.{true}
use mathlib.Core.List.{List}
use lib.ListN.{get_or}
use Rattle.molecule.specs.declared.Molecule.{Molecule}
use Rattle.molecule.specs.Record.{bit, bonded, well_formed}
use Rattle.atomset.specs.Set.{linked_by, WordsOf}
use Rattle.molecule.proofs.Bonds.{atom-of}
use Rattle.atomset.proofs.Bonds.{linked-bonded}

-- bit j of word w of the row of atom a, in the word table
linked-word :
    (table : List ℕ) (a w j : ℕ) → 1 ≤ a → a ≤ 128 → w < 2 → j < 64 →
    linked_by table a (64 * w + j + 1) ≡ bit (get_or table (2 * (a - 1) + w) 0) j
unfolding linked_by
linked-word table a w j l h hw hj =
    let row = atom-of 128 a l h in
    let other = atom-of 128 (64 * w + j + 1) (omega arith) (omega arith) in
    let word : (64 * w + j + 1 - 1) / 64 ≡ w = omega arith in
    let place : (64 * w + j + 1 - 1) % 64 ≡ j = omega arith in
    rw (row, other, word, place)

-- Bit j of word w of an atom's row is 1 exactly when the atom is bonded to atom 64 × w + j + 1
pub words-hold-bonds :
    (mol : Molecule) → well_formed mol ≡ true → (table : List ℕ) → WordsOf mol.rows table →
    (a w j : ℕ) → 1 ≤ a → a ≤ 128 → w < 2 → j < 64 →
    bit (get_or table (2 * (a - 1) + w) 0) j ≡ bonded mol.atoms mol.rows a (64 * w + j + 1)
words-hold-bonds mol ok table words a w j l h hw hj =
    sym (linked-word table a w j l h hw hj) ∙ linked-bonded mol ok table words a (64 * w + j + 1)
