-- Rules 3, 4, 19 and 20, by the tests that lead to each answer; they look at the first n atoms and m bonds alone.
-- The definitions go by `cond`, so each answer follows by rewriting the rules.
use Rattle.std.specs.Prelude.{Err, Ok, Result}
use Prim.Native.Nat.{ℕ, ◌≤◌, ◌<◌}
use mathlib.Core.Path.{◌≡◌, refl, ap}
use mathlib.Core.Bool.{true, false}
use mathlib.Core.List.{List}
use lib.Dec.{leb}
use borrow.Author.Tests.{le-leb, lt-leb}
use Rattle.graph.proofs.Places.{all_same}
use Rattle.refusal.specs.declared.Refusal.{Refusal}
use Rattle.refusal.specs.declared.Refusal.TheVariants as refusal
use Rattle.molecule.specs.Record.{neighbours}
use Rattle.bonds.specs.Bonds.{Bond}
use Rattle.bonds.specs.Reading.{read_bonds}
use Rattle.bonds.proofs.Same.{bonds-same}
use Rattle.molfile.specs.Molfile.{symbols_kept, neighbours_kept, within_limits, read_atoms}
use Rattle.molecule.specs.declared.Molecule.{Molecule}

-- ---- rule 20, on what the bonds are read as

module _ (limit : ℕ → ℕ) (n : ℕ) {bonds : Result Molecule Refusal} where
  pub limited-refused : {r : Refusal} → Err r ≡ bonds → Err r ≡ within_limits limit n bonds
  limited-refused is = rw (← is)

  module _ {mol : Molecule} (is : Ok mol ≡ bonds) where
    pub limited-over :
        neighbours_kept limit n mol.rows ≡ false → Err refusal.TooManyNeighbours ≡ within_limits limit n bonds
    limited-over e = rw (← is, e)

    pub limited-within : neighbours_kept limit n mol.rows ≡ true → Ok mol ≡ within_limits limit n bonds
    limited-within e = rw (← is, e)

-- ---- rules 3, 4 and 19

module _ (n m : ℕ) (limit : ℕ → ℕ) (bond : ℕ → Bond) where
  pub atoms-many : 128 < n → Err refusal.TooManyAtoms ≡ read_atoms n m limit bond
  unfolding read_atoms
  atoms-many many = rw (lt-leb n 128 many)

  module _ (few : n ≤ 128) where
    pub bonds-many : 1024 < m → Err refusal.TooManyBonds ≡ read_atoms n m limit bond
    unfolding read_atoms
    bonds-many many = rw (le-leb n 128 few, lt-leb m 1024 many)

    module _ (light : m ≤ 1024) where
      pub symbol-unknown : symbols_kept limit n ≡ false → Err refusal.UnknownSymbol ≡
          read_atoms n m limit bond
      unfolding read_atoms
      symbol-unknown e = rw (le-leb n 128 few, le-leb m 1024 light, e)

      pub symbols-known :
          symbols_kept limit n ≡ true → within_limits limit n (read_bonds n bond m) ≡ read_atoms n m limit bond
      unfolding read_atoms
      symbols-known e = rw (le-leb n 128 few, le-leb m 1024 light, e)

-- ---- limits and bonds that agree below n and m are read alike

module _ (n m : ℕ) (limit limit' : ℕ → ℕ) (bond bond' : ℕ → Bond) where
  pub read_same :
      ((i : ℕ) → i < n → limit i ≡ limit' i) → ((k : ℕ) → k < m → bond k ≡ bond' k) →
      read_atoms n m limit bond ≡ read_atoms n m limit' bond'
  unfolding read_atoms symbols_kept neighbours_kept
  read_same limits bonds =
      let symbols = all_same n (λ i. leb 1 (limit i)) (λ i. leb 1 (limit' i)) (λ i h. ap (leb 1) (limits i h)) in
      rw (symbols, bonds-same n bond bond' m bonds, within (read_bonds n bond' m))
    where
      counts : (rows : List ℕ) → neighbours_kept limit n rows ≡ neighbours_kept limit' n rows
      counts rows =
          all_same n (λ i. leb (neighbours rows i) (limit i)) (λ i. leb (neighbours rows i) (limit' i))
          (λ i h. ap (leb (neighbours rows i)) (limits i h))

      within : (read : Result Molecule Refusal) → within_limits limit n read ≡ within_limits limit' n read
      within (Ok mol) = rw (counts mol.rows)
      within (Err r) = refl
