-- The list of a record's bonds has exactly its bonded pairs, lower atom first; so it tells the bonds and the record.
-- A pair of the list is a set cell above the diagonal; two ascending lists, one inside the other, as long, are equal.
use Prim.Native.Nat.{ℕ, zero, suc, ◌+◌, ◌-◌, ◌*◌, ◌/◌, ◌%◌, ◌≤◌, ◌<◌}
use native.Mathlib.Nat.{add-zero, add-suc}
use native.Mathlib.Decide.{dec_lt}
use native.Mathlib.Omega.{arith}
use mathlib.Core.Path.{◌≡◌, refl, ap, ap₂, sym, ◌∙◌}
use mathlib.Core.Bool.{true, false, ◌&&◌}
use mathlib.Core.List.Memᴰ
use mathlib.Core.List.{List, [], ◌∷◌, Memᴰ}
use mathlib.Core.Logic.{inl, inr}
use lib.ListN.{length, get_or}
use lib.Dec.{eqb}
use borrow.Author.Tests.{lt-ltb, eq-eqb, eqb-true}
use Rattle.graph.proofs.Below.{clash, false_of, and_parts, and_both, same_test}
use Rattle.molecule.specs.declared.Molecule.{Molecule}
use Rattle.molecule.specs.Record.{cell, bonded, well_formed}
use Rattle.molecule.specs.BondList.{Bond, pair_of, bond_here, bonds_to, bond_list, ascending, same_bonds}
use Rattle.molecule.specs.Parts.{each_bonded}
use Rattle.molecule.proofs.Rules.{Sound, sound-of-rules}
use Rattle.molecule.proofs.Bonds.{Bonded, rule9, bonded-facts, bonded-cell, bonded-symmetric, bonded-irreflexive}
use Rattle.molecule.proofs.Bits.{same_rows}
use Rattle.molecule.proofs.BondOrder.{same-pair, same-list, same-itself, bonds-ascend}
use Rattle.molecule.proofs.BondOrder.{here-parts, cell-of, of-cell}
use Rattle.molecule.proofs.BondWithin.{mem-at, ascend-at, ascend-within}
use Rattle.molecule.proofs.BondCount.{bonds-count}

-- ---- every pair of a list is a bond

module _ (n : ℕ) (rows : List ℕ) where
  pub all-bonded-of :
      (xs : List Bond) →
      ((k : ℕ) → k < length xs → let x = get_or xs k (0, 0) in bonded n rows x.0 x.1 ≡ true) →
      each_bonded n rows xs ≡ true
  unfolding each_bonded
  all-bonded-of [] f = refl
  all-bonded-of (x ∷ xs) f =
      let rest = all-bonded-of xs (λ k h. f (suc k) (omega arith)) in
      and_both (bonded n rows x.0 x.1) (each_bonded n rows xs) (f 0 (omega arith)) rest

  all-bonded-at :
      (xs : List Bond) → each_bonded n rows xs ≡ true → (z : Bond) → Memᴰ z xs → bonded n rows z.0 z.1 ≡ true
  unfolding each_bonded
  all-bonded-at [] e z m = elim m [ ]
  all-bonded-at (x ∷ xs) e z m =
      let (here, rest) = and_parts (bonded n rows x.0 x.1) (each_bonded n rows xs) e in
      elim (Memᴰ.cases_cons m) [
        | inl same ↦ rw same here
        | inr later ↦ all-bonded-at xs rest z later
      ]

-- ---- a pair of the list is a bonded pair, and the other way round

-- the bit of two atoms, by its row and column
bonded-at : (n : ℕ) (rows : List ℕ) (i j : ℕ) → i < n → j < n → bonded n rows (suc i) (suc j) ≡ cell rows i j
bonded-at n rows i j hi hj =
    let row : suc i - 1 ≡ i = omega arith in
    let column : suc j - 1 ≡ j = omega arith in
    rw (row, column) at (bonded-cell n rows (suc i) (suc j) (omega arith) hi (omega arith) hj)

module _ (mol : Molecule) (formed : well_formed mol ≡ true) where
  abbrev n : ℕ
  n = mol.atoms

  abbrev rows : List ℕ
  rows = mol.rows

  pub listed-is-bonded : (x : Bond) → Memᴰ x (bond_list rows) → bonded n rows x.0 x.1 ≡ true
  unfolding bond_list Sound
  listed-is-bonded x m =
      let at = cell-of rows 16384 x m in
      let p = at.place in
      let set = (here-parts rows p at.here).1 in
      let sound = sound-of-rules rows n (rule9 mol formed).rows-sound in
      let mirror = sound (p / 128) (p % 128) (omega (arith, at.below)) (omega arith) set in
      rw at.pair (bonded-at n rows (p / 128) (p % 128) mirror.row_within mirror.column_within ∙ set)

  bonded-is-listed : (a b : ℕ) → a < b → bonded n rows a b ≡ true → Memᴰ {A = Bond} (a, b) (bond_list rows)
  unfolding bond_list bond_here
  bonded-is-listed a b less e =
      let few = (rule9 mol formed).atoms_high in
      let f = bonded-facts n rows a b e in
      go f (128 * (a - 1) + (b - 1)) (omega arith) (omega arith) (omega arith)
    where
      go :
          Bonded n rows a b → (p : ℕ) → p < 16384 → p / 128 ≡ a - 1 → p % 128 ≡ b - 1 →
          Memᴰ {A = Bond} (a, b) (bonds_to rows 16384)
      go f p below row column =
          let here : bond_here rows p ≡ true = rw (row, column, lt-ltb (a - 1) (b - 1) (omega arith)) f.set in
          Memᴰ.cast (same-pair (a, b) (pair_of p) (omega arith) (omega arith)) (of-cell rows 16384 p below here)

  -- They are bonds of it
  pub bonds-bonded : each_bonded n rows (bond_list rows) ≡ true
  bonds-bonded =
      all-bonded-of n rows (bond_list rows)
      (λ k h. listed-is-bonded (get_or (bond_list rows) k (0, 0)) (mem-at (bond_list rows) k h))

  -- a list of ascending pairs
  module _ (xs : List Bond) (ordered : ascending (0, 0) xs ≡ true) where
    -- where they are m and each is a bond of it, they are its list
    pub same-there : (eqb (length xs) mol.bonds && each_bonded n rows xs) ≡ true → xs ≡ bond_list rows
    same-there e =
        let (as_many, all) = and_parts (eqb (length xs) mol.bonds) (each_bonded n rows xs) e in
        let count = eqb-true (length xs) mol.bonds as_many in
        let listed = bonds-count mol formed in
        (ascend-within (0, 0) (0, 0) xs (bond_list rows) ordered (bonds-ascend rows) (λ z m. inside all z m)).same
        (omega (arith, count, listed))
      where
        inside : each_bonded n rows xs ≡ true → (z : Bond) → Memᴰ z xs → Memᴰ z (bond_list rows)
        inside all z m =
            bonded-is-listed z.0 z.1 (ascend-at (0, 0) xs ordered z m).0 (all-bonded-at n rows xs all z m)

    -- Ascending pairs are its bonds exactly when they are m and each is a bond of it
    pub ascending-bonds : (eqb (length xs) mol.bonds && each_bonded n rows xs) ≡ same_bonds xs (bond_list rows)
    ascending-bonds =
        same_test (eqb (length xs) mol.bonds && each_bonded n rows xs) (same_bonds xs (bond_list rows))
        (λ e. ap (λ ys. same_bonds xs ys) (sym (same-there e)) ∙ same-itself xs)
        (λ e. back (same-list xs (bond_list rows) e))
      where
        back : xs ≡ bond_list rows → (eqb (length xs) mol.bonds && each_bonded n rows xs) ≡ true
        back e =
            let count = eq-eqb (length (bond_list rows)) mol.bonds (bonds-count mol formed) in
            rw (e, count) bonds-bonded

-- ---- the cells that have them

module _ (rows : List ℕ) (n : ℕ) (few : n ≤ 128) (sound : Sound rows n) where
  -- where the rows of the atoms end
  abbrev end : ℕ
  end = 128 * n

  none-past : (p : ℕ) → end ≤ p → p < 16384 → bond_here rows p ≡ false
  unfolding Sound
  none-past p past below = false_of (bond_here rows p) (λ e. beyond (here-parts rows p e).1)
    where
      beyond : cell rows (p / 128) (p % 128) ≡ true → ⊥
      beyond set = omega (arith, (sound (p / 128) (p % 128) (omega arith) (omega arith) set).row_within)

  same-past : (k : ℕ) → end + k ≤ 16384 → bonds_to rows (end + k) ≡ bonds_to rows end
  unfolding bonds_to
  same-past zero h = rw (add-zero end)
  same-past (suc k) h = rw (add-suc end k, none-past (end + k) (omega arith) (omega arith)) (same-past k (omega arith))

  -- The cells of the first n rows have all of them
  pub bonds-within : bonds_to rows end ≡ bond_list rows
  unfolding bond_list
  bonds-within =
      let all : end + (16384 - end) ≡ 16384 = omega arith in
      sym (same-past (16384 - end) (omega arith)) ∙ ap (bonds_to rows) all

-- ---- two records with the same list

listed-one-way :
    (A B : Molecule) → well_formed A ≡ true → well_formed B ≡ true → bond_list A.rows ≡ bond_list B.rows →
    (a b : ℕ) → bonded A.atoms A.rows a b ≡ true → bonded B.atoms B.rows a b ≡ true
listed-one-way A B formed-a formed-b same a b e = go (dec_lt a b) (dec_lt b a)
  where
    up : (a b : ℕ) → a < b → bonded A.atoms A.rows a b ≡ true → bonded B.atoms B.rows a b ≡ true
    up a b less e = listed-is-bonded B formed-b (a, b) (rw same at (bonded-is-listed A formed-a a b less e))

    go : Dec (a < b) → Dec (b < a) → bonded B.atoms B.rows a b ≡ true
    go (yes less) d = up a b less e
    go (no more) (yes less) =
        bonded-symmetric B formed-b a b ∙ up b a less (bonded-symmetric A formed-a b a ∙ e)
    go (no more) (no less) =
        let diagonal : a ≡ b = omega arith in
        absurd (clash (bonded A.atoms A.rows a b) e (rw diagonal (bonded-irreflexive A formed-a b)))

cells-one-way :
    (A B : Molecule) → well_formed A ≡ true → well_formed B ≡ true → bond_list A.rows ≡ bond_list B.rows →
    (i j : ℕ) → i < 128 → j < 128 → cell A.rows i j ≡ true → cell B.rows i j ≡ true
unfolding Sound
cells-one-way A B formed-a formed-b same i j hi hj e =
    let sound = sound-of-rules A.rows A.atoms (rule9 A formed-a).rows-sound in
    let mirror = sound i j hi hj e in
    let here = bonded-at A.atoms A.rows i j mirror.row_within mirror.column_within ∙ e in
    let there = listed-one-way A B formed-a formed-b same (suc i) (suc j) here in
    let facts = bonded-facts B.atoms B.rows (suc i) (suc j) there in
    sym (bonded-at B.atoms B.rows i j facts.left_high facts.right_high) ∙ there

abbrev molecule : ℕ → ℕ → List ℕ → Molecule
molecule n m rows = record { atoms = n; bonds = m; rows = rows }

-- Two records with as many atoms and the same list are the same record, as their rows are 2,048 bytes
pub listed-record :
    (A B : Molecule) → well_formed A ≡ true → well_formed B ≡ true → A.atoms ≡ B.atoms →
    bond_list A.rows ≡ bond_list B.rows → A ≡ B
listed-record A B formed-a formed-b atoms same =
    ap (λ n. molecule n A.bonds A.rows) atoms ∙ ap₂ (molecule B.atoms) same_count same_bytes
  where
    same_count : A.bonds ≡ B.bonds
    same_count = sym (bonds-count A formed-a) ∙ ap length same ∙ bonds-count B formed-b

    same-cell : (i j : ℕ) → i < 128 → j < 128 → cell A.rows i j ≡ cell B.rows i j
    same-cell i j hi hj =
        same_test (cell A.rows i j) (cell B.rows i j)
        (cells-one-way A B formed-a formed-b same i j hi hj) (cells-one-way B A formed-b formed-a (sym same) i j hi hj)

    same_bytes : A.rows ≡ B.rows
    same_bytes = same_rows A.rows B.rows (rule9 A formed-a).bytes (rule9 B formed-b).bytes same-cell
