-- Lists of bonds that are told to be the same are the same; the bonds of rows ascend in dictionary order, whatever
-- the rows. By induction on the lists and on the number of cells: a bond is the pair of a cell, and cells ascend.
use Prim.Native.Nat.{ℕ, zero, suc, ◌/◌, ◌%◌, ◌<◌}
use native.Mathlib.Decide.{ℕ_discrete}
use native.Mathlib.Omega.{arith}
use mathlib.Core.Path.{◌≡◌, refl, ap, ap₂, sym, ◌∙◌}
use mathlib.Core.Bool.{true, false, ◌&&◌, cond, or-true}
use mathlib.Core.List.Memᴰ
use mathlib.Core.List.{List, [], ◌∷◌, ◌++◌, Memᴰ}
use mathlib.Core.Logic.{◌⊎◌, inl, inr}
use lib.Dec.{ltb, eqb}
use borrow.Author.Tests.{lt-ltb, ltb-true, eq-eqb, eqb-true}
use Rattle.graph.proofs.Below.{apart, clash, either, and_parts, and_both}
use Rattle.molecule.specs.Record.{cell}
use Rattle.molecule.specs.BondList.{Bond, pair_of, bond_here, bonds_to, bond_list, comes_before, ascending, same_bonds}

-- ---- lists that are told to be the same

pub same-pair : (x y : Bond) → x.0 ≡ y.0 → x.1 ≡ y.1 → x ≡ y
same-pair x y left right = ap₂ {C = Bond} (λ a b. (a, b)) left right

-- Lists that are told to be the same are the same, and a list is the same as itself
pub same-list : (xs ys : List Bond) → same_bonds xs ys ≡ true → xs ≡ ys
unfolding same_bonds
same-list [] [] e = refl
same-list [] (y ∷ ys) e = absurd (apart (sym e))
same-list (x ∷ xs) [] e = absurd (apart (sym e))
same-list (x ∷ xs) (y ∷ ys) e =
    let (heads, tails) = and_parts (eqb x.0 y.0 && eqb x.1 y.1) (same_bonds xs ys) e in
    let (first, second) = and_parts (eqb x.0 y.0) (eqb x.1 y.1) heads in
    let same = same-pair x y (eqb-true x.0 y.0 first) (eqb-true x.1 y.1 second) in
    ap₂ ◌∷◌ same (same-list xs ys tails)

pub same-itself : (xs : List Bond) → same_bonds xs xs ≡ true
unfolding same_bonds
same-itself [] = refl
same-itself (x ∷ xs) = rw (eq-eqb x.0 x.0 refl, eq-eqb x.1 x.1 refl) (same-itself xs)

-- ---- dictionary order

-- what it says of the atoms of two bonds
abbrev pub Before : Bond → Bond → Type 0
Before x y = (x.0 < y.0) ⊎ ((x.0 ≡ y.0) × (x.1 < y.1))

pub before_of : (x y : Bond) → Before x y → comes_before x y ≡ true
unfolding comes_before
before_of x y (inl less) = rw (lt-ltb x.0 y.0 less)
before_of x y (inr (same, less)) =
    rw (eq-eqb x.0 y.0 same, lt-ltb x.1 y.1 less) (or-true (ltb x.0 y.0))

-- pairs of cells are in the order of the cells
pairs-order : (p k : ℕ) → p < k → comes_before (pair_of p) (pair_of k) ≡ true
pairs-order p k h = before_of (pair_of p) (pair_of k) (order (ℕ_discrete (p / 128) (k / 128)))
  where
    order : Dec (p / 128 ≡ k / 128) → Before (pair_of p) (pair_of k)
    order (yes same) = inr (ap suc same, omega arith)
    order (no other) = inl (omega arith)

-- ---- a bond of the list is the pair of a cell

-- a cell below k, and its bond
pub record CellOf (rows : List ℕ) (k : ℕ) (x : Bond) : Type 0 where
  pub place : ℕ
  pub below : place < k
  pub here : bond_here rows place ≡ true
  pub pair : x ≡ pair_of place

pub here-parts :
    (rows : List ℕ) (p : ℕ) → bond_here rows p ≡ true → (p / 128 < p % 128) × (cell rows (p / 128) (p % 128) ≡ true)
unfolding bond_here
here-parts rows p e =
    let (low, set) = and_parts (ltb (p / 128) (p % 128)) (cell rows (p / 128) (p % 128)) e in
    (ltb-true (p / 128) (p % 128) low, set)

pub cell-of : (rows : List ℕ) (k : ℕ) (x : Bond) → Memᴰ x (bonds_to rows k) → CellOf rows k x
unfolding bonds_to
cell-of rows zero x m = elim m [ ]
cell-of rows (suc k) x m = go (either (bond_here rows k)) (cell-of rows k x)
  where
    earlier : CellOf rows k x → CellOf rows (suc k) x
    earlier old = record { place = old.place; below = omega (arith, old.below); here = old.here; pair = old.pair }

    last :
        bond_here rows k ≡ true → (Memᴰ x (bonds_to rows k) → CellOf rows k x) →
        Memᴰ x (bonds_to rows k) ⊎ Memᴰ x (pair_of k ∷ []) → CellOf rows (suc k) x
    last t old (inl m) = earlier (old m)
    last t old (inr m) = record { place = k; below = omega arith; here = t; pair = Memᴰ.eq_of_singleton m }

    go :
        (bond_here rows k ≡ true) ⊎ (bond_here rows k ≡ false) → (Memᴰ x (bonds_to rows k) → CellOf rows k x) →
        CellOf rows (suc k) x
    go (inl t) old = last t old (Memᴰ.append_cases (bonds_to rows k) (rw t at m))
    go (inr f) old = earlier (old (rw f at m))

pub of-cell :
    (rows : List ℕ) (k p : ℕ) → p < k → bond_here rows p ≡ true → Memᴰ {A = Bond} (pair_of p) (bonds_to rows k)
unfolding bonds_to
of-cell rows zero p h t = absurd (omega arith)
of-cell rows (suc k) p h t = go (either (bond_here rows k)) (ℕ_discrete p k) (of-cell rows k p)
  where
    go :
        (bond_here rows k ≡ true) ⊎ (bond_here rows k ≡ false) → Dec (p ≡ k) →
        (p < k → bond_here rows p ≡ true → Memᴰ {A = Bond} (pair_of p) (bonds_to rows k)) →
        Memᴰ {A = Bond} (pair_of p) (cond (bond_here rows k) (bonds_to rows k ++ (pair_of k ∷ [])) (bonds_to rows k))
    go (inl e) (yes s) old = rw e (Memᴰ.append_right (bonds_to rows k) (Memᴰ.head (ap pair_of s)))
    go (inl e) (no s) old = rw e (Memᴰ.append_left (pair_of k ∷ []) (old (omega arith) t))
    go (inr f) (yes s) old = absurd (clash (bond_here rows p) t (ap (bond_here rows) s ∙ f))
    go (inr f) (no s) old = rw f (old (omega arith) t)

-- ---- the list ascends

-- a later bond with its lower atom first goes to the end
ascend-more :
    (x : Bond) (xs : List Bond) (y : Bond) → ascending x xs ≡ true → y.0 < y.1 → comes_before x y ≡ true →
    ((z : Bond) → Memᴰ z xs → comes_before z y ≡ true) → ascending x (xs ++ (y ∷ [])) ≡ true
unfolding ascending
ascend-more x [] y a low after f = rw (lt-ltb y.0 y.1 low, after)
ascend-more x (z ∷ zs) y a low after f =
    let (here, rest) = and_parts (ltb z.0 z.1 && comes_before x z) (ascending z zs) a in
    let more = ascend-more z zs y rest low (f z (Memᴰ.head refl)) (λ w m. f w (Memᴰ.tail m)) in
    and_both (ltb z.0 z.1 && comes_before x z) (ascending z (zs ++ (y ∷ []))) here more

ascend-to : (rows : List ℕ) (k : ℕ) → ascending (0, 0) (bonds_to rows k) ≡ true
unfolding bonds_to ascending
ascend-to rows zero = refl
ascend-to rows (suc k) = go (ascend-to rows k) (either (bond_here rows k))
  where
    earlier : (z : Bond) → Memᴰ z (bonds_to rows k) → comes_before z (pair_of k) ≡ true
    earlier z m =
        let at = cell-of rows k z m in
        ap (λ (w : Bond). comes_before w (pair_of k)) at.pair ∙ pairs-order at.place k at.below

    go :
        ascending (0, 0) (bonds_to rows k) ≡ true → (bond_here rows k ≡ true) ⊎ (bond_here rows k ≡ false) →
        ascending (0, 0) (cond (bond_here rows k) (bonds_to rows k ++ (pair_of k ∷ [])) (bonds_to rows k)) ≡ true
    go a (inl t) =
        let low = (here-parts rows k t).0 in
        let first = before_of (0, 0) (pair_of k) (inl (omega arith)) in
        rw t (ascend-more (0, 0) (bonds_to rows k) (pair_of k) a (omega arith) first earlier)
    go a (inr f) = rw f a

-- Each has its lower atom first and is later in dictionary order than the one before it, whatever the rows
pub bonds-ascend : (rows : List ℕ) → ascending (0, 0) (bond_list rows) ≡ true
unfolding bond_list
bonds-ascend rows = ascend-to rows 16384
