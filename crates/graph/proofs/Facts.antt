-- Rings and paths as plain facts: `is_ring` and `is_path` are true exactly when `Ring` and `Path` hold.
-- Each test is read by the laws of `all_below` and of the number tests, part by part.
use Prim.Native.Nat.{ℕ, zero, suc, ◌-◌, ◌≤◌, ◌<◌}
use mathlib.Core.Path.{◌≡◌, refl, sym}
use mathlib.Core.Bool.{Bool, true, false, ◌&&◌, not, beq}
use mathlib.Core.List.{List}
use mathlib.Core.Logic.{◌≢◌, ◌↔◌}
use native.Mathlib.Omega.{arith}
use native.Mathlib.Nat.{not-suc-le-zero}
use lib.ListN.{length}
use lib.Dec.{leb, ltb, eqb}
use borrow.Author.Tests.{leb-true, le-leb, ltb-true, lt-ltb, eqb-true, eq-eqb, eqb-false, ne_eqb, not-true}
use Rattle.graph.specs.Every.{all_below}
use Rattle.graph.specs.Chordless.{Adjacency, atom_at, last_atom, in_range, induces, along_path, along_ring, is_ring, is_path}
use Rattle.graph.proofs.Below.{apart, and_parts, and_both, beq-true, beq_same, not-of, all_below-at, all_below-of}

-- every atom is from 1 to n
abbrev pub InRange : ℕ → List ℕ → Type 0
InRange n xs = (i : ℕ) → i < length xs → (1 ≤ atom_at xs i) × (atom_at xs i ≤ n)

-- places i < j hold different atoms
abbrev pub Distinct : List ℕ → Type 0
Distinct xs = (i j : ℕ) → i < j → j < length xs → atom_at xs i ≢ atom_at xs j

-- the atoms at places i < j are bonded exactly when `joined i j` says so
abbrev pub Bonds : Adjacency → (ℕ → ℕ → Bool) → List ℕ → Type 0
Bonds adj joined xs = (i j : ℕ) → i < j → j < length xs → adj (atom_at xs i) (atom_at xs j) ≡ joined i j

pub record Ring (n : ℕ) (adj : Adjacency) (xs : List ℕ) : Type 0 where
  pub long : 3 ≤ length xs
  pub range : InRange n xs
  pub distinct : Distinct xs
  pub bonds : Bonds adj (along_ring (length xs)) xs
  pub lowest : (i : ℕ) → 0 < i → i < length xs → atom_at xs 0 < atom_at xs i
  pub oriented : atom_at xs 1 < last_atom xs

pub record Path (n : ℕ) (adj : Adjacency) (s t : ℕ) (xs : List ℕ) : Type 0 where
  pub long : 1 ≤ length xs
  pub range : InRange n xs
  pub first : atom_at xs 0 ≡ s
  pub last : last_atom xs ≡ t
  pub distinct : Distinct xs
  pub bonds : Bonds adj along_path xs

-- ---- parts of the tests

pub in_range-at : (n : ℕ) (xs : List ℕ) → in_range n xs ≡ true → InRange n xs
unfolding in_range
in_range-at n xs e i h =
    let here = all_below-at (length xs) (λ k. leb 1 (atom_at xs k) && leb (atom_at xs k) n) e i h in
    let (low, high) = and_parts (leb 1 (atom_at xs i)) (leb (atom_at xs i) n) here in
    (leb-true 1 (atom_at xs i) low, leb-true (atom_at xs i) n high)

pub in_range-of : (n : ℕ) (xs : List ℕ) → InRange n xs → in_range n xs ≡ true
unfolding in_range
in_range-of n xs f = all_below-of (length xs) (λ k. leb 1 (atom_at xs k) && leb (atom_at xs k) n) passes
  where
    passes : (i : ℕ) → i < length xs → leb 1 (atom_at xs i) && leb (atom_at xs i) n ≡ true
    passes i h =
        let (low, high) = f i h in
        and_both (leb 1 (atom_at xs i)) (leb (atom_at xs i) n) (le-leb 1 (atom_at xs i) low)
        (le-leb (atom_at xs i) n high)

pub in_range-iff : (n : ℕ) (xs : List ℕ) → (in_range n xs ≡ true) ↔ InRange n xs
in_range-iff n xs = (in_range-at n xs, in_range-of n xs)

module _ (adj : Adjacency) (joined : ℕ → ℕ → Bool) (xs : List ℕ) where
  -- two places hold different atoms; these are bonded as `joined` says; both
  abbrev differ : ℕ → ℕ → Bool
  differ i j = not (eqb (atom_at xs i) (atom_at xs j))

  abbrev agrees : ℕ → ℕ → Bool
  agrees i j = beq (adj (atom_at xs i) (atom_at xs j)) (joined i j)

  abbrev pair : ℕ → ℕ → Bool
  pair i j = differ i j && agrees i j

  pair-at : induces adj joined xs ≡ true → (i j : ℕ) → i < j → j < length xs → (differ i j ≡ true) × (agrees i j ≡ true)
  unfolding induces
  pair-at e i j h k =
      let below-j = all_below-at (length xs) (λ b. all_below b (λ a. pair a b)) e j k in
      and_parts (differ i j) (agrees i j) (all_below-at j (λ a. pair a j) below-j i h)

  pub induces-distinct : induces adj joined xs ≡ true → Distinct xs
  induces-distinct e i j h k =
      let (different, agreed) = pair-at e i j h k in
      eqb-false (atom_at xs i) (atom_at xs j) (not-true (eqb (atom_at xs i) (atom_at xs j)) different)

  pub induces-bonds : induces adj joined xs ≡ true → Bonds adj joined xs
  induces-bonds e i j h k =
      let (different, agreed) = pair-at e i j h k in
      beq-true (adj (atom_at xs i) (atom_at xs j)) (joined i j) agreed

  pub induces-of : Distinct xs → Bonds adj joined xs → induces adj joined xs ≡ true
  unfolding induces
  induces-of d b =
      all_below-of (length xs) (λ j. all_below j (λ i. pair i j))
      (λ j k. all_below-of j (λ i. pair i j) (λ i h. passes i j h k))
    where
      passes : (i j : ℕ) → i < j → j < length xs → pair i j ≡ true
      passes i j h k =
          let different =
          not-of (eqb (atom_at xs i) (atom_at xs j)) (ne_eqb (atom_at xs i) (atom_at xs j) (d i j h k)) in
          let agreed = beq_same (adj (atom_at xs i) (atom_at xs j)) (joined i j) (b i j h k) in
          and_both (differ i j) (agrees i j) different agreed

  pub induces-iff : (induces adj joined xs ≡ true) ↔ (Distinct xs × Bonds adj joined xs)
  induces-iff = (λ e. (induces-distinct e, induces-bonds e), λ (distinct, bonds). induces-of distinct bonds)

-- the five parts of a test
and5 :
    (a b c d e : Bool) → a && b && c && d && e ≡ true →
    (a ≡ true) × (b ≡ true) × (c ≡ true) × (d ≡ true) × (e ≡ true)
and5 true true true true e q = (refl, refl, refl, refl, q)
and5 true true true false e q = absurd (apart (sym q))
and5 true true false d e q = absurd (apart (sym q))
and5 true false c d e q = absurd (apart (sym q))
and5 false b c d e q = absurd (apart (sym q))

all5 : (a b c d e : Bool) → a ≡ true → b ≡ true → c ≡ true → d ≡ true → e ≡ true → a && b && c && d && e ≡ true
all5 a b c d e p q r s t = simp (p, q, r, s, t)

-- ---- rings

module _ (n : ℕ) (adj : Adjacency) (xs : List ℕ) where
  -- the first atom is below the one at the place after i
  abbrev above : ℕ → Bool
  above i = ltb (atom_at xs 0) (atom_at xs (suc i))

  abbrev induced : Bool
  induced = induces adj (along_ring (length xs)) xs

  lowest-at :
      all_below (length xs - 1) above ≡ true → (i : ℕ) → 0 < i → i < length xs → atom_at xs 0 < atom_at xs i
  lowest-at e zero h k = absurd (not-suc-le-zero h)
  lowest-at e (suc i) h k =
      ltb-true (atom_at xs 0) (atom_at xs (suc i)) (all_below-at (length xs - 1) above e i (omega arith))

  pub ring-facts : is_ring n adj xs ≡ true → Ring n adj xs
  unfolding is_ring
  ring-facts e =
      let lowest = all_below (length xs - 1) above in
      let oriented = ltb (atom_at xs 1) (last_atom xs) in
      let (l, r, i, b, o) = and5 (leb 3 (length xs)) (in_range n xs) induced lowest oriented e in
      record {
        long = leb-true 3 (length xs) l;
        range = in_range-at n xs r;
        distinct = induces-distinct adj (along_ring (length xs)) xs i;
        bonds = induces-bonds adj (along_ring (length xs)) xs i;
        lowest = lowest-at b;
        oriented = ltb-true (atom_at xs 1) (last_atom xs) o;
      }

  pub ring-of-facts : Ring n adj xs → is_ring n adj xs ≡ true
  unfolding is_ring
  ring-of-facts r =
      all5 (leb 3 (length xs)) (in_range n xs) induced (all_below (length xs - 1) above)
      (ltb (atom_at xs 1) (last_atom xs))
      (le-leb 3 (length xs) r.long)
      (in_range-of n xs r.range)
      (induces-of adj (along_ring (length xs)) xs r.distinct r.bonds)
      (all_below-of (length xs - 1) above lowest)
      (lt-ltb (atom_at xs 1) (last_atom xs) r.oriented)
    where
      lowest : (i : ℕ) → i < length xs - 1 → above i ≡ true
      lowest i h = lt-ltb (atom_at xs 0) (atom_at xs (suc i)) (r.lowest (suc i) (omega arith) (omega arith))

  pub ring-iff : (is_ring n adj xs ≡ true) ↔ Ring n adj xs
  ring-iff = (ring-facts, ring-of-facts)

-- ---- paths

module _ (n : ℕ) (adj : Adjacency) (s t : ℕ) (xs : List ℕ) where
  pub path-facts : is_path n adj s t xs ≡ true → Path n adj s t xs
  unfolding is_path
  path-facts e =
      let first = eqb (atom_at xs 0) s in
      let last = eqb (last_atom xs) t in
      let (l, r, f, g, i) = and5 (leb 1 (length xs)) (in_range n xs) first last (induces adj along_path xs) e in
      record {
        long = leb-true 1 (length xs) l;
        range = in_range-at n xs r;
        first = eqb-true (atom_at xs 0) s f;
        last = eqb-true (last_atom xs) t g;
        distinct = induces-distinct adj along_path xs i;
        bonds = induces-bonds adj along_path xs i;
      }

  pub path-of-facts : Path n adj s t xs → is_path n adj s t xs ≡ true
  unfolding is_path
  path-of-facts r =
      all5 (leb 1 (length xs)) (in_range n xs) (eqb (atom_at xs 0) s) (eqb (last_atom xs) t) (induces adj along_path xs)
      (le-leb 1 (length xs) r.long)
      (in_range-of n xs r.range)
      (eq-eqb (atom_at xs 0) s r.first)
      (eq-eqb (last_atom xs) t r.last)
      (induces-of adj along_path xs r.distinct r.bonds)

  pub path-iff : (is_path n adj s t xs ≡ true) ↔ Path n adj s t xs
  path-iff = (path-facts, path-of-facts)
