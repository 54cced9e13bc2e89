-- Different atoms from 1 to n are at most n; so rings and paths have at most n atoms, and none begins another.
-- By induction on n: strike n from the list and count again.
use Prim.Native.Nat.{ℕ, zero, suc, ◌-◌, ◌≤◌}
use mathlib.Core.Path.{◌≡◌, refl, sym, ◌∙◌}
use mathlib.Core.Bool.{Bool, true, false, cond}
use mathlib.Core.List.{List, [], ◌∷◌, ◌++◌}
use mathlib.Core.Logic.{◌≢◌}
use native.Mathlib.Omega.{arith}
use lib.ListN.{length, length-append, get_or-append}
use lib.Dec.{eqb}
use borrow.Author.Tests.{eqb-true, eqb-false}
use Rattle.graph.specs.Chordless.{Adjacency, atom_at, last_atom, is_ring, is_path}
use Rattle.graph.proofs.Below.{clash}
use Rattle.graph.proofs.All.{All, none, ◌◁◌, all_map, all_both, all_of}
use Rattle.graph.proofs.Facts.{Distinct, InRange, ring-facts, path-facts}
use Rattle.graph.proofs.Shape.{along-last, along-inner}

-- ---- counting

-- each atom differs from all later ones
abbrev Apart : List ℕ → Type 0
Apart [] = Unit {0}
Apart (x ∷ xs) = All (λ u. x ≢ u) xs × Apart xs

-- the list without the first k in it
abbrev strike : ℕ → List ℕ → List ℕ
strike k [] = []
strike k (x ∷ xs) = cond (eqb x k) xs (x ∷ strike k xs)

strike-all : {P : ℕ → Type 0} (k : ℕ) (xs : List ℕ) → All P xs → All P (strike k xs)
strike-all k [] a = none
strike-all {P} k (x ∷ xs) (p ◁ a) = go (eqb x k) (strike-all k xs a)
  where
    go : (t : Bool) → All P (strike k xs) → All P (cond t xs (x ∷ strike k xs))
    go true b = a
    go false b = p ◁ b

strike-without : (k : ℕ) (xs : List ℕ) → Apart xs → All (λ u. u ≢ k) (strike k xs)
strike-without k [] a = none
strike-without k (x ∷ xs) (differ, apart) = go (eqb x k) refl (strike-without k xs apart)
  where
    go : (t : Bool) → eqb x k ≡ t → All (λ u. u ≢ k) (strike k xs) → All (λ u. u ≢ k) (cond t xs (x ∷ strike k xs))
    go true e b = all_map (λ u h. let q = eqb-true x k e in omega arith) differ
    go false e b = eqb-false x k e ◁ b

strike-apart : (k : ℕ) (xs : List ℕ) → Apart xs → Apart (strike k xs)
strike-apart k [] a = tt
strike-apart k (x ∷ xs) (differ, apart) = go (eqb x k) (strike-apart k xs apart)
  where
    go : (t : Bool) → Apart (strike k xs) → Apart (cond t xs (x ∷ strike k xs))
    go true b = apart
    go false b = (strike-all k xs differ, b)

strike-length : (k : ℕ) (xs : List ℕ) → length xs ≤ suc (length (strike k xs))
strike-length k [] = omega arith
strike-length k (x ∷ xs) = go (eqb x k) (strike-length k xs)
  where
    go :
        (t : Bool) → length xs ≤ suc (length (strike k xs)) →
        suc (length xs) ≤ suc (length (cond t xs (x ∷ strike k xs)))
    go true b = omega arith
    go false b = omega arith

strike-below :
    (n : ℕ) (xs : List ℕ) → All (λ u. (1 ≤ u) × (u ≤ suc n)) xs → Apart xs →
    All (λ u. (1 ≤ u) × (u ≤ n)) (strike (suc n) xs)
strike-below n xs a d =
    all_map (λ u f. omega arith) (all_both (strike-all (suc n) xs a) (strike-without (suc n) xs d))

pigeon : (n : ℕ) (xs : List ℕ) → All (λ u. (1 ≤ u) × (u ≤ n)) xs → Apart xs → length xs ≤ n
pigeon zero [] a d = omega arith
pigeon zero (x ∷ xs) ((low, high) ◁ a) d = absurd (omega arith)
pigeon (suc n) xs a d =
    let fewer = pigeon n (strike (suc n) xs) (strike-below n xs a d) (strike-apart (suc n) xs d) in
    omega (arith, strike-length (suc n) xs)

apart_of : (xs : List ℕ) → Distinct xs → Apart xs
apart_of [] d = tt
apart_of (x ∷ xs) d = (
  all_of xs (λ i h. d 0 (suc i) (omega arith) (omega arith)),
  apart_of xs (λ i j h k. d (suc i) (suc j) (omega arith) (omega arith)),
)

-- different atoms from 1 to n are at most n
pub distinct-short : (n : ℕ) (xs : List ℕ) → InRange n xs → Distinct xs → length xs ≤ n
distinct-short n xs r d = pigeon n xs (all_of xs r) (apart_of xs d)

-- ---- rings and paths

pub ring_long : (n : ℕ) (adj : Adjacency) (w : List ℕ) → is_ring n adj w ≡ true → 3 ≤ length w
ring_long n adj w e = (ring-facts n adj w e).long

pub ring-short : (n : ℕ) (adj : Adjacency) (w : List ℕ) → is_ring n adj w ≡ true → length w ≤ n
ring-short n adj w e = let r = ring-facts n adj w e in distinct-short n w r.range r.distinct

pub ring-range : (n : ℕ) (adj : Adjacency) (w : List ℕ) → is_ring n adj w ≡ true → InRange n w
ring-range n adj w e = (ring-facts n adj w e).range

pub path-long : (n : ℕ) (adj : Adjacency) (s t : ℕ) (w : List ℕ) → is_path n adj s t w ≡ true → 1 ≤ length w
path-long n adj s t w e = (path-facts n adj s t w e).long

pub path-short : (n : ℕ) (adj : Adjacency) (s t : ℕ) (w : List ℕ) → is_path n adj s t w ≡ true → length w ≤ n
path-short n adj s t w e = let r = path-facts n adj s t w e in distinct-short n w r.range r.distinct

pub path-range : (n : ℕ) (adj : Adjacency) (s t : ℕ) (w : List ℕ) → is_path n adj s t w ≡ true → InRange n w
path-range n adj s t w e = (path-facts n adj s t w e).range

-- the last atom of the shorter ring is bonded to the first, which in the longer one it may not be
pub ring-stops :
    (n : ℕ) (adj : Adjacency) (v : List ℕ) (a : ℕ) (r : List ℕ) →
    is_ring n adj v ≡ true → is_ring n adj (v ++ a ∷ r) ≡ true → ⊥
ring-stops n adj v a r e f =
    let short = ring-facts n adj v e in
    let long = ring-facts n adj (v ++ a ∷ r) f in
    let size = length-append v (a ∷ r) in
    let three = short.long in
    let j : ℕ = length v - 1 in
    let first : atom_at (v ++ a ∷ r) 0 ≡ atom_at v 0 = get_or-append v (a ∷ r) 0 0 (omega arith) in
    let last : atom_at (v ++ a ∷ r) j ≡ atom_at v j = get_or-append v (a ∷ r) 0 j (omega arith) in
    let closes = short.bonds 0 j (omega arith) (omega arith) ∙ along-last (length v) j (omega arith) in
    let inner = along-inner (length (v ++ a ∷ r)) j (omega arith) (omega arith) in
    let off = long.bonds 0 j (omega arith) (omega arith) ∙ inner in
    clash (adj (atom_at v 0) (atom_at v j)) closes (rw (first, last) at off)

-- t would stand at two places of the longer path
pub path-stops :
    (n : ℕ) (adj : Adjacency) (s t : ℕ) (v : List ℕ) (a : ℕ) (r : List ℕ) →
    is_path n adj s t v ≡ true → is_path n adj s t (v ++ a ∷ r) ≡ true → ⊥
path-stops n adj s t v a r e f =
    let short = path-facts n adj s t v e in
    let long = path-facts n adj s t (v ++ a ∷ r) f in
    let size = length-append v (a ∷ r) in
    let one = short.long in
    let j : ℕ = length v - 1 in
    let k : ℕ = length (v ++ a ∷ r) - 1 in
    let last : atom_at (v ++ a ∷ r) j ≡ last_atom v = get_or-append v (a ∷ r) 0 j (omega arith) in
    long.distinct j k (omega arith) (omega arith) (last ∙ short.last ∙ sym long.last)
