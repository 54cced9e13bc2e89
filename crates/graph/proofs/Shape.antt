-- A ring is s, then a chordless list a .. b above s of which s meets only a and b, with a below b; a path is a
-- chordless list from s to t. The places of the tests are counted here once, so that proofs on lists need not.
use Prim.Native.Nat.{ℕ, zero, suc, ◌-◌, ◌≤◌, ◌<◌}
use mathlib.Core.Path.{◌≡◌, refl, sym, ap, ◌∙◌}
use mathlib.Core.Bool.{Bool, true, false, ◌&&◌, ◌||◌}
use mathlib.Core.List.{List, [], ◌∷◌, ◌++◌}
use mathlib.Core.Logic.{◌≢◌, ◌↔◌}
use native.Mathlib.Omega.{arith}
use native.Mathlib.Decide.{ℕ_discrete}
use native.Mathlib.Nat.{not-suc-le-zero, le_of_suc-le-suc}
use lib.ListN.{length, length-append, get_or-append}
use lib.Seq.{get_or_at}
use lib.Dec.{eqb, eqb-suc-suc, eqb-suc-zero}
use borrow.Author.Tests.{ne_eqb, eq-eqb}
use Rattle.graph.specs.Chordless.{Adjacency, atom_at, last_atom, along_path, along_ring, is_ring, is_path}
use Rattle.graph.proofs.All.{All, all_head, all-at, all_of}
use Rattle.graph.proofs.Facts.{Ring, Path, Distinct, Bonds, ring-facts, ring-of-facts, path-facts, path-of-facts}
use Rattle.graph.proofs.Chain.{Chordless, chordless-facts, chordless-distinct, chordless-bonds}

-- ---- the last atom

pub length-snoc : (q : List ℕ) (b : ℕ) → length (q ++ b ∷ []) ≡ suc (length q)
length-snoc q b = omega (arith, length-append q (b ∷ []))

pub last_snoc : (q : List ℕ) (b : ℕ) → last_atom (q ++ b ∷ []) ≡ b
last_snoc q b = get_or_at q b [] 0 (length (q ++ b ∷ []) - 1) (omega (arith, length-snoc q b))

-- ---- rings

-- the ring s ∷ a ∷ m ++ b ∷ []
pub record RingShape (n : ℕ) (adj : Adjacency) (s a : ℕ) (m : List ℕ) (b : ℕ) : Type 0 where
  pub least : 1 ≤ s
  pub above : All (λ u. (s < u) × (u ≤ n)) (a ∷ m ++ b ∷ [])
  pub chain : Chordless adj (a ∷ m ++ b ∷ [])
  pub opens : adj s a ≡ true
  pub inner : All (λ u. adj s u ≡ false) m
  pub closes : adj s b ≡ true
  pub oriented : a < b

-- which later places a first atom meets along a ring of k atoms
pub along-first : (k j : ℕ) → j ≡ 1 → along_ring k 0 j ≡ true
along-first k j e = rw e refl

pub along-last : (k j : ℕ) → suc j ≡ k → along_ring k 0 j ≡ true
along-last k j e = go (eqb j 1)
  where
    go : (t : Bool) → t || eqb 0 0 && eqb (suc j) k ≡ true
    go true = refl
    go false = eq-eqb (suc j) k e

pub along-inner : (k j : ℕ) → j ≢ 1 → suc j ≢ k → along_ring k 0 j ≡ false
along-inner k j h g = rw (ne_eqb j 1 h) (ne_eqb (suc j) k g)

pub along-tail : (k i j : ℕ) → along_ring k (suc i) (suc j) ≡ along_path i j
along-tail k i j = rw (eqb-suc-zero i, eqb-suc-suc j (suc i)) (go (eqb j (suc i)))
  where
    go : (t : Bool) → t || false ≡ t
    go true = refl
    go false = refl

module _ (n : ℕ) (adj : Adjacency) (s a : ℕ) (m : List ℕ) (b : ℕ) where
  abbrev whole : List ℕ
  whole = s ∷ a ∷ m ++ b ∷ []

  size : length whole ≡ suc (suc (suc (length m)))
  size = omega (arith, length-snoc m b)

  at_last : atom_at whole (suc (suc (length m))) ≡ b
  at_last = get_or_at m b [] 0 (length m) refl

  at_inner : (i : ℕ) → i < length m → atom_at whole (suc (suc i)) ≡ atom_at m i
  at_inner i h = get_or-append m (b ∷ []) 0 i h

  shape_of : Ring n adj whole → RingShape n adj s a m b
  shape_of r =
      let k : length whole ≡ suc (suc (suc (length m))) = size in
      let last = suc (suc (length m)) in
      record {
        least = (r.range 0 (omega arith)).0;
        above =
            all_of (a ∷ m ++ b ∷ [])
            (λ i h. (r.lowest (suc i) (omega arith) (omega arith), (r.range (suc i) (omega arith)).1));
        chain =
            chordless-facts adj (a ∷ m ++ b ∷ [])
            (λ i j h g. r.distinct (suc i) (suc j) (omega arith) (omega arith))
            (λ i j h g. r.bonds (suc i) (suc j) (omega arith) (omega arith) ∙ along-tail (length whole) i j);
        opens = r.bonds 0 1 (omega arith) (omega arith) ∙ along-first (length whole) 1 refl;
        inner = all_of m inner;
        closes =
            ap (adj s) (sym at_last) ∙ r.bonds 0 last (omega arith) (omega arith) ∙
            along-last (length whole) last (omega arith);
        oriented = omega (arith, r.oriented, last_snoc (s ∷ a ∷ m) b);
      }
    where
      inner : (i : ℕ) → i < length m → adj s (atom_at m i) ≡ false
      inner i h =
          let k : length whole ≡ suc (suc (suc (length m))) = size in
          ap (adj s) (sym (at_inner i h)) ∙ r.bonds 0 (suc (suc i)) (omega arith) (omega arith) ∙
          along-inner (length whole) (suc (suc i)) (omega arith) (omega arith)

  module _ (r : RingShape n adj s a m b) where
    shape-range : (i : ℕ) → i < length whole → (1 ≤ atom_at whole i) × (atom_at whole i ≤ n)
    shape-range zero h =
        let (a-above, a-range) = all_head r.above in
        let least = r.least in
        (least, omega arith)
    shape-range (suc i) h =
        let (above, range) = all-at r.above i (le_of_suc-le-suc h) in
        (omega arith, range)

    shape-lowest : (i : ℕ) → 0 < i → i < length whole → s < atom_at whole i
    shape-lowest zero h g = absurd (not-suc-le-zero h)
    shape-lowest (suc i) h g = (all-at r.above i (le_of_suc-le-suc g)).0

    shape-distinct : Distinct whole
    shape-distinct zero zero h g = absurd (not-suc-le-zero h)
    shape-distinct zero (suc j) h g = let f = shape-lowest (suc j) (omega arith) g in omega arith
    shape-distinct (suc i) zero h g = absurd (not-suc-le-zero h)
    shape-distinct (suc i) (suc j) h g =
        chordless-distinct adj (a ∷ m ++ b ∷ []) r.chain i j (le_of_suc-le-suc h) (le_of_suc-le-suc g)

    shape-bonds : Bonds adj (along_ring (length whole)) whole
    shape-bonds zero zero h g = absurd (not-suc-le-zero h)
    shape-bonds zero (suc zero) h g = r.opens
    shape-bonds zero (suc (suc j)) h g = split (ℕ_discrete j (length m))
      where
        split : Dec (j ≡ length m) → adj s (atom_at whole (suc (suc j))) ≡ along_ring (length whole) 0 (suc (suc j))
        split (yes e) =
            ap (adj s) (get_or_at m b [] 0 j (sym e)) ∙ r.closes ∙
            sym (along-last (length whole) (suc (suc j)) (omega (arith, size)))
        split (no e) =
            let l : j < length m = omega (arith, size) in
            ap (adj s) (at_inner j l) ∙ all-at r.inner j l ∙
            sym (along-inner (length whole) (suc (suc j)) (omega arith) (omega (arith, size)))
    shape-bonds (suc i) zero h g = absurd (not-suc-le-zero h)
    shape-bonds (suc i) (suc j) h g =
        chordless-bonds adj (a ∷ m ++ b ∷ []) r.chain i j (le_of_suc-le-suc h) (le_of_suc-le-suc g) ∙
        sym (along-tail (length whole) i j)

    facts-of : Ring n adj whole
    facts-of =
        record {
          long = omega (arith, size);
          range = shape-range;
          distinct = shape-distinct;
          bonds = shape-bonds;
          lowest = shape-lowest;
          oriented = omega (arith, r.oriented, last_snoc (s ∷ a ∷ m) b);
        }

  pub ring-shape : (is_ring n adj (s ∷ a ∷ m ++ b ∷ []) ≡ true) ↔ RingShape n adj s a m b
  ring-shape = (λ e. shape_of (ring-facts n adj whole e), λ r. ring-of-facts n adj whole (facts-of r))

-- ---- paths

-- the path q ++ b ∷ []
pub record PathShape (n : ℕ) (adj : Adjacency) (s t : ℕ) (q : List ℕ) (b : ℕ) : Type 0 where
  pub range : All (λ u. (1 ≤ u) × (u ≤ n)) (q ++ b ∷ [])
  pub chain : Chordless adj (q ++ b ∷ [])
  pub first : atom_at (q ++ b ∷ []) 0 ≡ s
  pub last : b ≡ t

module _ (n : ℕ) (adj : Adjacency) (s t : ℕ) (q : List ℕ) (b : ℕ) where
  pub path-shape : (is_path n adj s t (q ++ b ∷ []) ≡ true) ↔ PathShape n adj s t q b
  path-shape = (λ e. to (path-facts n adj s t (q ++ b ∷ []) e), λ r. path-of-facts n adj s t (q ++ b ∷ []) (back r))
    where
      to : Path n adj s t (q ++ b ∷ []) → PathShape n adj s t q b
      to r =
          record {
            range = all_of (q ++ b ∷ []) r.range;
            chain = chordless-facts adj (q ++ b ∷ []) r.distinct r.bonds;
            first = r.first;
            last = sym (last_snoc q b) ∙ r.last;
          }

      back : PathShape n adj s t q b → Path n adj s t (q ++ b ∷ [])
      back r =
          record {
            long = omega (arith, length-snoc q b);
            range = all-at r.range;
            first = r.first;
            last = last_snoc q b ∙ r.last;
            distinct = chordless-distinct adj (q ++ b ∷ []) r.chain;
            bonds = chordless-bonds adj (q ++ b ∷ []) r.chain;
          }

-- a list that is not empty has a last element
pub snoc-view : (c : ℕ) (r : List ℕ) → (q : List ℕ) × (b : ℕ) × (c ∷ r ≡ q ++ b ∷ [])
snoc-view c [] = ([], c, refl)
snoc-view c (d ∷ r) = let (q, b, shape) = snoc-view d r in (c ∷ q, b, cc shape)
