-- An atom v opens a beginning p of a ring of at most k atoms exactly as `RingOpens` says: openness is reachability in
-- as many steps as k leaves (document 01; request F-4 of document 02). With k at least n these are all rings. A ring
-- that goes on p and v is cut at v; a chordless list from v to a closing atom is joined to p.
use Prim.Native.Nat.{ℕ, suc, ◌-◌, ◌≤◌, ◌<◌}
use mathlib.Core.Path.{◌≡◌, sym}
use mathlib.Core.Bool.{true, false}
use mathlib.Core.List.{List, [], ◌∷◌, ◌++◌, append_assoc}
use mathlib.Core.Logic.{◌≢◌, ◌↔◌}
use native.Mathlib.Omega.{arith}
use native.Mathlib.Nat.{not-suc-le-zero, le_of_suc-le-suc}
use lib.ListN.{length, length-append}
use Rattle.graph.specs.Chordless.{Adjacency, atom_at, is_ring}
use Rattle.graph.proofs.Below.{false_of}
use Rattle.graph.proofs.All.{All, none, ◌◁◌, all_head, all_tail, all_append, all_left, all_right, all_map, all_both, all-every}
use Rattle.graph.proofs.Chain.{Chordless, glue, glue-left, glue-right, glue-follows, glue-off}
use Rattle.graph.proofs.Shape.{RingShape, ring-shape}
use Rattle.graph.proofs.Pigeon.{ring_long, ring-range}
use Rattle.enumeration.specs.Words.{is_open}
use Rattle.chordless.specs.Families.{rings, up_to}
use Rattle.chordless.specs.Reach.{Irreflexive, RingOpens, RingCloses}
use Rattle.chordless.proofs.Members.{open-shorter}
use Rattle.chordless.proofs.UpTo.{upto-bounded}
use Rattle.chordless.proofs.Bounds.{rings-bounded, rings-open}
use Rattle.chordless.proofs.Shortest.{shortest, walks, walk-longer}
use Rattle.chordless.proofs.Touch.{Clear, touches-facts, touches-of, ends-facts, ends_of, free-range, free-clear, free_all, free-irreflexive, closing-facts, closing-of, follows_of, follows-touches, fresh, join, told-apart, off-clear, regroup, snoc-after, snoc-through, through-length}

-- s is bonded to the first atom of p and to no other
abbrev pub Starts : Adjacency → ℕ → List ℕ → Type 0
Starts adj s [] = Unit {0}
Starts adj s (a ∷ p) = (adj s a ≡ true) × All (λ u. adj s u ≡ false) p

-- what every beginning s ∷ p of a ring has
pub record RingStem (n : ℕ) (adj : Adjacency) (s : ℕ) (p : List ℕ) : Type 0 where
  pub least : 1 ≤ s
  pub above : All (λ u. (s < u) × (u ≤ n)) p
  pub chain : Chordless adj p
  pub starts : Starts adj s p

module _ (n : ℕ) (adj : Adjacency) where
  -- ---- beginnings

  pub ring-stem : (s : ℕ) (p : List ℕ) (c : ℕ) (r : List ℕ) → is_ring n adj (s ∷ p ++ c ∷ r) ≡ true → RingStem n adj s p
  ring-stem s [] c r e =
      let (least, most) = ring-range n adj (s ∷ c ∷ r) e 0 (omega arith) in
      record { least = least; above = none; chain = tt; starts = tt }
  ring-stem s (a ∷ p) c r e =
      let (q, b, shape) = snoc-after p c r in
      let ring = (ring-shape n adj s a (p ++ q) b).0 (rw shape at e) in
      let above : All (λ u. (s < u) × (u ≤ n)) (a ∷ p ++ c ∷ r) = rw shape ring.above in
      let chain : Chordless adj (a ∷ p ++ c ∷ r) = rw shape ring.chain in
      record {
        least = ring.least;
        above = all_left (a ∷ p) (c ∷ r) above;
        chain = glue-left adj (a ∷ p) c r chain;
        starts = (ring.opens, all_left p q ring.inner);
      }

  -- a ring cut at v
  ring_cut :
      (s : ℕ) (p : List ℕ) (v : ℕ) (q : List ℕ) (b : ℕ) → is_ring n adj (s ∷ p ++ v ∷ q ++ b ∷ []) ≡ true →
      RingOpens n adj (s ∷ p) (atom_at (s ∷ p ++ v ∷ []) 1) (suc (length q)) v
  ring_cut s [] v q b e =
      let ring = (ring-shape n adj s v q b).0 e in
      let (v_above, v-range) = all_head ring.above in
      let after-v = all_tail ring.above in
      let (b-above, b-range) = all_head (all_right q after-v) in
      let off = all_map (λ u o. o ◁ none) ring.inner in
      record {
        above = v_above;
        range = v-range;
        touches = touches-of adj (s ∷ []) v ring.opens;
        last = b;
        closes = closing-of adj n s [] v b ring.oriented b-range ring.closes none;
        reached = walks adj q (free_all adj n s (s ∷ []) (all_left q (b ∷ []) after-v) off) ring.chain;
      }
  ring_cut s (a ∷ p) v q b e =
      let ring = (ring-shape n adj s a (p ++ v ∷ q) b).0 e in
      let shape : p ++ v ∷ q ++ b ∷ [] ≡ p ++ v ∷ (q ++ b ∷ []) = append_assoc p (v ∷ q) (b ∷ []) in
      let chain : Chordless adj ((a ∷ p) ++ v ∷ (q ++ b ∷ [])) = rw shape at ring.chain in
      let from-v = all_right p (rw shape at (all_tail ring.above)) in
      let (v_above, v-range) = all_head from-v in
      let (b-above, b-range) = all_head (all_right q (all_tail from-v)) in
      let off-p = off-clear adj (a ∷ p) (q ++ b ∷ []) (glue-off adj (a ∷ p) v (q ++ b ∷ []) chain) in
      let off-s : All (λ u. adj s u ≡ false) (v ∷ q) = all_right p ring.inner in
      let touches-p = follows-touches adj (a ∷ p) v (glue-follows adj (a ∷ p) v (q ++ b ∷ []) chain) in
      let off = all_map clear-of-both (all_both (all_tail off-s) (all_left q (b ∷ []) off-p)) in
      let between = free_all adj n s (s ∷ a ∷ p) (all_left q (b ∷ []) (all_tail from-v)) off in
      record {
        above = v_above;
        range = v-range;
        touches = touches-of adj (s ∷ a ∷ p) v (all_head off-s, touches-p);
        last = b;
        closes =
            closing-of adj n s (a ∷ p) a b ring.oriented b-range ring.closes (all_head (all_right q off-p));
        reached = walks adj q between (glue-right adj (a ∷ p) v (q ++ b ∷ []) chain);
      }
    where
      clear-of-both : (u : ℕ) → (adj s u ≡ false) × Clear adj (a ∷ p) u → Clear adj (s ∷ a ∷ p) u
      clear-of-both u (off-s, off-p) = off-s ◁ off-p

  -- more steps
  ring-longer : {p : List ℕ} {a d e v : ℕ} → d ≤ e → RingOpens n adj p a d v → RingOpens n adj p a e v
  ring-longer h o = record {
    above = o.above;
    range = o.range;
    touches = o.touches;
    last = o.last;
    closes = o.closes;
    reached = walk-longer adj h o.reached;
  }

  open-stem : (k s : ℕ) (p : List ℕ) → is_open (up_to k (rings n adj)) (s ∷ p) ≡ true → RingStem n adj s p
  open-stem k s p e = let (c, r, f, short) = (rings-open n adj k s p).0 e in ring-stem s p c r f

  -- ---- membership

  -- v closes a beginning of two atoms or more
  pub ring-closes :
      (k : ℕ) (p : List ℕ) (v : ℕ) → 2 ≤ length p → is_open (up_to k (rings n adj)) p ≡ true →
      (is_ring n adj (p ++ v ∷ []) ≡ true) ↔ RingCloses n adj p v
  ring-closes k [] v h e = absurd (not-suc-le-zero h)
  ring-closes k (s ∷ []) v h e = absurd (not-suc-le-zero (le_of_suc-le-suc h))
  ring-closes k (s ∷ a ∷ p) v h e =
      (λ f. to ((ring-shape n adj s a p v).0 f), λ c. (ring-shape n adj s a p v).1 (back (open-stem k s (a ∷ p) e) c))
    where
      to : RingShape n adj s a p v → RingCloses n adj (s ∷ a ∷ p) v
      to ring =
          let touches-p = follows-touches adj (a ∷ p) v (glue-follows adj (a ∷ p) v [] ring.chain) in
          record {
            above = ring.oriented;
            range = (all_head (all_right (a ∷ p) ring.above)).1;
            touches = ends_of adj s a p v ring.closes touches-p;
          }

      back : RingStem n adj s (a ∷ p) → RingCloses n adj (s ∷ a ∷ p) v → RingShape n adj s a p v
      back stem k =
          let (closes, touches-p) = ends-facts adj s a p v k.touches in
          let (opens, inner) = stem.starts in
          let (a-above, a-range) = all_head stem.above in
          let a-below-v : a < v = k.above in
          let a-differs : a ≢ v = omega arith in
          let not-in-p = fresh adj a p v a-differs stem.chain touches-p in
          record {
            least = stem.least;
            above = all_append stem.above ((omega arith, k.range) ◁ none);
            chain =
                glue adj (a ∷ p) v [] stem.chain (follows_of adj (a ∷ p) v not-in-p touches-p)
                (all-every (a ∷ p) (λ x. none)) tt;
            opens = opens;
            inner = inner;
            closes = closes;
            oriented = a-below-v;
          }

  -- no ring has fewer than three atoms
  pub ring-not-short : (p : List ℕ) (v : ℕ) → length p ≤ 1 → is_ring n adj (p ++ v ∷ []) ≡ false
  ring-not-short p v h = false_of (is_ring n adj (p ++ v ∷ [])) long
    where
      long : is_ring n adj (p ++ v ∷ []) ≡ true → ⊥
      long e = omega (arith, ring_long n adj (p ++ v ∷ []) e, length-append p (v ∷ []))

  -- ---- openness

  module _ (irr : Irreflexive n adj) where
    -- a beginning joined to a chordless list from v to a closing atom
    ring-join :
        (s : ℕ) (p : List ℕ) (d v : ℕ) → RingStem n adj s p →
        RingOpens n adj (s ∷ p) (atom_at (s ∷ p ++ v ∷ []) 1) d v →
        (q : List ℕ) × (b : ℕ) × (length q < d) × (is_ring n adj (s ∷ p ++ v ∷ q ++ b ∷ []) ≡ true)
    ring-join s [] d v stem o =
        let b = o.last in
        let (v-below-b, b-range, closes, b-off) = closing-facts adj n s [] v b o.closes in
        let v-differs : v ≢ b = omega arith in
        let (q, short, between, chain) =
        shortest adj (free-irreflexive adj n s (s ∷ []) irr) v-differs o.reached in
        let s-below-v : s < v = o.above in
        let after-v = all_append (free-range adj n s (s ∷ []) between) ((omega arith, b-range) ◁ none) in
        let ring : RingShape n adj s v q b = record {
          least = stem.least;
          above = (s-below-v, o.range) ◁ after-v;
          chain = chain;
          opens = touches-facts adj (s ∷ []) v o.touches;
          inner = all_map (λ u off. all_head off) (free-clear adj n s (s ∷ []) between);
          closes = closes;
          oriented = v-below-b;
        } in
        (q, b, short, (ring-shape n adj s v q b).1 ring)
    ring-join s (a ∷ p) d v stem o =
        let b = o.last in
        let (a-below-b, b-range, closes, b-off) = closing-facts adj n s (a ∷ p) a b o.closes in
        let (s-off-v, touches-p) = touches-facts adj (s ∷ a ∷ p) v o.touches in
        let (opens, inner) = stem.starts in
        let v-differs : v ≢ b = λ e. told-apart adj s b v closes s-off-v (sym e) in
        let (q, short, between, chain) =
        shortest adj (free-irreflexive adj n s (s ∷ a ∷ p) irr) v-differs o.reached in
        let s-below-v : s < v = o.above in
        let (s-below-a, a-range) = all_head stem.above in
        let off = free-clear adj n s (s ∷ a ∷ p) between in
        let not-v = fresh adj a p v (told-apart adj s a v opens s-off-v) stem.chain touches-p in
        let a-differs : a ≢ b = omega arith in
        let p-differs : All (λ u. u ≢ b) p = all_map (λ u e g. told-apart adj s b u closes e (sym g)) inner in
        let up-to-q = all_append stem.above ((s-below-v, o.range) ◁ free-range adj n s (s ∷ a ∷ p) between) in
        let ring : RingShape n adj s a (p ++ v ∷ q) b = record {
          least = stem.least;
          above = all_append up-to-q ((omega arith, b-range) ◁ none);
          chain =
              join adj (a ∷ p) v q b stem.chain (follows_of adj (a ∷ p) v not-v touches-p) chain
              (all_map (λ u f. all_tail f) off) b-off (a-differs ◁ p-differs);
          opens = opens;
          inner = all_append inner (s-off-v ◁ all_map (λ u f. all_head f) off);
          closes = closes;
          oriented = a-below-b;
        } in
        (q, b, short, (ring-shape n adj s a (p ++ v ∷ q) b).1 ring)

    module _ (k : ℕ) where
      -- for a beginning s ∷ p that has what every beginning of a ring has
      stem-opens :
          (s : ℕ) (p : List ℕ) (v : ℕ) → RingStem n adj s p →
          (is_open (up_to k (rings n adj)) (s ∷ p ++ v ∷ []) ≡ true) ↔
          RingOpens n adj (s ∷ p) (atom_at (s ∷ p ++ v ∷ []) 1) (k - suc (length (s ∷ p))) v
      stem-opens s p v m = (to, back)
        where
          to :
              is_open (up_to k (rings n adj)) (s ∷ p ++ v ∷ []) ≡ true →
              RingOpens n adj (s ∷ p) (atom_at (s ∷ p ++ v ∷ []) 1) (k - suc (length (s ∷ p))) v
          to e =
              let (c, r, f, short) = (rings-open n adj k s (p ++ v ∷ [])).0 e in
              let (q, b, shape) = snoc-through p v c r in
              let most : length (s ∷ p ++ v ∷ q ++ b ∷ []) ≤ k = rw shape at short in
              ring-longer (omega (arith, through-length p v q b)) (ring_cut s p v q b (rw shape at f))

          goes_on :
              (q : List ℕ) (b : ℕ) → is_ring n adj (s ∷ p ++ v ∷ [] ++ (q ++ b ∷ [])) ≡ true →
              length (s ∷ p ++ v ∷ [] ++ (q ++ b ∷ [])) ≤ k →
              is_open (up_to k (rings n adj)) (s ∷ p ++ v ∷ []) ≡ true
          goes_on [] b f short = (rings-open n adj k s (p ++ v ∷ [])).1 (b, [], f, short)
          goes_on (y ∷ q) b f short = (rings-open n adj k s (p ++ v ∷ [])).1 (y, q ++ b ∷ [], f, short)

          back :
              RingOpens n adj (s ∷ p) (atom_at (s ∷ p ++ v ∷ []) 1) (k - suc (length (s ∷ p))) v →
              is_open (up_to k (rings n adj)) (s ∷ p ++ v ∷ []) ≡ true
          back o =
              let (q, b, short, f) = ring-join s p (k - suc (length (s ∷ p))) v m o in
              let most : length (s ∷ p ++ v ∷ q ++ b ∷ []) ≤ k = omega (arith, through-length p v q b) in
              goes_on q b (rw (regroup p v q b) f) (rw (regroup p v q b) most)

      -- any open beginning that is not empty
      pub ring-opens :
          (p : List ℕ) (v : ℕ) → 1 ≤ length p → is_open (up_to k (rings n adj)) p ≡ true →
          (is_open (up_to k (rings n adj)) (p ++ v ∷ []) ≡ true) ↔
          RingOpens n adj p (atom_at (p ++ v ∷ []) 1) (k - suc (length p)) v
      ring-opens [] v h e = absurd (not-suc-le-zero h)
      ring-opens (s ∷ p) v h e = stem-opens s p v (open-stem k s p e)

      -- two atoms or more: the free atoms and the closing ones are the same for every v
      pub ring-opens-long :
          (p : List ℕ) (v : ℕ) → 2 ≤ length p → is_open (up_to k (rings n adj)) p ≡ true →
          (is_open (up_to k (rings n adj)) (p ++ v ∷ []) ≡ true) ↔
          RingOpens n adj p (atom_at p 1) (k - suc (length p)) v
      ring-opens-long [] v h e = absurd (not-suc-le-zero h)
      ring-opens-long (s ∷ []) v h e = absurd (not-suc-le-zero (le_of_suc-le-suc h))
      ring-opens-long (s ∷ a ∷ p) v h e = stem-opens s (a ∷ p) v (open-stem k s (a ∷ p) e)

      -- one atom
      pub ring-opens-one :
          (s v : ℕ) → 1 ≤ s →
          (is_open (up_to k (rings n adj)) (s ∷ v ∷ []) ≡ true) ↔ RingOpens n adj (s ∷ []) v (k - 2) v
      ring-opens-one s v h = stem-opens s [] v (record { least = h; above = none; chain = tt; starts = tt })

      -- none: a second atom must open it
      pub ring-opens-none :
          (v : ℕ) →
          (is_open (up_to k (rings n adj)) (v ∷ []) ≡ true) ↔
          ((a : ℕ) × (1 ≤ v) × RingOpens n adj (v ∷ []) a (k - 2) a)
      ring-opens-none v = (to, back)
        where
          to :
              is_open (up_to k (rings n adj)) (v ∷ []) ≡ true →
              (a : ℕ) × (1 ≤ v) × RingOpens n adj (v ∷ []) a (k - 2) a
          to e = let (c, r, f, short) = (rings-open n adj k v []).0 e in go c r f short
            where
              go :
                  (c : ℕ) (r : List ℕ) → is_ring n adj (v ∷ c ∷ r) ≡ true → length (v ∷ c ∷ r) ≤ k →
                  (a : ℕ) × (1 ≤ v) × RingOpens n adj (v ∷ []) a (k - 2) a
              go c [] f short = absurd (omega (arith, ring_long n adj (v ∷ c ∷ []) f))
              go c (d ∷ r) f short =
                  let least : 1 ≤ v = (ring-stem v [] c (d ∷ r) f).least in
                  (c, least, (ring-opens-one v c least).0 ((rings-open n adj k v (c ∷ [])).1 (d, r, f, short)))

          back :
              (a : ℕ) × (1 ≤ v) × RingOpens n adj (v ∷ []) a (k - 2) a → is_open (up_to k (rings n adj)) (v ∷ []) ≡ true
          back (a, least, o) =
              open-shorter (up_to k (rings n adj)) (upto-bounded k (rings n adj) (rings-bounded n adj)) v [] a
              ((ring-opens-one v a least).1 o)
