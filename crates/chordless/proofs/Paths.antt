-- An atom v opens a beginning p of a path to t of at most k atoms exactly as `PathOpens` says: openness is reachability
-- in as many steps as k leaves (document 01). With k at least n these are all paths. A path that goes on p and v is cut
-- at v; a chordless list from v to t, found from the walk, is joined to p.
use Prim.Native.Nat.{ℕ, suc, ◌-◌, ◌≤◌, ◌<◌}
use mathlib.Core.Path.{◌≡◌, refl, sym, ap, ◌∙◌}
use mathlib.Core.Bool.{true, false}
use mathlib.Core.List.{List, [], ◌∷◌, ◌++◌, append_assoc}
use mathlib.Core.Logic.{◌≢◌, ◌↔◌}
use native.Mathlib.Nat.{not-suc-le-zero}
use native.Mathlib.Omega.{arith}
use lib.ListN.{length, length-append}
use Rattle.graph.specs.Chordless.{Adjacency, is_path}
use Rattle.graph.proofs.Below.{false_of}
use Rattle.graph.proofs.All.{All, none, ◌◁◌, all_head, all_tail, all_append, all_left, all_right, all-every}
use Rattle.graph.proofs.Chain.{Chordless, glue, glue-left, glue-right, glue-follows, glue-off}
use Rattle.graph.proofs.Shape.{PathShape, path-shape, snoc-view}
use Rattle.enumeration.specs.Words.{is_open}
use Rattle.chordless.specs.Families.{paths, up_to}
use Rattle.chordless.specs.Reach.{Irreflexive, Walk, free, touches_only_last, PathOpens}
use Rattle.chordless.proofs.Bounds.{paths-open}
use Rattle.chordless.proofs.Shortest.{shortest, walks, walk-longer}
use Rattle.chordless.proofs.Touch.{clear-facts, clear_of, touches-facts, touches-of, free-range, free-clear, free_all, free-irreflexive, follows_of, follows-touches, follows-differ, fresh, touch-apart, join, off-clear, regroup, snoc-after, snoc-through, through-length}

-- what every beginning x ∷ p of a path from s to t has
pub record PathStem (n : ℕ) (adj : Adjacency) (s t x : ℕ) (p : List ℕ) : Type 0 where
  pub first : x ≡ s
  pub goal : (1 ≤ t) × (t ≤ n)
  pub range : All (λ u. (1 ≤ u) × (u ≤ n)) (x ∷ p)
  pub chain : Chordless adj (x ∷ p)
  pub before : All (λ u. u ≢ t) (x ∷ p)

module _ (n : ℕ) (adj : Adjacency) (s t : ℕ) where
  -- ---- beginnings

  pub path-stem :
      (x : ℕ) (p : List ℕ) (c : ℕ) (r : List ℕ) → is_path n adj s t (x ∷ p ++ c ∷ r) ≡ true → PathStem n adj s t x p
  path-stem x p c r e =
      let (q, b, shape) = snoc-after p c r in
      let path = (path-shape n adj s t (x ∷ p ++ q) b).0 (rw shape at e) in
      let b-range = all_head (all_right (x ∷ p ++ q) path.range) in
      let chain : Chordless adj (x ∷ p ++ c ∷ r) = rw shape path.chain in
      let differ = follows-differ adj (x ∷ p ++ q) b (glue-follows adj (x ∷ p ++ q) b [] path.chain) in
      record {
        first = path.first;
        goal = rw path.last at b-range;
        range = all_left (x ∷ p) q (all_left (x ∷ p ++ q) (b ∷ []) path.range);
        chain = glue-left adj (x ∷ p) c r chain;
        before = rw path.last at (all_left (x ∷ p) q differ);
      }

  open-stem : (k x : ℕ) (p : List ℕ) → is_open (up_to k (paths n adj s t)) (x ∷ p) ≡ true → PathStem n adj s t x p
  open-stem k x p e = let (c, r, f, short) = (paths-open n adj s t k x p).0 e in path-stem x p c r f

  -- a path cut at v
  path-cut :
      (x : ℕ) (p : List ℕ) (v : ℕ) (q : List ℕ) (b : ℕ) → is_path n adj s t (x ∷ p ++ v ∷ q ++ b ∷ []) ≡ true →
      PathOpens n adj t (x ∷ p) (suc (length q)) v
  path-cut x p v q b e =
      let path = (path-shape n adj s t (x ∷ p ++ v ∷ q) b).0 e in
      let shape : p ++ v ∷ q ++ b ∷ [] ≡ p ++ v ∷ (q ++ b ∷ []) = append_assoc p (v ∷ q) (b ∷ []) in
      let chain : Chordless adj ((x ∷ p) ++ v ∷ (q ++ b ∷ [])) = rw shape at path.chain in
      let from-v = all_right p (rw shape at (all_tail path.range)) in
      let (v-least, v-range) = all_head from-v in
      let off = off-clear adj (x ∷ p) (q ++ b ∷ []) (glue-off adj (x ∷ p) v (q ++ b ∷ []) chain) in
      let follows = glue-follows adj (x ∷ p) v (q ++ b ∷ []) chain in
      let b-off = clear_of adj (x ∷ p) b (all_head (all_right q off)) in
      let between = free_all adj n 0 (x ∷ p) (all_left q (b ∷ []) (all_tail from-v)) (all_left q (b ∷ []) off) in
      let walk = walks adj q between (glue-right adj (x ∷ p) v (q ++ b ∷ []) chain) in
      record {
        least = v-least;
        range = v-range;
        other = all_head (follows-differ adj (x ∷ p) v follows);
        touches = touches-of adj (x ∷ p) v (follows-touches adj (x ∷ p) v follows);
        ahead = rw path.last at b-off;
        reached = rw path.last at walk;
      }

  -- more steps
  path-longer : {p : List ℕ} {d e v : ℕ} → d ≤ e → PathOpens n adj t p d v → PathOpens n adj t p e v
  path-longer h o = record {
    least = o.least;
    range = o.range;
    other = o.other;
    touches = o.touches;
    ahead = o.ahead;
    reached = walk-longer adj h o.reached;
  }

  -- ---- membership

  -- t closes a beginning whose last atom alone it touches
  pub path-closes :
      (k : ℕ) (p : List ℕ) (v : ℕ) → 1 ≤ length p → is_open (up_to k (paths n adj s t)) p ≡ true →
      (is_path n adj s t (p ++ v ∷ []) ≡ true) ↔ ((v ≡ t) × (touches_only_last adj p v ≡ true))
  path-closes k [] v h e = absurd (not-suc-le-zero h)
  path-closes k (x ∷ p) v h e = (
    λ f. to ((path-shape n adj s t (x ∷ p) v).0 f),
    λ c. (path-shape n adj s t (x ∷ p) v).1 (back (open-stem k x p e) c),
  )
    where
      to : PathShape n adj s t (x ∷ p) v → (v ≡ t) × (touches_only_last adj (x ∷ p) v ≡ true)
      to path =
          let follows = glue-follows adj (x ∷ p) v [] path.chain in
          (path.last, touches-of adj (x ∷ p) v (follows-touches adj (x ∷ p) v follows))

      back : PathStem n adj s t x p → (v ≡ t) × (touches_only_last adj (x ∷ p) v ≡ true) → PathShape n adj s t (x ∷ p) v
      back stem (last, touches) =
          let v-range : (1 ≤ v) × (v ≤ n) = rw last stem.goal in
          let not-v : All (λ u. u ≢ v) (x ∷ p) = rw last stem.before in
          let follows = follows_of adj (x ∷ p) v not-v (touches-facts adj (x ∷ p) v touches) in
          record {
            range = all_append stem.range (v-range ◁ none);
            chain = glue adj (x ∷ p) v [] stem.chain follows (all-every (x ∷ p) (λ u. none)) tt;
            first = stem.first;
            last = last;
          }

  -- no path between two atoms has one atom
  pub path-not-one : (v : ℕ) → s ≢ t → is_path n adj s t (v ∷ []) ≡ false
  path-not-one v h = false_of (is_path n adj s t (v ∷ [])) one
    where
      one : is_path n adj s t (v ∷ []) ≡ true → ⊥
      one e = let path = (path-shape n adj s t [] v).0 e in h (sym path.first ∙ path.last)

  -- ---- openness

  module _ (irr : Irreflexive n adj) where
    -- a beginning joined to a chordless list from v to t
    path_join :
        (x : ℕ) (p : List ℕ) (d v : ℕ) → PathStem n adj s t x p → PathOpens n adj t (x ∷ p) d v →
        (q : List ℕ) × (length q < d) × (is_path n adj s t (x ∷ p ++ v ∷ q ++ t ∷ []) ≡ true)
    path_join x p d v stem o =
        let touches = touches-facts adj (x ∷ p) v o.touches in
        let t-off = clear-facts adj (x ∷ p) t o.ahead in
        let v-differs = touch-apart adj x p v t touches t-off in
        let (q, short, between, chain) =
        shortest adj (free-irreflexive adj n 0 (x ∷ p) irr) v-differs o.reached in
        let not-v = fresh adj x p v o.other stem.chain touches in
        let up-to-q = all_append stem.range ((o.least, o.range) ◁ free-range adj n 0 (x ∷ p) between) in
        let path : PathShape n adj s t (x ∷ p ++ v ∷ q) t = record {
          range = all_append up-to-q (stem.goal ◁ none);
          chain =
              join adj (x ∷ p) v q t stem.chain (follows_of adj (x ∷ p) v not-v touches) chain
              (free-clear adj n 0 (x ∷ p) between) t-off stem.before;
          first = stem.first;
          last = refl;
        } in
        (q, short, (path-shape n adj s t (x ∷ p ++ v ∷ q) t).1 path)

    module _ (k : ℕ) where
      -- any open beginning that is not empty
      pub path-opens :
          (p : List ℕ) (v : ℕ) → 1 ≤ length p → is_open (up_to k (paths n adj s t)) p ≡ true →
          (is_open (up_to k (paths n adj s t)) (p ++ v ∷ []) ≡ true) ↔ PathOpens n adj t p (k - suc (length p)) v
      path-opens [] v h e = absurd (not-suc-le-zero h)
      path-opens (x ∷ p) v h e = (to, λ o. back (path_join x p (k - suc (length (x ∷ p))) v (open-stem k x p e) o))
        where
          to :
              is_open (up_to k (paths n adj s t)) (x ∷ p ++ v ∷ []) ≡ true →
              PathOpens n adj t (x ∷ p) (k - suc (length (x ∷ p))) v
          to f =
              let (c, r, g, short) = (paths-open n adj s t k x (p ++ v ∷ [])).0 f in
              let (q, b, shape) = snoc-through p v c r in
              let most : length (x ∷ p ++ v ∷ q ++ b ∷ []) ≤ k = rw shape at short in
              path-longer (omega (arith, through-length p v q b)) (path-cut x p v q b (rw shape at g))

          goes_on :
              (q : List ℕ) → is_path n adj s t (x ∷ p ++ v ∷ [] ++ (q ++ t ∷ [])) ≡ true →
              length (x ∷ p ++ v ∷ [] ++ (q ++ t ∷ [])) ≤ k →
              is_open (up_to k (paths n adj s t)) (x ∷ p ++ v ∷ []) ≡ true
          goes_on [] f short = (paths-open n adj s t k x (p ++ v ∷ [])).1 (t, [], f, short)
          goes_on (y ∷ q) f short = (paths-open n adj s t k x (p ++ v ∷ [])).1 (y, q ++ t ∷ [], f, short)

          back :
              (q : List ℕ) × (length q < k - suc (length (x ∷ p)))
              × (is_path n adj s t (x ∷ p ++ v ∷ q ++ t ∷ []) ≡ true) →
              is_open (up_to k (paths n adj s t)) (x ∷ p ++ v ∷ []) ≡ true
          back (q, short, f) =
              let most : length (x ∷ p ++ v ∷ q ++ t ∷ []) ≤ k = omega (arith, through-length p v q t) in
              goes_on q (rw (regroup p v q t) f) (rw (regroup p v q t) most)

      -- the empty beginning: only s opens it, and only if t is reached from s through any atoms from 1 to n
      pub path-opens-none :
          (v : ℕ) → s ≢ t → (1 ≤ s) × (s ≤ n) → (1 ≤ t) × (t ≤ n) →
          (is_open (up_to k (paths n adj s t)) (v ∷ []) ≡ true) ↔ ((v ≡ s) × Walk adj (free n adj 0 []) t (k - 1) s)
      path-opens-none v h hs ht = (to, back)
        where
          to :
              is_open (up_to k (paths n adj s t)) (v ∷ []) ≡ true → (v ≡ s) × Walk adj (free n adj 0 []) t (k - 1) s
          to f =
              let (c, r, g, short) = (paths-open n adj s t k v []).0 f in
              let (q, b, shape) = snoc-view c r in
              let path = (path-shape n adj s t (v ∷ q) b).0 (rw shape at g) in
              let in-range = all_left q (b ∷ []) (all_tail path.range) in
              let walk = walks adj q (free_all adj n 0 [] in-range (all-every q (λ u. none))) path.chain in
              let size = ap (λ (l : List ℕ). length l) shape in
              let longer = walk-longer adj {e = k - 1} (omega (arith, size, length-append q (b ∷ []))) walk in
              (path.first, rw path.first at (rw path.last at longer))

          goes_on :
              (q : List ℕ) → is_path n adj s t (s ∷ q ++ t ∷ []) ≡ true → length (s ∷ q ++ t ∷ []) ≤ k →
              is_open (up_to k (paths n adj s t)) (s ∷ []) ≡ true
          goes_on [] f short = (paths-open n adj s t k s []).1 (t, [], f, short)
          goes_on (y ∷ q) f short = (paths-open n adj s t k s []).1 (y, q ++ t ∷ [], f, short)

          back : (v ≡ s) × Walk adj (free n adj 0 []) t (k - 1) s → is_open (up_to k (paths n adj s t)) (v ∷ []) ≡ true
          back (is-s, walk) =
              let (q, short, between, chain) = shortest adj (free-irreflexive adj n 0 [] irr) h walk in
              let path : PathShape n adj s t (s ∷ q) t = record {
                range = hs ◁ all_append (free-range adj n 0 [] between) (ht ◁ none);
                chain = chain;
                first = refl;
                last = refl;
              } in
              let most : length (s ∷ q ++ t ∷ []) ≤ k = omega (arith, length-append q (t ∷ [])) in
              rw is-s (goes_on q ((path-shape n adj s t (s ∷ q) t).1 path) most)
