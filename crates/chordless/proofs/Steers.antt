-- What steers a search below a beginning: how the two sets are handed on, what they tell at the beginning itself, and
-- that they steer rings from two atoms on and paths from one. From the tests by recursion on the list (`Tests`).
use Prim.Native.Nat.{ℕ, suc, ◌-◌, ◌≤◌}
use mathlib.Core.Path.{◌≡◌, refl, sym, fun_ext, ◌∙◌}
use mathlib.Core.Bool.{Bool, true, false, ◌&&◌, not}
use mathlib.Core.List.{List, [], ◌∷◌, ◌++◌, append_assoc, append-nil}
use mathlib.Core.Logic.{◌≢◌, ◌↔◌}
use native.Mathlib.Omega.{arith}
use native.Mathlib.Nat.{not-suc-le-zero}
use lib.ListN.{length}
use lib.Dec.{leb, ltb, eqb}
use borrow.Author.Tests.{leb-true, le-leb, ltb-true, lt-ltb, eqb-true, eq-eqb, eqb-false, ne_eqb, not-true}
use Rattle.graph.specs.Chordless.{Adjacency}
use Rattle.graph.proofs.Below.{clash, false_of, and_parts, and_both, not-of}
use Rattle.graph.proofs.All.{all_head}
use Rattle.enumeration.specs.Words.{Family, is_open}
use Rattle.enumeration.specs.Lawful.{Lawful}
use Rattle.chordless.specs.Families.{rings, paths, up_to}
use Rattle.chordless.specs.Reach.{Irreflexive, Walk, there, through, clear, free, closing, touches_only_last, RingOpens, PathOpens}
use Rattle.chordless.specs.Steers.{without, along, last_after, Onward, Steers}
use Rattle.chordless.proofs.Members.{Bounded, begins-append, open-has, open_of}
use Rattle.chordless.proofs.Shortest.{walk_more}
use Rattle.chordless.proofs.Rings.{ring-opens-long}
use Rattle.chordless.proofs.Paths.{path-opens}
use Rattle.chordless.proofs.Sweep.{ring-member, path-member}
use Rattle.chordless.proofs.Touch.{clear-facts, clear_of, free-facts, free_of}
use Rattle.chordless.proofs.Tests.{along-touches, along-clear, ends-along, first-along}

module _ {F : Family} {adj : Adjacency} {most : ℕ} {b : List ℕ} {x : ℕ} {goal free : ℕ → Bool}
    (k : Steers F adj most b x goal free) where
  -- ---- handed on

  -- v is added
  pub steers-more : (v : ℕ) → Steers F adj most (b ++ v ∷ []) v (without adj x goal) (without adj x free)
  steers-more v = record {
    members = λ r e u. rw (append_assoc b (v ∷ []) r) (k.members (v ∷ r) (rw (append_assoc b (v ∷ []) r) at e) u);
    opens = λ r e u. rw (append_assoc b (v ∷ []) r) (k.opens (v ∷ r) (rw (append_assoc b (v ∷ []) r) at e) u);
  }

  -- ---- at the beginning itself

  pub steers-member : is_open F b ≡ true → (v : ℕ) → F.member (b ++ v ∷ []) ≡ (goal v && adj x v)
  steers-member e v = rw (append-nil b) at (k.members [] (rw append-nil e) v)

  pub steers-open :
      is_open F b ≡ true → (v : ℕ) →
      (is_open F (b ++ v ∷ []) ≡ true) ↔ Onward adj x goal free (most - suc (length b)) v
  steers-open e v = rw (append-nil b) at (k.opens [] (rw append-nil e) v)

-- the same sets
pub steers-same :
    {F : Family} {adj : Adjacency} {most : ℕ} {b : List ℕ} {x : ℕ} {goal free goal' free' : ℕ → Bool} →
    ((u : ℕ) → goal u ≡ goal' u) → ((u : ℕ) → free u ≡ free' u) →
    Steers F adj most b x goal free → Steers F adj most b x goal' free'
steers-same goals frees k = rw (fun_ext goals, fun_ext frees) at k

-- ---- the sole candidate

module _ {F : Family} (L : Lawful F) where
  -- members have at most n atoms, all from 1 to n
  bounded : Bounded F
  bounded w m = (L.short w m, L.in_range w m)

  -- No atom makes a member of the open beginning b and one atom only is free and bonded to the last: it goes on.
  -- Some member goes on b, by an atom that opens b, and that is the one.
  pub sole-opens :
      {adj : Adjacency} {most : ℕ} {b : List ℕ} {x : ℕ} {goal free : ℕ → Bool} →
      Steers F adj most b x goal free → 1 ≤ length b → is_open F b ≡ true →
      ((v : ℕ) → (goal v && adj x v) ≡ false) →
      ((u v : ℕ) → (free u && adj x u) ≡ true → (free v && adj x v) ≡ true → u ≡ v) →
      (v : ℕ) → (free v && adj x v) ≡ true → is_open F (b ++ v ∷ []) ≡ true
  sole-opens {b = []} k h e none one v may = absurd (not-suc-le-zero h)
  sole-opens {b = y ∷ p} k h e none one v may = let (a, r, m) = open-has F bounded y p e in goes_on a r m
    where
      goes_on : (a : ℕ) (r : List ℕ) → F.member (y ∷ p ++ a ∷ r) ≡ true → is_open F (y ∷ p ++ v ∷ []) ≡ true
      goes_on a [] m = absurd (clash (F.member (y ∷ p ++ a ∷ [])) m (steers-member k e a ∙ none a))
      goes_on a (c ∷ r) m =
          let opens = open_of F bounded y (p ++ a ∷ []) c r (rw append_assoc m) in
          rw (one v a may ((steers-open k e a).0 opens).touches) opens

  -- a member opens nothing: none begins another
  pub member-shuts : (p : List ℕ) (v : ℕ) → F.member (p ++ v ∷ []) ≡ true → is_open F (p ++ v ∷ []) ≡ false
  member-shuts p v = go p
    where
      shut : (x : ℕ) (w : List ℕ) → F.member (x ∷ w) ≡ true → is_open F (x ∷ w) ≡ false
      shut x w m =
          false_of (is_open F (x ∷ w))
          (λ o. let (a, r, longer) = open-has F bounded x w o in
          L.prefix_free (x ∷ w) (x ∷ w ++ a ∷ r) m longer (begins-append (x ∷ w) a r))

      go : (p : List ℕ) → F.member (p ++ v ∷ []) ≡ true → is_open F (p ++ v ∷ []) ≡ false
      go [] m = shut v [] m
      go (x ∷ p) m = shut x (p ++ v ∷ []) m

-- ---- rings

module _ (n : ℕ) (adj : Adjacency) (s a : ℕ) where
  -- what may close a ring that begins with s and a
  abbrev ring_goal : ℕ → Bool
  ring_goal u = ltb a u && leb u n && adj s u

  -- what may stand between
  abbrev ring_free : ℕ → Bool
  ring_free u = ltb s u && leb u n && not (adj s u)

  module _ (r : List ℕ) where
    -- the sets after the atoms r, against the tests of `Reach`
    ring-closing : (u : ℕ) → closing n adj (s ∷ a ∷ r) a u ≡ without adj (last_after a r) (along adj a ring_goal r) u
    unfolding closing
    ring-closing u = first-along adj s a (λ w. ltb a w && leb w n) r u

    ring-between : (u : ℕ) → free n adj s (s ∷ a ∷ r) u ≡ without adj (last_after a r) (along adj a ring_free r) u
    unfolding free
    ring-between u = along-clear adj s (λ w. ltb s w && leb w n) (a ∷ r) u

    ring-next :
        (v : ℕ) → (ltb s v && leb v n && touches_only_last adj (s ∷ a ∷ r) v) ≡
        (along adj a ring_free r v && adj (last_after a r) v)
    ring-next v = along-touches adj s (λ w. ltb s w && leb w n) (a ∷ r) v

    -- v opens the beginning as they tell, both ways
    module _ {d : ℕ} (v : ℕ) where
      ring-onward :
          RingOpens n adj (s ∷ a ∷ r) a d v →
          Onward adj (last_after a r) (along adj a ring_goal r) (along adj a ring_free r) d v
      ring-onward o =
          let range = and_both (ltb s v) (leb v n) (lt-ltb s v o.above) (le-leb v n o.range) in
          let fits = and_both (ltb s v && leb v n) (touches_only_last adj (s ∷ a ∷ r) v) range o.touches in
          let walk = walk_more adj (λ u e. sym (ring-between u) ∙ e) o.reached in
          record {
            touches = sym (ring-next v) ∙ fits;
            reaches = (o.last, sym (ring-closing o.last) ∙ o.closes, walk);
          }

      onward-ring :
          Onward adj (last_after a r) (along adj a ring_goal r) (along adj a ring_free r) d v →
          RingOpens n adj (s ∷ a ∷ r) a d v
      onward-ring o =
          let fits = ring-next v ∙ o.touches in
          let (range, touches) = and_parts (ltb s v && leb v n) (touches_only_last adj (s ∷ a ∷ r) v) fits in
          let (above, most) = and_parts (ltb s v) (leb v n) range in
          let (b, closes, walk) = o.reaches in
          record {
            above = ltb-true s v above;
            range = leb-true v n most;
            touches = touches;
            last = b;
            closes = ring-closing b ∙ closes;
            reached = walk_more adj (λ u e. ring-between u ∙ e) walk;
          }

-- from the first two atoms of a ring of at most k atoms on
pub rings-steer :
    (n : ℕ) (adj : Adjacency) → Irreflexive n adj → (k s a : ℕ) →
    Steers (up_to k (rings n adj)) adj k (s ∷ a ∷ []) a
    (λ b. ltb a b && leb b n && adj s b) (λ u. ltb s u && leb u n && not (adj s u))
rings-steer n adj irr k s a = record {
  members = λ r e v.
      ring-member n adj k (s ∷ a ∷ r) v (omega arith) e ∙ ends-along adj s a (λ w. ltb a w && leb w n) r v;
  opens = λ r e v.
      let (to, back) = ring-opens-long n adj irr k (s ∷ a ∷ r) v (omega arith) e in
      (λ f. ring-onward n adj s a r v (to f), λ o. back (onward-ring n adj s a r v o));
}

-- ---- paths

-- four tests at once, and each of them
all4 : (a b c d : Bool) → a ≡ true → b ≡ true → c ≡ true → d ≡ true → a && b && c && d ≡ true
all4 a b c d p q r e = and_both (a && b && c) d (and_both (a && b) c (and_both a b p q) r) e

and4 : (a b c d : Bool) → a && b && c && d ≡ true → (a ≡ true) × (b ≡ true) × (c ≡ true) × (d ≡ true)
and4 a b c d e =
    let (abc, is-d) = and_parts (a && b && c) d e in
    let (ab, is_c) = and_parts (a && b) c abc in
    let (is-a, is_b) = and_parts a b ab in
    (is-a, is_b, is_c, is-d)

module _ (n : ℕ) (adj : Adjacency) (s t : ℕ) where
  -- what closes a path from s to t
  abbrev path_goal : ℕ → Bool
  path_goal u = eqb u t

  -- what may stand between
  abbrev path_free : ℕ → Bool
  path_free u = leb 1 u && leb u n && not (eqb u s)

  module _ (r : List ℕ) where
    -- what stands between is free, and is not s
    free-between :
        (u : ℕ) → u ≢ s → free n adj 0 (s ∷ r) u ≡ true →
        without adj (last_after s r) (along adj s path_free r) u ≡ true
    free-between u differ e =
        let (least, range, off) = free-facts adj n 0 (s ∷ r) u e in
        let other = not-of (eqb u s) (ne_eqb u s differ) in
        sym (along-clear adj s path_free r u) ∙
        all4 (leb 1 u) (leb u n) (not (eqb u s)) (clear adj (s ∷ r) u) (le-leb 1 u least) (le-leb u n range) other
        (clear_of adj (s ∷ r) u off)

    between-free :
        (u : ℕ) → without adj (last_after s r) (along adj s path_free r) u ≡ true → free n adj 0 (s ∷ r) u ≡ true
    between-free u e =
        let tests = along-clear adj s path_free r u ∙ e in
        let (least, range, other, off) = and4 (leb 1 u) (leb u n) (not (eqb u s)) (clear adj (s ∷ r) u) tests in
        free_of adj n 0 (s ∷ r) u (leb-true 1 u least) (leb-true u n range) (clear-facts adj (s ∷ r) u off)

    -- t is still ahead: a walk to it does not come back to s
    module _ (ahead : clear adj (s ∷ r) t ≡ true) where
      -- s is bonded to no free atom, nor to t: no walk goes on from it
      not_first : {d v : ℕ} → Walk adj (free n adj 0 (s ∷ r)) t d v → v ≢ s
      not_first (there {v = v} e) is-s = clash (adj s t) (rw is-s at e) (all_head (clear-facts adj (s ∷ r) t ahead))
      not_first (through {v = v} {w = w} e may k) is-s =
          let (least, range, off) = free-facts adj n 0 (s ∷ r) w may in
          clash (adj s w) (rw is-s at e) (all_head off)

      walk-between :
          {d v : ℕ} → Walk adj (free n adj 0 (s ∷ r)) t d v →
          Walk adj (without adj (last_after s r) (along adj s path_free r)) t d v
      walk-between (there e) = there e
      walk-between (through {v = v} {w = w} e may k) = through e (free-between w (not_first k) may) (walk-between k)

    -- v opens the beginning as the sets tell, both ways
    module _ {d : ℕ} (v : ℕ) where
      path-onward :
          PathOpens n adj t (s ∷ r) d v →
          Onward adj (last_after s r) (along adj s path_goal r) (along adj s path_free r) d v
      path-onward o =
          let differ : s ≢ v = o.other in
          let other = not-of (eqb v s) (ne_eqb v s (λ e. differ (sym e))) in
          let touches = touches_only_last adj (s ∷ r) v in
          let least = le-leb 1 v o.least in
          let range = le-leb v n o.range in
          let fits = all4 (leb 1 v) (leb v n) (not (eqb v s)) touches least range other o.touches in
          let goal = and_both (eqb t t) (clear adj (s ∷ r) t) (eq-eqb t t refl) o.ahead in
          record {
            touches = sym (along-touches adj s path_free r v) ∙ fits;
            reaches = (t, sym (along-clear adj s path_goal r t) ∙ goal, walk-between o.ahead o.reached);
          }

      onward-path :
          Onward adj (last_after s r) (along adj s path_goal r) (along adj s path_free r) d v →
          PathOpens n adj t (s ∷ r) d v
      onward-path o =
          let fits = along-touches adj s path_free r v ∙ o.touches in
          let touch = touches_only_last adj (s ∷ r) v in
          let (least, range, other, touches) = and4 (leb 1 v) (leb v n) (not (eqb v s)) touch fits in
          let (b, goal, walk) = o.reaches in
          let (is-t, ahead) = and_parts (eqb b t) (clear adj (s ∷ r) b) (along-clear adj s path_goal r b ∙ goal) in
          let differ = eqb-false v s (not-true (eqb v s) other) in
          record {
            least = leb-true 1 v least;
            range = leb-true v n range;
            other = λ e. differ (sym e);
            touches = touches;
            ahead = rw (eqb-true b t is-t) at ahead;
            reached = rw (eqb-true b t is-t) at (walk_more adj between-free walk);
          }

-- from the first atom of a path of at most k atoms on
pub paths-steer :
    (n : ℕ) (adj : Adjacency) → Irreflexive n adj → (k s t : ℕ) →
    Steers (up_to k (paths n adj s t)) adj k (s ∷ []) s (λ b. eqb b t) (λ u. leb 1 u && leb u n && not (eqb u s))
paths-steer n adj irr k s t = record {
  members = λ r e v.
      path-member n adj s t k (s ∷ r) v (omega arith) e ∙ along-touches adj s (λ b. eqb b t) r v;
  opens = λ r e v.
      let (to, back) = path-opens n adj s t irr k (s ∷ r) v (omega arith) e in
      (λ f. path-onward n adj s t r v (to f), λ o. back (onward-path n adj s t r v o));
}
