-- Openness and membership of p with v added, as equations between tests: what a search computes for each v once a sweep
-- has found the atoms from which a target is reached. From the theorems of `Rings` and `Paths`, part by part.
use Prim.Native.Nat.{ℕ, suc, ◌-◌, ◌≤◌}
use mathlib.Core.Path.{◌≡◌, refl, ◌∙◌}
use mathlib.Core.Bool.{Bool, true, ◌&&◌, not}
use mathlib.Core.List.{List, [], ◌∷◌, ◌++◌}
use mathlib.Core.Logic.{◌≢◌, ◌↔◌}
use native.Mathlib.Omega.{arith}
use lib.ListN.{length}
use lib.Dec.{leb, ltb, eqb}
use borrow.Author.Tests.{leb-true, le-leb, ltb-true, lt-ltb, eqb-true, eq-eqb, eqb-false, ne_eqb, not-true}
use Rattle.graph.specs.Chordless.{Adjacency, atom_at, is_ring, is_path}
use Rattle.graph.proofs.Below.{and_parts, and_both, same_test, not-of}
use Rattle.enumeration.specs.Words.{is_open}
use Rattle.chordless.specs.Families.{rings, paths, up_to}
use Rattle.chordless.specs.Reach.{Irreflexive, Walk, Sweeps, clear, free, closing, touches_only_last, touches_only_ends, RingOpens, RingCloses, PathOpens}
use Rattle.chordless.proofs.UpTo.{upto_next}
use Rattle.chordless.proofs.Bounds.{rings-bounded, paths-bounded}
use Rattle.chordless.proofs.Rings.{ring-opens, ring-opens-long, ring-opens-one, ring-closes}
use Rattle.chordless.proofs.Paths.{path-opens, path-opens-none, path-closes}

-- the parts of a conjunction of tests
and3 : (a b c : Bool) → a && b && c ≡ true → (a ≡ true) × (b ≡ true) × (c ≡ true)
and3 a b c e =
    let (ab, is_c) = and_parts (a && b) c e in
    let (is-a, is_b) = and_parts a b ab in
    (is-a, is_b, is_c)

all3 : (a b c : Bool) → a ≡ true → b ≡ true → c ≡ true → a && b && c ≡ true
all3 a b c p q r = and_both (a && b) c (and_both a b p q) r

-- ---- rings

module _ (n : ℕ) (adj : Adjacency) where
  -- v opens the beginning p of a ring, tested
  abbrev ring_test : List ℕ → (ℕ → Bool) → ℕ → Bool
  ring_test p S v = ltb (atom_at p 0) v && leb v n && touches_only_last adj p v && S v

  ring-test :
      (p : List ℕ) (a d v : ℕ) (S : ℕ → Bool) (t : Bool) → (t ≡ true) ↔ RingOpens n adj p a d v →
      Sweeps n (atom_at p 0) adj (free n adj (atom_at p 0) p) (closing n adj p a) d S → t ≡ ring_test p S v
  ring-test p a d v S t e w = same_test t (ring_test p S v) (λ h. to (e.0 h)) (λ h. e.1 (back h))
    where
      fits : Bool
      fits = ltb (atom_at p 0) v && leb v n && touches_only_last adj p v

      to : RingOpens n adj p a d v → ring_test p S v ≡ true
      to o =
          let above = lt-ltb (atom_at p 0) v o.above in
          let range = le-leb v n o.range in
          let fit = all3 (ltb (atom_at p 0) v) (leb v n) (touches_only_last adj p v) above range o.touches in
          and_both fits (S v) fit ((w v o.above o.range).1 (o.last, o.closes, o.reached))

      back : ring_test p S v ≡ true → RingOpens n adj p a d v
      back h =
          let (fit, reaches) = and_parts fits (S v) h in
          let (above, range, touches) = and3 (ltb (atom_at p 0) v) (leb v n) (touches_only_last adj p v) fit in
          let (b, closes, walk) = (w v (ltb-true (atom_at p 0) v above) (leb-true v n range)).0 reaches in
          record {
            above = ltb-true (atom_at p 0) v above;
            range = leb-true v n range;
            touches = touches;
            last = b;
            closes = closes;
            reached = walk;
          }

  module _ (irr : Irreflexive n adj) (k : ℕ) where
    -- two atoms or more: one S for every v
    pub ring-sweep :
        (p : List ℕ) (S : ℕ → Bool) → 2 ≤ length p → is_open (up_to k (rings n adj)) p ≡ true →
        Sweeps n (atom_at p 0) adj (free n adj (atom_at p 0) p) (closing n adj p (atom_at p 1)) (k - suc (length p)) S →
        (v : ℕ) →
        is_open (up_to k (rings n adj)) (p ++ v ∷ []) ≡
        (ltb (atom_at p 0) v && leb v n && touches_only_last adj p v && S v)
    ring-sweep p S h e w v =
        ring-test p (atom_at p 1) (k - suc (length p)) v S (is_open (up_to k (rings n adj)) (p ++ v ∷ []))
        (ring-opens-long n adj irr k p v h e) w

    -- one atom: S for this v
    pub ring-sweep-one :
        (s v : ℕ) (S : ℕ → Bool) → 1 ≤ s →
        Sweeps n s adj (free n adj s (s ∷ [])) (closing n adj (s ∷ []) v) (k - 2) S →
        is_open (up_to k (rings n adj)) (s ∷ v ∷ []) ≡ (ltb s v && leb v n && touches_only_last adj (s ∷ []) v && S v)
    ring-sweep-one s v S h w =
        ring-test (s ∷ []) v (k - 2) v S (is_open (up_to k (rings n adj)) (s ∷ v ∷ []))
        (ring-opens-one n adj irr k s v h) w

    -- any open beginning that is not empty: S for this v
    pub ring-sweep-each :
        (p : List ℕ) (v : ℕ) (S : ℕ → Bool) → 1 ≤ length p → is_open (up_to k (rings n adj)) p ≡ true →
        Sweeps n (atom_at p 0) adj (free n adj (atom_at p 0) p) (closing n adj p (atom_at (p ++ v ∷ []) 1))
        (k - suc (length p)) S →
        is_open (up_to k (rings n adj)) (p ++ v ∷ []) ≡
        (ltb (atom_at p 0) v && leb v n && touches_only_last adj p v && S v)
    ring-sweep-each p v S h e w =
        ring-test p (atom_at (p ++ v ∷ []) 1) (k - suc (length p)) v S (is_open (up_to k (rings n adj)) (p ++ v ∷ []))
        (ring-opens n adj irr k p v h e) w

  -- an atom that makes a ring of an open beginning makes one of at most k atoms
  pub ring-member :
      (k : ℕ) (p : List ℕ) (v : ℕ) → 2 ≤ length p → is_open (up_to k (rings n adj)) p ≡ true →
      (up_to k (rings n adj)).member (p ++ v ∷ []) ≡ (ltb (atom_at p 1) v && leb v n && touches_only_ends adj p v)
  ring-member k p v h e =
      upto_next k (rings n adj) (rings-bounded n adj) p v (omega arith) e ∙
      same_test (is_ring n adj (p ++ v ∷ [])) (ltb (atom_at p 1) v && leb v n && touches_only_ends adj p v)
      (λ f. to ((ring-closes n adj k p v h e).0 f)) (λ f. (ring-closes n adj k p v h e).1 (back f))
    where
      to : RingCloses n adj p v → ltb (atom_at p 1) v && leb v n && touches_only_ends adj p v ≡ true
      to c =
          let above = lt-ltb (atom_at p 1) v c.above in
          let range = le-leb v n c.range in
          all3 (ltb (atom_at p 1) v) (leb v n) (touches_only_ends adj p v) above range c.touches

      back : ltb (atom_at p 1) v && leb v n && touches_only_ends adj p v ≡ true → RingCloses n adj p v
      back f =
          let (above, range, touches) = and3 (ltb (atom_at p 1) v) (leb v n) (touches_only_ends adj p v) f in
          record { above = ltb-true (atom_at p 1) v above; range = leb-true v n range; touches = touches }

-- ---- paths

module _ (n : ℕ) (adj : Adjacency) (s t : ℕ) where
  -- t makes a path of an open beginning, and one of at most k atoms
  pub path-member :
      (k : ℕ) (p : List ℕ) (v : ℕ) → 1 ≤ length p → is_open (up_to k (paths n adj s t)) p ≡ true →
      (up_to k (paths n adj s t)).member (p ++ v ∷ []) ≡ (eqb v t && touches_only_last adj p v)
  path-member k p v h e =
      upto_next k (paths n adj s t) (paths-bounded n adj s t) p v h e ∙
      same_test (is_path n adj s t (p ++ v ∷ [])) (eqb v t && touches_only_last adj p v) to back
    where
      to : is_path n adj s t (p ++ v ∷ []) ≡ true → eqb v t && touches_only_last adj p v ≡ true
      to f =
          let (is-t, touches) = (path-closes n adj s t k p v h e).0 f in
          and_both (eqb v t) (touches_only_last adj p v) (eq-eqb v t is-t) touches

      back : eqb v t && touches_only_last adj p v ≡ true → is_path n adj s t (p ++ v ∷ []) ≡ true
      back f =
          let (is-t, touches) = and_parts (eqb v t) (touches_only_last adj p v) f in
          (path-closes n adj s t k p v h e).1 (eqb-true v t is-t, touches)

  -- v opens the beginning p of a path, tested
  abbrev path_test : List ℕ → (ℕ → Bool) → ℕ → Bool
  path_test p S v = leb 1 v && leb v n && not (eqb (atom_at p 0) v) && touches_only_last adj p v && clear adj p t && S v

  -- one S for every v
  pub path-sweep :
      Irreflexive n adj → (k : ℕ) (p : List ℕ) (S : ℕ → Bool) → 1 ≤ length p →
      is_open (up_to k (paths n adj s t)) p ≡ true →
      Sweeps n 0 adj (free n adj 0 p) (λ b. eqb b t) (k - suc (length p)) S →
      (v : ℕ) →
      is_open (up_to k (paths n adj s t)) (p ++ v ∷ []) ≡
      (leb 1 v && leb v n && not (eqb (atom_at p 0) v) && touches_only_last adj p v && clear adj p t && S v)
  path-sweep irr k p S h e w v =
      same_test (is_open (up_to k (paths n adj s t)) (p ++ v ∷ [])) (path_test p S v)
      (λ f. to ((path-opens n adj s t irr k p v h e).0 f)) (λ f. (path-opens n adj s t irr k p v h e).1 (back f))
    where
      is-first : Bool
      is-first = eqb (atom_at p 0) v

      -- the tests of v alone, without and with its bonds to p
      stands : Bool
      stands = leb 1 v && leb v n && not is-first

      fits : Bool
      fits = stands && touches_only_last adj p v

      to : PathOpens n adj t p (k - suc (length p)) v → path_test p S v ≡ true
      to o =
          let other = not-of is-first (ne_eqb (atom_at p 0) v o.other) in
          let stand = all3 (leb 1 v) (leb v n) (not is-first) (le-leb 1 v o.least) (le-leb v n o.range) other in
          let fit = and_both stands (touches_only_last adj p v) stand o.touches in
          all3 fits (clear adj p t) (S v) fit o.ahead ((w v o.least o.range).1 (t, eq-eqb t t refl, o.reached))

      back : path_test p S v ≡ true → PathOpens n adj t p (k - suc (length p)) v
      back f =
          let (fit, ahead, reaches) = and3 fits (clear adj p t) (S v) f in
          let (stand, touches) = and_parts stands (touches_only_last adj p v) fit in
          let (least, range, other) = and3 (leb 1 v) (leb v n) (not is-first) stand in
          let (b, is-t, walk) = (w v (leb-true 1 v least) (leb-true v n range)).0 reaches in
          record {
            least = leb-true 1 v least;
            range = leb-true v n range;
            other = eqb-false (atom_at p 0) v (not-true is-first other);
            touches = touches;
            ahead = ahead;
            reached = rw (eqb-true b t is-t) at walk;
          }

  -- the empty beginning
  pub path-sweep-none :
      Irreflexive n adj → (k : ℕ) (S : ℕ → Bool) → s ≢ t → (1 ≤ s) × (s ≤ n) → (1 ≤ t) × (t ≤ n) →
      Sweeps n 0 adj (free n adj 0 []) (λ b. eqb b t) (k - 1) S →
      (v : ℕ) → is_open (up_to k (paths n adj s t)) (v ∷ []) ≡ (eqb v s && S s)
  path-sweep-none irr k S h (s-least, s-range) ht w v =
      same_test (is_open (up_to k (paths n adj s t)) (v ∷ [])) (eqb v s && S s) to back
    where
      opens : (is_open (up_to k (paths n adj s t)) (v ∷ []) ≡ true) ↔ ((v ≡ s) × Walk adj (free n adj 0 []) t (k - 1) s)
      opens = path-opens-none n adj s t irr k v h (s-least, s-range) ht

      to : is_open (up_to k (paths n adj s t)) (v ∷ []) ≡ true → eqb v s && S s ≡ true
      to f =
          let (is-s, walk) = opens.0 f in
          and_both (eqb v s) (S s) (eq-eqb v s is-s) ((w s s-least s-range).1 (t, eq-eqb t t refl, walk))

      back : eqb v s && S s ≡ true → is_open (up_to k (paths n adj s t)) (v ∷ []) ≡ true
      back f =
          let (is-s, reaches) = and_parts (eqb v s) (S s) f in
          let (b, is-t, walk) = (w s s-least s-range).0 reaches in
          opens.1 (eqb-true v s is-s, rw (eqb-true b t is-t) at walk)
