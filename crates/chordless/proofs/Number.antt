-- How many shortest paths there are: as many as lists that lead from s to t by as many bonds as t is away, and as many
-- as lists that lead from t to s. By induction on the number of bonds: lists by their first atom, and by their last.
use Prim.Native.Nat.{ℕ, zero, suc, ◌-◌, ◌≤◌, ◌<◌}
use mathlib.Core.Path.{◌≡◌, refl, sym, ap, ◌∙◌}
use mathlib.Core.Bool.{Bool, true, false, ◌&&◌, cond}
use mathlib.Core.List.{List, [], ◌∷◌}
use native.Mathlib.Omega.{arith}
use native.Mathlib.Nat.{not-suc-le-zero, le_of_suc-le-suc}
use lib.ListN.{length}
use lib.Dec.{eqb}
use borrow.Author.Tests.{eqb-true, eq-eqb, ne_eqb, le-leb}
use Rattle.graph.specs.Chordless.{Adjacency}
use Rattle.graph.proofs.Below.{same_test, false_of}
use Rattle.enumeration.specs.Words.{words, keep, members}
use Rattle.enumeration.proofs.Basics.{keep-none, keep-cong}
use Rattle.chordless.specs.Families.{is_shortest, shortest_paths}
use Rattle.chordless.specs.Reach.{Symmetric}
use Rattle.chordless.specs.Distance.{Atom, leads_to, total, ways, Far}
use Rattle.chordless.proofs.Routes.{leads-length, ways-leads, shortest-leads}
use Rattle.chordless.proofs.Distances.{far-same}
use Rattle.chordless.proofs.ShortestPaths.{shortest-lawful}
use Rattle.chordless.proofs.Sums.{total-same, total-zero, total-one, total-swap, total-if, keep-words}

-- where no word passes, none is kept
keep-no : (test : List ℕ → Bool) (ws : List (List ℕ)) → ((w : List ℕ) → test w ≡ false) → length (keep test ws) ≡ 0
keep-no test ws h = ap (λ (l : List (List ℕ)). length l) (keep-none test ws (λ w m. h w))

module _ (n : ℕ) (adj : Adjacency) where
  -- ---- by the first atom

  -- of the words of at most k atoms that lead from v to t by d bonds, d at most k
  pub ways-counts :
      (t d k v : ℕ) → d ≤ k → length (keep (leads_to n adj t d v) (words n k)) ≡ ways n adj t d v
  unfolding leads_to ways
  ways-counts t zero zero v h = unfold words keep in go (eqb v t)
    where
      go : (b : Bool) → length {A = List ℕ} (cond b ([] ∷ []) []) ≡ cond b 1 0
      go true = refl
      go false = refl
  ways-counts t zero (suc k) v h = omega (arith, keep-words n k (leads_to n adj t 0 v), none)
    where
      none : total n (λ a. length (keep (λ w. leads_to n adj t 0 v (a ∷ w)) (words n k))) ≡ 0
      none = total-zero n _ (λ a at. keep-no (λ w. leads_to n adj t 0 v (a ∷ w)) (words n k) (λ w. refl))
  ways-counts t (suc d) zero v h = absurd (not-suc-le-zero h)
  ways-counts t (suc d) (suc k) v h =
      let each = every (λ a. ways-counts t d k a (le_of_suc-le-suc h)) in
      omega (arith, keep-words n k (leads_to n adj t (suc d) v))
    where
      go :
          (a : ℕ) (b : Bool) → length (keep (leads_to n adj t d a) (words n k)) ≡ ways n adj t d a →
          length (keep (λ w. b && leads_to n adj t d a w) (words n k)) ≡ cond b (ways n adj t d a) 0
      go a true ih = ih
      go a false ih = keep-no (λ w. false) (words n k) (λ w. refl)

      every :
          ((a : ℕ) → length (keep (leads_to n adj t d a) (words n k)) ≡ ways n adj t d a) →
          total n (λ a. length (keep (λ w. leads_to n adj t (suc d) v (a ∷ w)) (words n k))) ≡
          total n (λ a. cond (adj v a) (ways n adj t d a) 0)
      every ih =
          total-same n _ _ (λ a at. rw (le-leb 1 a at.low, le-leb a n at.high) (go a (adj v a) (ih a)))

  -- ---- by the last atom

  -- from an atom to an atom: the sum over the atoms before the last one
  pub ways-last :
      {a b : ℕ} (d : ℕ) → Atom n a → Atom n b →
      ways n adj b (suc d) a ≡ total n (λ c. cond (adj c b) (ways n adj c d a) 0)
  unfolding ways
  ways-last {a} {b} zero A B = to-b ∙ sym from-a
    where
      only : (x : Bool) → cond {A = ℕ} x 0 0 ≡ 0
      only true = refl
      only false = refl

      to-b : total n (λ c. cond (adj a c) (cond (eqb c b) 1 0) 0) ≡ cond (adj a b) 1 0
      to-b =
          total-one n _ B (λ c at q. rw (ne_eqb c b q) (only (adj a c)))
          ∙ rw (eq-eqb b b refl)

      from-a : total n (λ c. cond (adj c b) (cond (eqb a c) 1 0) 0) ≡ cond (adj a b) 1 0
      from-a =
          total-one n _ A (λ c at q. rw (ne_eqb a c (λ e. q (sym e))) (only (adj c b)))
          ∙ rw (eq-eqb a a refl)
  ways-last {a} {b} (suc d) A B =
      total-same n _ _ (λ e at. by_last e (ways-last d at B))
      ∙ total-swap n n (λ e c. cond (adj c b) (cond (adj a e) (ways n adj c d e) 0) 0)
      ∙ sym (total-same n _ _ (λ c at. total-if (adj c b) n (λ e. cond (adj a e) (ways n adj c d e) 0)))
    where
      either_first : (x y : Bool) (k : ℕ) → cond x (cond y k 0) 0 ≡ cond y (cond x k 0) 0
      either_first true true k = refl
      either_first true false k = refl
      either_first false true k = refl
      either_first false false k = refl

      by_last :
          (e : ℕ) → ways n adj b (suc d) e ≡ total n (λ c. cond (adj c b) (ways n adj c d e) 0) →
          cond (adj a e) (ways n adj b (suc d) e) 0 ≡
          total n (λ c. cond (adj c b) (cond (adj a e) (ways n adj c d e) 0) 0)
      by_last e ih =
          ap (λ x. cond (adj a e) x 0) ih
          ∙ total-if (adj a e) n (λ c. cond (adj c b) (ways n adj c d e) 0)
          ∙ total-same n _ _ (λ c at. either_first (adj a e) (adj c b) (ways n adj c d e))

  module _ (both : Symmetric adj) where
    -- as many lead back
    pub ways-both : {a b : ℕ} (d : ℕ) → Atom n a → Atom n b → ways n adj b d a ≡ ways n adj a d b
    unfolding ways
    ways-both {a} {b} zero A B = ap {B = ℕ} (λ x. cond x 1 0) (same_test (eqb a b) (eqb b a) (other a b) (other b a))
      where
        other : (x y : ℕ) → eqb x y ≡ true → eqb y x ≡ true
        other x y e = eq-eqb y x (sym (eqb-true x y e))
    ways-both {a} {b} (suc d) A B =
        ways-last d A B
        ∙ total-same n _ _ (λ c at. rw (both c b, ways-both d A at))

    pub far-both : {a b d : ℕ} → Atom n a → Atom n b → Far n adj b d a → Far n adj a d b
    far-both {a} {b} {d} A B far = record {
      joined = rw (ways-both d A B) at far.joined;
      no_nearer = λ e h. sym (ways-both e A B) ∙ far.no_nearer e h;
    }

-- ---- the shortest paths

module _ (n : ℕ) (adj : Adjacency) (s t : ℕ) where
  -- what does not start with s is no member
  starts : (w : List ℕ) → ((r : List ℕ) → w ≡ s ∷ r → ⊥) → is_shortest n adj s t w ≡ false
  starts w h =
      false_of (is_shortest n adj s t w)
      (λ e. let (r, shape, atom, leads, far) = (shortest-leads n adj t s w).0 e in h r shape)

  -- the words that start with s are members where what follows leads to t
  module _ {d : ℕ} (atom : Atom n s) (far : Far n adj t d s) where
    leads-member : (w : List ℕ) → leads_to n adj t d s w ≡ true → is_shortest n adj s t (s ∷ w) ≡ true
    leads-member w e =
        let q : d ≡ length w = sym (leads-length n adj t d s w e) in
        (shortest-leads n adj t s (s ∷ w)).1 (w, refl, atom, rw q at e, rw q at far)

    member-leads : (w : List ℕ) → is_shortest n adj s t (s ∷ w) ≡ true → leads_to n adj t d s w ≡ true
    member-leads w e =
        let (r, shape, s-atom, leads, r-far) = (shortest-leads n adj t s (s ∷ w)).0 e in
        let q : w ≡ r = cc in
        rw (q, far-same far r-far) leads

    -- they have at most n atoms, so t is fewer than n bonds away
    pub far-below : d < n
    far-below =
        let (w, e) = ways-leads n adj t d s far.joined in
        omega (arith, leads-length n adj t d s w e, (shortest-lawful n adj s t).short (s ∷ w) (leads-member w e))

    pub shortest-number : length (members (shortest_paths n adj s t)) ≡ ways n adj t d s
    unfolding members
    shortest-number =
        let below = far-below in
        let size : n ≡ suc (n - 1) = omega arith in
        let listed = ap (λ m. length (keep (is_shortest n adj s t) (words n m))) size in
        let counted = ways-counts n adj t d (n - 1) s (omega arith) in
        omega (arith, keep-words n (n - 1) (is_shortest n adj s t), not-empty, from-s)
      where
        not-empty : cond {A = ℕ} (is_shortest n adj s t []) 1 0 ≡ 0
        not-empty = rw (starts [] (λ r e. let q = ap (λ (l : List ℕ). length l) e in omega arith))

        from-s :
            total n (λ a. length (keep (λ w. is_shortest n adj s t (a ∷ w)) (words n (n - 1)))) ≡
            length (keep (leads_to n adj t d s) (words n (n - 1)))
        from-s =
            total-one n _ atom
            (λ a at q. keep-no _ (words n (n - 1)) (λ w. starts (a ∷ w) (λ r e. q (cc))))
            ∙ ap (λ (l : List (List ℕ)). length l)
            (keep-cong _ _ (words n (n - 1)) (λ w m. same_test _ _ (member-leads w) (leads-member w)))

  pub shortest-none : ((d : ℕ) → ways n adj t d s ≡ 0) → length (members (shortest_paths n adj s t)) ≡ 0
  unfolding members
  shortest-none h = keep-no (is_shortest n adj s t) (words n n) (λ w. false_of (is_shortest n adj s t w) (none w))
    where
      none : (w : List ℕ) → is_shortest n adj s t w ≡ true → ⊥
      none w e =
          let (r, shape, atom, leads, far) = (shortest-leads n adj t s w).0 e in
          omega (arith, far.joined, h (length r))

  -- ---- by the lists that lead from t to s

  module _ (both : Symmetric adj) (s-atom : Atom n s) (t-atom : Atom n t) where
    pub number-from-start :
        {d : ℕ} → Far n adj s d t → length (members (shortest_paths n adj s t)) ≡ ways n adj s d t
    number-from-start {d} far =
        shortest-number s-atom (far-both n adj both t-atom s-atom far) ∙ ways-both n adj both d s-atom t-atom

    pub none-from-start :
        ((d : ℕ) → ways n adj s d t ≡ 0) → length (members (shortest_paths n adj s t)) ≡ 0
    none-from-start h = shortest-none (λ d. ways-both n adj both d s-atom t-atom ∙ h d)
