-- A beginning on the way down and what is kept for its length (`Stage`): what its lowest atom to be tried tells, and
-- how it changes with a trial. Where the sets steer, by the laws of `Steers`; a shorter beginning has its members kept.
use Prim.Native.Nat.{ℕ, suc, ◌+◌, ◌-◌, ◌≤◌, ◌<◌}
use native.Mathlib.Omega.{arith}
use native.Mathlib.Numerals.{add-one}
use native.Mathlib.Decide.{dec_le}
use mathlib.Core.Path.{◌≡◌, sym, ap, ◌∙◌}
use mathlib.Core.Bool.{true, false, ◌&&◌, not}
use mathlib.Core.List.{List, [], ◌∷◌, ◌++◌}
use mathlib.Core.Logic.{◌⊎◌, inl, inr}
use lib.ListN.{length, get_or, take, set}
use lib.Seq.{take-suc-set, get_or-set_same}
use lib.Dec.{leb, eqb}
use borrow.Author.Tests.{le-leb, leb-true, ne_eqb, eqb-false, not-true}
use Rattle.graph.specs.Chordless.{Adjacency}
use Rattle.graph.proofs.Below.{clash, false_of, and_parts, and_both, same_test, not-of}
use Rattle.enumeration.specs.Words.{Family, is_open}
use Rattle.enumeration.proofs.Basics.{or-either}
use Rattle.chordless.proofs.Steers.{steers-more, steers-same, steers-member, steers-open}
use Rattle.atomset.specs.Set.{has, Lowest, LowestLeft}
use Rattle.openness.specs.declared.Aim.{Aim}
use Rattle.dive.specs.declared.Level.{Level}
use Rattle.openness.specs.Plan.{Steered}
use Rattle.dive.specs.Levels.{LevelRoom, aim_in, rest_in, kept_rest, goes_on_by, Led, LevelAdded, Stage}
use Rattle.dive.proofs.Levels.{rest-kept-same, aim-past-rest}

module _ {F : Family} {adj : Adjacency} {longest first : ℕ} {prefix : List ℕ} {levels : List Level} {i c : ℕ}
    (s : Stage F adj longest first prefix levels i c) where
  -- an array and kept sets that are the same there
  pub stage-same :
      {prefix' : List ℕ} {levels' : List Level} → take i prefix' ≡ take i prefix →
      get_or prefix' (i - 1) 0 ≡ get_or prefix (i - 1) 0 →
      aim_in levels' i ≡ aim_in levels i → (first ≤ i → aim_in levels' (suc i) ≡ aim_in levels (suc i)) →
      rest_in levels' i ≡ rest_in levels i → Stage F adj longest first prefix' levels' i c
  stage-same p x a n r = record {
    lawful = s.lawful;
    is_opened = rw p s.is_opened;
    long = λ h. rw (p, x, a, n h) (s.long h);
    short = λ h v. rw p (ap (λ (aim : Aim). has aim.goal v) a ∙ s.short h v);
    to_try = rw (p, r) s.to_try;
  }

  -- v is the lowest atom to be tried
  module _ {v : ℕ} (l : Lowest (rest_in levels i) v) where
    lowest-both : (leb c v ≡ true) × (goes_on_by F (take i prefix) v ≡ true)
    lowest-both =
        and_parts (leb c v) (goes_on_by F (take i prefix) v) (sym (s.to_try v l.low) ∙ l.member)

    pub lowest-from : c ≤ v
    lowest-from = leb-true c v lowest-both.0

    pub lowest-goes-on : goes_on_by F (take i prefix) v ≡ true
    lowest-goes-on = lowest-both.1

    -- no atom before it goes on
    pub lowest-first : (u : ℕ) → 1 ≤ u → c ≤ u → u < v → goes_on_by F (take i prefix) u ≡ false
    lowest-first u some from before =
        false_of (goes_on_by F (take i prefix) u)
        (λ e. omega (arith, l.least u (s.to_try u some ∙ and_both _ _ (le-leb c u from) e)))

    -- it makes a member exactly when it is a closing atom
    abbrev here : List ℕ
    here = take i prefix

    abbrev last : ℕ
    last = get_or prefix (i - 1) 0

    pub lowest-member : F.member (here ++ v ∷ []) ≡ has (aim_in levels i).goal v
    lowest-member = go (dec_le first i)
      where
        -- where the sets steer, an atom that opens and may close a member is bonded to the last one, so it makes one
        steered-member : Led F adj longest here last (aim_in levels i) (aim_in levels (suc i)) →
            F.member (here ++ v ∷ []) ≡ has (aim_in levels i).goal v
        steered-member led =
            same_test (F.member (here ++ v ∷ [])) (has (aim_in levels i).goal v) to
            (λ g. split g (or-either (F.member (here ++ v ∷ [])) (is_open F (here ++ v ∷ [])) lowest-goes-on))
          where
            told : F.member (here ++ v ∷ []) ≡ (has (aim_in levels i).goal v && adj last v)
            told = steers-member led.steered.steers s.is_opened v

            to : F.member (here ++ v ∷ []) ≡ true → has (aim_in levels i).goal v ≡ true
            to m = (and_parts (has (aim_in levels i).goal v) (adj last v) (sym told ∙ m)).0

            split :
                has (aim_in levels i).goal v ≡ true →
                (F.member (here ++ v ∷ []) ≡ true) ⊎ (is_open F (here ++ v ∷ []) ≡ true) →
                F.member (here ++ v ∷ []) ≡ true
            split g (inl m) = m
            split g (inr o) =
                let onward = (steers-open led.steered.steers s.is_opened v).0 o in
                let bonded = (and_parts (has (aim_in levels i).free v) (adj last v) onward.touches).1 in
                told ∙ and_both (has (aim_in levels i).goal v) (adj last v) g bonded

        go : Dec (first ≤ i) → F.member (here ++ v ∷ []) ≡ has (aim_in levels i).goal v
        go (yes h) = steered-member (s.long h)
        go (no h) = sym (s.short (omega arith) v)

    pub lowest-opens : has (aim_in levels i).goal v ≡ false → is_open F (here ++ v ∷ []) ≡ true
    lowest-opens g = split (or-either (F.member (here ++ v ∷ [])) (is_open F (here ++ v ∷ [])) lowest-goes-on)
      where
        split :
            (F.member (here ++ v ∷ []) ≡ true) ⊎ (is_open F (here ++ v ∷ []) ≡ true) →
            is_open F (here ++ v ∷ []) ≡ true
        split (inl m) = absurd (clash (F.member (here ++ v ∷ [])) m (lowest-member ∙ g))
        split (inr o) = o

    -- it is tried
    pub stage-lowered :
        {others : List ℕ} → LevelRoom i levels → LowestLeft (rest_in levels i) others →
        Stage F adj longest first prefix (kept_rest levels i others) i (v + 1)
    stage-lowered {others} room left = record {
      lawful = s.lawful;
      is_opened = s.is_opened;
      long = rw (aim-past-rest levels i others i, aim-past-rest levels i others (suc i)) s.long;
      short = λ h u. ap (λ (aim : Aim). has aim.goal u) (aim-past-rest levels i others i) ∙ s.short h u;
      to_try = λ u some.
          rest-kept-same levels i others room u ∙ left.others v l u ∙
          same_test (has (rest_in levels i) u && not (eqb u v)) (leb (v + 1) u && goes_on_by F here u)
          (to u some) (back u some);
    }
      where
        to :
            (u : ℕ) → 1 ≤ u → has (rest_in levels i) u && not (eqb u v) ≡ true →
            leb (v + 1) u && goes_on_by F here u ≡ true
        to u some e =
            let (in_rest, other) = and_parts (has (rest_in levels i) u) (not (eqb u v)) e in
            let differ = eqb-false u v (not-true (eqb u v) other) in
            let (from, goes) = and_parts (leb c u) (goes_on_by F here u) (sym (s.to_try u some) ∙ in_rest) in
            and_both (leb (v + 1) u) (goes_on_by F here u)
            (le-leb (v + 1) u (omega (arith, l.least u in_rest, differ))) goes

        back :
            (u : ℕ) → 1 ≤ u → leb (v + 1) u && goes_on_by F here u ≡ true →
            has (rest_in levels i) u && not (eqb u v) ≡ true
        back u some e =
            let (above, goes) = and_parts (leb (v + 1) u) (goes_on_by F here u) e in
            let high = leb-true (v + 1) u above in
            let from : c ≤ u = omega (arith, lowest-from) in
            and_both (has (rest_in levels i) u) (not (eqb u v))
            (s.to_try u some ∙ and_both _ _ (le-leb c u from) goes)
            (not-of (eqb u v) (ne_eqb u v (λ q. omega arith)))

-- an atom v that opens the beginning is added, and the longer one is planned
module _ {F : Family} {adj : Adjacency} {longest first : ℕ} {prefix : List ℕ} {levels : List Level} {i c : ℕ} where
  pub stage-added :
      {v : ℕ} {levels' : List Level} → Stage F adj longest first prefix levels i c → i < length prefix → first ≤ suc i →
      is_open F (take i prefix ++ v ∷ []) ≡ true →
      LevelAdded F adj longest first v (i + 1) (take (i + 1) (set prefix i v)) levels levels' →
      Stage F adj longest first (set prefix i v) levels' (i + 1) 1
  stage-added {v} {levels'} s room near o added = record {
    lawful = s.lawful;
    is_opened = rw word-is o;
    long = λ h. rw last_is (added.led before);
    short = λ h. absurd (omega arith);
    to_try = λ u some. added.to_try before u ∙ rw (le-leb 1 u some);
  }
    where
      word-is : take (i + 1) (set prefix i v) ≡ take i prefix ++ v ∷ []
      word-is = rw (add-one i) (take-suc-set prefix i v room)

      last_is : get_or (set prefix i v) (i + 1 - 1) 0 ≡ v
      last_is = let one : i + 1 - 1 ≡ i = omega arith in rw one (get_or-set_same prefix i v 0 room)

      -- the sets that were handed on
      before : first < i + 1 → Steered F adj longest (take (i + 1) (set prefix i v)) v (aim_in levels (i + 1))
      before h =
          let led = s.long (omega arith) in
          rw (word-is, add-one i)
          (record {
            lawful = s.lawful;
            some = long (take i prefix);
            is_opened = o;
            steers =
                steers-same (λ u. sym (led.handed.goal-left u)) (λ u. sym (led.handed.free-left u))
                (steers-more led.steered.steers v);
          })
        where
          long : (p : List ℕ) → 1 ≤ length (p ++ v ∷ [])
          long [] = omega arith
          long (a ∷ p) = omega arith
