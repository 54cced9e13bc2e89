-- The search until it says done or limit ends by one of the two, as the fresh search after as many trials as the limit.
-- Every trial is counted, no other count is above the trials, and each lists at most one record of at most 129 bytes.
use Prim.Native.Nat.{ℕ, suc, ◌+◌, ◌-◌, ◌*◌, ◌≤◌}
use native.Mathlib.Omega.{arith}
use mathlib.Core.Path.{◌≡◌, refl, ap, sym, ◌∙◌, subst}
use mathlib.Core.Logic.{◌⊎◌, inl, inr}
use mathlib.Core.Bool.{Bool, true, false, ◌||◌, cond}
use mathlib.Core.List.{List, [], ◌∷◌}
use lib.ListN.{length, length-append}
use lib.Dec.{eqb}
use borrow.Author.Tests.{eqb-true, eq-eqb}
use Rattle.graph.proofs.Below.{clash}
use Rattle.enumeration.specs.declared.Stop.{Stop}
use Rattle.enumeration.specs.declared.Stop.TheVariants.{Done, Limit, Spent, Full}
use Rattle.enumeration.specs.Words.{Family, keep, members}
use Rattle.enumeration.specs.Machine.{State, fresh, tried, is_done}
use Rattle.enumeration.specs.Run.{Outcome, limit, at_limit, record_of, record_if, lists, run}
use Rattle.enumeration.specs.Lawful.{Lawful}
use Rattle.enumeration.specs.Listing.{opens, open_words}
use Rattle.enumeration.specs.Trials.{steps, emitted, attempts, records}
use Rattle.enumeration.specs.RunFacts.{Bounded}
use Rattle.enumeration.proofs.Basics.{or-either}
use Rattle.enumeration.proofs.Steps.{emitted-keep, attempts-most}
use Rattle.enumeration.proofs.Theorems.{steps-composed, steps-stay, trials-rise, listed-rise, extensions-rise}
use Rattle.enumeration.proofs.Theorems.{fresh-by-trials, fresh-ends, done-listed, done-trials, done-extensions}
use Rattle.enumeration.proofs.Theorems.{run-outcome, run-keeps-bounded, run-done, run-limit, run-spent, run-full}

-- a search is over: done, or a count at the limit
abbrev pub Over : Family → State → Type 0
Over F st = (is_done F.atoms st ≡ true) ⊎ (at_limit st ≡ true)

keep-most : (test : List ℕ → Bool) (ws : List (List ℕ)) → length (keep test ws) ≤ length ws
unfolding keep
keep-most test [] = omega arith
keep-most test (w ∷ ws) = go (test w) (keep-most test ws)
  where
    go :
        (b : Bool) → length (keep test ws) ≤ length ws →
        length (cond b (w ∷ keep test ws) (keep test ws)) ≤ suc (length ws)
    go true h = omega arith
    go false h = omega arith

fresh-bounded : Bounded fresh
unfolding fresh
fresh-bounded = record { trials_most = omega arith; extensions_most = omega arith; listed_most = omega arith }

-- where no count is above the trials, one stands at the limit only if they do
at-limit :
    (st : State) → st.extensions ≤ st.trials → st.listed ≤ st.trials → st.trials ≤ limit → at_limit st ≡ true →
    st.trials ≡ limit
unfolding at_limit
at-limit st e l most a =
    by (or-either (eqb st.trials limit || eqb st.extensions limit) (eqb st.listed limit) a)
  where
    first : (eqb st.trials limit ≡ true) ⊎ (eqb st.extensions limit ≡ true) → st.trials ≡ limit
    first (inl x) = eqb-true st.trials limit x
    first (inr x) = omega (arith, eqb-true st.extensions limit x)

    by :
        ((eqb st.trials limit || eqb st.extensions limit) ≡ true) ⊎ (eqb st.listed limit ≡ true) →
        st.trials ≡ limit
    by (inl x) = first (or-either (eqb st.trials limit) (eqb st.extensions limit) x)
    by (inr x) = omega (arith, eqb-true st.listed limit x)

trials-limit : (st : State) → st.trials ≡ limit → at_limit st ≡ true
unfolding at_limit
trials-limit st e = rw (eq-eqb st.trials limit e)

module _ (F : Family) (L : Lawful F) where
  -- ---- where a search from its start is over

  -- no count is above the trials
  listed-trials : (k : ℕ) → (steps F k fresh).listed ≤ (steps F k fresh).trials
  unfolding fresh
  listed-trials k =
      omega (
        arith,
        listed-rise F k fresh,
        trials-rise F k fresh,
        ap length (emitted-keep F k fresh),
        keep-most F.member (attempts F k fresh),
      )

  extensions-trials : (k : ℕ) → (steps F k fresh).extensions ≤ (steps F k fresh).trials
  unfolding fresh
  extensions-trials k =
      omega (arith, extensions-rise F L k fresh, trials-rise F k fresh, keep-most (opens F) (attempts F k fresh))

  -- one that is done stays as it is, and one that has made so many trials is told by them
  settled :
      (most k : ℕ) →
      let st = steps F k fresh in
      st.trials ≤ most → (is_done F.atoms st ≡ true) ⊎ (st.trials ≡ most) → st ≡ steps F most fresh
  settled most k h (inr e) = sym (fresh-by-trials F k) ∙ ap (λ (n : ℕ). steps F n fresh) e
  settled most k h (inl d) =
      let made : ℕ = (steps F k fresh).trials in
      let split : most ≡ made + (most - made) = omega arith in
      sym
      (ap (λ (n : ℕ). steps F n fresh) split
      ∙ steps-composed F made (most - made) fresh
      ∙ ap (steps F (most - made)) (fresh-by-trials F k)
      ∙ steps-stay F (most - made) (steps F k fresh) d)

  -- A search from its start that is over is the fresh one after as many trials as the limit
  pub over-is : (k : ℕ) → Bounded (steps F k fresh) → Over F (steps F k fresh) → steps F k fresh ≡ steps F limit fresh
  over-is k b (inl d) = settled limit k b.trials_most (inl d)
  over-is k b (inr a) =
      settled limit k b.trials_most
      (inr (at-limit (steps F k fresh) (extensions-trials k) (listed-trials k) b.trials_most a))

  -- ---- one run with the limit as its budget, and room for as many records

  module _ (short : F.atoms ≤ 128) where
    record-short : (b : Bool) (w : List ℕ) → F.member w ≡ b → length (record_if b w) ≤ 129
    unfolding record_if record_of
    record-short true w e = omega (arith, L.short w e)
    record-short false w e = omega arith

    lists-short : (st : State) → length (lists F st) ≤ 129
    unfolding lists
    lists-short st = record-short (F.member (tried st)) (tried st) refl

    -- the records of the members among some words
    records-short : (ws : List (List ℕ)) → length (records (keep F.member ws)) ≤ 129 * length ws
    unfolding records keep record_of
    records-short [] = omega arith
    records-short (w ∷ ws) = go (F.member w) refl (records-short ws)
      where
        go :
            (b : Bool) → F.member w ≡ b → length (records (keep F.member ws)) ≤ 129 * length ws →
            length (records (cond b (w ∷ keep F.member ws) (keep F.member ws))) ≤ 129 * suc (length ws)
        go true e h = omega (arith, L.short w e, length-append w (records (keep F.member ws)))
        go false e h = omega arith

    emitted-short : (k : ℕ) → length (records (emitted F k fresh)) ≤ 129 * k
    emitted-short k =
        omega (
          arith,
          ap (λ (ws : List (List ℕ)). length (records ws)) (emitted-keep F k fresh),
          records-short (attempts F k fresh),
          attempts-most F k fresh,
        )

    abbrev whole : Outcome
    whole = run F limit (129 * limit) fresh

    never-spent : whole.stop ≡ Spent → ⊥
    unfolding fresh
    never-spent e =
        let spent = run-spent F limit (129 * limit) fresh e in
        let ran = run-outcome F limit (129 * limit) fresh in
        let made : whole.state.trials ≡ limit = omega (arith, ran.counted, spent.2) in
        clash (at_limit whole.state) (trials-limit whole.state made) spent.1

    never-full : whole.stop ≡ Full → ⊥
    never-full e =
        let full = run-full F limit (129 * limit) fresh e in
        let ran = run-outcome F limit (129 * limit) fresh in
        let bytes : length whole.bytes ≤ 129 * whole.made =
        omega (arith, ap length ran.wrote, emitted-short whole.made) in
        omega (arith, full.2, full.3, bytes, lists-short whole.state)

    -- it ends by done or limit
    pub whole-ends : (whole.stop ≡ Done) ⊎ (whole.stop ≡ Limit)
    whole-ends = by whole.stop refl
      where
        by : (why : Stop) → whole.stop ≡ why → (whole.stop ≡ Done) ⊎ (whole.stop ≡ Limit)
        by Done e = inl e
        by Limit e = inr e
        by Spent e = absurd (never-spent e)
        by Full e = absurd (never-full e)

    whole-over : Over F whole.state
    whole-over = by whole-ends
      where
        by : (whole.stop ≡ Done) ⊎ (whole.stop ≡ Limit) → Over F whole.state
        by (inl e) = inl (run-done F limit (129 * limit) fresh e)
        by (inr e) = inr (run-limit F limit (129 * limit) fresh e).1

    -- and is then the fresh search after as many trials as the limit
    pub whole_is : whole.state ≡ steps F limit fresh
    whole_is =
        let ran = run-outcome F limit (129 * limit) fresh in
        ran.stepped
        ∙ over-is whole.made
        (subst Bounded ran.stepped (run-keeps-bounded F limit (129 * limit) fresh fresh-bounded))
        (subst (Over F) ran.stepped whole-over)

    -- ---- where it ends done

    at_done : whole.stop ≡ Done → is_done F.atoms (steps F limit fresh) ≡ true
    at_done e = subst (λ (st : State). is_done F.atoms st ≡ true) whole_is (run-done F limit (129 * limit) fresh e)

    pub whole_listed : whole.stop ≡ Done → whole.state.listed ≡ length (members F)
    whole_listed e = rw whole_is (done-listed F L limit (at_done e))

    pub whole_extensions : whole.stop ≡ Done → whole.state.extensions ≡ length (open_words F)
    whole_extensions e = rw whole_is (done-extensions F L limit (at_done e))

    pub whole-trials : whole.stop ≡ Done → whole.state.trials ≡ F.atoms * suc (length (open_words F))
    whole-trials e = rw (← whole_extensions e, whole_is) (done-trials F L limit (at_done e))

    -- it does if all trials are within the limit
    pub whole-done : F.atoms * suc (length (open_words F)) ≤ limit → whole.stop ≡ Done
    whole-done h = by whole-ends
      where
        k : ℕ
        k = (fresh-ends F L).0

        done : is_done F.atoms (steps F k fresh) ≡ true
        done = (fresh-ends F L).1

        trials : (steps F k fresh).trials ≡ F.atoms * suc (length (open_words F))
        trials = rw (← done-extensions F L k done) (done-trials F L k done)

        same : whole.state ≡ steps F k fresh
        same = whole_is ∙ sym (settled limit k (omega (arith, trials)) (inl done))

        by : (whole.stop ≡ Done) ⊎ (whole.stop ≡ Limit) → whole.stop ≡ Done
        by (inl e) = e
        by (inr e) =
            let busy = (run-limit F limit (129 * limit) fresh e).0 in
            absurd (clash (is_done F.atoms whole.state) (rw same done) busy)
