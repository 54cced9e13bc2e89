-- What is proved of every search: the order of the list, many trials, runs, valid searches, marks, a search from its
-- start, progress. For any family F; where `L` is an argument it is `Lawful F`. The ideas are in the other files.
use Prim.Native.Nat.{ℕ, suc, ◌+◌, ◌-◌, ◌*◌, ◌≤◌, ◌<◌}
use native.Mathlib.Omega.{arith}
use mathlib.Core.Path.{◌≡◌, sym, ap, ◌∙◌, subst}
use mathlib.Core.Logic.{◌↔◌, ◌⊎◌, inl, inr}
use mathlib.Core.Bool.{true, false}
use mathlib.Core.List.{List, ◌∷◌, ◌++◌, reverse, Memᴰ}
use lib.ListN.{length, take, get_or}
use lib.Seq.{take-append_seam}
use Rattle.enumeration.specs.declared.Stop.TheVariants.{Done, Limit, Spent, Full}
use Rattle.enumeration.specs.Words.{Family, earlier, begins, keep, members}
use Rattle.enumeration.specs.Machine.{State, fresh, is_empty, is_done, trial}
use Rattle.enumeration.specs.Run.{Outcome, at_limit, lists, run}
use Rattle.enumeration.specs.Lawful.{Lawful, AtMost}
use Rattle.enumeration.specs.Listing.{Ascending, NoRepeats, goes_from, past, follows, opens, open_words}
use Rattle.enumeration.specs.Trials.{Valid, steps, emitted, attempts, sum, following}
use Rattle.enumeration.specs.RunFacts.{Bounded, Why, RunFacts}
use Rattle.enumeration.proofs.Basics.{decided}
use Rattle.enumeration.proofs.Order.{irreflexive, transitive, total, ascending-once}
use Rattle.enumeration.proofs.Open.{stack-most, stack-range, members-ascending, members-sound, members-complete, members-stream, opens-stream, open_words-once, open_words-sound, open_words-complete}
use Rattle.enumeration.proofs.Trial.{ahead, done-place, trial-tried}
use Rattle.enumeration.proofs.Steps.{emitted-keep, emitted-front, attempts-all, attempts-most, trials-steps, listed-steps, extensions-steps, valid-steps, valid-fresh, done-stream, done_at, steps-add, emitted-add, steps-done, steps-made}
use Rattle.enumeration.proofs.Marks.{goes_from-means, means-goes_from, past-means, means-past, members-follow, opens-follow}
use Rattle.enumeration.proofs.Counts.{balance-done, fresh-balance, open_words-bound}
use Rattle.enumeration.proofs.Progress.{progresses}
use Rattle.enumeration.proofs.Running.{run_ran, run-bounded, run-valid, run-progress}

-- ---- the order of words

-- No word is earlier than itself
pub order-irreflexive : (w : List ℕ) → earlier w w ≡ true → ⊥
order-irreflexive = irreflexive

-- What is earlier than an earlier word is earlier
pub order-transitive : (u v w : List ℕ) → earlier u v ≡ true → earlier v w ≡ true → earlier u w ≡ true
order-transitive = transitive

-- Of two different words one is earlier
pub order-total : (v w : List ℕ) → (v ≡ w → ⊥) → (earlier v w ≡ true) ⊎ (earlier w v ≡ true)
order-total = total

-- `goes_from p c w` says that w begins with p and goes on with an atom that is at least c
pub goes_from-exactly :
    (p : List ℕ) (c : ℕ) (w : List ℕ) →
    (goes_from p c w ≡ true) ↔ ((b : ℕ) × (v : List ℕ) × (w ≡ p ++ b ∷ v) × (c ≤ b))
goes_from-exactly p c w = (goes_from-means p c w, λ (b, v, shape, high). rw shape (means-goes_from p c b v high))

-- `past p w` says that w is later than every list that begins with p
pub past-exactly : (p w : List ℕ) → (past p w ≡ true) ↔ ((v : List ℕ) → earlier (p ++ v) w ≡ true)
past-exactly p w = (past-means p w, means-past p w)

module _ (F : Family) where
  -- The list is in dictionary order
  pub list-ascending : Ascending (members F)
  list-ascending = members-ascending F

  -- It has no repeats
  pub list-once : NoRepeats (members F)
  list-once = ascending-once (members F) (members-ascending F)

  -- ---- many trials

  -- j trials and then k are j + k
  pub steps-composed : (j k : ℕ) (st : State) → steps F (j + k) st ≡ steps F k (steps F j st)
  steps-composed = steps-add F

  -- What j trials list and then k is what j + k list
  pub emitted-composed : (j k : ℕ) (st : State) → emitted F (j + k) st ≡ emitted F j st ++ emitted F k (steps F j st)
  emitted-composed = emitted-add F

  -- A search that is done stays as it is
  pub steps-stay : (k : ℕ) (st : State) → is_done F.atoms st ≡ true → steps F k st ≡ st
  steps-stay = steps-done F

  -- Trials rise by the words tried
  pub trials-rise : (k : ℕ) (st : State) → (steps F k st).trials ≡ st.trials + length (attempts F k st)
  trials-rise = trials-steps F

  -- Listed rises by the words listed
  pub listed-rise : (k : ℕ) (st : State) → (steps F k st).listed ≡ st.listed + length (emitted F k st)
  listed-rise = listed-steps F

  -- At most k trials are made
  pub trials_most : (k : ℕ) (st : State) → (steps F k st).trials ≤ st.trials + k
  trials_most k st = omega (arith, trials-steps F k st, attempts-most F k st)

  -- All k are made if the search is not done before the last of them
  pub trials-all :
      (k j : ℕ) (st : State) → k ≤ suc j → is_done F.atoms (steps F j st) ≡ false →
      (steps F k st).trials ≡ st.trials + k
  trials-all k j st h d = trials-steps F k st ∙ rw (attempts-all F k j st h d)

  -- All k are made or the search is done
  pub trials-or-done :
      (k : ℕ) (st : State) → ((steps F k st).trials ≡ st.trials + k) ⊎ (is_done F.atoms (steps F k st) ≡ true)
  trials-or-done k st = elim (decided (is_done F.atoms (steps F k st))) [
    | inl done ↦ inr done
    | inr not_done ↦ inl (trials-all k k st (omega arith) not_done)
  ]

  -- From the start, k trials count k if the search is not done before the last of them
  pub fresh-trials-all :
      (k j : ℕ) → k ≤ suc j → is_done F.atoms (steps F j fresh) ≡ false → (steps F k fresh).trials ≡ k
  unfolding fresh
  fresh-trials-all k j h d = omega (arith, trials-all k j fresh h d)

  -- A search from the start is told by its count of trials
  pub fresh-by-trials : (k : ℕ) → steps F (steps F k fresh).trials fresh ≡ steps F k fresh
  unfolding fresh
  fresh-by-trials k =
      let e : (steps F k fresh).trials ≡ length (attempts F k fresh) = omega (arith, trials-steps F k fresh) in
      ap (λ (m : ℕ). steps F m fresh) e ∙ steps-made F k fresh

-- ---- runs

module _ (F : Family) (budget room : ℕ) (st : State) where
  abbrev outcome : Outcome
  outcome = run F budget room st

  -- All that is said of a run's outcome
  pub run-outcome : RunFacts F budget room st outcome
  run-outcome = run_ran F budget room st

  -- It takes no count past the limit
  pub run-keeps-bounded : Bounded st → Bounded outcome.state
  run-keeps-bounded = run-bounded F budget room st

  -- It stops done: the search is done
  pub run-done : outcome.stop ≡ Done → is_done F.atoms outcome.state ≡ true
  run-done e = subst (Why F budget room outcome) e run-outcome.why

  -- It stops at the limit: a count stands there, and the search is not done
  pub run-limit :
      outcome.stop ≡ Limit → (is_done F.atoms outcome.state ≡ false) × (at_limit outcome.state ≡ true)
  run-limit e = subst (Why F budget room outcome) e run-outcome.why

  -- It stops spent: it made its budget of trials, and neither of those holds
  pub run-spent :
      outcome.stop ≡ Spent →
      (is_done F.atoms outcome.state ≡ false) × (at_limit outcome.state ≡ false) × (outcome.made ≡ budget)
  run-spent e = subst (Why F budget room outcome) e run-outcome.why

  -- It stops full: the next trial would list a record longer than the room left, and none of those holds
  pub run-full :
      outcome.stop ≡ Full →
      (is_done F.atoms outcome.state ≡ false) × (at_limit outcome.state ≡ false) ×
      (outcome.made < budget) ×
      (room < length outcome.bytes + length (lists F outcome.state))
  run-full e = subst (Why F budget room outcome) e run-outcome.why

module _ (F : Family) (L : Lawful F) where
  -- The list holds exactly the members
  pub list-exactly : (w : List ℕ) → Memᴰ w (members F) ↔ (F.member w ≡ true)
  list-exactly w = (members-sound F w, members-complete F L w)

  -- ---- valid searches

  -- The fresh search is valid
  pub fresh-valid : Valid F fresh
  fresh-valid = valid-fresh F L

  -- A trial of a search that is not done keeps it valid
  pub trial-valid : (st : State) → Valid F st → is_done F.atoms st ≡ false → Valid F (trial F st)
  trial-valid st v d = (trial-tried F L st v d).valid

  -- So do many trials
  pub steps-valid : (k : ℕ) (st : State) → Valid F st → Valid F (steps F k st)
  steps-valid = valid-steps F L

  -- So does a run
  pub run-keeps-valid : (budget room : ℕ) (st : State) → Valid F st → Valid F (run F budget room st).state
  run-keeps-valid = run-valid F L

  -- The beginning of a valid search is shorter than n, or empty
  pub valid-short : (st : State) → Valid F st → length st.stack ≤ F.atoms - 1
  valid-short st v = stack-most F L st.stack v.open_stack

  -- Its atoms are from 1 to n
  pub valid-range :
      (st : State) → Valid F st → (i : ℕ) → i < length st.stack →
      (1 ≤ get_or st.stack i 0) × (get_or st.stack i 0 ≤ F.atoms)
  valid-range st v = stack-range F L st.stack v.open_stack

  -- Its next atom is at most n + 1
  pub valid-next : (st : State) → Valid F st → st.next ≤ suc F.atoms
  valid-next st v = elim (decided (is_done F.atoms st)) [
    | inl done ↦ let (no_Stack, at-end) = done-place F.atoms st done in omega arith
    | inr not_done ↦ omega (arith, v.within not_done)
  ]

  -- Extensions rise by the open words tried
  pub extensions-rise :
      (k : ℕ) (st : State) → (steps F k st).extensions ≡ st.extensions + length (keep (opens F) (attempts F k st))
  extensions-rise = extensions-steps F L

  -- ---- marks: what is listed from a valid search on, whatever its counts

  -- the front of a list is its first words, as many as it has
  taken : {all : List (List ℕ)} (front more : List (List ℕ)) → all ≡ front ++ more → front ≡ take (length front) all
  taken front more e = rw e (sym (take-append_seam front more))

  ahead-members : (st : State) → Valid F st → keep F.member (ahead F st) ≡ following F st
  ahead-members st v = members-follow F L st.stack st.next v.open_stack v.low (valid-next st v)

  -- The first of the members that follow its place, as many as it has listed
  pub mark-listing :
      (k : ℕ) (st : State) → Valid F st → emitted F k st ≡ take (length (emitted F k st)) (following F st)
  mark-listing k st v =
      taken (emitted F k st) (keep F.member (ahead F (steps F k st)))
      (sym (ahead-members st v) ∙ emitted-front F L k st v)

  -- Once done, exactly the members that follow its place
  pub mark-complete :
      (k : ℕ) (st : State) → Valid F st → is_done F.atoms (steps F k st) ≡ true → emitted F k st ≡ following F st
  mark-complete k st v d = emitted-keep F k st ∙ rw (done-stream F L k st v d) (ahead-members st v)

  -- Listed has then risen by their number
  pub mark-listed :
      (k : ℕ) (st : State) → Valid F st → is_done F.atoms (steps F k st) ≡ true →
      (steps F k st).listed ≡ st.listed + length (following F st)
  mark-listed k st v d = listed-steps F k st ∙ rw (mark-complete k st v d)

  -- Extensions by the number of open words that follow
  pub mark-extensions :
      (k : ℕ) (st : State) → Valid F st → is_done F.atoms (steps F k st) ≡ true →
      (steps F k st).extensions ≡ st.extensions + length (keep (follows (reverse st.stack) st.next) (open_words F))
  mark-extensions k st v d =
      extensions-steps F L k st ∙
      rw (
        done-stream F L k st v d,
        opens-follow F L st.stack st.next v.open_stack v.low (valid-next st v),
      )

  -- Trials with the extensions: by n for each, and by what was left to try at its beginning
  pub mark-trials :
      (k : ℕ) (st : State) → is_done F.atoms (steps F k st) ≡ true →
      (steps F k st).trials + (F.atoms * st.extensions + sum st.stack + st.next) ≡
      F.atoms * suc (steps F k st).extensions + 1 + (st.trials + F.atoms * length st.stack)
  mark-trials = balance-done F

  -- Some number of trials ends it
  pub mark-ends : (st : State) → Valid F st → (k : ℕ) × (is_done F.atoms (steps F k st) ≡ true)
  mark-ends st v = (length (ahead F st), done_at F L st v)

  -- ---- a search from its start

  ahead-fresh : keep F.member (ahead F fresh) ≡ members F
  unfolding fresh
  ahead-fresh = members-stream F L

  fresh-listed : (k : ℕ) → (steps F k fresh).listed ≡ length (emitted F k fresh)
  unfolding fresh
  fresh-listed k = omega (arith, listed-steps F k fresh)

  -- What k trials list are the first members of the list, as many as `listed` says
  pub fresh-listing : (k : ℕ) → emitted F k fresh ≡ take (steps F k fresh).listed (members F)
  fresh-listing k =
      rw (fresh-listed k)
      (taken (emitted F k fresh) (keep F.member (ahead F (steps F k fresh)))
      (sym ahead-fresh ∙ emitted-front F L k fresh (valid-fresh F L)))

  -- Once done, all of them
  pub fresh-complete : (k : ℕ) → is_done F.atoms (steps F k fresh) ≡ true → emitted F k fresh ≡ members F
  fresh-complete k d = emitted-keep F k fresh ∙ rw (done-stream F L k fresh (valid-fresh F L) d) ahead-fresh

  -- Some number of trials ends it
  pub fresh-ends : (k : ℕ) × (is_done F.atoms (steps F k fresh) ≡ true)
  fresh-ends = mark-ends fresh (valid-fresh F L)

  -- Once done, listed is the number of members
  pub done-listed : (k : ℕ) → is_done F.atoms (steps F k fresh) ≡ true → (steps F k fresh).listed ≡ length (members F)
  done-listed k d = fresh-listed k ∙ ap length (fresh-complete k d)

  -- Trials is n × (extensions + 1)
  pub done-trials :
      (k : ℕ) → is_done F.atoms (steps F k fresh) ≡ true →
      (steps F k fresh).trials ≡ F.atoms * suc (steps F k fresh).extensions
  done-trials = fresh-balance F

  -- Extensions is the number of different non-empty proper beginnings of members
  pub done-extensions :
      (k : ℕ) → is_done F.atoms (steps F k fresh) ≡ true → (steps F k fresh).extensions ≡ length (open_words F)
  unfolding fresh
  done-extensions k d =
      let all-tried : attempts F k fresh ≡ ahead F fresh = done-stream F L k fresh (valid-fresh F L) d in
      let e : keep (opens F) (attempts F k fresh) ≡ open_words F = rw all-tried (opens-stream F L) in
      omega (arith, extensions-steps F L k fresh, ap length e)

  -- Where no member has more than `most` atoms, at most `most` − 1 of them for each member: with n atoms n − 1
  pub done-bound :
      (most : ℕ) → AtMost F most → (k : ℕ) → is_done F.atoms (steps F k fresh) ≡ true →
      (steps F k fresh).extensions ≤ (most - 1) * length (members F)
  done-bound most short k d = omega (arith, done-extensions k d, open_words-bound F L most short)

  -- The list of open words has no repeats
  pub open-once : NoRepeats (open_words F)
  open-once = open_words-once F

  -- It holds exactly the non-empty proper beginnings of members
  pub open-exactly :
      (q : List ℕ) →
      Memᴰ q (open_words F) ↔ ((is_empty q ≡ false) × (m : List ℕ) × (F.member m ≡ true) × (begins q m ≡ true))
  open-exactly q =
      (open_words-sound F q, λ (not-empty, m, is_member, begun). open_words-complete F L q m not-empty is_member begun)

  -- ---- progress

  -- Within 2 × n × n trials a valid search lists a member or is done
  pub progress :
      (st : State) → Valid F st →
      (is_done F.atoms (steps F (2 * F.atoms * F.atoms) st) ≡ true) ⊎
      (st.listed < (steps F (2 * F.atoms * F.atoms) st).listed)
  progress st v = progresses F L (2 * F.atoms * F.atoms) st v (omega arith)

  -- A run with that budget and room for one record lists a member, or stops done or at the limit
  pub run-lists :
      (budget room : ℕ) (st : State) → Valid F st → 2 * F.atoms * F.atoms ≤ budget → F.atoms + 1 ≤ room →
      (1 ≤ length (emitted F (run F budget room st).made st)) ⊎
      (((run F budget room st).stop ≡ Done) ⊎ ((run F budget room st).stop ≡ Limit))
  run-lists = run-progress F L
