-- What a run keeps from trial to trial, one turn of it, and its ways out.
-- The plan tells what the trial does, so the state of the array after it is the machine's.
use Prim.Native.Nat.{ℕ, zero, suc, ◌+◌, ◌-◌, ◌≤◌, ◌<◌}
use native.Mathlib.Decide.{dec_lt}
use native.Mathlib.Omega.{arith}
use mathlib.Core.Path.{◌≡◌, refl, ap, sym, ◌∙◌}
use mathlib.Core.Bool.{Bool, true, false, ◌&&◌, cond}
use Rattle.std.specs.Prelude.{Option, Some, None}
use Rattle.std.specs.Option.{ForSome}
use mathlib.Core.List.{List, [], ◌∷◌, ◌++◌, reverse}
use lib.ListN.{length, take, drop, take-append-drop}
use lib.Dec.{eqb}
use borrow.Author.Tests.{ne_eqb, eqb-true, eqb-false}
use borrow.Rule.Slice.PartMut.{put_mid}
use Rattle.enumeration.specs.declared.Stop.{Stop}
use Rattle.enumeration.specs.declared.Stop.TheVariants.{Done, Limit, Spent, Full}
use Rattle.enumeration.specs.Words.{Family, is_open}
use Rattle.enumeration.specs.Machine.{State, tried, is_empty, is_done, act, trial}
use Rattle.enumeration.specs.Run.{at_limit, lists, record_if, record_of, stopped, run}
use Rattle.enumeration.specs.Lawful.{Lawful}
use Rattle.enumeration.specs.Trials.{Valid}
use Rattle.enumeration.specs.RunFacts.{Bounded}
use Rattle.enumeration.proofs.Trial.{shut}
use Rattle.enumeration.proofs.Theorems.{trial-valid, valid-short, valid-next}
use Rattle.atomset.specs.Set.{has}
use Rattle.search.specs.declared.Search.{Search}
use Rattle.search.specs.Place.{beginning, state_of}
use Rattle.openness.specs.declared.Plan.{Plan}
use Rattle.openness.specs.declared.Wanted.{Wanted}
use Rattle.openness.specs.Plan.{family_wanted, Tells, Ahead, FirstTells}
use Rattle.openness.proofs.Plans.{family-by-lawful, family-by-atoms}
use Rattle.trial.specs.declared.Spot.{Spot}
use Rattle.trial.specs.Parts.{stack_of, state_at, spot_of, search_held, Held, HeldWithRoom, Counting, Acted}
use Rattle.trial.proofs.Arrays.{stack-length, stack-back, stack-more, place_of}
use Rattle.trial.proofs.Arrays.{act-longer, act-same, search-held, tried-word}
use Rattle.trial.proofs.Bytes.{part_length, part-back, record-length}
use Rattle.openness.specs.declared.FirstPlan.{FirstPlan}
use Rattle.dive.specs.declared.Level.{Level}
use Rattle.runner.specs.Parts.{Ready, stop_before, Yields}
use Rattle.runner.proofs.Turns.{Going, going-starts, going-length, going-used, going-turn, going-answers}
use Rattle.runner.proofs.Turns.{Below, below-limit, act-bounded, run-done, run-limit, run-spent, run-full}

-- the stack is empty where the beginning has no atom
stack-none : (prefix : List ℕ) (len : ℕ) → Held prefix len → is_empty (stack_of prefix len) ≡ eqb len 0
unfolding is_empty
stack-none prefix zero h = refl
stack-none prefix (suc len) h =
    rw (stack-more prefix len (omega (arith, h.size, h.most)), ne_eqb (suc len) 0 (λ e. omega arith))

-- ---- what a run is asked to do

-- so many trials of a search, from a state, and the records of its words into an output
pub record Task : Type 0 where
  pub n : ℕ
  pub family : Family
  pub lawful : Lawful family
  pub atoms : family.atoms ≡ n
  pub budget : ℕ
  pub output : List ℕ
  pub from : State

abbrev pub task_of : Wanted → Search → ℕ → List ℕ → Task
task_of w q budget out = record {
  n = w.n;
  family = family_wanted w;
  lawful = family-by-lawful w.n w.table.now w.kind w.s w.t;
  atoms = family-by-atoms w.n w.table.now w.kind w.s w.t;
  budget = budget;
  output = out;
  from = state_of q;
}

-- ---- what a run keeps

pub record Turning (T : Task) (out prefix : List ℕ) (at : Spot) (plan : Option Plan) (used made : ℕ) : Type 0
  where
    pub few : T.n ≤ 128
    pub standing : HeldWithRoom prefix at.len
    pub valid : Valid T.family (state_at prefix at)
    pub bounded : Bounded (state_at prefix at)
    -- the plan tells of the next atom and of those after it, up to the first that opens
    pub told : ForSome plan (λ found. Ahead T.family (take at.len prefix) at.next found)
    pub going : Going T.family T.budget T.output T.from out (state_at prefix at) used made

-- with the plan of a beginning of one atom, and the levels of the fast loop, as many as at the start
pub record Looping (T : Task) (levels₀ levels : List Level) (out prefix : List ℕ) (at : Spot) (plan : Option Plan)
    (first : Option FirstPlan) (used made : ℕ) : Type 0 where
  pub turning : Turning T out prefix at plan used made
  pub tells : FirstTells T.family first
  pub sized : length levels ≡ length levels₀

-- a plan that is kept is that of the beginning, which is as long as it was
abbrev pub Kept : ℕ → ℕ → Plan → Option Plan → Type 0
Kept before after found plan = ForSome plan (λ kept. (kept ≡ found) × (before ≡ after))

-- no test has stopped it: a trial follows
pub record Trying (T : Task) (out prefix : List ℕ) (at : Spot) (plan : Option Plan) (used made : ℕ) : Type 0
  where
    pub turning : Turning T out prefix at plan used made
    pub not_done : is_done T.family.atoms (state_at prefix at) ≡ false
    pub not_limit : at_limit (state_at prefix at) ≡ false
    pub paid : made < T.budget

-- the word of that trial
abbrev pub word_at : List ℕ → Spot → List ℕ
word_at prefix at = take at.len prefix ++ at.next ∷ []

-- the output, and the bytes used, with the record of this trial
pub record Written (F : Family) (out : List ℕ) (used : ℕ) (st : State) (out' : List ℕ) (used' : ℕ) : Type 0 where
  pub output : out' ≡ take used out ++ (lists F st ++ drop (length (lists F st)) (drop used out))
  pub count : used' ≡ used + length (lists F st)
  pub fits : length (lists F st) ≤ length out - used

-- the rest of the run makes no trial: it stops here
abbrev pub StopsBy : Task → List ℕ → Spot → ℕ → ℕ → Stop → Type 0
StopsBy T prefix at used made why =
    let st = state_at prefix at in
    run T.family (T.budget - made) (length T.output - used) st ≡ stopped st why

module _ (F : Family) (st : State) where
  lists-none : F.member (tried st) ≡ false → lists F st ≡ []
  unfolding lists record_if
  lists-none e = rw e

  lists-word : F.member (tried st) ≡ true → lists F st ≡ record_of (tried st)
  unfolding lists record_if
  lists-word e = rw e

  -- what the trial is, by the plan's two answers
  act-trial :
      {n : ℕ} {member extends : Bool} → F.atoms ≡ n → member ≡ F.member (tried st) → extends ≡ is_open F (tried st) →
      act n member extends st ≡ trial F st
  unfolding trial
  act-trial atoms m x = rw (m, x, ← atoms)

  -- a trial that lists nothing
  pub written_none : (out : List ℕ) (used : ℕ) → F.member (tried st) ≡ false → Written F out used st out used
  written_none out used e = record {
    output = rw (lists-none e) (sym (take-append-drop used out));
    count = rw (lists-none e) (omega arith);
    fits = rw (lists-none e) (omega arith);
  }

pub starts :
    {w : Wanted} {q : Search} (budget : ℕ) (out : List ℕ) → Ready w q →
    Turning (task_of w q budget out) out q.prefix (spot_of q) None 0 0
unfolding state_of beginning
starts budget out r = record {
  few = r.words.few;
  standing = r.standing;
  valid = r.valid;
  bounded = r.bounded;
  told = λ found e. absurd (cc);
  going = going-starts;
}

-- ---- at the head of a turn

some-same : {a b : Stop} → Some a ≡ Some b → a ≡ b
some-same e = cc

module _ {T : Task} {out prefix : List ℕ} {at : Spot} {plan : Option Plan} {used made : ℕ}
    (t : Turning T out prefix at plan used made) where
  abbrev st : State
  st = state_at prefix at

  pub opened : is_open T.family (take at.len prefix) ≡ true
  opened = ap (is_open T.family) (sym (stack-back prefix at.len)) ∙ t.valid.open_stack

  pub used-within : used ≤ length out
  used-within = going-used t.going

  -- a record that fits the rest of the output fits the part that is lent
  pub room-in-part : {k : ℕ} → k ≤ length out - used → k ≤ length (take (length out - used) (drop used out))
  room-in-part h = omega (arith, part_length out used used-within)

  pub length-kept : length out ≡ length T.output
  length-kept = going-length t.going

  -- the next atom is n + 1 at most
  pub next-most : at.next ≤ suc T.n
  next-most = omega (arith, valid-next T.family T.lawful st t.valid, T.atoms)

  done-test : is_done T.family.atoms st ≡ eqb at.len 0 && eqb at.next (suc T.n)
  unfolding is_done
  done-test = rw (T.atoms, stack-none prefix at.len t.standing.within)

  record-size : length (record_of (word_at prefix at)) ≡ at.len + 2
  record-size = record-length prefix at.len at.next t.standing.within.size t.standing.short

  -- the record of a word that is listed
  record_is : T.family.member (tried st) ≡ true → lists T.family st ≡ record_of (word_at prefix at)
  record_is e = lists-word T.family st e ∙ ap record_of (tried-word prefix at)

  lists-size : T.family.member (tried st) ≡ true → length (lists T.family st) ≡ at.len + 2
  lists-size e = ap length (record_is e) ∙ record-size

  -- the tests before a trial: each is a way out, and past them a trial follows
  stops-by : {why : Stop} (d l b : Bool) →
      is_done T.family.atoms st ≡ d → at_limit st ≡ l → eqb made T.budget ≡ b →
      cond d (Some Done) (cond l (Some Limit) (cond b (Some Spent) None)) ≡ Some why →
      StopsBy T prefix at used made why
  stops-by true l b d e f why = rw (← some-same why) (run-done _ _ st _ d)
  stops-by false true b d e f why = rw (← some-same why) (run-limit _ _ st d _ e)
  stops-by false false true d e f why =
      rw (← some-same why) (run-spent _ _ st d e _ (omega (arith, eqb-true made T.budget f)))
  stops-by false false false d e f why = absurd (cc)

  goes-by : (d l b : Bool) →
      is_done T.family.atoms st ≡ d → at_limit st ≡ l → eqb made T.budget ≡ b →
      cond d (Some Done) (cond l (Some Limit) (cond b (Some Spent) None)) ≡ None →
      Trying T out prefix at plan used made
  goes-by true l b d e f none = absurd (cc)
  goes-by false true b d e f none = absurd (cc)
  goes-by false false true d e f none = absurd (cc)
  goes-by false false false d e f none = record {
    turning = t;
    not_done = d;
    not_limit = e;
    paid = omega (arith, t.going.in_budget, eqb-false made T.budget f);
  }

  pub stops : {why : Stop} → stop_before at T.n made T.budget ≡ Some why → StopsBy T prefix at used made why
  unfolding at_limit
  stops e = stops-by _ _ _ done-test refl refl e

  pub tries : stop_before at T.n made T.budget ≡ None → Trying T out prefix at plan used made
  unfolding at_limit
  tries e = goes-by _ _ _ done-test refl refl e

  pub answers :
      (q : Search) {search : Search} {why : Stop} → search ≡ search_held q.kind q.s q.t prefix at →
      StopsBy T prefix at used made why →
      Yields q (run T.family T.budget (length T.output) T.from) T.output
      (record { stop = why; search = search; used = used; made = made }) out
  answers q f e =
      going-answers t.going q (f ∙ search-held q.kind q.s q.t prefix at t.standing) e

-- ---- at a trial

module _ {T : Task} {out prefix : List ℕ} {at : Spot} {plan : Option Plan} {used made : ℕ}
    (t : Trying T out prefix at plan used made) where
  abbrev now : State
  now = state_at prefix at

  pub next-range : (1 ≤ at.next) × (at.next ≤ T.n)
  next-range = (t.turning.valid.low, omega (arith, t.turning.valid.within t.not_done, T.atoms))

  pub next-in-set : (1 ≤ at.next) × (at.next ≤ 128)
  next-in-set = omega (arith, next-range, t.turning.few)

  pub counting : Counting T.n at
  counting =
      let b = below-limit now t.turning.bounded t.not_limit in
      record {
        few = t.turning.few;
        low = next-range.0;
        high = next-range.1;
        trials_less = b.trials_less;
        extensions_less = b.extensions_less;
        listed_less = b.listed_less;
      }

  pub stops-full :
      T.family.member (tried now) ≡ true → length out - used < at.len + 2 → StopsBy T prefix at used made Full
  stops-full m h =
      run-full _ _ now t.not_done t.not_limit _ (omega (arith, t.paid))
      (omega (arith, lists-size t.turning m, length-kept t.turning))

  -- a trial that lists its word: the record stands at the start of the part of the output that was lent
  pub written-record :
      {out' part : List ℕ} {used' : ℕ} → T.family.member (tried now) ≡ true → at.len + 2 ≤ length out - used →
      part ≡ record_of (word_at prefix at) ++ drop (at.len + 2) (take (length out - used) (drop used out)) →
      out' ≡ put_mid used (length out - used) out part → used' ≡ used + (at.len + 2) →
      Written T.family out used now out' used'
  written-record {part = part} m room p o u =
      let size = lists-size t.turning m in
      let back = part-back out part (record_of (word_at prefix at)) used (at.len + 2) (used-within t.turning) p in
      record {
        output = rw (size, record_is t.turning m) (o ∙ back);
        count = omega (arith, size);
        fits = omega (arith, size);
      }

  -- a trial after which the beginning is as long as it was: it is the same, and the next atom is raised
  module _ {prefix' : List ℕ} {at' : Spot} {member extends : Bool}
      (a : Acted T.n prefix at member extends prefix' at') (same : at.len ≡ at'.len) where
    same_length : length (act T.n member extends now).stack ≡ length (stack_of prefix at.len)
    same_length =
        ap (λ (s : State). length s.stack) (sym a.state_is)
        ∙ stack-length prefix' at'.len a.within
        ∙ sym same
        ∙ sym (stack-length prefix at.len t.turning.standing.within)

    same_place : place_of (state_at prefix' at') ≡ (stack_of prefix at.len, suc at.next)
    same_place =
        ap place_of a.state_is
        ∙ act-same T.n member extends now (omega (arith, next-range)) same_length

    same-beginning : take at'.len prefix' ≡ take at.len prefix
    same-beginning =
        sym (stack-back prefix' at'.len)
        ∙ ap (λ (place : List ℕ × ℕ). reverse place.0) same_place
        ∙ stack-back prefix at.len

    next-raised : at'.next ≡ suc at.next
    next-raised = ap (λ (place : List ℕ × ℕ). place.1) same_place

    pub not_first : at'.next ≡ 1 → ⊥
    not_first f = let raised = next-raised in omega (arith, next-range)

    -- its word is not open: the beginning was not extended by it, and a member is not open
    not-opening : member ≡ T.family.member (tried now) → extends ≡ is_open T.family (tried now) → extends ≡ false
    unfolding tried
    not-opening = go member extends same_length
      where
        go :
            (m o : Bool) → length (act T.n m o now).stack ≡ length (stack_of prefix at.len) →
            m ≡ T.family.member (tried now) → o ≡ is_open T.family (tried now) → o ≡ false
        go m false l f g = refl
        go true true l f g = g ∙ shut T.family T.lawful (stack_of prefix at.len) at.next (sym f)
        go false true l f g = absurd (act-longer T.n now (omega (arith, next-range)) l)

  module _ {found : Plan} (ahead : Ahead T.family (take at.len prefix) at.next found) where
    told-next : Tells T.family (take at.len prefix) found at.next
    told-next = ahead at.next (omega arith) (λ u l h. absurd (omega arith))

    pub member-told : has found.members at.next ≡ T.family.member (tried now)
    member-told = told-next.members ∙ ap T.family.member (sym (tried-word prefix at))

    open_told : has found.opens at.next ≡ is_open T.family (tried now)
    open_told = told-next.opens ∙ ap (is_open T.family) (sym (tried-word prefix at))

    -- where the next atom does not open, they tell of those after it
    ahead-raised :
        has found.opens at.next ≡ false → Ahead T.family (take at.len prefix) (suc at.next) found
    ahead-raised shut-here v l none = ahead v (omega arith) (λ u k h. go u k h (dec_lt at.next u))
      where
        go : (u : ℕ) → at.next ≤ u → u < v → Dec (at.next < u) → has found.opens u ≡ false
        go u k h (yes past) = none u past h
        go u k h (no other) = let same : u ≡ at.next = omega arith in rw same shut-here

    pub turn :
        {out' prefix' : List ℕ} {used' : ℕ} {at' : Spot} {member extends : Bool} {plan' : Option Plan} →
        Written T.family out used now out' used' → member ≡ has found.members at.next →
        extends ≡ has found.opens at.next → Acted T.n prefix at member extends prefix' at' →
        Kept at.len at'.len found plan' → Turning T out' prefix' at' plan' used' (made + 1)
    turn {out'} {prefix'} {used'} {at'} {member} {extends} w m x a k = record {
      few = old.few;
      standing = record { within = a.within; short = short' };
      valid = valid';
      bounded = rw a.state_is (act-bounded T.n member extends now below);
      told = λ plan e.
          let (is, same) = k plan e in
          let shut-here = sym x ∙ not-opening a same (m ∙ member-told) (x ∙ open_told) in
          rw (is, same-beginning a same, next-raised a same) (ahead-raised shut-here);
      going =
          rw (stepped, w.count)
          (going-turn old.going t.not_done t.not_limit t.paid w.output w.fits);
    }
      where
        old : Turning T out prefix at plan used made
        old = t.turning

        below : Below now
        below = below-limit now old.bounded t.not_limit

        stepped : state_at prefix' at' ≡ trial T.family now
        stepped = a.state_is ∙ act-trial T.family now T.atoms (m ∙ member-told) (x ∙ open_told)

        valid' : Valid T.family (state_at prefix' at')
        valid' = rw stepped (trial-valid T.family T.lawful now old.valid t.not_done)

        short' : at'.len ≤ 127
        short' =
            let shorter = valid-short T.family T.lawful (state_at prefix' at') valid' in
            omega (arith, stack-length prefix' at'.len a.within, old.few)
