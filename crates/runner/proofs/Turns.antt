-- The rest of the work: a run is what is written and made so far, followed by the run from the present state.
-- One law for trials more, one for each way out.
use Prim.Native.Nat.{ℕ, ◌+◌, ◌-◌, ◌≤◌, ◌<◌}
use native.Mathlib.Omega.{arith}
use mathlib.Core.Path.{◌≡◌, refl, ap, sym, ◌∙◌}
use mathlib.Core.Bool.{Bool, true, false}
use mathlib.Core.List.{List, [], ◌++◌, append_assoc, append-nil}
use lib.ListN.{length, take, drop, length-append, length-drop}
use lib.Seq.{take_at, drop_at, drop-drop}
use lib.Dec.{eqb}
use borrow.Author.Tests.{eqb-false}
use Rattle.enumeration.specs.declared.Stop.{Stop}
use Rattle.enumeration.specs.Words.{Family}
use Rattle.enumeration.specs.Machine.{State, is_done, act, trial}
use Rattle.enumeration.specs.Run.{Outcome, limit, at_limit, lists, stopped, run}
use Rattle.enumeration.specs.RunFacts.{Bounded}
use Rattle.enumeration.specs.Makes.{Makes, onto}
use Rattle.enumeration.proofs.Makes.{onto-none, onto-onto, makes_one, makes-run}
pub use Rattle.enumeration.proofs.Running.{run-done, run-limit, run-spent, run-full}
use Rattle.search.specs.declared.Search.{Search}
use Rattle.search.specs.declared.Ran.{Ran}
use Rattle.search.specs.Place.{search_at}
use Rattle.trial.proofs.Gaps.{none-at-limit}
use Rattle.runner.specs.Parts.{Yields}

-- ---- counts

-- no count stands at the limit
pub record Below (st : State) : Type 0 where
  pub trials_less : st.trials < limit
  pub extensions_less : st.extensions < limit
  pub listed_less : st.listed < limit

less : (x : ℕ) → x ≤ limit → eqb x limit ≡ false → x < limit
less x h e = omega (arith, eqb-false x limit e)

pub below-limit : (st : State) → Bounded st → at_limit st ≡ false → Below st
unfolding at_limit
below-limit st b e =
    let counts = none-at-limit st.trials st.extensions st.listed e in
    record {
      trials_less = less st.trials b.trials_most counts.trials_other;
      extensions_less = less st.extensions b.extensions_most counts.extensions_other;
      listed_less = less st.listed b.listed_most counts.listed_other;
    }

pub act-bounded : (n : ℕ) (member extends : Bool) (st : State) → Below st → Bounded (act n member extends st)
unfolding act
act-bounded n true extends st b = omega (arith, b)
act-bounded n false true st b = omega (arith, b)
act-bounded n false false st b = omega (arith, b)

-- ---- the rest of the work

onto-stopped :
    (bytes : List ℕ) (made : ℕ) (st : State) (why : Stop) →
    onto bytes made (stopped st why) ≡ record { state = st; stop = why; bytes = bytes; made = made }
onto-stopped bytes made st why = let m : made + 0 ≡ made = omega arith in rw (m, append-nil bytes)

-- after `made` trials of a run from st₀, which wrote `bytes`, the search stands at st
pub record Going (F : Family) (budget : ℕ) (out₀ : List ℕ) (st₀ : State) (out : List ℕ) (st : State) (used made : ℕ)
    : Type 0 where
  pub bytes : List ℕ
  pub wrote : out ≡ bytes ++ drop (length bytes) out₀
  pub used_is : used ≡ length bytes
  pub in_room : length bytes ≤ length out₀
  pub in_budget : made ≤ budget
  pub rest : run F budget (length out₀) st₀ ≡ onto bytes made (run F (budget - made) (length out₀ - length bytes) st)

module _ {F : Family} {budget : ℕ} {out₀ : List ℕ} {st₀ : State} where
  pub going-starts : Going F budget out₀ st₀ out₀ st₀ 0 0
  going-starts = record {
    bytes = [];
    wrote = refl;
    used_is = refl;
    in_room = omega arith;
    in_budget = omega arith;
    rest =
        let b : budget - 0 ≡ budget = omega arith in
        let r : length out₀ - 0 ≡ length out₀ = omega arith in
        rw (b, r) (onto-none (run F budget (length out₀) st₀));
  }

  module _ {out : List ℕ} {st : State} {used made : ℕ} (g : Going F budget out₀ st₀ out st used made) where
    pub going-length : length out ≡ length out₀
    going-length =
        ap length g.wrote
        ∙ length-append g.bytes (drop (length g.bytes) out₀)
        ∙ omega (arith, length-drop (length g.bytes) out₀, g.in_room)

    pub going-used : used ≤ length out
    going-used = omega (arith, g.used_is, g.in_room, going-length)

    -- the output after more trials, which write `new`
    abbrev pub further : List ℕ → List ℕ
    further new = take used out ++ (new ++ drop (length new) (drop used out))

    pub going-makes :
        {last : State} {k : ℕ} {new out' : List ℕ} → Makes F last st k new → made + k ≤ budget →
        used + length new ≤ length out₀ → out' ≡ further new →
        Going F budget out₀ st₀ out' last (used + length new) (made + k)
    going-makes {last} {k} {new} m b h e = record {
      bytes = g.bytes ++ new;
      wrote = e ∙ written;
      used_is = omega (arith, both, g.used_is);
      in_room = omega (arith, both, g.used_is);
      in_budget = b;
      rest = g.rest ∙ ap (onto g.bytes made) turned ∙ onto-onto g.bytes new made k later;
    }
      where
        -- the run after them
        later : Outcome
        later = run F (budget - (made + k)) (length out₀ - length (g.bytes ++ new)) last

        both : length (g.bytes ++ new) ≡ length g.bytes + length new
        both = length-append g.bytes new

        front : take used out ≡ g.bytes
        front = ap (take used) g.wrote ∙ take_at g.bytes (drop (length g.bytes) out₀) used (sym g.used_is)

        back : drop used out ≡ drop (length g.bytes) out₀
        back = ap (drop used) g.wrote ∙ drop_at g.bytes (drop (length g.bytes) out₀) used (sym g.used_is)

        written : further new ≡ (g.bytes ++ new) ++ drop (length (g.bytes ++ new)) out₀
        written =
            rw (front, back, both, drop-drop (length new) (length g.bytes) out₀)
            (sym (append_assoc g.bytes new _))

        turned : run F (budget - made) (length out₀ - length g.bytes) st ≡ onto new k later
        turned =
            let room = length out₀ - length g.bytes in
            let trials : budget - (made + k) ≡ budget - made - k = omega arith in
            let left : length out₀ - length (g.bytes ++ new) ≡ room - length new = omega (arith, both) in
            rw (trials, left) (makes-run m (budget - made) room (omega arith) (omega (arith, g.used_is)))

    module _ (d : is_done F.atoms st ≡ false) (l : at_limit st ≡ false) (b : made < budget) where
      pub going-turn :
          {next : List ℕ} → next ≡ further (lists F st) → length (lists F st) ≤ length out - used →
          Going F budget out₀ st₀ next (trial F st) (used + length (lists F st)) (made + 1)
      going-turn e h = going-makes (makes_one d l) (omega arith) (omega (arith, going-length, going-used)) e

    -- a way out: the outcome of the whole run
    going-ends :
        {why : Stop} → run F (budget - made) (length out₀ - used) st ≡ stopped st why →
        run F budget (length out₀) st₀ ≡ record { state = st; stop = why; bytes = g.bytes; made = made }
    going-ends {why} e =
        g.rest ∙ ap (onto g.bytes made) (rw g.used_is at e) ∙ onto-stopped g.bytes made st why

    pub going-answers :
        (q : Search) {at : Search} {why : Stop} → at ≡ search_at q.kind q.s q.t st →
        run F (budget - made) (length out₀ - used) st ≡ stopped st why →
        let result : Ran = record { stop = why; search = at; used = used; made = made } in
        Yields q (run F budget (length out₀) st₀) out₀ result out
    going-answers q f e = rw (going-ends e) (record { result = rw (f, g.used_is); output = g.wrote })
