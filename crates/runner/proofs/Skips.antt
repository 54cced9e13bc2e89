-- The trials that only raise the next atom: many turns of a run at once.
-- By induction on their number, each a turn of the run that lists nothing and opens nothing.
use Prim.Native.Nat.{ℕ, zero, suc, ◌+◌, ◌-◌, ◌≤◌, ◌<◌}
use native.Mathlib.Omega.{arith}
use mathlib.Core.Path.{◌≡◌, refl, sym, ◌∙◌}
use mathlib.Core.Bool.{false}
use Rattle.std.specs.Prelude.{Option, Some}
use mathlib.Core.List.{List}
use lib.ListN.{take}
use Rattle.enumeration.specs.Machine.{act}
use Rattle.enumeration.proofs.Makes.{not_done, not_limit, unwound-stays}
use Rattle.atomset.specs.Set.{has}
use Rattle.openness.specs.declared.Plan.{Plan}
use Rattle.openness.specs.Plan.{Ahead}
use Rattle.trial.specs.declared.Spot.{Spot}
use Rattle.trial.specs.Parts.{stack_of, state_at, Skips, Idle, skip}
use Rattle.runner.proofs.Trials.{Task, Turning, Trying, member-told, written_none, turn}

-- the place after one trial that only raises the next atom
abbrev raised : Spot → Spot
raised at = record {
  len = at.len;
  next = suc at.next;
  trials = suc at.trials;
  extensions = at.extensions;
  listed = at.listed;
}

raised-state :
    (n : ℕ) (prefix : List ℕ) (at : Spot) → at.next < n →
    state_at prefix (raised at) ≡ act n false false (state_at prefix at)
unfolding act
raised-state n prefix at h = rw (unwound-stays n (stack_of prefix at.len) (suc at.next) h)

skip-none : (at : Spot) → skip 0 at ≡ at
skip-none at =
    let c : at.next + 0 ≡ at.next = omega arith in
    let t : at.trials + 0 ≡ at.trials = omega arith in
    rw (c, t)

skip-more : (k : ℕ) (at : Spot) → skip k (raised at) ≡ skip (suc k) at
skip-more k at =
    let c : suc at.next + k ≡ at.next + suc k = omega arith in
    let t : suc at.trials + k ≡ at.trials + suc k = omega arith in
    rw (c, t)

-- the first of these trials, and those after it
first : {found : Plan} {at : Spot} {n k : ℕ} → Skips found at n (suc k) → Skips found at n 1
first s = record {
  gap = record { within = omega (arith, s.gap.within); idle = λ i h. s.gap.idle i (omega arith) };
  trials_most = omega (arith, s.trials_most);
  extensions_other = s.extensions_other;
  listed_other = s.listed_other;
}

later : {found : Plan} {at : Spot} {n k : ℕ} → Skips found at n (suc k) → Skips found (raised at) n k
later {at = at} s = record {
  gap = record {
    within = omega (arith, s.gap.within);
    idle = λ i h.
        let e : suc at.next + i ≡ at.next + suc i = omega arith in
        rw e (s.gap.idle (suc i) (omega arith));
  };
  trials_most = omega (arith, s.trials_most);
  extensions_other = s.extensions_other;
  listed_other = s.listed_other;
}

-- no trial is skipped
pub skips-none :
    {T : Task} {out prefix : List ℕ} {plan : Option Plan} {used made : ℕ} {at : Spot} →
    Turning T out prefix at plan used made → Turning T out prefix (skip 0 at) plan used (made + 0)
skips-none {made = made} {at = at} t = let m : made + 0 ≡ made = omega arith in rw (m, skip-none at) t

module _ {T : Task} {out prefix : List ℕ} {found : Plan} {used : ℕ} where
  one :
      {at : Spot} {made : ℕ} → Turning T out prefix at (Some found) used made → made < T.budget →
      Skips found at T.n 1 → Turning T out prefix (raised at) (Some found) used (made + 1)
  one {at} {made} t b s =
      turn here told
      (written_none _ _ _ _ (sym (member-told here told) ∙ none.0)) (sym none.0) (sym none.1)
      (record { within = t.standing.within; state_is = raised-state T.n prefix at below })
      (λ kept e. (cc, refl))
    where
      here : Trying T out prefix at (Some found) used made
      here = record {
        turning = t;
        not_done = rw T.atoms (not_done T.n (state_at prefix at) (omega (arith, s.gap.within)));
        not_limit = not_limit _ (omega (arith, s.trials_most)) s.extensions_other s.listed_other;
        paid = b;
      }

      below : at.next < T.n
      below = omega (arith, s.gap.within)

      told : Ahead T.family (take at.len prefix) at.next found
      told = t.told found refl

      none : (has found.members at.next ≡ false) × (has found.opens at.next ≡ false)
      none = let z : at.next + 0 ≡ at.next = omega arith in rw z at (s.gap.idle 0 (omega arith))

  many :
      (k : ℕ) {at : Spot} {made : ℕ} → Turning T out prefix at (Some found) used made → made + k ≤ T.budget →
      Skips found at T.n k → Turning T out prefix (skip k at) (Some found) used (made + k)
  many zero {at} {made} t b s = let m : made + 0 ≡ made = omega arith in rw (m, skip-none at) t
  many (suc k) {at} {made} t b s =
      let m : made + suc k ≡ made + 1 + k = omega arith in
      rw (m, ← skip-more k at) (many k (one t (omega arith) (first s)) (omega arith) (later s))

  pub skips :
      (k : ℕ) {at : Spot} {made : ℕ} → Turning T out prefix at (Some found) used made →
      Idle found at T.n (T.budget - made) k → Turning T out prefix (skip k at) (Some found) used (made + k)
  skips zero t i = skips-none t
  skips (suc k) t i = many (suc k) t (omega (arith, i.affordable, t.going.in_budget)) (i.runs (omega arith))
