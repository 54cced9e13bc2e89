-- From a place of a run to what the fast loop starts from, and from where the fast loop leaves to the unwound place.
-- The sets of the beginning, or its first plan, are kept and found again; a beginning whose next atom is 1 is unwound.
use Prim.Native.Nat.{ℕ, suc, ◌-◌, ◌≤◌, ◌<◌}
use native.Mathlib.Omega.{arith}
use mathlib.Core.Path.{◌≡◌, refl, ap, ap₂, sym, ◌∙◌}
use mathlib.Core.Bool.{◌||◌}
use mathlib.Core.List.{List, [], ◌∷◌}
use Rattle.std.specs.Prelude.{Option, Some}
use lib.ListN.{length, get_or, take, set, take-append-drop}
use lib.Seq.{take-length, get_or-set_same}
use borrow.Author.Tests.{le-leb}
use Rattle.enumeration.specs.Words.{Family}
use Rattle.enumeration.specs.Machine.{placed}
use Rattle.enumeration.specs.Lawful.{Lawful}
use Rattle.enumeration.specs.Makes.{none}
use Rattle.enumeration.proofs.Makes.{unwound-stays}
use Rattle.atomset.specs.Set.{has, linked_by}
use Rattle.openness.specs.declared.Aim.{Aim}
use Rattle.openness.specs.declared.FirstPlan.{FirstPlan}
use Rattle.openness.specs.declared.Wanted.{Wanted}
use Rattle.openness.specs.Plan.{family_wanted, most_atoms, steps_left, first_length, Everywhere, Steered}
use Rattle.search.proofs.Readings.{open-short}
use Rattle.openness.proofs.Arrays.{taken-length}
use Rattle.openness.proofs.Plans.{family-by-lawful, family-by-atoms}
use Rattle.openness.proofs.Aims.{opened-each}
use Rattle.trial.specs.declared.Spot.{Spot}
use Rattle.trial.specs.declared.Place.{Place}
use Rattle.trial.specs.Parts.{stack_of, state_at, Unwound}
use Rattle.trial.proofs.Arrays.{stack-length, unwound-most}
use Rattle.dive.specs.declared.Dived.{Dived}
use Rattle.dive.specs.declared.Level.{Level}
use Rattle.dive.specs.Levels.{LevelRoom, kept_aim, kept_rest, LevelPlanned}
use Rattle.dive.specs.Parts.{Starting, StartPlanned, Descent, Left, Entering, Descended, state_before}
use Rattle.dive.proofs.Levels.{length-kept-aim, goal-kept-same, rest-kept-same, aim-past-rest}
use Rattle.dive.proofs.Levels.{kept-steers, planned-led}

-- a list of one atom
pub one-word : (p : List ℕ) {a : ℕ} → length p ≡ 1 → get_or p 0 0 ≡ a → p ≡ a ∷ []
one-word [] size e = absurd (omega arith)
one-word (x ∷ []) size e = ap (λ (y : ℕ). y ∷ []) e
one-word (x ∷ y ∷ p) size e = absurd (omega arith)

-- ---- what the fast loop starts from

module _ {w : Wanted} {p : List ℕ} {first : Option FirstPlan} {levels : List Level} (b : Starting w p first levels)
    (some : 1 ≤ length p) where
  abbrev family : Family
  family = family_wanted w

  lawful : Lawful family
  lawful = family-by-lawful w.n w.table.now w.kind w.s w.t

  -- it is shorter than n, so there is room for its sets and those of a longer one
  pub longer-room : LevelRoom (suc (length p)) levels
  longer-room =
      let most = open-short family lawful p b.begun.is_opened in
      omega (arith, most, family-by-atoms w.n w.table.now w.kind w.s w.t, some, b.sized)

  pub own-room : LevelRoom (length p) levels
  own-room = omega (arith, longer-room)

  -- the sets steer it: they are kept for its length, and it is planned
  pub starts-steered :
      {aim : Aim} {planned : List Level} {x : ℕ} → first_length w.kind ≤ length p →
      Steered family (linked_by w.table.now) (most_atoms w.kind w.s) p x aim → x ≡ get_or p (length p - 1) 0 →
      LevelPlanned (linked_by w.table.now) w.kind x (length p) (steps_left w.kind w.s (length p))
      (kept_aim levels (length p) aim) planned →
      StartPlanned w p planned
  starts-steered {aim} long steered last_is plan =
      let sets = kept-steers levels (length p) aim own-room steered in
      record {
        some = some;
        stage = record {
          lawful = steered.lawful;
          is_opened = rw (take-length p) steered.is_opened;
          long = λ h. rw (take-length p, ← last_is) (planned-led plan sets);
          short = λ h. absurd (omega arith);
          to_try = λ v low.
              rw (take-length p, le-leb 1 v low)
              (plan.to_try family _ p sets (opened-each b.begun some last_is) refl v);
        };
      }

  -- it is too short for them: the first plan tells of it
  pub starts-short :
      {kept : FirstPlan} (rest : List ℕ) → length p < first_length w.kind → first ≡ Some kept →
      p ≡ kept.atom ∷ [] → ((v : ℕ) → has rest v ≡ (has kept.plan.members v || has kept.plan.opens v)) →
      StartPlanned w p
      (kept_rest (kept_aim levels (length p) (record { goal = kept.plan.members; free = kept.plan.opens })) (length p)
      rest)
  starts-short {kept} rest few is word rest-is =
      let aim : Aim = record { goal = kept.plan.members; free = kept.plan.opens } in
      let longer = kept_aim levels (length p) aim in
      let room : LevelRoom (length p) longer = omega (arith, own-room, length-kept-aim levels (length p) aim) in
      let tells : Everywhere family p kept.plan = rw word (b.tells kept is) in
      record {
        some = some;
        stage = record {
          lawful = lawful;
          is_opened = rw (take-length p) b.begun.is_opened;
          long = λ h. absurd (omega arith);
          short = λ h v.
              ap (λ (k : Aim). has k.goal v) (aim-past-rest longer (length p) rest (length p))
              ∙ goal-kept-same levels (length p) aim own-room v ∙ rw (take-length p) (tells v).members;
          to_try = λ v low.
              rest-kept-same longer (length p) rest room v ∙
              rw (take-length p, le-leb 1 v low) (rest-is v ∙ ap₂ ◌||◌ (tells v).members (tells v).opens);
        };
      }

-- ---- where the fast loop leaves, unwound

pub descent-atoms :
    {w : Wanted} {most : ℕ} {from : Dived} {prefix : List ℕ} {levels : List Level} {out : List ℕ} →
    Descent w most from prefix levels out → 1 ≤ w.n
descent-atoms {w} {from = from} {prefix = prefix} d =
    let short = open-short (family_wanted w) d.stage.lawful (take from.at.len prefix) d.stage.is_opened in
    let size = taken-length prefix from.at.len d.standing.within.size d.standing.within.most in
    omega (arith, short, size, d.some, family-by-atoms w.n w.table.now w.kind w.s w.t)

module _ {F : Family} {n most : ℕ} {prefix₀ : List ℕ} {from : Dived} {out₀ prefix out after : List ℕ} {r : Dived}
    {place : Place} (some : 1 ≤ n) (first : from.at.next ≡ 1) (l : Left F n most prefix₀ from out₀ prefix out r)
    (u : Unwound n prefix r.at.len r.at.next after place) where
  abbrev at : Spot
  at = from.at

  abbrev end : Spot
  end = r.at

  abbrev spot : Spot
  spot = record {
    len = place.len;
    next = place.next;
    trials = end.trials;
    extensions = end.extensions;
    listed = end.listed;
  }

  unwound-short : place.len ≤ 127
  unwound-short =
      let stack = stack_of prefix end.len in
      omega (
        arith,
        stack-length after place.len u.within,
        ap (λ (p : List ℕ × ℕ). length p.0) u.place_is,
        unwound-most n stack end.next,
        stack-length prefix end.len l.held.within,
        l.held.short,
      )

  -- the place that it starts from is unwound
  starts-unwound : state_before n prefix₀ at ≡ state_at prefix₀ at
  starts-unwound =
      let stays = unwound-stays n (stack_of prefix₀ at.len) at.next (omega arith) in
      ap (λ (p : List ℕ × ℕ). placed p at.trials at.extensions at.listed) stays

  ends-unwound : state_before n prefix end ≡ state_at after spot
  ends-unwound =
      ap (λ (p : List ℕ × ℕ). placed p end.trials end.extensions end.listed) (sym u.place_is)

  pub left-unwound :
      Descended F prefix₀ from (most - at.trials) out₀ after out (record { at = spot; used = r.used })
  left-unwound = record {
    bytes = l.bytes;
    held = record { within = u.within; short = unwound-short };
    more = l.more;
    affordable = omega (arith, l.within, l.more);
    makes = rw (starts-unwound, ends-unwound) at l.makes;
    listing = l.listing;
    same = λ other. absurd (other first);
  }

-- no trial is made
pub none_made :
    {w : Wanted} {from : Dived} {first : Option FirstPlan} {prefix : List ℕ} {levels : List Level} {out : List ℕ}
    (F : Family) (left : ℕ) → Entering w from first prefix levels out →
    Descended F prefix from left out prefix out from
none_made {from = from} {prefix = prefix} {out = out} F left e =
    let zero-trials : from.at.trials - from.at.trials ≡ 0 = omega arith in
    record {
      bytes = [];
      held = e.standing;
      more = omega arith;
      affordable = omega arith;
      makes = rw zero-trials none;
      listing = record {
        used_is = omega arith;
        fits = omega (arith, e.in_room);
        output = sym (take-append-drop from.used out);
      };
      same = λ other. (refl, refl);
    }
