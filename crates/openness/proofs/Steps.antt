-- The two sets at an open beginning: which atoms they tell open, and the plan they make.
-- From the laws of `Steers`; the sets handed on are equal at every atom, so they are equal as functions.
use Prim.Native.Nat.{ℕ, suc, ◌-◌}
use mathlib.Core.Path.{◌≡◌, sym, fun_ext, ◌∙◌}
use mathlib.Core.Bool.{Bool, true, ◌&&◌, not}
use mathlib.Core.List.{List, [], ◌∷◌, ◌++◌}
use lib.ListN.{length}
use borrow.Author.Tests.{not-true}
use Rattle.graph.specs.Chordless.{Adjacency}
use Rattle.graph.proofs.Below.{clash, false_of, same_test, and_parts, and_both, not-of}
use Rattle.enumeration.specs.Words.{Family, is_open}
use Rattle.chordless.specs.Reach.{Reaches}
use Rattle.chordless.specs.Steers.{without}
use Rattle.chordless.proofs.Steers.{steers-member, steers-open, sole-opens, member-shuts}
use Rattle.atomset.specs.Set.{has, Emptiness, AtMostOne}
use Rattle.sweep.specs.Swept.{Reached}
use Rattle.openness.specs.declared.Aim.{Aim}
use Rattle.openness.specs.declared.Beside.{Beside}
use Rattle.openness.specs.Plan.{HandedOn, PlansBy}
use Rattle.openness.specs.Parts.{BesideLast, Stepping}

-- the atoms bonded to atom x
abbrev pub Row : Adjacency → ℕ → (ℕ → Bool) → Type 0
Row adj x row = (u : ℕ) → row u ≡ adj x u

-- ---- what opens

module _ {F : Family} {adj : Adjacency} {kind most : ℕ} {p : List ℕ} {x : ℕ} {aim next : Aim} {steps : ℕ}
    {members want : List ℕ} (k : Stepping F adj kind most p x aim next steps members want) where
  -- the atoms that the sets handed on reach, as those of `Onward`
  abbrev Ahead : ℕ → Type 0
  Ahead v = Reaches adj (has next.free) (has next.goal) steps v

  abbrev Onwards : ℕ → Type 0
  Onwards v =
      Reaches adj (without adj x (has aim.free)) (without adj x (has aim.goal)) (most - suc (length p)) v

  ahead-onwards : (v : ℕ) → Ahead v → Onwards v
  ahead-onwards v r = rw (fun_ext k.handed.free-left, fun_ext k.handed.goal-left, k.left) at r

  onwards-ahead : (v : ℕ) → Onwards v → Ahead v
  onwards-ahead v r = rw (fun_ext k.handed.free-left, fun_ext k.handed.goal-left, k.left) r

  -- an atom that opens is a candidate, and something is ahead of it
  opening-wanted : (v : ℕ) → is_open F (p ++ v ∷ []) ≡ true → has want v ≡ true
  opening-wanted v o =
      k.want_is v ∙ ((steers-open k.steered.steers k.steered.is_opened v).0 o).touches

  opening-ahead : (v : ℕ) → is_open F (p ++ v ∷ []) ≡ true → Ahead v
  opening-ahead v o =
      onwards-ahead v ((steers-open k.steered.steers k.steered.is_opened v).0 o).reaches

  -- no atom may close a member later: nothing opens
  pub nothing-ahead :
      {empty : Bool} → Emptiness next.goal empty → empty ≡ true → (v : ℕ) →
      has next.goal v ≡ is_open F (p ++ v ∷ [])
  nothing-ahead told empties v =
      let none = told.none empties in
      none v ∙
      sym (false_of (is_open F (p ++ v ∷ []))
      (λ o. let (b, goal, walk) = opening-ahead v o in clash (has next.goal b) goal (none b)))

  -- there is no candidate: nothing opens
  pub nothing-wanted :
      {empty : Bool} → Emptiness want empty → empty ≡ true → (v : ℕ) → has want v ≡ is_open F (p ++ v ∷ [])
  nothing-wanted told empties v =
      let none = told.none empties in
      none v ∙ sym (false_of (is_open F (p ++ v ∷ [])) (λ o. clash (has want v) (opening-wanted v o) (none v)))

  -- no member, and one candidate at most: it opens
  pub sole-candidate :
      {empty sole : Bool} → Emptiness members empty → empty ≡ true → AtMostOne want sole → sole ≡ true → (v : ℕ) →
      has want v ≡ is_open F (p ++ v ∷ [])
  sole-candidate no_member empties one alone v =
      same_test (has want v) (is_open F (p ++ v ∷ [])) (λ h. opens (sym (k.want_is v) ∙ h)) (opening-wanted v)
    where
      opens : (has aim.free v && adj x v) ≡ true → is_open F (p ++ v ∷ []) ≡ true
      opens =
          sole-opens k.steered.lawful k.steered.steers k.steered.some k.steered.is_opened
          (λ u. sym (k.members_is u) ∙ no_member.none empties u)
          (λ u w a b. one.sole alone u w (k.want_is u ∙ a) (k.want_is w ∙ b)) v

  -- of shortest paths each candidate opens that makes no member
  pub each_opens :
      {opens : ℕ → Bool} → kind ≡ 3 → ((v : ℕ) → opens v ≡ (has want v && not (has members v))) → (v : ℕ) →
      opens v ≡ is_open F (p ++ v ∷ [])
  each_opens three opens-is v =
      opens-is v ∙ same_test (has want v && not (has members v)) (is_open F (p ++ v ∷ [])) to back
    where
      member_is : F.member (p ++ v ∷ []) ≡ has members v
      member_is = steers-member k.steered.steers k.steered.is_opened v ∙ sym (k.members_is v)

      to : (has want v && not (has members v)) ≡ true → is_open F (p ++ v ∷ []) ≡ true
      to e =
          let (wanted, other) = and_parts (has want v) (not (has members v)) e in
          let (free, bonded) = and_parts (has aim.free v) (adj x v) (sym (k.want_is v) ∙ wanted) in
          k.each three v bonded (member_is ∙ not-true (has members v) other)

      back : is_open F (p ++ v ∷ []) ≡ true → (has want v && not (has members v)) ≡ true
      back o =
          let none = false_of (has members v) (λ m.
          clash (is_open F (p ++ v ∷ [])) o (member-shuts k.steered.lawful p v (member_is ∙ m))) in
          and_both (has want v) (not (has members v)) (opening-wanted v o) (not-of (has members v) none)

  -- otherwise the sweep tells
  pub sweep-opens :
      {swept : ℕ → Bool} → Reached adj (has next.free) (has next.goal) steps (has want) swept → (v : ℕ) →
      swept v ≡ is_open F (p ++ v ∷ [])
  sweep-opens {swept} reached v =
      same_test (swept v) (is_open F (p ++ v ∷ [])) (λ h. opens ((reached v).0 h))
      (λ o. (reached v).1 (opening-wanted v o, opening-ahead v o))
    where
      opens : (has want v ≡ true) × Ahead v → is_open F (p ++ v ∷ []) ≡ true
      opens (wanted, ahead) =
          (steers-open k.steered.steers k.steered.is_opened v).1
          (record { touches = sym (k.want_is v) ∙ wanted; reaches = ahead-onwards v ahead })

-- ---- the plan

module _ {adj : Adjacency} {x : ℕ} {aim next : Aim} {near : Beside} (handed : HandedOn adj x aim next)
    (k : BesideLast adj x aim near) where
  pub plan-told :
      {kind steps : ℕ} {opens : List ℕ} →
      ((F : Family) (most : ℕ) (p : List ℕ) (y : ℕ) (before : Aim) →
      Stepping F adj kind most p y before next steps near.members near.want →
      (v : ℕ) → has opens v ≡ is_open F (p ++ v ∷ [])) →
      PlansBy adj kind x aim steps (record { members = near.members; opens = opens })
  plan-told opens-is F most p steered each left v =
      record {
        members = k.members_is v ∙ sym (steers-member steered.steers steered.is_opened v);
        opens =
            opens-is F most p x aim
            (record {
              steered = steered;
              each = each;
              left = left;
              handed = handed;
              members_is = k.members_is;
              want_is = k.want_is;
            })
            v;
      }
