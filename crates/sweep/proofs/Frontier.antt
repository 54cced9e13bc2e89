-- The sweep is sound and complete: after so many rounds a wanted atom is decided exactly when a target is reached from
-- it in at most so many steps. The invariant: neighbours of the frontier reach a target in a step more, and an atom
-- that is a target, or free and seen, is in the frontier or has its neighbours decided and seen.
use Prim.Native.Nat.{ℕ, suc, ◌+◌, ◌-◌}
use native.Mathlib.Omega.{arith}
use mathlib.Core.Path.{◌≡◌, ap, sym, ◌∙◌}
use mathlib.Core.Bool.{Bool, true, false, ◌&&◌, ◌||◌, not}
use mathlib.Core.Logic.{◌≢◌, ◌⊎◌, inl, inr, ◌↔◌}
use Rattle.graph.specs.Chordless.{Adjacency}
use Rattle.graph.proofs.Below.{clash, either, and_both, and_parts, not-of, false_of}
use Rattle.enumeration.proofs.Basics.{or-either, or_left, or_right}
use Rattle.chordless.specs.Reach.{Symmetric, Walk, there, through, Reaches}
use Rattle.chordless.proofs.Shortest.{walk-within}
use Rattle.sweep.specs.Swept.{Reached}
use Rattle.sweep.proofs.Walks.{reaches-longer}

-- v is not left to decide, and it is no free atom that was in no round
pub record Passed (left unseen : ℕ → Bool) (v : ℕ) : Type 0 where
  pub decided : left v ≡ false
  pub seen : unseen v ≡ false

-- in the frontier, or done: the atoms bonded to w are passed
abbrev pub Settled : Adjacency → (ℕ → Bool) → (ℕ → Bool) → (ℕ → Bool) → ℕ → Type 0
Settled adj left unseen pending w =
    (pending w ≡ true) ⊎ ((v : ℕ) → adj v w ≡ true → Passed left unseen v)

-- v is bonded to an atom of the round
abbrev pub Beside : Adjacency → (ℕ → Bool) → ℕ → Type 0
Beside adj taken v = (x : ℕ) × (taken x ≡ true) × (adj v x ≡ true)

-- of `steps` rounds, `rounds` are still to do, the next one with the atoms of `pending`
pub record Frontier (adj : Adjacency) (free target want : ℕ → Bool) (steps rounds : ℕ)
    (left unseen pending : ℕ → Bool) : Type 0 where
  pub done : ℕ
  pub count : done + rounds ≡ steps
  pub sound : (v : ℕ) → want v ≡ true → left v ≡ false → Reaches adj free target done v
  pub complete : (v : ℕ) → Reaches adj free target done v → Passed left unseen v
  pub sources : (w : ℕ) → pending w ≡ true → (v : ℕ) → adj v w ≡ true → Reaches adj free target (suc done) v
  pub unseen_free : (w : ℕ) → unseen w ≡ true → free w ≡ true
  pub targets_settled : (w : ℕ) → target w ≡ true → Settled adj left unseen pending w
  pub seen_settled : (w : ℕ) → free w ≡ true → unseen w ≡ false → Settled adj left unseen pending w

-- at first nothing is decided or seen, and the targets are the frontier
pub frontier-start :
    {adj : Adjacency} {free target want : ℕ → Bool} {steps : ℕ} →
    Frontier adj free target want steps steps want free target
frontier-start {free = free} {want = want} =
    record {
      done = 0;
      count = omega arith;
      sound = λ v w d. absurd (clash (want v) w d);
      complete = λ v (b, is-target, walk). elim walk [ ];
      sources = λ w t v e. (w, t, there e);
      unseen_free = λ w u. u;
      targets_settled = λ w t. inl t;
      seen_settled = λ w f s. absurd (clash (free w) f s);
    }

-- ---- the end

-- of the wanted atoms those are decided from which a target is reached in at most d steps
abbrev pub Decides : Adjacency → (ℕ → Bool) → (ℕ → Bool) → ℕ → (ℕ → Bool) → (ℕ → Bool) → Type 0
Decides adj free target d want left = (v : ℕ) → want v ≡ true → (left v ≡ false) ↔ Reaches adj free target d v

-- those that are not left are reached
pub decides-reached :
    {adj : Adjacency} {free target want left rest : ℕ → Bool} {d : ℕ} → Decides adj free target d want left →
    ((a : ℕ) → rest a ≡ (want a && not (left a))) → Reached adj free target d want rest
decides-reached {adj} {free} {target} {want} {left} {rest} {d} decides rest-is v = (sound, λ r. complete r.0 r.1)
  where
    sound : rest v ≡ true → (want v ≡ true) × Reaches adj free target d v
    sound e =
        let (wanted, gone) = and_parts (want v) (not (left v)) (sym (rest-is v) ∙ e) in
        (wanted, (decides v wanted).0 (false_of (left v) (λ l. clash (not (left v)) gone (ap not l))))

    complete : want v ≡ true → Reaches adj free target d v → rest v ≡ true
    complete wanted r =
        rest-is v ∙ and_both (want v) (not (left v)) wanted (not-of (left v) ((decides v wanted).1 r))

module _ {adj : Adjacency} {free target want : ℕ → Bool} {steps rounds : ℕ} {left unseen pending : ℕ → Bool}
    (f : Frontier adj free target want steps rounds left unseen pending) where
  sound-all : (v : ℕ) → want v ≡ true → left v ≡ false → Reaches adj free target steps v
  sound-all v wanted gone = reaches-longer {d = f.done} (omega (arith, f.count)) (f.sound v wanted gone)

  -- every round is done
  pub frontier-used : rounds ≡ 0 → Decides adj free target steps want left
  frontier-used none v wanted = (
    sound-all v wanted,
    λ r. (f.complete v (reaches-longer {d = steps} (omega (arith, f.count)) r)).decided,
  )

  -- the frontier is empty
  pub frontier-end : ((a : ℕ) → pending a ≡ false) → Decides adj free target steps want left
  frontier-end none v wanted = (
    sound-all v wanted,
    λ (b, is-target, walk).
        (walk-within adj (Passed left unseen) (around b (f.targets_settled b is-target))
        (λ u w e a p. around w (f.seen_settled w a p.seen) u e) walk).decided,
  )
    where
      around : (w : ℕ) → Settled adj left unseen pending w → (u : ℕ) → adj u w ≡ true → Passed left unseen u
      around w (inl p) = absurd (clash (pending w) p (none w))
      around w (inr s) = s

  -- what is decided next to the frontier is reached in a step more
  sound-next :
      {left' : ℕ → Bool} → ((v : ℕ) → left v ≡ true → left' v ≡ false → Beside adj pending v) → (v : ℕ) →
      want v ≡ true → left' v ≡ false → Reaches adj free target (suc f.done) v
  sound-next beside v wanted gone = elim (either (left v)) [
    | inl l ↦ let (x, is-in, bond) = beside v l gone in f.sources x is-in v bond
    | inr l ↦ reaches-longer {d = f.done} (omega arith) (f.sound v wanted l)
  ]

  -- nothing is left to decide
  pub frontier-decided :
      {left' : ℕ → Bool} → ((v : ℕ) → left v ≡ true → left' v ≡ false → Beside adj pending v) → rounds ≢ 0 →
      ((v : ℕ) → left' v ≡ false) → Decides adj free target steps want left'
  frontier-decided beside more none v wanted = (
    λ gone. reaches-longer {d = suc f.done} (omega (arith, f.count)) (sound-next beside v wanted gone),
    λ r. none v,
  )

-- ---- one round

-- What a round of the atoms `taken₀` has done so far: `taken` are still to do, and `front` are for the next round
pub record Round (adj : Adjacency) (left₀ unseen₀ taken₀ left unseen taken front : ℕ → Bool) : Type 0 where
  pub still : (v : ℕ) → Passed left₀ unseen₀ v → Passed left unseen v
  pub fewer : (w : ℕ) → taken w ≡ true → taken₀ w ≡ true
  pub settles : (w : ℕ) → taken₀ w ≡ true → Settled adj left unseen taken w
  pub decides : (v : ℕ) → left₀ v ≡ true → left v ≡ false → Beside adj taken₀ v
  pub were_unseen : (w : ℕ) → unseen w ≡ true → unseen₀ w ≡ true
  pub joins : (w : ℕ) → unseen₀ w ≡ true → unseen w ≡ false → front w ≡ true
  pub front_only : (w : ℕ) → front w ≡ true → (unseen₀ w ≡ true) × Beside adj taken₀ w

pub round-start :
    {adj : Adjacency} {left unseen taken₀ taken front : ℕ → Bool} → ((a : ℕ) → taken₀ a ≡ true → taken a ≡ true) →
    ((a : ℕ) → taken a ≡ true → taken₀ a ≡ true) → ((a : ℕ) → front a ≡ false) →
    Round adj left unseen taken₀ left unseen taken front
round-start {left = left} {unseen} {front = front} to from none =
    record {
      still = λ v p. p;
      fewer = from;
      settles = λ w k. inl (to w k);
      decides = λ v l d. absurd (clash (left v) l d);
      were_unseen = λ w u. u;
      joins = λ w u s. absurd (clash (unseen w) u s);
      front_only = λ w k. absurd (clash (front w) k (none w));
    }

-- all but the rest are taken from the round, and near are the atoms bonded to an atom taken
pub record Taken (adj : Adjacency) (taken rest near : ℕ → Bool) : Type 0 where
  pub fewer : (x : ℕ) → rest x ≡ true → taken x ≡ true
  pub only : (a : ℕ) → near a ≡ true → (x : ℕ) × (taken x ≡ true) × (adj x a ≡ true)
  pub settles : (x : ℕ) → taken x ≡ true → (rest x ≡ true) ⊎ ((a : ℕ) → adj x a ≡ true → near a ≡ true)

module _ {adj : Adjacency} {left₀ unseen₀ taken₀ left unseen taken front : ℕ → Bool}
    (r : Round adj left₀ unseen₀ taken₀ left unseen taken front) where
  -- no atom is taken
  pub round-skip :
      {rest : ℕ → Bool} → ((w : ℕ) → taken w ≡ true → rest w ≡ true) → ((w : ℕ) → rest w ≡ true → taken w ≡ true) →
      Round adj left₀ unseen₀ taken₀ left unseen rest front
  round-skip {rest} to from =
      record {
        still = r.still;
        fewer = λ w k. r.fewer w (from w k);
        settles = λ w k. settles w (r.settles w k);
        decides = r.decides;
        were_unseen = r.were_unseen;
        joins = r.joins;
        front_only = r.front_only;
      }
    where
      settles : (w : ℕ) → Settled adj left unseen taken w → Settled adj left unseen rest w
      settles w (inl k) = inl (to w k)
      settles w (inr s) = inr s

  -- at its end the frontier is the next round
  pub round-end :
      {free target want : ℕ → Bool} {steps rounds : ℕ} → ((a : ℕ) → taken a ≡ false) → rounds ≢ 0 →
      Frontier adj free target want steps rounds left₀ unseen₀ taken₀ →
      Frontier adj free target want steps (rounds - 1) left unseen front
  round-end {free} {target} none more f =
      record {
        done = suc f.done;
        count = omega (arith, f.count);
        sound = sound-next f r.decides;
        complete = λ v (b, is-target, walk). complete b is-target v walk;
        sources = sources;
        unseen_free = λ w u. f.unseen_free w (r.were_unseen w u);
        targets_settled = λ w k. inr (around w (f.targets_settled w k));
        seen_settled = seen_settled;
      }
    where
      around : (w : ℕ) → Settled adj left₀ unseen₀ taken₀ w → (v : ℕ) → adj v w ≡ true → Passed left unseen v
      around w (inr s) v e = r.still v (s v e)
      around w (inl k) v e = elim (r.settles w k) [
        | inl t ↦ absurd (clash (taken w) t (none w))
        | inr s ↦ s v e
      ]

      complete :
          (b : ℕ) → target b ≡ true → (v : ℕ) → Walk adj free b (suc f.done) v → Passed left unseen v
      complete b is-target v (there e) = around b (f.targets_settled b is-target) v e
      complete b is-target v (through {w = w} e a walk) =
          around w (f.seen_settled w a (f.complete w (b, is-target, walk)).seen) v e

      sources :
          (w : ℕ) → front w ≡ true → (v : ℕ) → adj v w ≡ true → Reaches adj free target (suc (suc f.done)) v
      sources w k v e =
          let (was, (x, is-in, bond)) = r.front_only w k in
          let (b, is-target, walk) = f.sources x is-in w bond in
          (b, is-target, through e (f.unseen_free w was) walk)

      seen_settled : (w : ℕ) → free w ≡ true → unseen w ≡ false → Settled adj left unseen front w
      seen_settled w a s = elim (either (unseen₀ w)) [
        | inl u ↦ inl (r.joins w u s)
        | inr u ↦ inr (around w (f.seen_settled w a u))
      ]

  -- the wanted atoms near those taken are decided
  module _ {rest near left' : ℕ → Bool} (symmetric : Symmetric adj) (t : Taken adj taken rest near)
      (left_is : (a : ℕ) → left' a ≡ (left a && not (near a))) where
    beside : (v : ℕ) → near v ≡ true → Beside adj taken₀ v
    beside v e = let (x, was, bond) = t.only v e in (x, r.fewer x was, symmetric v x ∙ bond)

    pub decides-next : (v : ℕ) → left₀ v ≡ true → left' v ≡ false → Beside adj taken₀ v
    decides-next v was gone = elim (either (near v)) [
      | inl n ↦ beside v n
      | inr n ↦
          r.decides v was
          (false_of (left v) (λ l. clash (left' v)
          (left_is v ∙ and_both (left v) (not (near v)) l (not-of (near v) n)) gone))
    ]

    -- the free atoms near those taken that were in no round are in the next one
    module _ {fresh unseen' front' : ℕ → Bool} (fresh-is : (a : ℕ) → fresh a ≡ (near a && unseen a))
        (unseen-is : (a : ℕ) → unseen' a ≡ (unseen a && not (fresh a)))
        (front-is : (a : ℕ) → front' a ≡ (front a || fresh a)) where
      was-left : (w : ℕ) → left' w ≡ true → (left w ≡ true) × (not (near w) ≡ true)
      was-left w e = and_parts (left w) (not (near w)) (sym (left_is w) ∙ e)

      was-unseen : (w : ℕ) → unseen' w ≡ true → (unseen w ≡ true) × (not (fresh w) ≡ true)
      was-unseen w e = and_parts (unseen w) (not (fresh w)) (sym (unseen-is w) ∙ e)

      fresh-parts : (w : ℕ) → fresh w ≡ true → (near w ≡ true) × (unseen w ≡ true)
      fresh-parts w e = and_parts (near w) (unseen w) (sym (fresh-is w) ∙ e)

      -- what was passed, and what is near
      still-passed : (v : ℕ) → Passed left unseen v → Passed left' unseen' v
      still-passed v p =
          record {
            decided = false_of (left' v) (λ e. clash (left v) (was-left v e).0 p.decided);
            seen = false_of (unseen' v) (λ e. clash (unseen v) (was-unseen v e).0 p.seen);
          }

      near-passed : (v : ℕ) → near v ≡ true → Passed left' unseen' v
      near-passed v n =
          record {
            decided = false_of (left' v) (λ l. clash (not (near v)) (was-left v l).1 (ap not n));
            seen = false_of (unseen' v) (λ u. twice (was-unseen v u));
          }
        where
          twice : (unseen v ≡ true) × (not (fresh v) ≡ true) → ⊥
          twice (u, gone) =
              clash (not (fresh v)) gone (ap not (fresh-is v ∙ and_both (near v) (unseen v) n u))

      settles-next : (w : ℕ) → Settled adj left unseen taken w → Settled adj left' unseen' rest w
      settles-next w (inr s) = inr (λ v e. still-passed v (s v e))
      settles-next w (inl k) = elim (t.settles w k) [
        | inl rest_in ↦ inl rest_in
        | inr near-all ↦ inr (λ v e. near-passed v (near-all v (symmetric w v ∙ e)))
      ]

      joins-next : (w : ℕ) → unseen₀ w ≡ true → unseen' w ≡ false → front' w ≡ true
      joins-next w was s = front-is w ∙ split (either (fresh w))
        where
          split : (fresh w ≡ true) ⊎ (fresh w ≡ false) → (front w || fresh w) ≡ true
          split (inl k) = or_right (front w) (fresh w) k
          split (inr k) =
              or_left (front w) (fresh w)
              (r.joins w was (false_of (unseen w) (λ u. clash (unseen' w)
              (unseen-is w ∙ and_both (unseen w) (not (fresh w)) u (not-of (fresh w) k)) s)))

      front-next : (w : ℕ) → front' w ≡ true → (unseen₀ w ≡ true) × Beside adj taken₀ w
      front-next w k = elim (or-either (front w) (fresh w) (sym (front-is w) ∙ k)) [
        | inl was ↦ r.front_only w was
        | inr new ↦ let (n, u) = fresh-parts w new in (r.were_unseen w u, beside w n)
      ]

      pub round-step : Round adj left₀ unseen₀ taken₀ left' unseen' rest front'
      round-step =
          record {
            still = λ v p. still-passed v (r.still v p);
            fewer = λ w k. r.fewer w (t.fewer w k);
            settles = λ w k. settles-next w (r.settles w k);
            decides = decides-next;
            were_unseen = λ w u. r.were_unseen w (was-unseen w u).0;
            joins = joins-next;
            front_only = front-next;
          }
