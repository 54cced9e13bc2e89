-- A beginning in its array against the stack of the machine: an atom more, an atom less, unwinding and a trial.
-- The places past the beginning hold 0, so the array is told by the stack.
use Prim.Native.Nat.{ℕ, zero, suc, ◌+◌, ◌-◌, ◌≤◌, ◌<◌}
use native.Mathlib.Decide.{dec_lt}
use native.Mathlib.Numerals.{add-one}
use native.Mathlib.Omega.{arith}
use mathlib.Core.Path.{◌≡◌, refl, ap, sym, subst, ◌∙◌}
use mathlib.Core.Bool.{Bool, true, false, cond}
use mathlib.Core.List.{List, [], ◌∷◌, ◌++◌, reverse, reverse-append, reverse-reverse, reverse-cons}
use lib.ListN.{length, get_or, take, set, length-set, length-reverse}
use lib.Seq.{take-suc, take-suc-set, take-set-le, get_or-set_same, get_or-set_other, length-take-le}
use lib.Dec.{eqb}
use mathlib.Core.Logic.{◌⊎◌, inl, inr}
use Rattle.std.specs.Int.{from_bool}
use Rattle.graph.proofs.Below.{clash}
use borrow.Author.Tests.{eq-eqb, ne_eqb}
use Rattle.enumeration.specs.Machine.{State, tried, unwound, placed, act}
use Rattle.search.specs.Place.{beginning, held, search_at}
use Rattle.search.proofs.Views.{held-beginning}
use Rattle.trial.specs.declared.Spot.{Spot}
use Rattle.trial.specs.declared.Place.{Place}
use Rattle.trial.specs.Parts.{stack_of, state_at, search_held, Held, HeldWithRoom, Counting, Unwound, Acted}

-- ---- an atom more and an atom less

pub stack-length : (prefix : List ℕ) (len : ℕ) → Held prefix len → length (stack_of prefix len) ≡ len
stack-length prefix len h =
    length-reverse (take len prefix) ∙ length-take-le len prefix (omega (arith, h.size, h.most))

pub stack-back : (prefix : List ℕ) (len : ℕ) → reverse (stack_of prefix len) ≡ take len prefix
stack-back prefix len = reverse-reverse (take len prefix)

pub stack-more :
    (prefix : List ℕ) (len : ℕ) → len < length prefix →
    stack_of prefix (suc len) ≡ get_or prefix len 0 ∷ stack_of prefix len
stack-more prefix len h =
    ap reverse (take-suc prefix len 0 h) ∙ reverse-append (take len prefix) (get_or prefix len 0 ∷ [])

pub stack_push :
    (prefix : List ℕ) (len v : ℕ) → len < length prefix →
    stack_of (set prefix len v) (suc len) ≡ v ∷ stack_of prefix len
stack_push prefix len v h = ap reverse (take-suc-set prefix len v h) ∙ reverse-append (take len prefix) (v ∷ [])

pub stack_set : (prefix : List ℕ) (len v : ℕ) → stack_of (set prefix len v) len ≡ stack_of prefix len
stack_set prefix len v = ap reverse (take-set-le len prefix len v (omega arith))

pub held-push : (prefix : List ℕ) (len v : ℕ) → HeldWithRoom prefix len → Held (set prefix len v) (len + 1)
held-push prefix len v h = record {
  size = length-set prefix len v ∙ h.within.size;
  most = omega (arith, h.short);
  zeros = λ i l m. get_or-set_other prefix len i v 0 (λ e. omega arith) ∙ h.within.zeros i (omega arith) m;
}

pub held-pop : (prefix : List ℕ) (len : ℕ) → Held prefix (suc len) → Held (set prefix len 0) len
held-pop prefix len h = record {
  size = length-set prefix len 0 ∙ h.size;
  most = omega (arith, h.most);
  zeros = λ i l m. go i l m (dec_lt len i);
}
  where
    go : (i : ℕ) → len ≤ i → i < 128 → Dec (len < i) → get_or (set prefix len 0) i 0 ≡ 0
    go i l m (yes k) = get_or-set_other prefix len i 0 0 (λ e. omega arith) ∙ h.zeros i (omega arith) m
    go i l m (no k) =
        let same : i ≡ len = omega arith in
        subst (λ (j : ℕ). get_or (set prefix len 0) j 0 ≡ 0) (sym same)
        (get_or-set_same prefix len 0 0 (omega (arith, h.size, h.most)))

-- ---- unwinding

unwound-last : (n a : ℕ) (stack : List ℕ) (c : ℕ) → c ≡ suc n → unwound n (a ∷ stack) c ≡ unwound n stack (suc a)
unfolding unwound
unwound-last n a stack c e = rw (eq-eqb c (suc n) e)

unwound-stays : (n a : ℕ) (stack : List ℕ) (c : ℕ) → (c ≡ suc n → ⊥) → unwound n (a ∷ stack) c ≡ (a ∷ stack, c)
unfolding unwound
unwound-stays n a stack c e = rw (ne_eqb c (suc n) e)

-- what is left to unwind at `len` atoms and the next atom c comes to what was to be unwound
pub record Unwinding (n : ℕ) (before : List ℕ) (from first : ℕ) (prefix : List ℕ) (len c : ℕ) : Type 0 where
  pub held : Held prefix len
  pub rest : unwound n (stack_of prefix len) c ≡ unwound n (stack_of before from) first

module _ {n : ℕ} {before : List ℕ} {from first : ℕ} {prefix : List ℕ} where
  -- one turn
  pub unwinding-pop :
      {len c a : ℕ} → Unwinding n before from first prefix len c → 0 < len → c ≡ n + 1 → a ≡ get_or prefix (len - 1) 0 →
      Unwinding n before from first (set prefix (len - 1) 0) (len - 1) (a + 1)
  unwinding-pop {len = zero} u some e f = absurd (omega arith)
  unwinding-pop {len = suc len} {c = c} {a = a} u some e f =
      rw one (record { held = held-pop prefix len u.held; rest = popped ∙ u.rest })
    where
      one : suc len - 1 ≡ len
      one = omega arith

      room : len < length prefix
      room = omega (arith, u.held.size, u.held.most)

      popped : unwound n (stack_of (set prefix len 0) len) (a + 1) ≡ unwound n (stack_of prefix (suc len)) c
      popped =
          let last : c ≡ suc n = omega arith in
          let up : a + 1 ≡ suc (get_or prefix len 0) = omega (arith, rw one at f) in
          rw (stack_set prefix len 0, up, stack-more prefix len room)
          (sym (unwound-last n (get_or prefix len 0) (stack_of prefix len) c last))

  -- the ways out
  pub unwinding-left :
      {len c : ℕ} → Unwinding n before from first prefix len c → 0 < len → (c ≡ n + 1 → ⊥) →
      Unwound n before from first prefix (record { len = len; next = c })
  unwinding-left {len = zero} u some e = absurd (omega arith)
  unwinding-left {len = suc len} {c = c} u some e =
      let room : len < length prefix = omega (arith, u.held.size, u.held.most) in
      let stays = unwound-stays n (get_or prefix len 0) (stack_of prefix len) c (λ q. e (omega arith)) in
      record { within = u.held; place_is = rw (stack-more prefix len room) (sym stays) ∙ u.rest }

  pub unwinding-end :
      {len c : ℕ} → Unwinding n before from first prefix len c → len ≤ 0 →
      Unwound n before from first prefix (record { len = len; next = c })
  unfolding unwound
  unwinding-end {len = zero} u l = record { within = u.held; place_is = u.rest }
  unwinding-end {len = suc len} u l = absurd (omega arith)

-- ---- a trial, by what it does

-- the place is that of the definition's unwinding
unwound-place :
    {n : ℕ} {before after : List ℕ} {place : Place} (at : Spot) →
    Unwound n before at.len (at.next + 1) after place →
    (stack_of after place.len, place.next) ≡ unwound n (stack_of before at.len) (suc at.next)
unwound-place at u = rw (add-one at.next) at u.place_is

-- a trial that doesn't extend the beginning: it lists the word, or only raises the next atom
pub acted-unwinds :
    {n : ℕ} {before after : List ℕ} {at : Spot} {place : Place} {lists : ℕ} (member extends : Bool) →
    (extends ≡ true × member ≡ true) ⊎ (extends ≡ false) → lists ≡ from_bool member →
    Unwound n before at.len (at.next + 1) after place →
    Acted n before at member extends after
    (record {
      len = place.len;
      next = place.next;
      trials = at.trials + 1;
      extensions = at.extensions;
      listed = at.listed + lists;
    })
unfolding act
acted-unwinds {at = at} true extends other e u = record {
  within = u.within;
  state_is =
      rw (e, add-one at.trials, add-one at.listed)
      (ap (λ (q : List ℕ × ℕ). placed q (suc at.trials) at.extensions (suc at.listed)) (unwound-place at u));
}
acted-unwinds false extends (inl both) e u = absurd (clash false both.1 refl)
acted-unwinds {at = at} false extends (inr other) e u = record {
  within = u.within;
  state_is =
      let none : at.listed + 0 ≡ at.listed = omega arith in
      rw (e, add-one at.trials, other, none)
      (ap (λ (q : List ℕ × ℕ). placed q (suc at.trials) at.extensions at.listed) (unwound-place at u));
}

pub acted-extends :
    {n : ℕ} {before : List ℕ} {at : Spot} → HeldWithRoom before at.len → Counting n at →
    Acted n before at false true (set before at.len at.next)
    (record {
      len = at.len + 1;
      next = 1;
      trials = at.trials + 1;
      extensions = at.extensions + 1;
      listed = at.listed;
    })
unfolding act
acted-extends {n} {before} {at} h counting =
    let room : at.len < length before = omega (arith, h.short, h.within.size) in
    let some : 1 ≤ n = omega (arith, counting) in
    let stays = unwound-stays n at.next (stack_of before at.len) 1 (λ e. omega arith) in
    record {
      within = held-push before at.len at.next h;
      state_is =
          rw (add-one at.trials, add-one at.extensions, add-one at.len)
          (rw (stack_push before at.len at.next room)
          (ap (λ (q : List ℕ × ℕ). placed q (suc at.trials) (suc at.extensions) at.listed) (sym stays)));
    }

-- ---- the length tells whether the beginning has changed

pub unwound-most : (n : ℕ) (stack : List ℕ) (c : ℕ) → length (unwound n stack c).0 ≤ length stack
unfolding unwound
unwound-most n [] c = omega arith
unwound-most n (a ∷ stack) c = go (eqb c (suc n)) (unwound-most n stack (suc a))
  where
    go :
        (b : Bool) → length (unwound n stack (suc a)).0 ≤ length stack →
        length (cond b (unwound n stack (suc a)) (a ∷ stack, c)).0 ≤ suc (length stack)
    go true h = omega arith
    go false h = omega arith

unwound-same :
    (n : ℕ) (stack : List ℕ) (c : ℕ) → length (unwound n stack c).0 ≡ length stack → unwound n stack c ≡ (stack, c)
unfolding unwound
unwound-same n [] c e = refl
unwound-same n (a ∷ stack) c e = go (eqb c (suc n)) e (unwound-most n stack (suc a))
  where
    go :
        (b : Bool) → length (cond b (unwound n stack (suc a)) (a ∷ stack, c)).0 ≡ suc (length stack) →
        length (unwound n stack (suc a)).0 ≤ length stack →
        cond b (unwound n stack (suc a)) (a ∷ stack, c) ≡ (a ∷ stack, c)
    go true q m = absurd (omega arith)
    go false q m = refl

-- the beginning as a stack, and the next atom
abbrev pub place_of : State → List ℕ × ℕ
place_of st = (st.stack, st.next)

-- a trial that extends the beginning makes it longer
pub act-longer :
    (n : ℕ) (st : State) → 1 ≤ n → length (act n false true st).stack ≡ length st.stack → ⊥
unfolding act
act-longer n st some e =
    let stays = unwound-stays n st.next st.stack 1 (λ f. omega arith) in
    let longer = ap (λ (q : List ℕ × ℕ). length q.0) stays in
    omega arith

-- a trial that leaves the length as it was leaves the beginning, and raises the next atom
pub act-same :
    (n : ℕ) (member extends : Bool) (st : State) → 1 ≤ n →
    length (act n member extends st).stack ≡ length st.stack →
    place_of (act n member extends st) ≡ (st.stack, suc st.next)
unfolding act
act-same n true extends st some e = unwound-same n st.stack (suc st.next) e
act-same n false true st some e = absurd (act-longer n st some e)
act-same n false false st some e = unwound-same n st.stack (suc st.next) e

-- ---- the search at a place

pub search-held :
    (kind s t : ℕ) (prefix : List ℕ) (at : Spot) → HeldWithRoom prefix at.len →
    search_held kind s t prefix at ≡ search_at kind s t (state_at prefix at)
unfolding search_at beginning
search-held kind s t prefix at h =
    let size = stack-length prefix at.len h.within in
    let kept = held-beginning (search_held kind s t prefix at) h.within.size h.short h.within.zeros in
    let array : held (reverse (stack_of prefix at.len)) ≡ prefix = ap held (stack-back prefix at.len) ∙ kept in
    rw (size, array)

-- the word of the next trial
pub tried-word : (prefix : List ℕ) (at : Spot) → tried (state_at prefix at) ≡ take at.len prefix ++ at.next ∷ []
unfolding tried
tried-word prefix at =
    reverse-cons at.next (stack_of prefix at.len)
    ∙ ap (λ (w : List ℕ). w ++ at.next ∷ []) (stack-back prefix at.len)
