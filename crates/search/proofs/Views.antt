-- The search and the state of the machine are two views of one thing,
-- and rule 12 is "valid, counts at most the limit" of that state.
-- The array is the beginning and then zeros, so taking its first `len` places and filling it up again undo each other.
use Prim.Native.Nat.{ℕ, suc, ◌+◌, ◌-◌, ◌≤◌, ◌<◌}
use native.Mathlib.Decide.{dec_lt}
use native.Mathlib.Omega.{arith}
use mathlib.Core.Path.{◌≡◌, refl, ap, sym, subst, ◌∙◌}
use mathlib.Core.Bool.{true, false}
use mathlib.Core.List.{List, [], ◌++◌, reverse, reverse-reverse}
use mathlib.Core.Logic.{◌⊎◌, inl, inr}
use lib.ListN.{length, get_or, take, drop, replicate, length-append, length-drop, length-replicate, length-reverse}
use lib.ListN.{take-append-drop, get_or-eq_default}
use lib.Seq.{take_at, get_or-take, get_or-drop, get_or-append-add, length-take-le, ext_get_or}
use borrow.Author.Tests.{eq-eqb}
use Rattle.graph.proofs.Below.{either, clash}
use Rattle.graph.proofs.Places.{zeros-at}
use Rattle.enumeration.specs.Words.{Family}
use Rattle.enumeration.specs.Machine.{State, is_empty, is_done, fresh}
use Rattle.enumeration.specs.Run.{run}
use Rattle.enumeration.specs.Trials.{Valid}
use Rattle.enumeration.specs.RunFacts.{Bounded}
use Rattle.enumeration.proofs.Trial.{done-place}
use Rattle.enumeration.proofs.Theorems.{fresh-valid, valid-short, run-keeps-valid, run-keeps-bounded}
use Rattle.molecule.specs.declared.Molecule.{Molecule}
use Rattle.molecule.specs.Record.{well_formed}
use Rattle.molecule.proofs.Bonds.{rule9}
use Rattle.search.specs.declared.Search.{Search}
use Rattle.search.specs.Place.{family_of, family, beginning, state_of, held, search_at, fresh_search}
use Rattle.search.specs.Place.{kind_kept, restorable}
use Rattle.search.proofs.Readings.{Restorable, restorable-facts, restorable-place, restorable-of}
use Rattle.search.proofs.Readings.{Placed, NextHigh, place-facts, family-lawful, family-atoms, open-range}

-- ---- a valid state is one whose place keeps rule 17

module _ (F : Family) (st : State) where
  pub placed-valid : Placed F (reverse st.stack) st.next → Valid F st
  unfolding is_done is_empty
  placed-valid f = record { open_stack = f.place_open; low = f.next_low; within = λ d. go d f.next_high }
    where
      go : is_done F.atoms st ≡ false → NextHigh F.atoms (reverse st.stack) st.next → st.next ≤ F.atoms
      go d (inl h) = h
      go d (inr (empty, last)) =
          let none : st.stack ≡ [] = sym (reverse-reverse st.stack) ∙ ap reverse empty in
          let done : is_done F.atoms st ≡ true = rw none (eq-eqb st.next (suc F.atoms) last) in
          absurd (clash (is_done F.atoms st) done d)

  pub valid-placed : Valid F st → Placed F (reverse st.stack) st.next
  valid-placed v =
      record { place_open = v.open_stack; next_low = v.low; next_high = go (either (is_done F.atoms st)) }
    where
      go :
          (is_done F.atoms st ≡ true) ⊎ (is_done F.atoms st ≡ false) →
          NextHigh F.atoms (reverse st.stack) st.next
      go (inl d) = let (none, last) = done-place F.atoms st d in inr (ap reverse none, last)
      go (inr d) = inl (v.within d)

-- ---- the array of a beginning

pub held-length : (p : List ℕ) → length p ≤ 128 → length (held p) ≡ 128
unfolding held
held-length p h = rw (length-append, length-replicate) (omega arith)

pub held-take : (p : List ℕ) → take (length p) (held p) ≡ p
unfolding held
held-take p = take_at p (replicate (128 - length p) 0) (length p) refl

pub held-zero : (p : List ℕ) (i : ℕ) → length p ≤ i → get_or (held p) i 0 ≡ 0
unfolding held
held-zero p i h =
    let at : i ≡ length p + (i - length p) = omega arith in
    subst (λ (k : ℕ). get_or (p ++ replicate (128 - length p) 0) k 0 ≡ 0) (sym at)
    (get_or-append-add p (replicate (128 - length p) 0) (i - length p) 0 ∙ zeros-at (128 - length p) (i - length p))

-- ---- from the state to the search and back

module _ (kind s t : ℕ) (st : State) where
  pub beginning-at : beginning (search_at kind s t st) ≡ reverse st.stack
  unfolding beginning search_at
  beginning-at = rw (← length-reverse st.stack) (held-take (reverse st.stack))

  pub state-search : state_of (search_at kind s t st) ≡ st
  unfolding state_of
  state-search =
      rw (ap reverse beginning-at ∙ reverse-reverse st.stack) (unfold search_at in refl)

  pub search-length : length st.stack ≤ 128 → length (search_at kind s t st).prefix ≡ 128
  unfolding search_at
  search-length h = held-length (reverse st.stack) (rw length-reverse h)

-- ---- from the search to the state and back

module _ (q : Search) (full : length q.prefix ≡ 128) (short : q.len ≤ 127) where
  pub beginning-length : length (beginning q) ≡ q.len
  unfolding beginning
  beginning-length = length-take-le q.len q.prefix (omega arith)

  module _ (padded : (i : ℕ) → q.len ≤ i → i < 128 → get_or q.prefix i 0 ≡ 0) where
    padding : drop q.len q.prefix ≡ replicate (128 - q.len) 0
    padding =
        ext_get_or 0 (drop q.len q.prefix) (replicate (128 - q.len) 0)
        (rw (length-drop, length-replicate) (omega arith)) each
      where
        each :
            (i : ℕ) → i < length (drop q.len q.prefix) →
            get_or (drop q.len q.prefix) i 0 ≡ get_or (replicate (128 - q.len) 0) i 0
        each i h =
            let inside : q.len + i < 128 = omega (arith, length-drop q.len q.prefix) in
            get_or-drop q.len q.prefix i 0
            ∙ padded (q.len + i) (omega arith) inside
            ∙ sym (zeros-at (128 - q.len) i)

    pub held-beginning : held (beginning q) ≡ q.prefix
    unfolding held
    held-beginning = rw beginning-length (unfold beginning in (rw (← padding) (take-append-drop q.len q.prefix)))

module _ (mol : Molecule) (q : Search) (kept : restorable mol q ≡ true) where
  pub search-state : length q.prefix ≡ 128 → search_at q.kind q.s q.t (state_of q) ≡ q
  unfolding state_of search_at
  search-state full =
      let f = restorable-facts mol q kept in
      let size = length-reverse (beginning q) ∙ beginning-length q full f.short in
      let array = ap held (reverse-reverse (beginning q)) ∙ held-beginning q full f.short f.padded in
      rw (size, array)

  pub restorable-valid : Valid (family mol q) (state_of q)
  unfolding state_of
  restorable-valid =
      let kept17 = restorable-place mol q (restorable-facts mol q kept) in
      let place = place-facts (family mol q) (beginning q) q.next kept17 in
      placed-valid (family mol q) (state_of q) (rw reverse-reverse place)

  pub restorable-bounded : Bounded (state_of q)
  unfolding state_of
  restorable-bounded =
      let f = restorable-facts mol q kept in
      record { trials_most = f.trials_most; extensions_most = f.extensions_most; listed_most = f.listed_most }

  -- the atoms of the beginning are from 1 to n
  pub beginning-range :
      (i : ℕ) → i < length (beginning q) → (1 ≤ get_or (beginning q) i 0) × (get_or (beginning q) i 0 ≤ mol.atoms)
  beginning-range i h =
      let f = restorable-facts mol q kept in
      rw (family-atoms mol q.kind q.s q.t) at
      (open-range (family mol q) (family-lawful mol q.kind q.s q.t) (beginning q) f.place_open i h)

  -- every place of the array holds at most n
  pub prefix-most : length q.prefix ≡ 128 → (i : ℕ) → get_or q.prefix i 0 ≤ mol.atoms
  prefix-most full i = go (restorable-facts mol q kept) (dec_lt i q.len) (dec_lt i 128)
    where
      same : i < q.len → get_or (beginning q) i 0 ≡ get_or q.prefix i 0
      same h = unfold beginning in (get_or-take q.len q.prefix i 0 h)

      inside : Restorable mol q → i < q.len → get_or q.prefix i 0 ≤ mol.atoms
      inside f h =
          omega (arith, same h, (beginning-range i (rw (beginning-length q full f.short) h)).1)

      go : Restorable mol q → Dec (i < q.len) → Dec (i < 128) → get_or q.prefix i 0 ≤ mol.atoms
      go f (yes h) m = inside f h
      go f (no h) (yes m) = omega (arith, f.padded i (omega arith) m)
      go f (no h) (no m) =
          let past : length q.prefix ≤ i = omega arith in
          omega (arith, get_or-eq_default q.prefix 0 past)

-- ---- a valid state, counts at most the limit, is a search that rule 12 allows

module _ (mol : Molecule) (kind s t : ℕ) (ok : well_formed mol ≡ true) (st : State)
    (v : Valid (family_of mol kind s t) st) where
  pub valid-most : length st.stack ≤ 127
  valid-most =
      omega (
        arith,
        valid-short (family_of mol kind s t) (family-lawful mol kind s t) st v,
        family-atoms mol kind s t,
        (rule9 mol ok).atoms_high,
      )

  pub valid-full : length (search_at kind s t st).prefix ≡ 128
  valid-full = search-length kind s t st (omega (arith, valid-most))

module _ (mol : Molecule) (kind s t : ℕ) (ok : well_formed mol ≡ true)
    (kinds : kind_kept mol.atoms kind s t ≡ true) where
  placed_at :
      (st : State) → Valid (family_of mol kind s t) st →
      Placed (family_of mol kind s t) (beginning (search_at kind s t st)) st.next
  placed_at st v = rw (beginning-at kind s t st) (valid-placed (family_of mol kind s t) st v)

  pub valid-restorable :
      (st : State) → Valid (family_of mol kind s t) st → Bounded st → restorable mol (search_at kind s t st) ≡ true
  unfolding search_at
  valid-restorable st v b =
      let p = beginning (search_at kind s t st) in
      let place = placed_at st v in
      restorable-of mol (search_at kind s t st)
      (record {
        short = valid-most mol kind s t ok st v;
        padded = λ i h k. held-zero (reverse st.stack) i (rw length-reverse h);
        kind-kept = kinds;
        place_open = place.place_open;
        next_low = place.next_low;
        next_high = subst (λ (n : ℕ). NextHigh n p st.next) (family-atoms mol kind s t) place.next_high;
        trials_most = b.trials_most;
        extensions_most = b.extensions_most;
        listed_most = b.listed_most;
      })

  pub fresh-restorable : restorable mol (fresh_search kind s t) ≡ true
  unfolding fresh_search
  fresh-restorable =
      valid-restorable fresh (fresh-valid (family_of mol kind s t) (family-lawful mol kind s t))
      (unfold fresh in (record { trials_most = omega arith; extensions_most = omega arith; listed_most = omega arith }))

-- A run of a search that rule 12 allows leaves such a search
pub run-restorable :
    (mol : Molecule) (q : Search) → well_formed mol ≡ true → restorable mol q ≡ true → (budget room : ℕ) →
    restorable mol (search_at q.kind q.s q.t (run (family mol q) budget room (state_of q)).state) ≡ true
run-restorable mol q ok kept budget room =
    let F = family mol q in
    let lawful = family-lawful mol q.kind q.s q.t in
    valid-restorable mol q.kind q.s q.t ok (restorable-facts mol q kept).kind-kept
    (run F budget room (state_of q)).state
    (run-keeps-valid F lawful budget room (state_of q) (restorable-valid mol q kept))
    (run-keeps-bounded F budget room (state_of q) (restorable-bounded mol q kept))
