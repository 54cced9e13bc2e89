-- What the tests of a search say as plain facts, both ways: its kind (rule 16), its place (rule 17), and rule 12.
-- The families are lawful whatever the kind, so an open beginning is short and its atoms are from 1 to n.
use Rattle.std.specs.Prelude.{Err, Ok}
use Prim.Native.Nat.{ℕ, suc, ◌-◌, ◌≤◌, ◌<◌}
use native.Mathlib.Omega.{arith}
use mathlib.Core.Path.{◌≡◌, refl, sym, subst, ◌∙◌}
use mathlib.Core.Bool.{Bool, true, false, ◌&&◌, ◌||◌, cond}
use mathlib.Core.List.{List, [], ◌∷◌, ◌++◌}
use mathlib.Core.Logic.{◌⊎◌, inl, inr, ◌↔◌}
use lib.ListN.{length, get_or, length-append, get_or-append}
use lib.Dec.{leb, ltb, eqb}
use borrow.Author.Tests.{le-leb, leb-true, ltb-true, ltb-false, eq-eqb, eqb-true, ne_eqb, eqb-false}
use Rattle.graph.specs.Every.{all_below}
use Rattle.graph.specs.Chordless.{Adjacency}
use Rattle.graph.proofs.Below.{apart, either, and_parts, and_both, all_below-at, all_below-of}
use Rattle.enumeration.specs.Words.{Family, is_open}
use Rattle.enumeration.specs.Machine.{is_empty}
use Rattle.enumeration.specs.Run.{limit}
use Rattle.enumeration.specs.Lawful.{Lawful, AtMost}
use Rattle.enumeration.proofs.Basics.{or-either, or_left, or_right}
use Rattle.chordless.specs.Families.{rings, paths, up_to, shortest_paths}
use Rattle.chordless.proofs.Members.{open-has}
use Rattle.chordless.proofs.UpTo.{upto-facts, upto-lawful, upto_all}
use Rattle.chordless.proofs.Lawful.{rings-lawful, paths-lawful}
use Rattle.chordless.proofs.ShortestPaths.{shortest-lawful}
use Rattle.refusal.specs.declared.Refusal.{Refusal}
use Rattle.molecule.specs.declared.Molecule.{Molecule}
use Rattle.molecule.specs.Record.{is_atom, bonded}
use Rattle.molecule.specs.Ends.{with_ends, ends_answer}
use Rattle.molecule.proofs.Bonds.{atom-bounds, atom-of}
use Rattle.molecule.proofs.Ends.{ends-differ, ends-refused, ends-accepted}
use Rattle.search.specs.declared.Search.{Search}
use Rattle.search.specs.Place.{family_in, lists_paths, family_of, family, beginning, ends_kept, bound_kept, rings_allowed, paths_allowed, sizes_allowed, kind_kept, place_kept, restorable}

-- ---- the family of a search

-- what holds of the family of each kind holds, whatever the kind, s and t
pub each-family :
    (n : ℕ) (adj : Adjacency) (kind s t : ℕ) (P : Family → Type 0) → P (rings n adj) → P (paths n adj s t) →
    P (shortest_paths n adj s t) → P (up_to s (rings n adj)) → P (family_in n adj kind s t)
unfolding family_in
each-family n adj kind s t P of-rings of-paths of-shortest of-bounded = elim (either (eqb kind 0)) [
  | inl zero ↦ rw zero of-rings
  | inr other ↦ elim (either (eqb kind 1)) [
    | inl one ↦ rw (other, one) of-paths
    | inr no-path ↦ elim (either (eqb kind 3)) [
      | inl three ↦ rw (other, no-path, three) of-shortest
      | inr two ↦ rw (other, no-path, two) of-bounded
    ]
  ]
]

module _ (n : ℕ) (adj : Adjacency) (kind s t : ℕ) where
  pub family-in-lawful : Lawful (family_in n adj kind s t)
  family-in-lawful =
      each-family n adj kind s t Lawful (rings-lawful n adj) (paths-lawful n adj s t) (shortest-lawful n adj s t)
      (upto-lawful s (rings n adj) (rings-lawful n adj))

  pub family-in-atoms : (family_in n adj kind s t).atoms ≡ n
  family-in-atoms = each-family n adj kind s t (λ (F : Family). F.atoms ≡ n) refl refl refl refl

-- kind 2: rings of at most s atoms, and with s at least n all rings
module _ (n : ℕ) (adj : Adjacency) (kind s t : ℕ) (two : kind ≡ 2) where
  pub bounded-family : family_in n adj kind s t ≡ up_to s (rings n adj)
  unfolding family_in
  bounded-family = rw two

  pub all-sizes : n ≤ s → family_in n adj kind s t ≡ rings n adj
  all-sizes h = bounded-family ∙ upto_all s (rings n adj) (rings-lawful n adj) h

module _ (mol : Molecule) (kind s t : ℕ) where
  pub bounded-size : kind ≡ 2 → AtMost (family_of mol kind s t) s
  unfolding family_of
  bounded-size two =
      let adj = bonded mol.atoms mol.rows in
      rw (bounded-family mol.atoms adj kind s t two)
      (λ w e. (upto-facts s (rings mol.atoms adj) w e).1)

  pub family-lawful : Lawful (family_of mol kind s t)
  unfolding family_of
  family-lawful = family-in-lawful mol.atoms (bonded mol.atoms mol.rows) kind s t

  pub family-atoms : (family_of mol kind s t).atoms ≡ mol.atoms
  unfolding family_of
  family-atoms = family-in-atoms mol.atoms (bonded mol.atoms mol.rows) kind s t

-- an open beginning is shorter than n, or empty, and its atoms are from 1 to n
module _ (F : Family) (L : Lawful F) where
  pub open-short : (w : List ℕ) → is_open F w ≡ true → length w ≤ F.atoms - 1
  open-short [] e = omega arith
  open-short (x ∷ p) e =
      let (y, w, member) = open-has F (λ v m. (L.short v m, L.in_range v m)) x p e in
      omega (arith, L.short (x ∷ p ++ y ∷ w) member, length-append (x ∷ p) (y ∷ w))

  pub open-range :
      (w : List ℕ) → is_open F w ≡ true → (i : ℕ) → i < length w → (1 ≤ get_or w i 0) × (get_or w i 0 ≤ F.atoms)
  open-range [] e i h = absurd (omega arith)
  open-range (x ∷ p) e i h =
      let (y, w, member) = open-has F (λ v m. (L.short v m, L.in_range v m)) x p e in
      let inside : i < length (x ∷ p ++ y ∷ w) = omega (arith, length-append (x ∷ p) (y ∷ w)) in
      rw (get_or-append (x ∷ p) (y ∷ w) 0 i h) at (L.in_range (x ∷ p ++ y ∷ w) member i inside)

-- ---- the kind

-- two different atoms
pub record Ends (n s t : ℕ) : Type 0 where
  pub s_low : 1 ≤ s
  pub s_high : s ≤ n
  pub t_low : 1 ≤ t
  pub t_high : t ≤ n
  pub differ : s ≡ t → ⊥

pub ends-facts : (n s t : ℕ) → ends_kept n s t ≡ true → Ends n s t
unfolding ends_kept with_ends
ends-facts n s t e =
    let (atoms, differ) = ends-tests (is_atom n s && is_atom n t) (eqb s t) e in
    let (s-atom, t-atom) = and_parts (is_atom n s) (is_atom n t) atoms in
    let (s_low, s_high) = atom-bounds n s s-atom in
    let (t_low, t_high) = atom-bounds n t t-atom in
    record {
      s_low = s_low;
      s_high = s_high;
      t_low = t_low;
      t_high = t_high;
      differ = eqb-false s t differ;
    }
  where
    ends-tests : (atoms same : Bool) → cond atoms (cond same false true) false ≡ true → (atoms ≡ true) × (same ≡ false)
    ends-tests true true f = absurd (apart (sym f))
    ends-tests true false f = (refl, refl)
    ends-tests false same f = absurd (apart (sym f))

-- rules 10 and 11 refuse no two different atoms
pub ends-go :
    {A : Type 0} {n s t : ℕ} → Ends n s t → (refuse : Refusal → A) (goes : A) → with_ends n s t refuse goes ≡ goes
ends-go {n = n} {s} {t} f refuse goes =
    ends-differ n s t refuse goes (atom-of n s f.s_low f.s_high) (atom-of n t f.t_low f.t_high) f.differ

pub ends_of : (n s t : ℕ) → Ends n s t → ends_kept n s t ≡ true
unfolding ends_kept
ends_of n s t f = ends-go f _ true

-- the answer of the two rules as a test
pub ends-not-kept : (n s t : ℕ) {r : Refusal} → ends_answer n s t ≡ Err r → ends_kept n s t ≡ false
unfolding ends_kept
ends-not-kept n s t e = ends-refused n s t _ _ e

pub ends-are-kept : (n s t : ℕ) → ends_answer n s t ≡ Ok _ → ends_kept n s t ≡ true
unfolding ends_kept
ends-are-kept n s t e = ends-accepted n s t _ _ e

-- the largest size of a ring
pub bound-facts : {k : ℕ} → bound_kept k ≡ true → (3 ≤ k) × (k ≤ 128)
unfolding bound_kept
bound-facts {k} e =
    let parts = and_parts _ _ e in
    (leb-true _ _ parts.0, leb-true _ _ parts.1)

abbrev pub KindFacts : ℕ → ℕ → ℕ → ℕ → Type 0
KindFacts n kind s t =
    ((kind ≡ 0) × (s ≡ 0) × (t ≡ 0)) ⊎ ((lists_paths kind ≡ true) × Ends n s t)
    ⊎ ((kind ≡ 2) × (bound_kept s ≡ true) × (t ≡ 0))

-- the kinds that list paths
pub path-kinds : (kind : ℕ) → lists_paths kind ≡ true → (kind ≡ 1) ⊎ (kind ≡ 3)
path-kinds kind e = elim (or-either (eqb kind 1) (eqb kind 3) e) [
  | inl one ↦ inl (eqb-true kind 1 one)
  | inr three ↦ inr (eqb-true kind 3 three)
]

pub path-no-ring : (kind : ℕ) → lists_paths kind ≡ true → eqb kind 0 ≡ false
path-no-ring kind e = elim (path-kinds kind e) [
  | inl one ↦ ne_eqb kind 0 (omega arith)
  | inr three ↦ ne_eqb kind 0 (omega arith)
]

module _ (n kind s t : ℕ) where
  pub kind-of : KindFacts n kind s t → kind_kept n kind s t ≡ true
  unfolding kind_kept
  kind-of (inl (kind-zero, s-zero, t-zero)) = rw (kind-zero, s-zero, t-zero)
  kind-of (inr (inl (path, ends))) =
      or_left (rings_allowed kind s t || paths_allowed n kind s t) _
      (or_right (rings_allowed kind s t) _ (rw (path, ends_of n s t ends)))
  kind-of (inr (inr (kind-two, bound, t-zero))) =
      or_right (rings_allowed kind s t || paths_allowed n kind s t) _ (rw (kind-two, t-zero, bound))

  pub kind-facts : kind_kept n kind s t ≡ true → KindFacts n kind s t
  unfolding kind_kept
  kind-facts e = elim (or-either (rings_allowed kind s t || paths_allowed n kind s t) (sizes_allowed kind s t) e) [
    | inl h ↦ elim (or-either (rings_allowed kind s t) (paths_allowed n kind s t) h) [
      | inl f ↦
          let parts = and_parts _ _ f in
          let first = and_parts _ _ parts.0 in
          inl (eqb-true _ _ first.0, eqb-true _ _ first.1, eqb-true _ _ parts.1)
      | inr f ↦
          let parts = and_parts _ _ f in
          inr (inl (parts.0, ends-facts n s t parts.1))
    ]
    | inr f ↦
        let parts = and_parts _ _ f in
        let first = and_parts _ _ parts.0 in
        inr (inr (eqb-true _ _ first.0, first.1, eqb-true _ _ parts.1))
  ]

-- kind, s and t are small
pub kind-small : (n kind s t : ℕ) → n ≤ 128 → kind_kept n kind s t ≡ true → (kind ≤ 3) × (s ≤ 128) × (t ≤ 128)
kind-small n kind s t few e = go (kind-facts n kind s t e)
  where
    go : KindFacts n kind s t → (kind ≤ 3) × (s ≤ 128) × (t ≤ 128)
    go (inl f) = (omega arith, omega arith, omega arith)
    go (inr (inl (path, ends))) = elim (path-kinds kind path) [
      | inl one ↦ (omega arith, omega arith, omega arith)
      | inr three ↦ (omega arith, omega arith, omega arith)
    ]
    go (inr (inr (kind-two, bound, t-zero))) =
        let (low, high) = bound-facts bound in
        (omega arith, high, omega arith)

-- ---- the place

pub empty-is : (p : List ℕ) → is_empty p ≡ true → p ≡ []
unfolding is_empty
empty-is [] e = refl
empty-is (a ∷ p) e = absurd (apart (sym e))

-- c is an atom, or p is empty and c is n + 1
abbrev pub NextHigh : ℕ → List ℕ → ℕ → Type 0
NextHigh n p c = (c ≤ n) ⊎ ((p ≡ []) × (c ≡ suc n))

pub record Placed (F : Family) (p : List ℕ) (c : ℕ) : Type 0 where
  pub place_open : is_open F p ≡ true
  pub next_low : 1 ≤ c
  pub next_high : NextHigh F.atoms p c

module _ (F : Family) (p : List ℕ) (c : ℕ) where
  abbrev is_last : Bool
  is_last = is_empty p && eqb c (suc F.atoms)

  pub place-facts : place_kept F p c ≡ true → Placed F p c
  unfolding place_kept
  place-facts e =
      let (opened, nexts) = and_parts (is_open F p) (is_atom F.atoms c || is_last) e in
      go opened (or-either (is_atom F.atoms c) is_last nexts)
    where
      go : is_open F p ≡ true → (is_atom F.atoms c ≡ true) ⊎ (is_last ≡ true) → Placed F p c
      go opened (inl h) =
          let (low, high) = atom-bounds F.atoms c h in
          record { place_open = opened; next_low = low; next_high = inl high }
      go opened (inr h) =
          let (empty, last) = and_parts (is_empty p) (eqb c (suc F.atoms)) h in
          let is : c ≡ suc F.atoms = eqb-true c (suc F.atoms) last in
          record { place_open = opened; next_low = omega arith; next_high = inr (empty-is p empty, is) }

  pub place_of : Placed F p c → place_kept F p c ≡ true
  unfolding place_kept
  place_of f = and_both (is_open F p) (is_atom F.atoms c || is_last) f.place_open (go f.next_high)
    where
      go : NextHigh F.atoms p c → is_atom F.atoms c || is_last ≡ true
      go (inl high) = or_left (is_atom F.atoms c) is_last (atom-of F.atoms c f.next_low high)
      go (inr (none, last)) =
          let empty : is_empty p ≡ true = rw none (unfold is_empty in refl) in
          or_right (is_atom F.atoms c) is_last (rw (empty, eq-eqb c (suc F.atoms) last))

-- ---- rule 12

pub record Restorable (mol : Molecule) (q : Search) : Type 0 where
  pub short : q.len ≤ 127
  pub padded : (i : ℕ) → q.len ≤ i → i < 128 → get_or q.prefix i 0 ≡ 0
  pub kind-kept : kind_kept mol.atoms q.kind q.s q.t ≡ true
  pub place_open : is_open (family mol q) (beginning q) ≡ true
  pub next_low : 1 ≤ q.next
  pub next_high : NextHigh mol.atoms (beginning q) q.next
  pub trials_most : q.trials ≤ limit
  pub extensions_most : q.extensions ≤ limit
  pub listed_most : q.listed ≤ limit

-- the seven parts of a test
and7 :
    (a b c d e f g : Bool) → a && b && c && d && e && f && g ≡ true →
    (a ≡ true) × (b ≡ true) × (c ≡ true) × (d ≡ true) × (e ≡ true) × (f ≡ true) × (g ≡ true)
and7 a b c d e f g h =
    let (h6, is-g) = and_parts (a && b && c && d && e && f) g h in
    let (h5, is_f) = and_parts (a && b && c && d && e) f h6 in
    let (h4, is-e) = and_parts (a && b && c && d) e h5 in
    let (h3, is-d) = and_parts (a && b && c) d h4 in
    let (h2, is_c) = and_parts (a && b) c h3 in
    let (is-a, is_b) = and_parts a b h2 in
    (is-a, is_b, is_c, is-d, is-e, is_f, is-g)

-- the places of an array past a length hold 0
module _ (prefix : List ℕ) (len : ℕ) where
  abbrev zero_at : ℕ → Bool
  zero_at i = ltb i len || eqb (get_or prefix i 0) 0

  pub zeros-past : all_below 128 zero_at ≡ true → (i : ℕ) → len ≤ i → i < 128 → get_or prefix i 0 ≡ 0
  zeros-past e i l h = go (or-either (ltb i len) (eqb (get_or prefix i 0) 0) (all_below-at 128 zero_at e i h))
    where
      go : (ltb i len ≡ true) ⊎ (eqb (get_or prefix i 0) 0 ≡ true) → get_or prefix i 0 ≡ 0
      go (inl b) = absurd (omega (arith, ltb-true i len b))
      go (inr b) = eqb-true (get_or prefix i 0) 0 b

  pub past-zeros : ((i : ℕ) → len ≤ i → i < 128 → get_or prefix i 0 ≡ 0) → all_below 128 zero_at ≡ true
  past-zeros f = all_below-of 128 zero_at (λ i h. go i h (either (ltb i len)))
    where
      go : (i : ℕ) → i < 128 → (ltb i len ≡ true) ⊎ (ltb i len ≡ false) → zero_at i ≡ true
      go i h (inl b) = or_left (ltb i len) (eqb (get_or prefix i 0) 0) b
      go i h (inr b) =
          let zero = f i (ltb-false i len b) h in
          or_right (ltb i len) (eqb (get_or prefix i 0) 0) (eq-eqb (get_or prefix i 0) 0 zero)

module _ (mol : Molecule) (q : Search) where
  abbrev same_atoms : (family mol q).atoms ≡ mol.atoms
  same_atoms = family-atoms mol q.kind q.s q.t

  pub restorable-facts : restorable mol q ≡ true → Restorable mol q
  unfolding restorable
  restorable-facts e =
      let (short, zeros, kinds, place, trials, extensions, listed) = and7
      (leb q.len 127) (all_below 128 (zero_at q.prefix q.len))
      (kind_kept mol.atoms q.kind q.s q.t) (place_kept (family mol q) (beginning q) q.next)
      (leb q.trials limit) (leb q.extensions limit) (leb q.listed limit) e in
      let placed = place-facts (family mol q) (beginning q) q.next place in
      record {
        short = leb-true q.len 127 short;
        padded = zeros-past q.prefix q.len zeros;
        kind-kept = kinds;
        place_open = placed.place_open;
        next_low = placed.next_low;
        next_high = subst (λ (n : ℕ). NextHigh n (beginning q) q.next) same_atoms placed.next_high;
        trials_most = leb-true q.trials limit trials;
        extensions_most = leb-true q.extensions limit extensions;
        listed_most = leb-true q.listed limit listed;
      }

  -- rule 17 of the place of a search that rule 12 allows
  pub restorable-place : Restorable mol q → place_kept (family mol q) (beginning q) q.next ≡ true
  restorable-place f =
      place_of (family mol q) (beginning q) q.next
      (record {
        place_open = f.place_open;
        next_low = f.next_low;
        next_high = subst (λ (n : ℕ). NextHigh n (beginning q) q.next) (sym same_atoms) f.next_high;
      })

  pub restorable-of : Restorable mol q → restorable mol q ≡ true
  unfolding restorable
  restorable-of f =
      rw (
        le-leb q.len 127 f.short,
        past-zeros q.prefix q.len f.padded,
        f.kind-kept,
        restorable-place f,
        le-leb q.trials limit f.trials_most,
        le-leb q.extensions limit f.extensions_most,
        le-leb q.listed limit f.listed_most,
      )

  pub restorable-iff : (restorable mol q ≡ true) ↔ Restorable mol q
  restorable-iff = (restorable-facts, restorable-of)
