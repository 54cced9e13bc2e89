-- The two sets of an open beginning in its array: the first ones of each kind, and those handed on from place to place.
-- From `rings-steer`, `paths-steer` and `steers-more`; a shorter beginning of an open one is open.
use Prim.Native.Nat.{ℕ, suc, ◌+◌, ◌-◌, ◌≤◌, ◌<◌}
use native.Mathlib.Omega.{arith}
use native.Mathlib.Nat.{not-suc-le-zero}
use native.Mathlib.Numerals.{add-one}
use mathlib.Core.Path.{◌≡◌, refl, sym, ap, ◌∙◌}
use mathlib.Core.Bool.{Bool, true, false, ◌&&◌, not, cond}
use mathlib.Core.List.{List, [], ◌∷◌, ◌++◌}
use lib.ListN.{length, take, get_or}
use lib.Seq.{take-suc, take-length, length-take-le, get_or-take}
use lib.Dec.{leb, ltb, eqb}
use Rattle.graph.specs.Chordless.{Adjacency, atom_at}
use Rattle.enumeration.specs.Words.{Family, is_open}
use Rattle.enumeration.specs.Lawful.{Lawful}
use Rattle.chordless.specs.Families.{paths, up_to}
use Rattle.chordless.specs.Steers.{Steers}
use Rattle.chordless.proofs.Steers.{steers-more, steers-same, rings-steer, paths-steer}
use Rattle.chordless.proofs.UpTo.{upto-room, upto_all}
use Rattle.chordless.proofs.Lawful.{paths-lawful}
use Rattle.chordless.proofs.Nearer.{leading-opens}
use Rattle.chordless.proofs.Bounds.{paths-open}
use Rattle.chordless.proofs.Paths.{path-stem}
use Rattle.atomset.specs.Set.{has, linked_by}
use Rattle.search.specs.Place.{lists_paths}
use Rattle.openness.specs.declared.Aim.{Aim}
use Rattle.openness.specs.Plan.{family_by, most_atoms, steps_left, rings_by, paths_by, first_length}
use Rattle.openness.specs.Plan.{Beginning, Steered, HandedOn, EachOpens}
use Rattle.openness.specs.Parts.{TwoAtoms, TwoEnds}
use Rattle.openness.proofs.Steps.{Row}
use Rattle.openness.proofs.Arrays.{one-taken, two-taken, opened-atoms}
use Rattle.openness.proofs.Plans.{family-rings, family-paths, family-bounded, most-paths}
use Rattle.openness.proofs.Plans.{family-by-lawful, family-by-atoms}
use Rattle.openness.proofs.Plans.{ring-words, first-of-rings, first-of-paths}
use Rattle.openness.proofs.Opens.{open-take, OpenTo, open-beside}

-- ---- the first sets

-- of a ring that begins with s and a
pub ring-aimed :
    {n : ℕ} {table : List ℕ} {s a : ℕ} {row above low goal free : ℕ → Bool} → TwoAtoms n table s a →
    Row (linked_by table) s row → ((u : ℕ) → above u ≡ (ltb a u && leb u n)) →
    ((u : ℕ) → low u ≡ (ltb s u && leb u n)) → ((u : ℕ) → goal u ≡ (above u && row u)) →
    ((u : ℕ) → free u ≡ (low u && not (row u))) → (most : ℕ) →
    Steers (rings_by n table most) (linked_by table) most (s ∷ a ∷ []) a goal free
ring-aimed {n} {table} {s} {a} b row_is above-is low-is goal-is free-is most =
    steers-same (λ u. sym (goal-is u ∙ rw (above-is u, row_is u))) (λ u. sym (free-is u ∙ rw (low-is u, row_is u)))
    (rings-steer n (linked_by table) b.words.irreflexive most s a)

-- of a path from s to t
pub path-aimed :
    {n : ℕ} {table : List ℕ} {s t : ℕ} {all goal free : ℕ → Bool} → TwoEnds n table s t →
    ((u : ℕ) → goal u ≡ eqb u t) → ((u : ℕ) → all u ≡ (leb 1 u && leb u n)) →
    ((u : ℕ) → free u ≡ (all u && not (eqb u s))) →
    Steers (paths_by n table s t) (linked_by table) 128 (s ∷ []) s goal free
path-aimed {n} {table} {s} {t} b goal-is all-is free-is =
    steers-same (λ u. sym (goal-is u)) (λ u. sym (free-is u ∙ rw (all-is u)))
    (paths-steer n (linked_by table) b.irreflexive 128 s t)

-- ---- an open beginning

-- the first length of each kind
pub first_some : (kind : ℕ) → 1 ≤ first_length kind
first_some kind = go (lists_paths kind)
  where
    go : (b : Bool) → 1 ≤ cond b 1 2
    go true = omega arith
    go false = omega arith

-- the first atom of an open beginning of a path
path-first :
    (n : ℕ) (adj : Adjacency) (s t k x : ℕ) → is_open (up_to k (paths n adj s t)) (x ∷ []) ≡ true → x ≡ s
path-first n adj s t k x e =
    let (c, r, f, short) = (paths-open n adj s t k x []).0 e in
    (path-stem n adj s t x [] c r f).first

module _ {n : ℕ} {table : List ℕ} {kind s t : ℕ} {p : List ℕ} (b : Beginning n table kind s t p) where
  -- its atoms
  opened-atom : (i : ℕ) {a : ℕ} → i < length p → a ≡ atom_at p i → (1 ≤ a) × (a ≤ n)
  opened-atom i h e =
      rw e (opened-atoms p (family-by-lawful n table kind s t) (family-by-atoms n table kind s t) b.is_opened i h)

  pub opened-place : (i : ℕ) {a : ℕ} → i < length p → a ≡ atom_at p i → (1 ≤ a) × (a ≤ 128)
  opened-place i h e =
      let (low, high) = opened-atom i h e in
      (low, omega (arith, b.words.few))

  -- its first i atoms
  pub shorter : (i : ℕ) → i ≤ length p → Beginning n table kind s t (take i p)
  shorter i h =
      let L = family-by-lawful n table kind s t in
      let opened = open-take (family_by n table kind s t) L i p b.is_opened in
      open-beside (record { within = h; opened = opened }) b b.short

  -- it has fewer atoms than a member may have
  pub opened-room : 1 ≤ length p → length p < most_atoms kind s
  opened-room some =
      let (F, L, same) = family-bounded n table kind s t b.words in
      below F L p some (rw same at b.is_opened)
    where
      -- some member of at most so many atoms goes on it
      below :
          (F : Family) → Lawful F → (p : List ℕ) → 1 ≤ length p → is_open (up_to (most_atoms kind s) F) p ≡ true →
          length p < most_atoms kind s
      below F L [] h e = absurd (not-suc-le-zero h)
      below F L (x ∷ p) h e = upto-room (most_atoms kind s) F (λ w m. (L.short w m, L.in_range w m)) x p e

  -- of shortest paths each atom bonded to its last one makes a member or opens it
  pub opened-each :
      1 ≤ length p → {x : ℕ} → x ≡ get_or p (length p - 1) 0 → kind ≡ 3 →
      EachOpens (family_by n table kind s t) (linked_by table) p x
  opened-each some {x} at three v bond none =
      rw (same, split) (leading-opens (b.words.leading three) s (take (length p - 1) p) x v
      (rw (same, split) at b.is_opened) bond (rw (same, split) at none))
    where
      path : lists_paths kind ≡ true
      path = rw three

      same : family_by n table kind s t ≡ paths n (linked_by table) s t
      same =
          family-paths n table kind s t path b.words
          ∙ upto_all 128 (paths n (linked_by table) s t) (paths-lawful n (linked_by table) s t) b.words.few

      split : p ≡ take (length p - 1) p ++ x ∷ []
      split =
          let whole : length p ≡ suc (length p - 1) = omega arith in
          sym (take-length p) ∙ ap (λ (k : ℕ). take k p) whole
          ∙ take-suc p (length p - 1) 0 (omega arith) ∙ rw at

  -- the sets steer it
  steered-here :
      {x : ℕ} {aim : Aim} → 1 ≤ length p →
      Steers (family_by n table kind s t) (linked_by table) (most_atoms kind s) p x (has aim.goal) (has aim.free) →
      Steered (family_by n table kind s t) (linked_by table) (most_atoms kind s) p x aim
  steered-here h k =
      record { lawful = family-by-lawful n table kind s t; some = h; is_opened = b.is_opened; steers = k }

-- the first i atoms of a list, where they are an open beginning
pub record BegunTo (n : ℕ) (table : List ℕ) (kind s t : ℕ) (p : List ℕ) (i : ℕ) : Type 0 where
  pub within : i ≤ length p
  pub begun : Beginning n table kind s t (take i p)

module _ {n : ℕ} {table : List ℕ} {kind s t : ℕ} {p : List ℕ} {i : ℕ} (b : BegunTo n table kind s t p i) where
  size : length (take i p) ≡ i
  size = length-take-le i p b.within

  pub place-atom : (j : ℕ) {a : ℕ} → j < i → a ≡ atom_at p j → (1 ≤ a) × (a ≤ 128)
  place-atom j h e = opened-place b.begun j (omega (arith, size)) (e ∙ sym (get_or-take i p j 0 h))

  pub begun-room : 1 ≤ i → i < most_atoms kind s
  begun-room some = omega (arith, size, opened-room b.begun (omega (arith, size)))

  pub begun-each :
      1 ≤ i → {x : ℕ} → x ≡ get_or p (i - 1) 0 → kind ≡ 3 →
      EachOpens (family_by n table kind s t) (linked_by table) (take i p) x
  begun-each some e =
      let last = get_or-take i p (i - 1) 0 (omega arith) in
      opened-each b.begun (omega (arith, size)) (e ∙ rw size (sym last))

  -- the steps left past them
  pub begun-steps :
      {steps : ℕ} → steps ≡ steps_left kind s i → steps ≡ most_atoms kind s - suc (length (take i p))
  begun-steps e = rw size e

-- ---- the shortest beginnings that two sets steer

module _ {n : ℕ} {table : List ℕ} {kind s t : ℕ} {p : List ℕ} (b : BegunTo n table kind s t p (first_length kind))
  where
    abbrev pub SteeredFirst : Aim → Type 0
    SteeredFirst aim =
        Steered (family_by n table kind s t) (linked_by table) (most_atoms kind s) (take (first_length kind) p)
        (get_or p (first_length kind - 1) 0) aim

    -- of a ring: two atoms
    module _ (ring : lists_paths kind ≡ false) {x y : ℕ} (at_first : x ≡ atom_at p 0)
        (at_second : y ≡ atom_at p 1) where
      two : first_length kind ≡ 2
      two = first-of-rings kind ring

      two-read : take (first_length kind) p ≡ x ∷ y ∷ []
      two-read = rw (two, at_first, at_second) (two-taken p (omega (arith, two, b.within)))

      pub two-atoms : TwoAtoms n table x y
      two-atoms =
          let read = rw two-read at b.begun in
          let one = opened-atom read 0 (omega arith) refl in
          let other = opened-atom read 1 (omega arith) refl in
          record {
            words = ring-words b.begun.words ring;
            first_low = one.0;
            first_high = one.1;
            second_low = other.0;
            second_high = other.1;
          }

      pub first-ring :
          {aim : Aim} →
          ((most : ℕ) → Steers (rings_by n table most) (linked_by table) most (x ∷ y ∷ []) y (has aim.goal)
          (has aim.free)) → SteeredFirst aim
      first-ring k =
          let last : get_or p (first_length kind - 1) 0 ≡ y = rw (two, at_second) in
          steered-here b.begun (rw two-read (omega arith))
          (rw (family-rings n table kind s t ring b.begun.words.few, two-read, last) (k (most_atoms kind s)))

    -- of a path: one atom, s
    module _ (path : lists_paths kind ≡ true) where
      one : first_length kind ≡ 1
      one = first-of-paths kind path

      one-read : take (first_length kind) p ≡ atom_at p 0 ∷ []
      one-read = rw one (one-taken p (omega (arith, one, b.within)))

      one-is : atom_at p 0 ≡ s
      one-is =
          path-first n (linked_by table) s t 128 (atom_at p 0)
          (rw (family-paths n table kind s t path b.begun.words, one-read) at b.begun.is_opened)

      pub first-path :
          {aim : Aim} →
          Steers (paths_by n table s t) (linked_by table) 128 (s ∷ []) s (has aim.goal) (has aim.free) →
          SteeredFirst aim
      first-path k =
          let last : get_or p (first_length kind - 1) 0 ≡ s = rw one one-is in
          steered-here b.begun (rw one-read (omega arith))
          (rw (
            family-paths n table kind s t path b.begun.words,
            most-paths n table kind s t path,
            one-read,
            last,
            one-is,
          ) k)

-- ---- the loop over the places

-- the sets steer the first i atoms
pub record AimedTo (n : ℕ) (table : List ℕ) (kind s t : ℕ) (p : List ℕ) (aim : Aim) (i : ℕ) : Type 0 where
  pub some : first_length kind ≤ i
  pub within : i ≤ length p
  pub steered :
      Steered (family_by n table kind s t) (linked_by table) (most_atoms kind s) (take i p) (get_or p (i - 1) 0) aim

module _ {n : ℕ} {table : List ℕ} {kind s t : ℕ} {p : List ℕ} {aim : Aim} {i : ℕ}
    (k : AimedTo n table kind s t p aim i) where
  pub aimed-some : 1 ≤ i
  aimed-some = omega (arith, first_some kind, k.some)

  -- they are open
  pub aimed-open : OpenTo n table kind s t p i
  aimed-open = record { within = k.within; opened = k.steered.is_opened }

  -- beside another beginning
  pub aimed-begun :
      {q : List ℕ} → Beginning n table kind s t q → length p ≤ 127 → BegunTo n table kind s t p i
  aimed-begun b short = record { within = k.within; begun = open-beside aimed-open b short }

  -- one atom more, where these are open too
  pub aimed_more :
      {x : ℕ} {next : Aim} → Beginning n table kind s t (take (i + 1) p) → i < length p →
      x ≡ atom_at p (i - 1) → HandedOn (linked_by table) x aim next → AimedTo n table kind s t p next (i + 1)
  aimed_more {x} {next} b h at handed =
      record {
        some = omega (arith, k.some);
        within = omega arith;
        steered = steered-here b (omega (arith, length-take-le (i + 1) p (omega arith))) steers;
      }
    where
      on : HandedOn (linked_by table) (get_or p (i - 1) 0) aim next
      on = rw at at handed

      steers :
          Steers (family_by n table kind s t) (linked_by table) (most_atoms kind s) (take (i + 1) p)
          (get_or p (i + 1 - 1) 0) (has next.goal) (has next.free)
      steers =
          let place : i + 1 - 1 ≡ i = omega arith in
          rw (place, add-one i, take-suc p i 0 h)
          (steers-same (λ u. sym (on.goal-left u)) (λ u. sym (on.free-left u))
          (steers-more k.steered.steers (get_or p i 0)))

-- ---- the last atom, as it is read from the array

pub steered-last :
    {F : Family} {adj : Adjacency} {most : ℕ} {p : List ℕ} {x y : ℕ} {aim : Aim} → x ≡ y →
    Steered F adj most p y aim → Steered F adj most p x aim
steered-last e k = rw e k
