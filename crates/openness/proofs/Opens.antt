-- Openness atom by atom: every beginning of an open one is open, so
-- the first atom that does not open what stands before it decides.
-- A member that goes on the longer beginning goes on the shorter one.
use Prim.Native.Nat.{ℕ, zero, suc, ◌+◌, ◌≤◌, ◌<◌}
use native.Mathlib.Omega.{arith}
use native.Mathlib.Numerals.{add-one}
use mathlib.Core.Path.{◌≡◌, refl, sym, ap, ◌∙◌}
use mathlib.Core.Bool.{Bool, true, false}
use mathlib.Core.List.{List, [], ◌∷◌, ◌++◌, append_assoc, append-nil}
use lib.ListN.{length, take, drop, take-append-drop}
use lib.Seq.{take-suc, length-take-le, get_or-take}
use Rattle.std.proofs.lemmas.List.{take_all}
use Rattle.graph.specs.Chordless.{atom_at}
use mathlib.Core.Logic.{◌⊎◌, inl, inr}
use Rattle.graph.proofs.Below.{clash, either, false_of}
use Rattle.enumeration.specs.Words.{Family, is_open}
use Rattle.enumeration.specs.Lawful.{Lawful}
use Rattle.chordless.proofs.Members.{Bounded, open-has, open_of}
use Rattle.molecule.specs.Record.{is_atom}
use Rattle.molecule.proofs.Bonds.{atom-of}
use Rattle.atomset.specs.Set.{has}
use Rattle.search.specs.Place.{lists_paths, kind_kept}
use Rattle.openness.specs.declared.Plan.{Plan}
use Rattle.openness.specs.Plan.{family_by, most_atoms, rings_by, paths_by, first_length}
use Rattle.openness.specs.Plan.{SearchTable, Tells, Beginning}
use Rattle.openness.proofs.Arrays.{one-taken, two-taken, opened-atoms}
use Rattle.openness.proofs.Rings.{rings-by-lawful}
use Rattle.openness.proofs.Plans.{family-rings, family-paths, family-by-lawful, family-by-atoms}
use Rattle.openness.proofs.Plans.{first-of-rings, first-of-paths, first-few}

module _ (F : Family) (L : Lawful F) where
  bounded : Bounded F
  bounded w m = (L.short w m, L.in_range w m)

  open-append : (x : ℕ) (p q : List ℕ) → is_open F (x ∷ p ++ q) ≡ true → is_open F (x ∷ p) ≡ true
  open-append x p [] e = rw append-nil at e
  open-append x p (b ∷ q) e =
      let (y, w, member) = open-has F bounded x (p ++ b ∷ q) e in
      open_of F bounded x p b (q ++ y ∷ w) (rw (append_assoc (x ∷ p) (b ∷ q) (y ∷ w)) at member)

  open-empty : is_open F [] ≡ true
  unfolding is_open
  open-empty = refl

  -- A beginning of an open one is open
  pub open-take : (k : ℕ) (w : List ℕ) → is_open F w ≡ true → is_open F (take k w) ≡ true
  open-take zero w e = open-empty
  open-take (suc k) [] e = open-empty
  open-take (suc k) (x ∷ p) e = open-append x (take k p) (drop k p) (rw (take-append-drop k p) e)

  pub open-cut :
      (k : ℕ) (w : List ℕ) → is_open F (take k w) ≡ false → is_open F w ≡ false
  open-cut k w e = false_of (is_open F w) (λ o. clash (is_open F (take k w)) (open-take k w o) e)

-- ---- a place without an atom

pub no-atom :
    {F : Family} {n : ℕ} → Lawful F → F.atoms ≡ n → (p : List ℕ) {i v : ℕ} → i < length p → v ≡ atom_at p i →
    is_atom n v ≡ false → is_open F p ≡ false
no-atom {F} {n} L atoms p {i} {v} h e a =
    false_of (is_open F p)
    (λ o. let range = opened-atoms p L atoms o i h in
    clash (is_atom n v) (atom-of n v (omega arith) (omega arith)) a)

-- ---- one atom after an open beginning

pub opens_in :
    {F : Family} (p : List ℕ) {i v : ℕ} {plan : Plan} → i < length p → v ≡ atom_at p i → Tells F (take i p) plan v →
    has plan.opens v ≡ is_open F (take (suc i) p)
opens_in {F} p {i} {v} h e k =
    let whole : take i p ++ v ∷ [] ≡ take (suc i) p = rw e (sym (take-suc p i 0 h)) in
    k.opens ∙ ap (is_open F) whole

-- ---- the loop over the places

-- the atoms before place i are an open beginning
pub record OpenTo (n : ℕ) (table : List ℕ) (kind s t : ℕ) (p : List ℕ) (i : ℕ) : Type 0 where
  pub within : i ≤ length p
  pub opened : is_open (family_by n table kind s t) (take i p) ≡ true

module _ {n : ℕ} {table : List ℕ} {kind s t : ℕ} {p : List ℕ} {i : ℕ} (k : OpenTo n table kind s t p i) where
  pub open-beginning :
      SearchTable n table kind t × (kind_kept n kind s t ≡ true) × (length p ≤ 127) →
      Beginning n table kind s t (take i p)
  open-beginning (words, kinds, short) =
      record {
        words = words;
        kinds = kinds;
        short = omega (arith, length-take-le i p k.within, k.within);
        is_opened = k.opened;
      }

  -- beside another beginning
  pub open-beside :
      {q : List ℕ} → Beginning n table kind s t q → length p ≤ 127 → Beginning n table kind s t (take i p)
  open-beside b short = open-beginning (b.words, b.kinds, short)

  pub open-stops :
      {opens : Bool} → opens ≡ is_open (family_by n table kind s t) (take (suc i) p) → opens ≡ false →
      is_open (family_by n table kind s t) p ≡ false
  open-stops {opens} e fails =
      open-cut (family_by n table kind s t) (family-by-lawful n table kind s t) (suc i) p (sym e ∙ fails)

  pub open_more :
      {opens : Bool} → i < length p → opens ≡ is_open (family_by n table kind s t) (take (suc i) p) →
      opens ≡ true → OpenTo n table kind s t p (i + 1)
  open_more {opens} h e passes =
      record { within = omega arith; opened = rw (add-one i) (sym e ∙ passes) }

-- the empty beginning
pub open_none : (F : Family) (p : List ℕ) → length p ≡ 0 → is_open F p ≡ true
unfolding is_open
open_none F [] e = refl
open_none F (x ∷ p) e = absurd (omega arith)

-- ---- a ring beginning of one atom, tested by itself

module _ (n : ℕ) (table : List ℕ) (most : ℕ) (p : List ℕ) (some : 1 ≤ length p) where
  pub one-no-atom :
      {a : ℕ} → a ≡ atom_at p 0 → is_atom n a ≡ false → is_open (rings_by n table most) (take 1 p) ≡ false
  one-no-atom at none =
      let L = rings-by-lawful n table most in
      rw (one-taken p some) (no-atom L refl (atom_at p 0 ∷ []) {i = 0} (omega arith) at none)

  -- of a ring search
  pub one-of-rings :
      {opens : Bool} (kind s t : ℕ) → n ≤ 128 → most ≡ most_atoms kind s → length p < first_length kind →
      opens ≡ is_open (rings_by n table most) (take 1 p) →
      opens ≡ is_open (family_by n table kind s t) p
  one-of-rings kind s t few most-is short told = told ∙ sym (go (either (lists_paths kind)))
    where
      whole : take 1 p ≡ p
      whole = take_all 1 p (omega (arith, first-few kind))

      go :
          (lists_paths kind ≡ true) ⊎ (lists_paths kind ≡ false) →
          is_open (family_by n table kind s t) p ≡ is_open (rings_by n table most) (take 1 p)
      go (inl path) = absurd (omega (arith, first-of-paths kind path))
      go (inr ring) = rw (family-rings n table kind s t ring few, whole, most-is)

-- ---- the shortest beginning that two sets steer, tested by itself

module _ (n : ℕ) (table : List ℕ) (kind s t : ℕ) (p : List ℕ) (long : first_length kind ≤ length p) where
  abbrev FirstOpens : Bool → Type 0
  FirstOpens opens = opens ≡ is_open (family_by n table kind s t) (take (first_length kind) p)

  module _ (words : SearchTable n table kind t) where
    pub first-path-opens :
        {a : ℕ} {opens : Bool} → lists_paths kind ≡ true → a ≡ atom_at p 0 →
        opens ≡ is_open (paths_by n table s t) (a ∷ []) → FirstOpens opens
    first-path-opens path at told =
        let some : 1 ≤ length p = omega (arith, first-of-paths kind path) in
        told ∙ rw (family-paths n table kind s t path words, first-of-paths kind path, one-taken p some, at)

    module _ (ring : lists_paths kind ≡ false) where
      two : take (first_length kind) p ≡ atom_at p 0 ∷ atom_at p 1 ∷ []
      two = rw (first-of-rings kind ring) (two-taken p (omega (arith, first-of-rings kind ring)))

      pub first-ring-opens :
          {most a b : ℕ} {opens : Bool} → most ≡ most_atoms kind s → a ≡ atom_at p 0 → b ≡ atom_at p 1 →
          opens ≡ is_open (rings_by n table most) (a ∷ b ∷ []) → FirstOpens opens
      first-ring-opens most-is at at_next told =
          told ∙ rw (family-rings n table kind s t ring words.few, two, most-is, at, at_next)

      -- no atom stands at one of its places
      pub first-no-atom : {i v : ℕ} → i < 2 → v ≡ atom_at p i → is_atom n v ≡ false → FirstOpens false
      first-no-atom {i} {v} h at none =
          let L = family-by-lawful n table kind s t in
          let size : i < length (take (first_length kind) p) =
          omega (arith, first-of-rings kind ring, length-take-le (first_length kind) p long) in
          sym (no-atom L (family-by-atoms n table kind s t) (take (first_length kind) p) size
          (at ∙ sym (get_or-take (first_length kind) p i 0 (omega (arith, first-of-rings kind ring)))) none)

  -- a beginning that goes on from it
  module _ {opens : Bool} (told : FirstOpens opens) where
    pub first_stops : opens ≡ false → is_open (family_by n table kind s t) p ≡ false
    first_stops fails =
        open-cut (family_by n table kind s t) (family-by-lawful n table kind s t) (first_length kind) p
        (sym told ∙ fails)
