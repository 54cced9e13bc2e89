-- The atoms of a mark in their array of bytes, at most 255 each: rule 17 does not tell them from the atoms themselves.
-- An open beginning has atoms from 1 to n, and n is at most 128, so where either is open the two are the same list.
use Prim.Native.Nat.{ℕ, zero, suc, ◌+◌, ◌-◌, ◌*◌, ◌≤◌, ◌<◌}
use native.Mathlib.Nat.{add-zero}
use native.Mathlib.Numerals.{add-one}
use native.Mathlib.Omega.{arith}
use mathlib.Core.Path.{◌≡◌, refl, ap, sym, ◌∙◌}
use mathlib.Core.Bool.{true}
use mathlib.Core.List.{List, [], ◌∷◌, ◌++◌, map, map-append}
use lib.ListN.{length, get_or, set, replicate, length-append, length-map, length-set, get_or-map}
use lib.Seq.{append_snoc, set-append_seam, ext_get_or}
use Rattle.graph.proofs.Below.{same_test}
use Rattle.enumeration.specs.Words.{Family, is_open}
use Rattle.enumeration.specs.Lawful.{Lawful}
use Rattle.enumeration.specs.Machine.{is_empty}
use Rattle.search.specs.Place.{held, place_kept}
use Rattle.search.specs.Mark.{value_at, values_at}
use Rattle.search.proofs.Text.{values-four, values_length}
use Rattle.search.proofs.Readings.{open-range}
use Rattle.mark_reader.specs.Parts.{low}

-- ---- filling the array

values-snoc :
    (bytes : List ℕ) (at k : ℕ) → values_at bytes at (suc k) ≡ values_at bytes at k ++
    value_at 4 bytes (at + 4 * k) ∷ []
unfolding values_at
values-snoc bytes at zero = rw add-zero
values-snoc bytes at (suc k) =
    let place : at + 4 + 4 * k ≡ at + 4 * suc k = omega arith in
    rw (← place) (ap (λ l. value_at 4 bytes at ∷ l) (values-snoc bytes (at + 4) k))

held-snoc : (p : List ℕ) (v : ℕ) → length p < 128 → set (held p) (length p) v ≡ held (p ++ v ∷ [])
unfolding held
held-snoc p v h =
    let more : 128 - length p ≡ suc (127 - length p) = omega arith in
    let left : 128 - (length p + 1) ≡ 127 - length p = omega arith in
    rw (more, length-append, left)
    (set-append_seam p 0 (replicate (127 - length p) 0) v ∙ sym (append_snoc p v (replicate (127 - length p) 0)))

pub values-size : (bytes : List ℕ) (at k : ℕ) → length (values_at bytes at k) ≡ k
values-size bytes at k = ap length (values-four bytes at k) ∙ values_length 4 bytes at k

pub low-length : (bytes : List ℕ) (k : ℕ) → length (map low (values_at bytes 90 k)) ≡ k
low-length bytes k = length-map (values_at bytes 90 k) low ∙ values-size bytes 90 k

-- the array holds the first i of k atoms, and zeros past them
pub record Filled (bytes : List ℕ) (k : ℕ) (prefix : List ℕ) (i : ℕ) : Type 0 where
  pub within : i ≤ k
  pub size : length prefix ≡ 128
  pub holds : prefix ≡ held (map low (values_at bytes 90 i))

pub filled_none : {bytes : List ℕ} {k : ℕ} → Filled bytes k (replicate 128 0) 0
unfolding held values_at
filled_none = record { within = omega arith; size = refl; holds = refl }

module _ {bytes : List ℕ} {k : ℕ} {prefix : List ℕ} {i : ℕ} (f : Filled bytes k prefix i) where
  pub filled_more :
      {v b : ℕ} → k ≤ 127 → i < k → v ≡ value_at 4 bytes (90 + 4 * i) → b ≡ low v →
      Filled bytes k (set prefix i b) (i + 1)
  filled_more few more is-value is-low =
      let value = value_at 4 bytes (90 + 4 * i) in
      let atoms = map low (values_at bytes 90 i) in
      let one = rw (low-length bytes i) at (held-snoc atoms (low value) (omega (arith, low-length bytes i))) in
      let next = map-append low (values_at bytes 90 i) (value ∷ []) in
      record {
        within = omega arith;
        size = simp length-set f.size;
        holds = rw (f.holds, is-low, is-value, add-one, values-snoc bytes 90 i, next) one;
      }

  pub filled-all : k ≤ i → prefix ≡ held (map low (values_at bytes 90 k))
  filled-all h = let same : i ≡ k = omega (arith, f.within) in rw same at f.holds

-- ---- the stored atoms and the atoms

module _ (F : Family) (L : Lawful F) (few : F.atoms ≤ 128) (p : List ℕ) where
  low-at : (i : ℕ) → get_or (map low p) i 0 ≡ low (get_or p i 0)
  low-at i = get_or-map low p i 0

  low_of : ((i : ℕ) → i < length p → low (get_or p i 0) ≡ get_or p i 0) → map low p ≡ p
  low_of f = ext_get_or 0 (map low p) p (length-map p low) (λ i h. low-at i ∙ f i (omega (arith, length-map p low)))

  pub open-stored : is_open F p ≡ true → map low p ≡ p
  open-stored e = low_of (λ i h. let r = open-range F L p e i h in omega arith)

  pub stored-open : is_open F (map low p) ≡ true → map low p ≡ p
  stored-open e =
      low_of (λ i h. let r = open-range F L (map low p) e i (omega (arith, length-map p low)) in
      omega (arith, low-at i))

  stored_same : is_open F (map low p) ≡ is_open F p
  stored_same =
      same_test (is_open F (map low p)) (is_open F p) (λ e. rw (stored-open e) at e) (λ e. rw (open-stored e) e)

  same-empty : (w : List ℕ) → is_empty (map low w) ≡ is_empty w
  unfolding is_empty
  same-empty [] = refl
  same-empty (a ∷ w) = refl

  pub place-stored : (c : ℕ) → place_kept F (map low p) c ≡ place_kept F p c
  unfolding place_kept
  place-stored c = rw (stored_same, same-empty p)
