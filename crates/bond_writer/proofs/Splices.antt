-- Texts put over a list one after another, each where the last one ends, are their concatenation put over it once.
-- A splice is what stands before it, the text, and what stands past it, so the next splice leaves the first two alone.
use Prim.Native.Nat.{ℕ, ◌+◌, ◌-◌, ◌*◌, ◌≤◌, ◌<◌}
use native.Mathlib.Nat.{add-zero, zero-add}
use native.Mathlib.Numerals.{add-one}
use native.Mathlib.Omega.{arith}
use mathlib.Core.Path.{◌≡◌, refl, ap, ap₂, sym, ◌∙◌}
use mathlib.Core.List.{List, [], ◌∷◌, ◌++◌, append_assoc, append-nil}
use lib.ListN.{length, get_or, take, drop, set, length-append, length-drop, take-append-drop, drop_of_length-le}
use lib.Seq.{take_at, drop-append-add, drop-drop, take_all, append_snoc, set_split, length-take-le}
use Rattle.fields.specs.Field.{field_text}
use Rattle.fields.proofs.Laws.{field-length}
use Rattle.fields.proofs.Places.{place-first, place-on, place-fits}
use Rattle.search.specs.Mark.{fields_text}
use Rattle.search.proofs.Text.{fields-length, fields-more}
use Rattle.bond_writer.specs.Parts.{spliced}

-- ---- one splice

pub splice-none : (l : List ℕ) (at : ℕ) → spliced at [] l ≡ l
unfolding spliced
splice-none l at = rw (append-nil (take at l), add-zero) (take-append-drop at l)

pub splice-start : (l text : List ℕ) → spliced 0 text l ≡ text ++ drop (length text) l
unfolding spliced
splice-start l text = rw zero-add

-- a byte
pub splice-byte : (l : List ℕ) (at b : ℕ) → at < length l → set l at b ≡ spliced at (b ∷ []) l
unfolding spliced
splice-byte l at b h = set_split l at b h ∙ rw (append_snoc, add-one)

-- a text of k bytes written into its part of the list
splice-part :
    (l : List ℕ) {last text : List ℕ} (at k : ℕ) → at + k ≤ length l → length text ≡ k → last ≡ text →
    take at l ++ (last ++ drop (at + k - at) (drop at l)) ≡ spliced at text l
unfolding spliced
splice-part l at k h size e =
    let part : at + k - at ≡ k = omega arith in
    rw (e, part, drop-drop k at l, size, append_assoc)

-- the length of that part
part_length : (l : List ℕ) (at k : ℕ) → at + k ≤ length l → length (take (at + k - at) (drop at l)) ≡ k
part_length l at k h =
    let room : at + k - at ≤ length (drop at l) = rw (length-drop at l) (omega arith) in
    length-take-le (at + k - at) (drop at l) room ∙ omega arith

-- a field
pub splice-field :
    (l : List ℕ) {last : List ℕ} (at columns v : ℕ) → at + columns ≤ length l →
    last ≡ field_text (length (take (at + columns - at) (drop at l))) v →
    take at l ++ (last ++ drop (at + columns - at) (drop at l)) ≡ spliced at (field_text columns v) l
splice-field l at columns v h e =
    splice-part l at columns h (field-length columns v) (e ∙ ap (λ k. field_text k v) (part_length l at columns h))

-- a source at least as long as the target fills it
pub filled :
    (src dst out : List ℕ) → length dst ≤ length src → out ≡ take (length src) src ++ drop (length src) dst → out ≡ src
filled src dst out h copied =
    let whole = take_all (length src) src (omega arith) in
    let nothing = drop_of_length-le dst h in
    copied ∙ ap₂ (λ a b. a ++ b) whole nothing ∙ append-nil src

-- a copy of what another list has from a place on
pub splice-copy :
    (l bytes : List ℕ) {last : List ℕ} (at from : ℕ) {start : ℕ} → start ≡ from → from ≤ length bytes →
    at + (length bytes - from) ≤ length l →
    let k = length bytes - start in
    let copied = take k (drop start bytes) in
    last ≡ take (length copied) copied ++ drop (length copied) (take (at + k - at) (drop at l)) →
    take at l ++ (last ++ drop (at + k - at) (drop at l)) ≡ spliced at (drop from bytes) l
splice-copy l bytes at from is whole room e =
    let k = length bytes - from in
    let size : length (drop from bytes) ≡ k = length-drop from bytes in
    let all : take k (drop from bytes) ≡ drop from bytes = take_all k (drop from bytes) (omega arith) in
    let part = part_length l at k room in
    rw is (splice-part l at k room size (filled _ _ _ (rw (all, size, part) (omega arith)) (rw is at e) ∙ all))

-- the same where what was written is the copy itself
pub splice-copied :
    (l bytes : List ℕ) {last : List ℕ} (at from : ℕ) {start : ℕ} → start ≡ from → from ≤ length bytes →
    at + (length bytes - from) ≤ length l →
    let k = length bytes - start in
    last ≡ take k (drop start bytes) →
    take at l ++ (last ++ drop (at + k - at) (drop at l)) ≡ spliced at (drop from bytes) l
splice-copied l bytes at from is whole room e =
    let k = length bytes - from in
    let size : length (drop from bytes) ≡ k = length-drop from bytes in
    let all : take k (drop from bytes) ≡ drop from bytes = take_all k (drop from bytes) (omega arith) in
    rw is (splice-part l at k room size (rw is at e ∙ all))

-- ---- one after another

pub splice-on :
    (l a b : List ℕ) (at : ℕ) → at + length a + length b ≤ length l →
    spliced (at + length a) b (spliced at a l) ≡ spliced at (a ++ b) l
unfolding spliced
splice-on l a b at h =
    let front = take at l ++ a in
    let rest = drop (at + length a) l in
    let end = at + length (a ++ b) in
    let size : length front ≡ at + length a = rw (length-append, length-take-le at l (omega arith)) in
    let same-front : take (at + length a) (front ++ rest) ≡ front = take_at front rest (at + length a) size in
    let past : at + length a + length b ≡ length front + length b = rw size in
    let all : at + length a + length b ≡ end = rw length-append (omega arith) in
    let moved = drop-append-add front rest (length b) ∙ drop-drop (length b) (at + length a) l in
    let same_rest = ap (λ k. drop k (front ++ rest)) past ∙ moved ∙ ap (λ k. drop k l) all in
    rw (same-front, same_rest) (ap (λ t. t ++ drop end l) (append_assoc (take at l) a b))

-- the same, where the first splice's list and the second's place are known by equations
pub splice-next :
    (l a b out : List ℕ) (at place : ℕ) → out ≡ spliced at a l → place ≡ at + length a → place + length b ≤ length l →
    spliced place b out ≡ spliced at (a ++ b) l
splice-next l a b out at place e p h = rw (e, p) (splice-on l a b at (omega arith))

-- ---- fields in a row

-- the first i values are put over l from `at` on, in fields of c columns, and `place` is where they end
pub record Put (l vs : List ℕ) (at c : ℕ) (out : List ℕ) (i place : ℕ) : Type 0 where
  pub room : at + c * length vs ≤ length l
  pub within : i ≤ length vs
  pub ends : place ≡ at + c * i
  pub size : length out ≡ length l
  pub put : out ≡ spliced at (fields_text c (take i vs)) l

pub put-none : {l vs : List ℕ} {at c : ℕ} → at + c * length vs ≤ length l → Put l vs at c l 0 at
unfolding fields_text
put-none {l} {vs} {at} {c} room =
    record {
      room = room;
      within = omega arith;
      ends = place-first at c;
      size = refl;
      put = sym (splice-none l at);
    }

module _ {l vs : List ℕ} {at c : ℕ} {out : List ℕ} {i place : ℕ} (p : Put l vs at c out i place) where
  pub put-fits : i < length vs → place + c ≤ length out
  put-fits h = rw p.size (place-fits at c (length vs) (length l) i place p.room h p.ends)

  -- the field of the next value is put at the place
  pub put-more :
      {v : ℕ} {out' : List ℕ} → i < length vs → v ≡ get_or vs i 0 → length out' ≡ length out →
      out' ≡ spliced place (field_text c v) out → Put l vs at c out' (i + 1) (place + c)
  put-more h is-value same e =
      let value = get_or vs i 0 in
      let size = fields-length c (take i vs) ∙ ap (λ k. c * k) (length-take-le i vs (omega arith)) in
      let here = p.ends ∙ ap (λ k. at + k) (sym size) in
      let room : place + length (field_text c value) ≤ length l = rw field-length (rw p.size at (put-fits h)) in
      let on = splice-next l (fields_text c (take i vs)) (field_text c value) out at place p.put here room in
      record {
        room = p.room;
        within = omega arith;
        ends = place-on at c i place p.ends;
        size = same ∙ p.size;
        put = rw (e, is-value, fields-more c vs i h) on;
      }

  pub put_all : length vs ≤ i → out ≡ spliced at (fields_text c vs) l
  put_all h = rw (take_all i vs h) at p.put
