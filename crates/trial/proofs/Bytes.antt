-- A record is written from the start of the output on: the length byte, the atoms of the beginning and the last one.
-- The part of the output that is lent for it comes back into its place.
use Prim.Native.Nat.{ℕ, suc, ◌+◌, ◌-◌, ◌≤◌, ◌<◌}
use native.Mathlib.Numerals.{add-one}
use native.Mathlib.Omega.{arith}
use mathlib.Core.Path.{◌≡◌, refl, ap, sym, ◌∙◌}
use mathlib.Core.List.{List, [], ◌∷◌, ◌++◌, append-nil}
use lib.ListN.{length, get_or, take, drop, set, length-append, length-drop, drop_of_length-le}
use lib.Seq.{drop-cons, take_all, set_at, append_snoc, length-take-le}
use borrow.Rule.Slice.PartMut.{put_mid}
use Rattle.enumeration.specs.Run.{record_of}

-- a store at the end of what is written
put_next :
    (p out : List ℕ) (k v : ℕ) → length p ≡ k → k < length out →
    set (p ++ drop k out) k v ≡ (p ++ v ∷ []) ++ drop (suc k) out
put_next p out k v e h =
    rw (drop-cons out k 0 h)
    (set_at p (get_or out k 0) (drop (suc k) out) v k e ∙ sym (append_snoc p v (drop (suc k) out)))

-- the length of the word of a beginning and c
word-length : (p : List ℕ) (c : ℕ) → length (p ++ c ∷ []) ≡ suc (length p)
word-length p c = omega (arith, length-append p (c ∷ []))

-- the length byte, the beginning's atoms and the last one
pub record-put :
    (p out : List ℕ) (c : ℕ) → length p + 2 ≤ length out →
    set (put_mid 1 (length p + 1 - 1) (set out 0 (length p + 1)) p) (length p + 1) c
    ≡ record_of (p ++ c ∷ []) ++ drop (length p + 2) out
unfolding record_of
record-put p [] c room = absurd (omega arith)
record-put p (x ∷ out) c room =
    let two : length p + 2 ≡ suc (suc (length p)) = omega arith in
    let one : suc (length p) - 1 ≡ length p = omega arith in
    rw (add-one (length p), one, two, word-length p c)
    (put_next (suc (length p) ∷ p) (x ∷ out) (suc (length p)) c refl (omega arith))

-- ---- the part of the output that is lent

part-whole : (out : List ℕ) (used : ℕ) → used ≤ length out → take (length out - used) (drop used out) ≡ drop used out
part-whole out used h = take_all (length out - used) (drop used out) (omega (arith, length-drop used out))

pub part_length :
    (out : List ℕ) (used : ℕ) → used ≤ length out →
    length (take (length out - used) (drop used out)) ≡ length out - used
part_length out used h = ap length (part-whole out used h) ∙ length-drop used out

-- the output with the part back, a record at its start
pub part-back :
    (out part bytes : List ℕ) (used k : ℕ) → used ≤ length out →
    part ≡ bytes ++ drop k (take (length out - used) (drop used out)) →
    put_mid used (length out - used) out part ≡ take used out ++ (bytes ++ drop k (drop used out))
part-back out part bytes used k h e =
    let all : length (drop used out) ≤ length out - used = omega (arith, length-drop used out) in
    let none : drop (length out - used) (drop used out) ≡ [] = drop_of_length-le (drop used out) all in
    rw (e, none, part-whole out used h, append-nil (bytes ++ drop k (drop used out)))

pub record-length :
    (prefix : List ℕ) (len c : ℕ) → length prefix ≡ 128 → len ≤ 127 →
    length (record_of (take len prefix ++ c ∷ [])) ≡ len + 2
unfolding record_of
record-length prefix len c size short =
    omega (arith, word-length (take len prefix) c, length-take-le len prefix (omega arith))
