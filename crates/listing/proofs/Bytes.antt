-- Bytes that are written or read in parts, one after the other.
use Rattle.std.proofs.Common.{◌≡◌, ℕ, ◌+◌, ◌-◌, ◌≤◌, List, Option, ◌++◌, length, take, drop, arith, sym, ap, ◌∙◌, subst}
use Rattle.std.proofs.Common.{take-append-drop, take-add, take_all, take_at, drop_at, length-drop, length-take-le, le_refl}
use Rattle.std.proofs.Common.{◌<◌, None, Some, IfSome, append-nil}
use mathlib.Core.Logic.{inl, inr}
use lib.Dec.{ltb}
use borrow.Author.Tests.{ltb-true, ltb-false}
use Rattle.enumeration.proofs.Basics.{Decided, decided}
use Rattle.std.proofs.lemmas.Slice.{take-put_mid_below}
use Rattle.std.specs.Io.KnownBytes.{Appends, Consumes, IsAtEnd}
use Rattle.std.proofs.KnownBytes.{Appends-trans, Consumes-trans}
use borrow.Rule.Slice.PartMut.{put_mid, post_of}
use lib.Seq.{take-append-le}
use Rattle.listing.specs.Printing.{AppendsPart}

-- the first n bytes are a beginning
pub taken-part :
    (old new : Option (List ℕ)) (text : List ℕ) (n : ℕ) → Appends old new (take n text) → AppendsPart old new text
taken-part old new text n appended = (take n text, drop n text, sym (take-append-drop n text), appended)

-- the first a bytes are written, and then n of the others
pub taken-more :
    (old mid new : Option (List ℕ)) (text : List ℕ) (a n : ℕ) →
    Appends old mid (take a text) → Appends mid new (take n (take (length text - a) (drop a text))) →
    Appends old new (take (a + n) text)
taken-more old mid new text a n first more =
    let rest : take (length text - a) (drop a text) ≡ drop a text =
    take_all (length text - a) (drop a text) (omega (arith, length-drop a text))
    in
    let joined : take a text ++ take n (take (length text - a) (drop a text)) ≡ take (a + n) text =
    ap (λ l. take a text ++ take n l) rest ∙ sym (take-add a n text)
    in
    subst (Appends old new) joined (Appends-trans old mid new _ _ first more)

-- the first a bytes are read, and then n that stand after them
pub read-more :
    (left mid rest : Option (List ℕ)) (all put : List ℕ) (a k n : ℕ) → a ≤ length all → n ≤ length put →
    Consumes left mid (take a all) → Consumes mid rest (take n put) →
    Consumes left rest (take (a + n) (put_mid a k all put))
read-more left mid rest all put a k n within fits first more =
    let whole = put_mid a k all put in
    let after : take n (drop a whole) ≡ take n put =
    ap (take n) (drop_at (take a all) (put ++ post_of a k all) a (length-take-le a all within))
    ∙ take-append-le n put (post_of a k all) fits
    in
    let joined : take a all ++ take n put ≡ take (a + n) whole =
    ap (λ l. take a all ++ l) (sym after)
    ∙ ap (λ l. l ++ take n (drop a whole)) (sym (take-put_mid_below a k all put a (le_refl a) within))
    ∙ sym (take-add a n whole)
    in
    subst (Consumes left rest) joined (Consumes-trans left mid rest _ _ first more)

-- bytes read that fill the room, or are all that there is, are the first of what the reader has
pub read-first :
    (left rest : Option (List ℕ)) (bytes : List ℕ) (room : ℕ) → length bytes ≤ room → Consumes left rest bytes →
    (length bytes < room → IsAtEnd rest) → IfSome left (λ input. bytes ≡ take room input)
read-first None rest bytes room fits split end = tt
read-first (Some input) None bytes room fits split end = absurd split
read-first (Some input) (Some more) bytes room fits split end = by (decided (ltb (length bytes) room))
  where
    by : Decided (ltb (length bytes) room) → bytes ≡ take room input
    by (inl e) =
        let whole : input ≡ bytes =
        split ∙ ap (λ l. bytes ++ l) (end (ltb-true (length bytes) room e)) ∙ append-nil bytes
        in
        rw whole (sym (take_all room bytes fits))
    by (inr e) =
        let full : length bytes ≡ room = omega (arith, ltb-false (length bytes) room e) in
        rw split (sym (take_at bytes more room full))
