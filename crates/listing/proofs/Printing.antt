-- What `print` has written at each head of its loop, and what a turn adds to it.
-- By the turns of what is left, which come to a last one where the listing stands.
use Rattle.std.proofs.Common.{◌≡◌, ℕ, ◌≤◌, List, Option, [], ◌++◌, length, take, refl, sym, ap, ◌∙◌, subst, arith}
use Rattle.std.proofs.Common.{◌<◌, None, Some, IfSome, OnOk, Result, append_assoc, append-nil, length-take}
use Rattle.std.specs.Io.KnownBytes.{Appends, Consumes, IsAtEnd}
use Rattle.std.proofs.KnownBytes.{Appends-nil, Appends-trans}
use Rattle.std.proofs.lemmas.List.{length-replicate}
use Rattle.std.proofs.lemmas.Result.{on_ok_weaker}
use Rattle.listing.specs.declared.Listing.{Listing}
use Rattle.listing.specs.declared.Turn.{Turn}
use Rattle.listing.specs.Sound.{Sound}
use Rattle.listing.specs.Turns.{turned, turned_text, text_of, Prints, ends, goes_on}
use Rattle.listing.specs.Printing.{piece, AppendsPart, PrintsOn, PrintsPart, ListedPart, ListedWhole, ListsPart}
use Rattle.listing.proofs.Bytes.{read-first}
use Rattle.listing.proofs.Joined.{sound-prints}
use Rattle.listing.proofs.Laws.{prints-one}

pub piece-room : 65536 ≤ length piece
unfolding piece
piece-room = omega (arith, length-replicate {A = ℕ})

-- a text of a listing begins with that of its first turn
begins-with :
    {l : Listing} {buffer text : List ℕ} → Prints l buffer text → (rest : List ℕ) × (text ≡ text_of l buffer ++ rest)
begins-with (ends l buffer e) = ([], sym (append-nil (text_of l buffer)))
begins-with (goes_on l next buffer rest e p) = (rest, refl)

-- old has grown by what is printed, and what is left of the text belongs after that
pub record Printing (begun : Listing) (old new : Option (List ℕ)) (l : Listing) (buffer : List ℕ) : Type 0 where
  pub done : List ℕ
  pub appended : Appends old new done
  pub rest : (text : List ℕ) → Prints l buffer text → Prints begun piece (done ++ text)

pub printing-begins : (l : Listing) (held : Option (List ℕ)) → Printing l held held l piece
printing-begins l held = record { done = []; appended = Appends-nil held; rest = λ text prints. prints }

-- ---- one turn

-- its piece is its text
turn-text :
    (l : Listing) (buffer : List ℕ) {after : List ℕ} {turn : Turn} →
    (turn ≡ turned l buffer) × (after ≡ turned_text l buffer) → take turn.size after ≡ text_of l buffer
turn-text l buffer (is-turn, is-after) = rw (is-turn, is-after) refl

-- and then its piece, or a beginning of it, is written
module _
    {begun l : Listing} {old mid : Option (List ℕ)} (new : Option (List ℕ)) {buffer after : List ℕ} {turn : Turn}
    (p : Printing begun old mid l buffer)
    (is : (turn ≡ turned l buffer) × (after ≡ turned_text l buffer))
  where
    longer : Appends mid new (take turn.size after) → Appends old new (p.done ++ text_of l buffer)
    longer w =
        Appends-trans old mid new p.done (text_of l buffer) p.appended
        (subst (Appends mid new) (turn-text l buffer is) w)

    -- it was the last one
    pub printing-ends : turn.next ≡ None → Appends mid new (take turn.size after) → PrintsOn begun old new
    printing-ends last w =
        let e : (turned l buffer).next ≡ None = rw (← is.0) last in
        (p.done ++ text_of l buffer, p.rest (text_of l buffer) (ends l buffer e), longer w)

    -- another follows
    pub printing-goes-on :
        {next : Listing} → turn.next ≡ Some next → Appends mid new (take turn.size after) →
        Printing begun old new next after
    printing-goes-on {next} more w =
        let (is-turn, is-after) = is in
        let e : (turned l buffer).next ≡ Some next = rw (← is-turn) more in
        record {
          done = p.done ++ text_of l buffer;
          appended = longer w;
          rest = λ text prints.
              subst (Prints begun piece) (sym (append_assoc p.done (text_of l buffer) text))
              (p.rest (text_of l buffer ++ text)
              (goes_on l next buffer text e (rw (← is-after) prints)));
        }

    -- or the write failed
    pub printing-part :
        65536 ≤ length buffer → Sound l → AppendsPart mid new (take turn.size after) → PrintsPart begun old new
    printing-part room sound (front, back, split, w) =
        let (text, prints) = sound-prints l buffer room sound in
        let (rest, start) = begins-with prints in
        let joined : p.done ++ text ≡ (p.done ++ front) ++ (back ++ rest) =
        ap (λ t. p.done ++ t)
        (start ∙ ap (λ t. t ++ rest) (sym (turn-text l buffer is) ∙ split) ∙ append_assoc front back rest)
        ∙ sym (append_assoc p.done front (back ++ rest))
        in
        let grown = Appends-trans old mid new p.done front p.appended w in
        (p.done ++ text, p.rest text prints, (p.done ++ front, back ++ rest, joined, grown))

-- ---- a listing prints one text (`prints-one`)

module _ {l : Listing} {text : List ℕ} (old new : Option (List ℕ)) (prints : Prints l piece text) where
  pub printed-is : PrintsOn l old new → Appends old new text
  printed-is (other, p, w) = subst (Appends old new) (prints-one p prints) w

  pub part-is : PrintsPart l old new → AppendsPart old new text
  part-is (other, p, (front, back, split, w)) = (front, back, sym (prints-one p prints) ∙ split, w)

-- ---- what `list` does: n bytes of a buffer of that size are read, and they have the listing l

module _
    {opens : List ℕ → Listing → Type 0} {room : ℕ} {left rest old new : Option (List ℕ)} (n : ℕ) (buffer : List ℕ)
    {l : Listing} (within : n ≤ length buffer) (size : length buffer ≡ room)
    (consumed : Consumes left rest (take n buffer)) (opened : opens (take n buffer) l)
  where
    pub listed-part : PrintsPart l old new → ListedPart opens room left rest old new
    listed-part printed = record {
      bytes = take n buffer;
      within = omega (arith, length-take n buffer, within);
      consumed = consumed;
      listing = l;
      opened = opened;
      printed = printed;
    }

    pub listed-whole :
        PrintsOn l old new → (n < length buffer → IsAtEnd rest) → ListedWhole opens room left rest old new
    listed-whole printed end = record {
      bytes = take n buffer;
      within = omega (arith, length-take n buffer, within);
      consumed = consumed;
      whole = λ few. end (omega (arith, length-take n buffer, within));
      listing = l;
      opened = opened;
      printed = printed;
    }

-- ---- what a program lists: a text that the first `room` bytes of its input decide

module _
    {opens : List ℕ → Listing → Type 0} (opened : List ℕ → Listing) (text : List ℕ → List ℕ) (room : ℕ)
    (opens-one : (bytes : List ℕ) (l : Listing) → opens bytes l → l ≡ opened bytes)
    (prints : (bytes : List ℕ) → length bytes ≤ room → Prints (opened bytes) piece (text bytes))
    (first : (input : List ℕ) → text (take room input) ≡ text input)
  where
    prints-read :
        (bytes : List ℕ) (l : Listing) → length bytes ≤ room → opens bytes l → Prints l piece (text bytes)
    prints-read bytes l within is = rw (opens-one bytes l is) (prints bytes within)

    module _ (left rest old new : Option (List ℕ)) where
      -- a beginning of the text of the bytes that are read
      pub lists-part : ListedPart opens room left rest old new → ListsPart text left rest old new
      lists-part x =
          (x.bytes, x.consumed, part-is old new (prints-read x.bytes x.listing x.within x.opened) x.printed)

      -- and all of the input's, where they fill the buffer or the reader is at its end
      lists-whole : ListedWhole opens room left rest old new → IfSome left (λ input. Appends old new (text input))
      lists-whole x = by left (read-first left rest x.bytes room x.within x.consumed x.whole)
        where
          by :
              (known : Option (List ℕ)) → IfSome known (λ input. x.bytes ≡ take room input) →
              IfSome known (λ input. Appends old new (text input))
          by None e = tt
          by (Some input) e =
              subst (Appends old new) (ap text e ∙ first input)
              (printed-is old new (prints-read x.bytes x.listing x.within x.opened) x.printed)

      pub lists-all :
          {T E : Type 0} (r : Result T E) → OnOk r (ListedWhole opens room left rest old new) →
          OnOk r (IfSome left (λ input. Appends old new (text input)))
      lists-all r x = on_ok_weaker r lists-whole x
