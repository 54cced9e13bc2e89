-- What the functions of a listing return is what the definitions say.
-- From what their callees ensure, by the definitions.
use Rattle.std.specs.Prelude.{Some, Err, Ok, Result}
use Prim.Native.Nat.{ℕ, ◌*◌, ◌≤◌}
use native.Mathlib.Omega.{arith}
use mathlib.Core.Path.{◌≡◌, refl}
use mathlib.Core.Bool.{Bool, true, false, cond}
use mathlib.Core.List.{List, []}
use lib.ListN.{length, take, drop, length-append}
use borrow.Author.Tests.{le-leb}
use Rattle.refusal.specs.declared.Refusal.{Refusal}
use Rattle.refusal.specs.declared.Refusal.TheVariants as refusal
use Rattle.refusal.specs.Number.{number_of}
use Rattle.report.specs.Lines.{refusal_line, ring_lines, lines_of_first, printed, printed_on}
use Rattle.molecule.specs.declared.Molecule.{Molecule}
use Rattle.molecule.specs.Record.{well_formed}
use Rattle.enumeration.specs.Run.{Outcome}
use Rattle.search.specs.declared.Search.{Search}
use Rattle.search.specs.declared.Ran.{Ran}
use Rattle.search.specs.Place.{restorable}
use Rattle.search.specs.Entries.{outcome, ran, run_search, run_output}
use Rattle.report.proofs.Texts.{printed-within}
use Rattle.listing.specs.declared.Listing.{Listing}
use Rattle.listing.specs.declared.Listing.TheVariants.{Refused, Rings, Counts}
use Rattle.listing.specs.declared.Turn.{Turn}
use Rattle.listing.specs.Turns.{budget, output, run_records, after_stop, rings_turn, rings_on, counts_of}
use Rattle.listing.specs.Turns.{turned, turned_text}

-- ---- one more run

-- the answer of a run with an outcome, by whether rules 9 and 12 are kept
abbrev pub answered : Search → Outcome → Bool → Bool → Result Ran Refusal
answered q o x y = cond x (cond y (Ok (ran q o)) (Err refusal.Search)) (Err refusal.Record)

-- an accepted one is that of its outcome
pub ran-is :
    (q : Search) (o : Outcome) {r : Ran} (x y : Bool) → answered q o x y ≡ Ok r →
    (x ≡ true) × (y ≡ true) × (ran q o ≡ r)
ran-is q o false y e = let z : ◌≡◌ {A = ℕ} 0 1 = cc in absurd (omega arith)
ran-is q o true false e = let z : ◌≡◌ {A = ℕ} 0 1 = cc in absurd (omega arith)
ran-is q o true true e = (refl, refl, cc)

-- the bytes used are within the output
pub used-within :
    (m : Molecule) (q : Search) (b : ℕ) (out : List ℕ) {after : List ℕ} {r : Ran} →
    run_search m q b out ≡ Ok r → after ≡ run_output m q b out → r.used ≤ length after
unfolding run_search run_output
used-within m q b out e is-after =
    let o = outcome m q b out in
    let (formed, kept, same) = ran-is q o (well_formed m) (restorable m q) e in
    rw (is-after, formed, kept, ← same) (omega (arith, length-append o.bytes (drop (length o.bytes) out)))

-- a run and the lines of its records are a turn
pub rings-turned :
    (m : Molecule) (q : Search) (text : List ℕ)
    {out after last : List ℕ} {r : Ran} {size : ℕ} {next : Listing} →
    out ≡ output → run_search m q budget out ≡ Ok r → after ≡ run_output m q budget out →
    let bytes = take r.used after in
    (size ≡ printed (4 * length bytes) (ring_lines bytes) text) ×
    (last ≡ printed_on (4 * length bytes) (ring_lines bytes) text) →
    next ≡ after_stop m r.search r.stop →
    (record { size = size; next = Some next } ≡ rings_turn m q text) × (last ≡ rings_on m q text)
rings-turned m q text is-output is-ran is-after (is-size, is_last) is-next =
    rw (is-next, is-size, is_last, ← is-output, is-ran, ← is-after) (refl, refl)

-- no lines are printed anywhere
none-printed : (text : List ℕ) → (0 ≡ printed 0 [] text) × (text ≡ printed_on 0 [] text)
unfolding printed printed_on
none-printed text = rw (le-leb 0 (length text) (omega arith)) (refl, refl)

-- and so is a run that is refused
pub refused-turned :
    (m : Molecule) (q : Search) (text : List ℕ) {out : List ℕ} {r : Refusal} →
    out ≡ output → run_search m q budget out ≡ Err r →
    (record { size = 0; next = Some (Counts q) } ≡ rings_turn m q text) × (text ≡ rings_on m q text)
unfolding ring_lines lines_of_first
refused-turned m q text is-output is-refused =
    let (size, left) = none-printed text in
    rw (← is-output, is-refused, ← size, ← left) (refl, refl)

-- ---- a turn

-- the bytes of a piece are within the buffer
pub turned-within :
    (l : Listing) (text : List ℕ) {last : List ℕ} {turn : Turn} → (turn ≡ turned l text) × (last ≡ turned_text l text) →
    turn.size ≤ length last
turned-within l text (is-turn, is_last) = rw (is-turn, is_last) (by l)
  where
    by : (l : Listing) → (turned l text).size ≤ length (turned_text l text)
    by (Refused r) = printed-within 12 (refusal_line (number_of r)) text (refl, refl)
    by (Rings m q) =
        let lines = run_records m q in
        printed-within (4 * length lines) (ring_lines lines) text (refl, refl)
    by (Counts q) = printed-within 61 (counts_of q) text (refl, refl)
