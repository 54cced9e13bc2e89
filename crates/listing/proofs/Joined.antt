-- The texts of the turns of a listing, joined, are the text of what the input was read as.
-- By induction on the rings not listed yet: the last search is over, and so is the one that the definition names.
use Rattle.std.specs.Prelude.{Some, Err, Ok, Result}
use Prim.Native.Nat.{ℕ, zero, suc, ◌+◌, ◌-◌, ◌*◌, ◌≤◌, ◌<◌}
use native.Mathlib.Omega.{arith}
use mathlib.Core.Path.{◌≡◌, refl, ap, sym, ◌∙◌, subst}
use mathlib.Core.Logic.{inl, inr}
use mathlib.Core.Bool.{true}
use mathlib.Core.List.{List, [], ◌∷◌, ◌++◌, append_assoc}
use lib.ListN.{length, take, drop, length-append, length-drop, length-take}
use lib.Seq.{take-append_seam, take-add, drop-drop}
use Rattle.enumeration.specs.Words.{members}
use Rattle.enumeration.specs.Machine.{State, fresh, is_done}
use Rattle.enumeration.specs.Run.{at_limit}
use Rattle.enumeration.specs.Trials.{steps}
use Rattle.refusal.specs.declared.Refusal.{Refusal}
use Rattle.refusal.specs.Number.{number_of}
use Rattle.molecule.specs.declared.Molecule.{Molecule}
use Rattle.molecule.specs.Record.{well_formed}
use Rattle.search.specs.declared.Search.{Search}
use Rattle.search.specs.declared.Ran.{Ran}
use Rattle.search.specs.Place.{search_at, fresh_search}
use Rattle.search.proofs.Readings.{family-atoms, family-lawful}
use Rattle.search.proofs.Views.{state-search}
use Rattle.molecule.proofs.Bonds.{rule9}
use Rattle.search.specs.Entries.{run_output}
use Rattle.report.specs.Lines.{refusal_line, ring_lines, lines_of, count_line, printed, printed_on}
use Rattle.report.proofs.Texts.{printed-whole}
use Rattle.listing.specs.declared.Listing.{Listing}
use Rattle.listing.specs.declared.Listing.TheVariants.{Refused, Rings, Counts}
use Rattle.listing.specs.declared.Turn.{Turn}
use Rattle.listing.specs.Sound.{Stands, Sound}
use Rattle.listing.specs.Text.{rings_of, whole_run, listing_text, reading_text}
use Rattle.listing.specs.Turns.{begun_reading, budget, output, one_run, run_records, after_stop, comes_next, counts_of}
use Rattle.listing.specs.Turns.{turned, turned_text, text_of, Prints, ends, goes_on}
use Rattle.listing.proofs.Whole.{Over, over-is, whole_is}
use Rattle.listing.proofs.Ends.{OverAt, fresh-stands, stands_at, output-fits, used-most, listed-rises}
use Rattle.listing.proofs.Ends.{listed_most, accepted, run-stands, run-lines, LastOrLists, last-or-lists}
use Rattle.listing.proofs.Laws.{one-next}

-- ---- a piece in a buffer that has room

module _ {room : ℕ} (line buffer : List ℕ) (h : room ≤ length buffer) where
  pub piece-text : take (printed room line buffer) (printed_on room line buffer) ≡ line
  piece-text =
      let whole = printed-whole room line buffer h in
      rw (whole.0, whole.1) (take-append_seam line (drop (length line) buffer))

  pub piece-keeps : length buffer ≤ length (printed_on room line buffer)
  piece-keeps =
      let whole = printed-whole room line buffer h in
      omega (
        arith,
        ap length whole.1,
        length-append line (drop (length line) buffer),
        length-drop (length line) buffer,
      )

-- the lines of a run have room in 65,536 bytes
pub records-fit : (m : Molecule) (q : Search) (r : Ran) → one_run m q ≡ Ok r → 4 * length (run_records m q) ≤ 65536
records-fit m q r e =
    let bytes = run_output m q budget output in
    rw e (omega (arith, length-take r.used bytes, used-most m q budget output r e, output-fits))

-- ---- lines of rings, split

lines-append : (vs ws : List (List ℕ)) → lines_of (vs ++ ws) ≡ lines_of vs ++ lines_of ws
unfolding lines_of
lines-append [] ws = refl
lines-append (v ∷ vs) ws = rw (lines-append vs ws, append_assoc)

lines_split :
    (ws : List (List ℕ)) (a b c : ℕ) → a ≤ b → b ≤ c →
    lines_of (take (c - a) (drop a ws)) ≡ lines_of (take (b - a) (drop a ws)) ++ lines_of (take (c - b) (drop b ws))
lines_split ws a b c h k =
    let whole : c - a ≡ (b - a) + (c - b) = omega arith in
    let there : a + (b - a) ≡ b = omega arith in
    ap (λ (n : ℕ). lines_of (take n (drop a ws))) whole
    ∙ ap lines_of (take-add (b - a) (c - b) (drop a ws))
    ∙ ap (λ (l : List (List ℕ)). lines_of (take (b - a) (drop a ws) ++ take (c - b) l))
    (drop-drop (b - a) a ws ∙ ap (λ (n : ℕ). drop n ws) there)
    ∙ lines-append (take (b - a) (drop a ws)) (take (c - b) (drop b ws))

-- ---- from a search that stands

-- the lines of the rings that p has listed after q
abbrev lines_between : Molecule → Search → Search → List ℕ
lines_between m q p = lines_of (take (p.listed - q.listed) (drop q.listed (members (rings_of m))))

-- the turns from q on print the rings that the last search lists after it, and its counts
record Printed (m : Molecule) (q : Search) (buffer : List ℕ) : Type 0 where
  final : Search
  stands : Stands m final
  over : OverAt m final
  rises : q.listed ≤ final.listed
  prints : Prints (Rings m q) buffer (lines_between m q final ++ counts_of final)

-- the buffer after a run
abbrev buffer_then : Molecule → Search → List ℕ → List ℕ
buffer_then m q buffer = turned_text (Rings m q) buffer

module _
    (m : Molecule) (q : Search) {r : Ran} (e : one_run m q ≡ Ok r) (buffer : List ℕ) (room : 65536 ≤ length buffer)
  where
    fits : 4 * length (run_records m q) ≤ length buffer
    fits = omega (arith, records-fit m q r e)

    then-room : 65536 ≤ length (buffer_then m q buffer)
    then-room =
        omega (arith, piece-keeps {room = 4 * length (run_records m q)} (ring_lines (run_records m q)) buffer fits)

module _
    {m : Molecule} {q : Search} (s : Stands m q) {r : Ran} (e : one_run m q ≡ Ok r) (buffer : List ℕ)
    (room : 65536 ≤ length buffer)
  where
    text-is : text_of (Rings m q) buffer ≡ lines_between m q r.search
    text-is = piece-text _ buffer (fits m q e buffer room) ∙ run-lines s e

    -- what comes next
    next-is : {l : Listing} → after_stop m r.search r.stop ≡ l → (turned (Rings m q) buffer).next ≡ Some l
    next-is f = ap (λ x. Some (comes_next m q x)) e ∙ ap Some f

    -- the run and then the counts
    last-turns :
        after_stop m r.search r.stop ≡ Counts r.search →
        Prints (Rings m q) buffer (lines_between m q r.search ++ counts_of r.search)
    last-turns f =
        let then = buffer_then m q buffer in
        let last = text_of (Counts r.search) then in
        let counts : last ≡ counts_of r.search = piece-text _ then (omega (arith, then-room m q e buffer room)) in
        rw (← text-is, ← counts)
        (goes_on (Rings m q) (Counts r.search) buffer last (next-is f) (ends (Counts r.search) then refl))

    -- the lines of the run before those up to a later search
    lines_join :
        (p : Search) (rest : List ℕ) → q.listed ≤ r.search.listed → r.search.listed ≤ p.listed →
        text_of (Rings m q) buffer ++ (lines_between m r.search p ++ rest) ≡ lines_between m q p ++ rest
    lines_join p rest h k =
        let next = r.search in
        let split = lines_split (members (rings_of m)) q.listed next.listed p.listed h k in
        ap (λ (t : List ℕ). t ++ (lines_between m next p ++ rest)) text-is
        ∙ sym (append_assoc (lines_between m q next) (lines_between m next p) rest)
        ∙ ap (λ (t : List ℕ). t ++ rest) (sym split)

    -- the run and then more of them
    more-turns :
        Printed m r.search (buffer_then m q buffer) → after_stop m r.search r.stop ≡ Rings m r.search →
        q.listed ≤ r.search.listed → Printed m q buffer
    more-turns p f h =
        let rest = lines_between m r.search p.final ++ counts_of p.final in
        let turns = goes_on (Rings m q) (Rings m r.search) buffer rest (next-is f) p.prints in
        record {
          final = p.final;
          stands = p.stands;
          over = p.over;
          rises = omega (arith, p.rises);
          prints =
              subst (Prints (Rings m q) buffer) (lines_join p.final (counts_of p.final) h p.rises) turns;
        }

    -- one run, and what is known of the search that it leaves if it has listed more
    step : (q.listed < r.search.listed → Printed m r.search (buffer_then m q buffer)) → Printed m q buffer
    step rest = by (last-or-lists s e)
      where
        by : LastOrLists m q r → Printed m q buffer
        by (inl (f, over)) = record {
          final = r.search;
          stands = run-stands s e;
          over = over;
          rises = listed-rises m q budget output r e;
          prints = last-turns f;
        }
        by (inr (f, more)) = more-turns (rest more) f (omega arith)

rings-print :
    {m : Molecule} {q : Search} (k : ℕ) → Stands m q → length (members (rings_of m)) - q.listed ≤ k →
    (buffer : List ℕ) → 65536 ≤ length buffer → Printed m q buffer
rings-print {m} {q} zero s h buffer room =
    let (r, e) = accepted s in
    step s e buffer room (λ more. absurd (omega (arith, listed_most (run-stands s e))))
rings-print {m} {q} (suc k) s h buffer room =
    let (r, e) = accepted s in
    let enough = then-room m q e buffer room in
    step s e buffer room
    (λ more. rings-print {q = r.search} k (run-stands s e) (omega arith) (buffer_then m q buffer) enough)

-- ---- the last search is the one that the definition names

over-state : (m : Molecule) (st : State) → OverAt m (search_at 0 0 0 st) → Over (rings_of m) st
over-state m st (inl d) =
    let same = ap (is_done m.atoms) (state-search 0 0 0 st) in
    inl (subst (λ (n : ℕ). is_done n st ≡ true) (sym (family-atoms m 0 0 0)) (sym same ∙ d))
over-state m st (inr a) = inr (sym (ap at_limit (state-search 0 0 0 st)) ∙ a)

final-is : {m : Molecule} {p : Search} → Stands m p → OverAt m p → p ≡ search_at 0 0 0 (whole_run m).state
unfolding whole_run
final-is {m} s over =
    let F = rings_of m in
    let L = family-lawful m 0 0 0 in
    let at-trials = stands_at s in
    let short : F.atoms ≤ 128 = omega (arith, family-atoms m 0 0 0, (rule9 m s.good).atoms_high) in
    let over-there = over-state m (steps F at-trials.made fresh) (subst (OverAt m) at-trials.search_is over) in
    let same = over-is F L at-trials.made at-trials.bounded over-there in
    at-trials.search_is ∙ ap (search_at 0 0 0) (same ∙ sym (whole_is F L short))

listing-of :
    (m : Molecule) (p : Search) (st : State) → p ≡ search_at 0 0 0 st →
    lines_between m (fresh_search 0 0 0) p ++ counts_of p ≡ listing_text m st
unfolding listing_text fresh_search search_at fresh
listing-of m p st e =
    let none : st.listed - 0 ≡ st.listed = omega arith in
    let counts : List ℕ = count_line st.listed st.extensions st.trials in
    rw e (ap (λ (n : ℕ). lines_of (take n (members (rings_of m))) ++ counts) none)

accepted-prints :
    (m : Molecule) → well_formed m ≡ true → (buffer : List ℕ) → 65536 ≤ length buffer →
    Prints (Rings m (fresh_search 0 0 0)) buffer (listing_text m (whole_run m).state)
accepted-prints m good buffer room =
    let all : ℕ = length (members (rings_of m)) in
    let p = rings-print all (fresh-stands good) (omega arith) buffer room in
    subst (Prints (Rings m (fresh_search 0 0 0)) buffer)
    (listing-of m p.final (whole_run m).state (final-is p.stands p.over))
    p.prints

-- ---- the loop of `print` ends

-- the rings that are not listed yet; none where no run follows
abbrev pub left : Listing → ℕ
left (Refused r) = 0
left (Rings m q) = suc (length (members (rings_of m)) - q.listed)
left (Counts q) = 0

-- what holds at the head of the loop
pub record Looping (listing : Listing) (piece : List ℕ) : Type 0 where
  pub size : 65536 ≡ length piece
  pub sound : Sound listing

-- a turn that is not the last leaves fewer
turn-goes-on :
    (l next : Listing) (buffer : List ℕ) → Sound l → (turned l buffer).next ≡ Some next →
    Sound next × (left next < left l)
turn-goes-on (Refused r) next buffer s e = let z : ◌≡◌ {A = ℕ} 0 1 = cc in absurd (omega arith)
turn-goes-on (Counts q) next buffer s e = let z : ◌≡◌ {A = ℕ} 0 1 = cc in absurd (omega arith)
turn-goes-on (Rings m q) next buffer s e = run (accepted s)
  where
    run : (r : Ran) × (one_run m q ≡ Ok r) → Sound next × (left next < left (Rings m q))
    run (r, f) = by (last-or-lists s f)
      where
        is : {l : Listing} → after_stop m r.search r.stop ≡ l → next ≡ l
        is g = one-next e (ap (λ x. Some (comes_next m q x)) f ∙ ap Some g)

        by : LastOrLists m q r → Sound next × (left next < left (Rings m q))
        by (inl (g, over)) = rw (is g) (tt, omega arith)
        by (inr (g, more)) = rw (is g) (run-stands s f, omega (arith, listed_most (run-stands s f)))

pub turned-goes-on :
    (l : Listing) (buffer : List ℕ) {turn : Turn} {next : Listing} → turn ≡ turned l buffer → Sound l →
    turn.next ≡ Some next → Sound next × (left next < left l)
turned-goes-on l buffer e sound more = turn-goes-on l _ buffer sound (ap (λ (t : Turn). t.next) (sym e) ∙ more)

-- a listing that stands has a text
pub sound-prints :
    (l : Listing) (buffer : List ℕ) → 65536 ≤ length buffer → Sound l → (text : List ℕ) × Prints l buffer text
sound-prints (Refused r) buffer room s = (_, ends (Refused r) buffer refl)
sound-prints (Rings m q) buffer room s =
    let all : ℕ = length (members (rings_of m)) in
    let p = rings-print all s (omega arith) buffer room in
    (_, p.prints)
sound-prints (Counts q) buffer room s = (_, ends (Counts q) buffer refl)

-- what a text was read as has a record that rule 9 allows
abbrev pub Formed : Result Molecule Refusal → Type 0
Formed read = (m : Molecule) → read ≡ Ok m → well_formed m ≡ true

-- the listing of what a text was read as, before its first piece
pub reading-sound : (read : Result Molecule Refusal) → Formed read → Sound (begun_reading read)
reading-sound (Ok m) good = fresh-stands (good m refl)
reading-sound (Err r) good = tt

-- ---- what a text was read as

module _ (buffer : List ℕ) (room : 65536 ≤ length buffer) where
  pub refused-prints : (r : Refusal) → Prints (Refused r) buffer (refusal_line (number_of r))
  refused-prints r =
      let line : text_of (Refused r) buffer ≡ refusal_line (number_of r) = piece-text _ buffer (omega arith) in
      subst (Prints (Refused r) buffer) line (ends (Refused r) buffer refl)

  -- The turns from its listing come to a last one, and their texts, joined, are its text
  pub reading-prints :
      (read : Result Molecule Refusal) → Formed read → Prints (begun_reading read) buffer (reading_text read)
  reading-prints (Ok m) good = accepted-prints m (good m refl) buffer room
  reading-prints (Err r) good = refused-prints r
