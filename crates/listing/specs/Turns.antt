-- The turns of a listing: the piece of the text that each turn prints, and what comes next.
-- The contracts of `listing::open` and `listing::take_turn` cite these. What they amount to is `reading-prints`.
use Rattle.std.specs.Prelude.{ℕ, ◌*◌, ◌≡◌, List, [], ◌++◌, length, take, replicate, None, Some, Err, Ok, Result}
use Rattle.enumeration.specs.declared.Stop.{Stop}
use Rattle.enumeration.specs.declared.Stop.TheVariants.{Done, Limit, Spent, Full}
use Rattle.refusal.specs.Number.{number_of}
use Rattle.molecule.specs.declared.Molecule.{Molecule}
use Rattle.search.specs.declared.Search.{Search}
use Rattle.search.specs.declared.Ran.{Ran}
use Rattle.search.specs.Place.{fresh_search}
use Rattle.search.specs.Entries.{run_search, run_output}
use Rattle.report.specs.Lines.{refusal_line, ring_lines, count_line, printed, printed_on}
use Rattle.listing.specs.declared.Listing.{Listing}
use Rattle.listing.specs.declared.Listing.TheVariants.{Refused, Rings, Counts}
use Rattle.listing.specs.declared.Turn.{Turn}
use Rattle.refusal.specs.declared.Refusal.{Refusal}

-- ---- the listing of what a text was read as, before its first piece

abbrev pub begun_reading : Result Molecule Refusal → Listing
begun_reading (Ok m) = Rings m (fresh_search 0 0 0)
begun_reading (Err r) = Refused r

-- ---- one run more

-- its trials, more than 2 × 128 × 128
abbrev pub budget : ℕ
budget = 1048576

-- its output, larger than a record of 128 atoms
unfoldable pub output : List ℕ
output = replicate 16384 0

-- what it returns
abbrev pub one_run : Molecule → Search → Result Ran Refusal
one_run m q = run_search m q budget output

-- the records that a run writes into its output; a refused one writes none
abbrev pub records_in : Result Ran Refusal → List ℕ → List ℕ
records_in (Ok ran) out = take ran.used out
records_in (Err r) out = []

abbrev pub run_records : Molecule → Search → List ℕ
run_records m q = records_in (one_run m q) (run_output m q budget output)

-- The counts come after a run that says done or limit, or is refused; otherwise more rings
abbrev pub after_stop : Molecule → Search → Stop → Listing
after_stop m q Done = Counts q
after_stop m q Limit = Counts q
after_stop m q Spent = Rings m q
after_stop m q Full = Rings m q

abbrev pub comes_next : Molecule → Search → Result Ran Refusal → Listing
comes_next m q (Ok ran) = after_stop m ran.search ran.stop
comes_next m q (Err r) = Counts q

-- ---- a turn, handed a buffer

-- the lines of a run, which have room in 4 bytes for each byte of its records
abbrev pub rings_turn : Molecule → Search → List ℕ → Turn
rings_turn m q buffer =
    record {
      size = printed (4 * length (run_records m q)) (ring_lines (run_records m q)) buffer;
      next = Some (comes_next m q (one_run m q));
    }

abbrev pub rings_on : Molecule → Search → List ℕ → List ℕ
rings_on m q buffer = printed_on (4 * length (run_records m q)) (ring_lines (run_records m q)) buffer

-- the counts
abbrev pub counts_of : Search → List ℕ
counts_of q = count_line q.listed q.extensions q.trials

-- the last turn
abbrev pub last_turn : ℕ → Turn
last_turn size = record { size = size; next = None }

-- What a turn returns
abbrev pub turned : Listing → List ℕ → Turn
turned (Refused r) buffer = last_turn (printed 12 (refusal_line (number_of r)) buffer)
turned (Rings m q) buffer = rings_turn m q buffer
turned (Counts q) buffer = last_turn (printed 61 (counts_of q) buffer)

-- and the buffer then
abbrev pub turned_text : Listing → List ℕ → List ℕ
turned_text (Refused r) buffer = printed_on 12 (refusal_line (number_of r)) buffer
turned_text (Rings m q) buffer = rings_on m q buffer
turned_text (Counts q) buffer = printed_on 61 (counts_of q) buffer

-- Its text: the first bytes of the buffer
abbrev pub text_of : Listing → List ℕ → List ℕ
text_of l buffer = take (turned l buffer).size (turned_text l buffer)

-- The loop of `print`: turns from a listing on, each handed the buffer as the one before left it, come to a last one,
-- and their texts, joined, are the third argument
pub data Prints : Listing → List ℕ → List ℕ → Type 0 where
  ends : (l : Listing) (buffer : List ℕ) → (turned l buffer).next ≡ None → Prints l buffer (text_of l buffer)
  goes_on :
      (l next : Listing) (buffer rest : List ℕ) → (turned l buffer).next ≡ Some next →
      Prints next (turned_text l buffer) rest → Prints l buffer (text_of l buffer ++ rest)
