-- What is printed for what an input was read as (document 01, "Judge, host entry and `ringlist`").
use Rattle.std.specs.Prelude.{ℕ, ◌*◌, List, ◌++◌, take, Err, Ok, Result}
use Rattle.enumeration.specs.Words.{Family, members}
use Rattle.enumeration.specs.Machine.{State, fresh}
use Rattle.enumeration.specs.Run.{Outcome, limit, run}
use Rattle.refusal.specs.Number.{number_of}
use Rattle.molecule.specs.declared.Molecule.{Molecule}
use Rattle.search.specs.Place.{family_of}
use Rattle.report.specs.Lines.{refusal_line, lines_of, count_line}
use Rattle.refusal.specs.declared.Refusal.{Refusal}

-- The rings of a molecule, as a family
abbrev pub rings_of : Molecule → Family
rings_of m = family_of m 0 0 0

-- The search until it says done or limit: one run of the fresh search, with a budget and an output that never end it
-- (law `ends-done-or-limit`)
unfoldable pub whole_run : Molecule → Outcome
whole_run m = run (rings_of m) limit (129 * limit) fresh

-- The rings that it has listed, a line each, and then its counts: the first `listed` of the list (law `fresh-listing`)
unfoldable pub listing_text : Molecule → State → List ℕ
listing_text m st =
    lines_of (take st.listed (members (rings_of m)))
    ++ count_line st.listed st.extensions st.trials

-- The text of what an input was read as: it is accepted, or refused by a rule
abbrev pub reading_text : Result Molecule Refusal → List ℕ
reading_text (Ok m) = listing_text m (whole_run m).state
reading_text (Err r) = refusal_line (number_of r)
