-- The table of reference molecules holds: over the records that are read, both sides of every equation compute.
-- The definitions of a sheet, a record, rings, paths, the list, a trial, a run and a mark are all unfolded.
use mathlib.Core.Path.{◌≡◌, refl}
use mathlib.Core.List.{[], ◌∷◌}
use Rattle.graph.specs.Chordless.{in_range, induces, is_ring, is_path}
use Rattle.enumeration.specs.Words.{begins, numbers_from, joined, words, keep, any, members, is_open}
use Rattle.enumeration.specs.Machine.{fresh, tried, is_empty, is_done, unwound, act, trial}
use Rattle.enumeration.specs.Run.{at_limit, record_of, record_if, lists, run}
use Rattle.enumeration.specs.Trials.{records}
use Rattle.fields.specs.Field.{digits, after_blanks, read_field, column, columns, field_text}
use Rattle.molecule.specs.Record.{cell, bonded}
use Rattle.molecule.specs.BondList.{bond_here, bonds_to}
use Rattle.molecule.specs.Ends.{with_ends}
use Rattle.bonds.specs.Bonds.{atoms_kept, none_to_itself, same_pair, none_twice, with_bit, with_cell, with_bond, rows_of}
use Rattle.bonds.specs.Reading.{read_bonds}
use Rattle.sheet.specs.Read.{length_kept, line_kept, lines_kept, line_of, read_sheet}
use Rattle.search.specs.Place.{family_in, family_of, beginning, state_of, held, search_at, fresh_search, ends_kept, kind_kept}
use Rattle.search.specs.Mark.{fields_text, three_lines, bond_lines}
use Rattle.reference.specs.Text.{bytes_of, text}
use Rattle.reference.specs.Molecules.{no_atoms, chain, five_ring, all_bonded, paper_sheet, two_to_three}
use Rattle.reference.specs.Table.{AllHold, sheet_mark, table}
use Rattle.reference.proofs.Line.{mark_in, AllComputed, all_hold}

infixr 20 ◌and◌
◌and◌ : {A B : Type 0} → A → B → A × B
a and b = (a, b)

computed : AllComputed table
unfolding
    in_range induces is_ring is_path begins numbers_from joined words keep any members is_open
    fresh tried is_empty is_done unwound act trial at_limit record_of record_if lists run records
    digits after_blanks read_field column columns field_text cell bonded with_ends
    atoms_kept none_to_itself same_pair none_twice with_bit with_cell with_bond rows_of
    length_kept line_kept lines_kept line_of read_bonds read_sheet
    family_in family_of beginning state_of held search_at fresh_search ends_kept kind_kept fields_text three_lines
    bond_lines
    bond_here bonds_to mark_in
    bytes_of text no_atoms chain five_ring all_bonded paper_sheet two_to_three table
computed =
    record { reads = refl; kinds = refl; lists = refl; runs = refl; marks = refl; measures = refl }
    and record { reads = refl; kinds = refl; lists = refl; runs = refl; marks = refl; measures = refl }
    and record { reads = refl; kinds = refl; lists = refl; runs = refl; marks = refl; measures = refl }
    and record { reads = refl; kinds = refl; lists = refl; runs = refl; marks = refl; measures = refl }
    and record { reads = refl; kinds = refl; lists = refl; runs = refl; marks = refl; measures = refl }
    and record { reads = refl; kinds = refl; lists = refl; runs = refl; marks = refl; measures = refl }
    and record { reads = refl; kinds = refl; lists = refl; runs = refl; marks = refl; measures = refl }
    and record { reads = refl; kinds = refl; lists = refl; runs = refl; marks = refl; measures = refl }
    and record { reads = refl; kinds = refl; lists = refl; runs = refl; marks = refl; measures = refl }
    and record { reads = refl; kinds = refl; lists = refl; runs = refl; marks = refl; measures = refl }
    and record { reads = refl; kinds = refl; lists = refl; runs = refl; marks = refl; measures = refl }
    and record { reads = refl; kinds = refl; lists = refl; runs = refl; marks = refl; measures = refl }
    and tt

pub table-holds : AllHold table
table-holds = all_hold table computed

-- The quoted text byte by byte: the six lines of document 01, and the mark of 144 bytes. A blank is 32, a line feed 10
pub sheet-bytes :
    paper_sheet
    ≡ 32 ∷ 32 ∷ 32 ∷ 52 ∷ 32 ∷ 32 ∷ 32 ∷ 53 ∷ 10
    ∷ 32 ∷ 32 ∷ 32 ∷ 49 ∷ 32 ∷ 32 ∷ 32 ∷ 50 ∷ 10
    ∷ 32 ∷ 32 ∷ 32 ∷ 50 ∷ 32 ∷ 32 ∷ 32 ∷ 51 ∷ 10
    ∷ 32 ∷ 32 ∷ 32 ∷ 51 ∷ 32 ∷ 32 ∷ 32 ∷ 52 ∷ 10
    ∷ 32 ∷ 32 ∷ 32 ∷ 49 ∷ 32 ∷ 32 ∷ 32 ∷ 52 ∷ 10
    ∷ 32 ∷ 32 ∷ 32 ∷ 49 ∷ 32 ∷ 32 ∷ 32 ∷ 51 ∷ 10 ∷ []
unfolding bytes_of text paper_sheet
sheet-bytes = refl

-- seven fields of 4 columns; three of 20; two of 4; five bond lines
pub mark-bytes :
    sheet_mark
    ≡ 32 ∷ 32 ∷ 32 ∷ 48 ∷ 32 ∷ 32 ∷ 32 ∷ 48 ∷ 32 ∷ 32 ∷ 32 ∷ 48 ∷ 32 ∷ 32 ∷ 32 ∷ 52
    ∷ 32 ∷ 32 ∷ 32 ∷ 53 ∷ 32 ∷ 32 ∷ 32 ∷ 50 ∷ 32 ∷ 32 ∷ 32 ∷ 51 ∷ 10
    ∷ 32 ∷ 32 ∷ 32 ∷ 32 ∷ 32 ∷ 32 ∷ 32 ∷ 32 ∷ 32 ∷ 32 ∷ 32 ∷ 32 ∷ 32 ∷ 32 ∷ 32 ∷ 32 ∷ 32 ∷ 32 ∷ 32 ∷ 53
    ∷ 32 ∷ 32 ∷ 32 ∷ 32 ∷ 32 ∷ 32 ∷ 32 ∷ 32 ∷ 32 ∷ 32 ∷ 32 ∷ 32 ∷ 32 ∷ 32 ∷ 32 ∷ 32 ∷ 32 ∷ 32 ∷ 32 ∷ 50
    ∷ 32 ∷ 32 ∷ 32 ∷ 32 ∷ 32 ∷ 32 ∷ 32 ∷ 32 ∷ 32 ∷ 32 ∷ 32 ∷ 32 ∷ 32 ∷ 32 ∷ 32 ∷ 32 ∷ 32 ∷ 32 ∷ 32 ∷ 48 ∷ 10
    ∷ 32 ∷ 32 ∷ 32 ∷ 49 ∷ 32 ∷ 32 ∷ 32 ∷ 50 ∷ 10
    ∷ 32 ∷ 32 ∷ 32 ∷ 49 ∷ 32 ∷ 32 ∷ 32 ∷ 50 ∷ 10
    ∷ 32 ∷ 32 ∷ 32 ∷ 49 ∷ 32 ∷ 32 ∷ 32 ∷ 51 ∷ 10
    ∷ 32 ∷ 32 ∷ 32 ∷ 49 ∷ 32 ∷ 32 ∷ 32 ∷ 52 ∷ 10
    ∷ 32 ∷ 32 ∷ 32 ∷ 50 ∷ 32 ∷ 32 ∷ 32 ∷ 51 ∷ 10
    ∷ 32 ∷ 32 ∷ 32 ∷ 51 ∷ 32 ∷ 32 ∷ 32 ∷ 52 ∷ 10 ∷ []
unfolding bytes_of text
mark-bytes = refl
