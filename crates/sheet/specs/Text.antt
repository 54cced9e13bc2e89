-- The sheet of n atoms and some bonds (document 01, "Bond sheet"), with any choice of
-- fillings (request F-2), for the law that every molecule in range has one in each; and the sheet of a record, which
-- is written for a molfile (request F-1).
use Rattle.std.specs.Prelude.{ℕ, suc, Bool, false, List, [], ◌∷◌, ◌++◌, length, get_or}
use Rattle.fields.specs.Field.{filled_text}
use Rattle.molecule.specs.declared.Molecule.{Molecule}
use Rattle.molecule.specs.BondList.{bond_list}
use Rattle.bonds.specs.Bonds.{Bond}

-- for each line, whether zeros fill its two fields
abbrev pub Fillings : Type 0
Fillings = ℕ → Bool × Bool

-- those of the lines after the first
abbrev pub later : Fillings → Fillings
later zeros i = zeros (suc i)

-- lines of two fields and a line feed
unfoldable pub lines_text : Fillings → List Bond → List ℕ
lines_text zeros [] = []
lines_text zeros (x ∷ xs) =
    filled_text (zeros 0).0 4 x.0 ++ (filled_text (zeros 0).1 4 x.1 ++ (10 ∷ lines_text (later zeros) xs))

-- Line 1 holds n and the number of bonds; each further line is one bond
unfoldable pub sheet_text : Fillings → ℕ → List Bond → List ℕ
sheet_text zeros n bonds = lines_text zeros ((n, length bonds) ∷ bonds)

-- bond k of a list, counted from 0
abbrev pub bond_at : List Bond → ℕ → Bond
bond_at bonds k = get_or bonds k (0, 0)

-- blanks fill every field
abbrev pub blanks : Fillings
blanks i = (false, false)

-- The blank-filled sheet of a record: its bonds lower atom first, in dictionary order
unfoldable pub record_sheet : Molecule → List ℕ
record_sheet mol = sheet_text blanks mol.atoms (bond_list mol.rows)
