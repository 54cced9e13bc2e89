-- The number of each refusal in document 01, "Turned back by number", and in the requests of document 02.
use Rattle.std.specs.Prelude.{ℕ}
use Rattle.refusal.specs.declared.Refusal.{Refusal}
use Rattle.refusal.specs.declared.Refusal.TheVariants.{SheetLength, SheetBytes, TooManyAtoms, TooManyBonds, SheetSize, BondAtom, SelfBond, RepeatedBond, Record, PathEnd, SameEnds, Search, MarkRoom, MarkBytes, MarkMolecule, MarkKind, MarkPlace, MolfileLines, UnknownSymbol, TooManyNeighbours, RingSize, TooManyPaths}

abbrev pub number_of : Refusal → ℕ
-- the sheet is shorter than 9 bytes or not a multiple of 9
number_of SheetLength = 1
-- a sheet field or line end has the wrong bytes; blanks or zeros may fill a field, and not both
number_of SheetBytes = 2
-- n is above 128
number_of TooManyAtoms = 3
-- m is above 1,024
number_of TooManyBonds = 4
-- the sheet is not 9 × (m + 1) bytes
number_of SheetSize = 5
-- a bond names atom 0 or an atom above n
number_of BondAtom = 6
-- a bond joins an atom to itself
number_of SelfBond = 7
-- two bonds join the same two atoms, in either order
number_of RepeatedBond = 8
-- a molecule record breaks a rule of its section
number_of Record = 9
-- s or t is 0 or above n
number_of PathEnd = 10
-- s equals t
number_of SameEnds = 11
-- a search handed to a run or a save could not be restored from any mark on this molecule
number_of Search = 12
-- the mark output is shorter than the mark (`ringlist_resume` and `ringlist_start`: than 9,815; document 02, F-5), or
-- the sheet output than the sheet (`ringlist_molfile`)
number_of MarkRoom = 13
-- the mark's bytes do not follow the layout
number_of MarkBytes = 14
-- the mark's n or bonds differ from the molecule's (document 02, F-5)
number_of MarkMolecule = 15
-- the kind is not 0, 1, 2 or 3, or s and t are not 0 and 0 for rings, or break rule 10 or 11 for paths and shortest
-- paths, or s breaks rule 21 or t is not 0 for rings up to a size
number_of MarkKind = 16
-- p is not open, or c is 0 or above n; p empty with c = n + 1 is allowed
number_of MarkPlace = 17
-- a line of a molfile (M  END too) or its line feed is missing, a line does not reach the last column named for it,
-- V2000 is not in its columns, or a number is bad (document 02, F-1)
number_of MolfileLines = 18
-- a symbol is not in the table of elements (document 02, F-1)
number_of UnknownSymbol = 19
-- an atom has more neighbours than the table allows its element (document 02, F-1)
number_of TooManyNeighbours = 20
-- the largest size k of a ring is outside 3 to 128 (document 02, F-4)
number_of RingSize = 21
-- the number of shortest paths from s to t is above the limit of the counts (document 02, F-14)
number_of TooManyPaths = 26
