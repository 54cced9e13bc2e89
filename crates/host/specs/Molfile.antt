-- The sheet of a molfile from C (include/ringlist.h; document 02, F-1): what the entry returns and leaves.
use Rattle.std.specs.Prelude.{ℕ, List}
use Rattle.molfile.specs.Elements.{built_in}
use Rattle.molsheet.specs.Sheet.{sheet_answer, sheet_output}
use Rattle.host.specs.Written.{WrittenOut, written_out}

-- The entry: rules 18, 3, 4, 19, 6, 7, 8, 20, 13
abbrev pub molfile_sheet : List ℕ → List ℕ → ℕ → WrittenOut
molfile_sheet file out before = written_out (sheet_answer built_in file out) (sheet_output built_in file out) before
