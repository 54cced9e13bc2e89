-- Quoted text as bytes, so that a sheet and a mark stand in the table as document 01 prints them.
use Rattle.std.specs.Prelude.{ℕ, List, [], ◌∷◌, ◌++◌}
use Prim.Native.Char.{code}
use Prim.Native.String.{String, [] as none, ◌∷◌ as ◌then◌}

-- the byte of each character: a blank is 32, the digits are 48 to 57
unfoldable pub bytes_of : String → List ℕ
bytes_of none = []
bytes_of (◌then◌ c rest) = code c ∷ bytes_of rest

-- lines, each with a line feed after it
unfoldable pub text : List String → List ℕ
text [] = []
text (line ∷ rest) = bytes_of line ++ (10 ∷ text rest)
