-- What the test-only boundary returns and writes: the definitions of the entries, as numbers and flat bytes.
use Rattle.std.specs.Prelude.{ℕ, ◌-◌, ◌/◌, ◌%◌, ◌^◌, Bool, true, false, cond, List, [], ◌∷◌, ◌++◌, length, eqb, Err, Ok, Result, Some, None, Option}
use Rattle.fields.specs.declared.Number.{Number}
use Rattle.refusal.specs.Number.{number_of}
use Rattle.molecule.specs.declared.Molecule.{Molecule}
use Rattle.molecule.specs.Record.{well_formed}
use Rattle.judge.specs.Verdict.{judge_ring, judge_path}
use Rattle.counter.specs.Count.{count_shortest}
use Rattle.refusal.specs.declared.Refusal.{Refusal}

-- a buffer or rows of the wrong length
abbrev pub wrong_length : ℕ
wrong_length = 10000

-- an answer that is accepted, or its refusal
abbrev pub answer_code : {A : Type 0} → Result A Refusal → ℕ
answer_code (Ok x) = 0
answer_code (Err r) = number_of r

abbrev pub verdict_code : Result Bool Refusal → ℕ
verdict_code (Ok true) = 1
verdict_code (Ok false) = 0
verdict_code (Err r) = number_of r

abbrev pub field_code : Option Number → ℕ
field_code (Some x) = x.value
field_code None = 2 ^ 64 - 1

abbrev pub zeros_code : Option Number → ℕ
zeros_code (Some x) = cond x.zeros 1 0
zeros_code None = 0

abbrev pub molecule : ℕ → ℕ → List ℕ → Molecule
molecule atoms bonds rows = record { atoms = atoms; bonds = bonds; rows = rows }

-- atoms and bonds, low byte first
unfoldable pub head_bytes : ℕ → ℕ → List ℕ
head_bytes atoms bonds = atoms % 256 ∷ atoms / 256 % 256 ∷ bonds % 256 ∷ bonds / 256 % 256 ∷ []

-- a record as bytes: atoms and bonds, then the rows
unfoldable pub flat_bytes : Molecule → List ℕ
flat_bytes mol = head_bytes mol.atoms mol.bonds ++ mol.rows

-- what a reader returns for what a text is read as
unfoldable pub read_code : Result Molecule Refusal → List ℕ → ℕ
read_code read out = cond (eqb (length out) 2052) (answer_code read) wrong_length

-- the new list where an entry accepts; nothing changes otherwise
abbrev pub if_accepted : {A : Type 0} → Result A Refusal → (A → List ℕ) → List ℕ → List ℕ
if_accepted (Ok x) new old = new x
if_accepted (Err r) new old = old

-- and what it leaves in its output
unfoldable pub read_output : Result Molecule Refusal → List ℕ → List ℕ
read_output read out = cond (eqb (length out) 2052) (if_accepted read flat_bytes out) out

unfoldable pub check_code : ℕ → ℕ → List ℕ → ℕ
check_code atoms bonds rows =
    cond (eqb (length rows) 2048) (cond (well_formed (molecule atoms bonds rows)) 0 9) wrong_length

unfoldable pub ring_code : ℕ → ℕ → List ℕ → List ℕ → ℕ
ring_code atoms bonds rows list =
    cond (eqb (length rows) 2048) (verdict_code (judge_ring (molecule atoms bonds rows) list)) wrong_length

unfoldable pub path_code : ℕ → ℕ → List ℕ → ℕ → ℕ → List ℕ → ℕ
path_code atoms bonds rows s t list =
    cond (eqb (length rows) 2048) (verdict_code (judge_path (molecule atoms bonds rows) s t list)) wrong_length

-- the number where the count answers one; nothing changes otherwise
abbrev pub if_counted : Result ℕ Refusal → ℕ → ℕ
if_counted (Ok k) old = k
if_counted (Err r) old = old

unfoldable pub count_code : ℕ → ℕ → List ℕ → ℕ → ℕ → ℕ
count_code atoms bonds rows s t =
    cond (eqb (length rows) 2048) (answer_code (count_shortest (molecule atoms bonds rows) s t)) wrong_length

unfoldable pub count_output : ℕ → ℕ → List ℕ → ℕ → ℕ → ℕ → ℕ
count_output atoms bonds rows s t old =
    cond (eqb (length rows) 2048) (if_counted (count_shortest (molecule atoms bonds rows) s t) old) old
