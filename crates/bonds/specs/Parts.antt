-- What the parts of reading bonds hold. Nothing to believe: the contract of `read_bonds` is `read_bonds`.
use Rattle.std.specs.Prelude.{ℕ, ◌≤◌, ◌<◌, ◌≡◌, true, cond, List, length, get_or, Err, Ok, Result, ⊤}
use Rattle.refusal.specs.declared.Refusal.{Refusal}
use Rattle.refusal.specs.declared.Refusal.TheVariants.{BondAtom, SelfBond}
use Rattle.bonds.specs.Bonds.{Bond, atoms_kept, none_to_itself}

-- bond k of a list of bonds
abbrev pub listed : List Bond → ℕ → Bond
listed bonds k = get_or bonds k (0, 0)

-- the answer of rules 6 and 7 alone
abbrev pub bonds_answer : ℕ → (ℕ → Bond) → ℕ → Result ⊤ Refusal
bonds_answer n bond m =
    cond (atoms_kept n bond m) (cond (none_to_itself bond m) (Ok _) (Err SelfBond)) (Err BondAtom)

-- so many atoms fit a molecule record, and the bonds keep rules 6 and 7
pub record Fillable (n : ℕ) (bond : ℕ → Bond) (m : ℕ) : Type 0 where
  pub few : n ≤ 128
  pub atoms : atoms_kept n bond m ≡ true
  pub apart : none_to_itself bond m ≡ true

-- row i and column j, both counted from 0, are a cell of the rows
pub record CellIn (rows : List ℕ) (i j : ℕ) : Type 0 where
  pub row_fits : i < 128
  pub column_fits : j < 128
  pub size : length rows ≡ 2048
