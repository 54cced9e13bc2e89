-- What the parts of restoring hold. Nothing to believe: the contract of a restore is the definition of marks.
use Rattle.std.specs.Prelude.{ℕ, min, ◌+◌, ◌*◌, ◌≤◌, ◌≡◌, Bool, true, ◌&&◌, cond, List, length, eqb, Err, Result}
use Rattle.fields.specs.Field.{value_at}
use Rattle.refusal.specs.declared.Refusal.TheVariants as refusal
use Rattle.molecule.specs.declared.Molecule.{Molecule}
use Rattle.molecule.specs.Record.{well_formed}
use Rattle.search.specs.declared.Search.{Search}
use Rattle.search.specs.Mark.{mark_bonds, mark_length, placed_search}
use Rattle.refusal.specs.declared.Refusal.{Refusal}

-- k atoms fit their array, and their fields are within the bytes
pub record AtomsFit (bytes : List ℕ) (k : ℕ) : Type 0 where
  pub few : k ≤ 127
  pub room : 90 + 4 * k ≤ length bytes

-- an atom as a byte holds it: above 255 it is 255
abbrev pub low : ℕ → ℕ
low v = min v 255

-- the search that the fields of a mark name, with its atoms in an array
unfoldable pub search_of : List ℕ → List ℕ → Search
search_of bytes prefix =
    record {
      kind = value_at 4 bytes 0;
      s = value_at 4 bytes 4;
      t = value_at 4 bytes 8;
      len = value_at 4 bytes 20;
      prefix = prefix;
      next = value_at 4 bytes 24;
      trials = value_at 20 bytes 29;
      extensions = value_at 20 bytes 49;
      listed = value_at 20 bytes 69;
    }

-- rule 9 is kept, and three lines are within the bytes
pub record Placeable (mol : Molecule) (bytes : List ℕ) : Type 0 where
  pub formed : well_formed mol ≡ true
  pub most : mark_length bytes ≤ 127
  pub room : 91 + 4 * mark_length bytes ≤ length bytes

-- a mark names n atoms and m bonds, and `own`, whether its bonds are the record's, is true
unfoldable pub names_own : ℕ → ℕ → List ℕ → Bool → Bool
names_own n m bytes own = eqb (value_at 4 bytes 12) n && eqb (mark_bonds bytes) m && own

-- rules 15, 16 and 17 on three lines, where `own` tells whether the bonds named are the record's
unfoldable pub own_search : Molecule → List ℕ → Bool → Result Search Refusal
own_search mol bytes own =
    cond (names_own mol.atoms mol.bonds bytes own) (placed_search mol bytes) (Err refusal.MarkMolecule)
