-- What follows the bytes of an accepted molfile makes no difference.
-- The lines of the longer file begin with those of the shorter, and every line that is read stands before its M  END.
use Rattle.std.specs.Prelude.{Ok}
use Prim.Native.Nat.{ℕ, ◌+◌, ◌<◌}
use native.Mathlib.Omega.{arith}
use mathlib.Core.Path.{◌≡◌, refl, ap, ◌∙◌}
use mathlib.Core.Bool.{Bool, true, false, ◌&&◌, cond}
use mathlib.Core.List.{List, [], ◌∷◌, ◌++◌, map, map-append}
use lib.ListN.{drop, get_or-append}
use lib.Seq.{drop-append-le}
use lib.Dec.{eqb}
use Rattle.graph.specs.Every.{all_below}
use Rattle.graph.proofs.Below.{and_right}
use Rattle.graph.proofs.Places.{all_same}
use Rattle.molecule.specs.declared.Molecule.{Molecule}
use Rattle.molfile.specs.Lines.{in_front, before_feeds, without_return, lines_in, file_line}
use Rattle.molfile.specs.Elements.{Table, limit_of}
use Rattle.molfile.specs.Molfile.{numbers_in, counts_line_kept, atom_line_kept, symbol_in, bond_line_kept, has_end}
use Rattle.molfile.specs.Molfile.{atoms_in, bonds_in, atom_line, bond_line, past_bonds, bond_in, form_kept, limits_of}
use Rattle.molfile.specs.Molfile.{read_lines, read_molfile}
use Rattle.molfile.proofs.Accepted.{accepted-rules}
use Rattle.molfile.proofs.Limits.{read_same}
use Rattle.molfile.proofs.Names.{end-append, end-inside}

-- ---- the lines of more bytes

-- a byte in front, and the bytes before each line feed
front-begin :
    (b : ℕ) (lines more : List (List ℕ)) →
    (later : List (List ℕ)) × (in_front b (lines ++ more) ≡ in_front b lines ++ later)
unfolding in_front
front-begin b [] more = (in_front b more, refl)
front-begin b (line ∷ lines) more = (more, refl)

feeds-begin : (xs ys : List ℕ) → (more : List (List ℕ)) × (before_feeds (xs ++ ys) ≡ before_feeds xs ++ more)
unfolding before_feeds
feeds-begin [] ys = (before_feeds ys, refl)
feeds-begin (b ∷ xs) ys = let (more, e) = feeds-begin xs ys in rw e (go (eqb b 10) more)
  where
    go :
        (feed : Bool) (more : List (List ℕ)) →
        (later : List (List ℕ)) ×
        (cond feed ([] ∷ (before_feeds xs ++ more)) (in_front b (before_feeds xs ++ more)) ≡
        cond feed ([] ∷ before_feeds xs) (in_front b (before_feeds xs)) ++ later)
    go true more = (more, refl)
    go false more = front-begin b (before_feeds xs) more

-- The lines of bytes with more after them begin with the lines of the bytes
pub lines-begin : (xs ys : List ℕ) → (more : List (List ℕ)) × (lines_in (xs ++ ys) ≡ lines_in xs ++ more)
unfolding lines_in
lines-begin xs ys =
    let (more, e) = feeds-begin xs ys in
    (map without_return more, rw e (map-append without_return (before_feeds xs) more))

-- ---- more lines

module _ (lines more : List (List ℕ)) (kept : form_kept lines ≡ true) where
  abbrev n : ℕ
  n = atoms_in lines

  abbrev m : ℕ
  m = bonds_in lines

  abbrev all : List (List ℕ)
  all = lines ++ more

  -- the lines that are read are there, and the same
  ended : has_end (past_bonds lines) ≡ true
  unfolding form_kept
  ended =
      let counts = counts_line_kept (file_line lines 3) in
      let atoms = all_below n (λ i. atom_line_kept (atom_line lines i)) in
      let bonds = all_below m (λ k. bond_line_kept (bond_line lines k)) in
      and_right (counts && atoms && bonds) (has_end (past_bonds lines)) kept

  same_line : (i : ℕ) → i < 4 + n + m → file_line all i ≡ file_line lines i
  same_line i h =
      let inside = end-inside (4 + n + m) lines ended in
      get_or-append lines more [] i (omega arith)

  counts-line : file_line all 3 ≡ file_line lines 3
  counts-line = same_line 3 (omega arith)

  bond-line : (k : ℕ) → k < m → bond_line all k ≡ bond_line lines k
  bond-line k h = rw counts-line (same_line (4 + n + k) (omega arith))

  -- rule 18 is kept
  form-more : form_kept all ≡ true
  unfolding form_kept
  form-more =
      let inside = end-inside (4 + n + m) lines ended in
      let atoms =
      all_same n (λ i. atom_line_kept (atom_line all i)) (λ i. atom_line_kept (atom_line lines i))
      (λ i h. ap atom_line_kept (same_line (4 + i) (omega arith))) in
      let bonds =
      all_same m (λ k. bond_line_kept (bond_line all k)) (λ k. bond_line_kept (bond_line lines k))
      (λ k h. ap bond_line_kept (bond-line k h)) in
      let past : has_end (drop (4 + n + m) all) ≡ has_end (past_bonds lines) =
      rw (drop-append-le (4 + n + m) lines more (omega arith), end-append (past_bonds lines) more ended, ended) in
      rw (counts-line, atoms, rw counts-line at bonds, past) kept

  -- Lines that keep rule 18 are read alike with more lines after them
  pub read_more : (table : Table) → read_lines table all ≡ read_lines table lines
  unfolding read_lines
  read_more table =
      let same =
      read_same n m (limits_of table all) (limits_of table lines) (bond_in all) (bond_in lines)
      (λ i h. ap (λ line. limit_of table (symbol_in line)) (same_line (4 + i) (omega arith)))
      (λ k h. ap numbers_in (bond-line k h)) in
      rw (form-more, kept, counts-line) same

-- An accepted file is read alike with any bytes after it
pub accepted-within :
    (table : Table) (file rest : List ℕ) (mol : Molecule) → read_molfile table file ≡ Ok mol →
    read_molfile table (file ++ rest) ≡ read_molfile table file
accepted-within table file rest mol accepted =
    let (more, e) = lines-begin file rest in
    let rules = accepted-rules table (lines_in file) mol accepted in
    ap (read_lines table) e ∙ read_more (lines_in file) more rules.form table
