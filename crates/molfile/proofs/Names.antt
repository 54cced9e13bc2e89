-- Lines that name some symbols and bonds are read as those, and no other byte of a molfile makes a difference.
-- Each part of rule 18 is kept by what the lines name; lines after M  END change no line before it.
use Prim.Native.Nat.{ℕ, ◌+◌, ◌≤◌, ◌<◌}
use native.Mathlib.Decide.{dec_lt}
use native.Mathlib.Omega.{arith}
use mathlib.Core.Path.{◌≡◌, refl, ap, sym, ◌∙◌}
use mathlib.Core.Bool.{Bool, true, false, ◌||◌, true≢false}
use mathlib.Core.List.{List, [], ◌∷◌, ◌++◌}
use lib.ListN.{length, get_or, drop, drop_of_length-le, get_or-append}
use lib.Seq.{drop-append-le}
use Rattle.graph.specs.Every.{all_below}
use Rattle.graph.proofs.Below.{all_below-of}
use Rattle.bonds.specs.Bonds.{Bond}
use Rattle.sheet.specs.Text.{bond_at}
use Rattle.molfile.specs.Lines.{lines_in, file_line}
use Rattle.molfile.specs.Elements.{Table, limit_of}
use Rattle.molfile.specs.Molfile.{numbers_in, counts_line_kept, atom_line_kept, symbol_in, bond_line_kept, is_end, has_end, atoms_in}
use Rattle.molfile.specs.Molfile.{bonds_in, atom_line, bond_line, bond_in, past_bonds, form_kept, limits_of, read_atoms}
use Rattle.molfile.specs.Molfile.{read_lines, read_molfile}
use Rattle.molfile.specs.Text.{Written, written_text, texts, all_fit, Names}
use Rattle.molfile.proofs.Limits.{read_same}
use Rattle.molfile.proofs.Texts.{written-lines}

-- the most neighbours of each symbol of a list
abbrev pub limits_in : Table → List (List ℕ) → ℕ → ℕ
limits_in table symbols i = limit_of table (get_or symbols i [])

-- ---- what lines name is what is read

module _ {symbols : List (List ℕ)} {bonds : List Bond} {lines : List (List ℕ)} (names : Names symbols bonds lines) where
  atoms-is : atoms_in lines ≡ length symbols
  atoms-is = ap (λ (pair : Bond). pair.0) names.counts

  bonds-is : bonds_in lines ≡ length bonds
  bonds-is = ap (λ (pair : Bond). pair.1) names.counts

  bond-line : (k : ℕ) → bond_line lines k ≡ file_line lines (4 + length symbols + k)
  bond-line k = ap (λ n. file_line lines (4 + n + k)) atoms-is

  form : form_kept lines ≡ true
  unfolding form_kept
  form = rw (names.counts-kept, atoms, bonds-kept, past)
    where
      atoms : all_below (atoms_in lines) (λ i. atom_line_kept (atom_line lines i)) ≡ true
      atoms = rw atoms-is (all_below-of (length symbols) (λ i. atom_line_kept (atom_line lines i)) names.atom_kept)

      bonds-kept : all_below (bonds_in lines) (λ k. bond_line_kept (bond_line lines k)) ≡ true
      bonds-kept =
          let each : (k : ℕ) → k < length bonds → bond_line_kept (bond_line lines k) ≡ true =
          λ k h. ap bond_line_kept (bond-line k) ∙ names.bond_kept k h in
          rw bonds-is (all_below-of (length bonds) (λ k. bond_line_kept (bond_line lines k)) each)

      past : has_end (past_bonds lines) ≡ true
      past = rw (atoms-is, bonds-is) names.ended

  -- Lines are read as the symbols and bonds that they name
  pub names-read :
      (table : Table) →
      read_lines table lines ≡ read_atoms (length symbols) (length bonds) (limits_in table symbols) (bond_at bonds)
  unfolding read_lines
  names-read table =
      let same =
      read_same (length symbols) (length bonds) (limits_of table lines) (limits_in table symbols) (bond_in lines)
      (bond_at bonds) (λ i h. ap (limit_of table) (names.symbol i h))
      (λ k h. ap numbers_in (bond-line k) ∙ names.bond k h) in
      rw (form, atoms-is, bonds-is) same

-- ---- lines that follow

pub end-append : (lines more : List (List ℕ)) → has_end lines ≡ true → has_end (lines ++ more) ≡ true
unfolding has_end
end-append [] more there = absurd (true≢false (sym there))
end-append (line ∷ lines) more there = go (end-append lines more) (is_end line) there
  where
    go :
        (has_end lines ≡ true → has_end (lines ++ more) ≡ true) →
        (t : Bool) → (t || has_end lines) ≡ true → (t || has_end (lines ++ more)) ≡ true
    go later true e = refl
    go later false e = later e

-- lines that are followed by M  END are there
pub end-inside : (k : ℕ) (lines : List (List ℕ)) → has_end (drop k lines) ≡ true → k < length lines
unfolding has_end
end-inside k lines there = go (dec_lt k (length lines))
  where
    go : Dec (k < length lines) → k < length lines
    go (yes h) = h
    go (no h) =
        let past : length lines ≤ k = omega arith in
        absurd (true≢false (sym (rw (drop_of_length-le lines past) at there)))

module _ {symbols : List (List ℕ)} {bonds : List Bond} {lines : List (List ℕ)} (names : Names symbols bonds lines) where
  inside : 4 + length symbols + length bonds < length lines
  inside = end-inside (4 + length symbols + length bonds) lines names.ended

  module _ (more : List (List ℕ)) where
    same_line : (i : ℕ) → i < length lines → file_line (lines ++ more) i ≡ file_line lines i
    same_line i h = get_or-append lines more [] i h

    -- What lines name they name whatever lines follow
    pub names_more : Names symbols bonds (lines ++ more)
    names_more =
        let all = inside in
        record {
          counts-kept = ap counts_line_kept (same_line 3 (omega arith)) ∙ names.counts-kept;
          counts = ap numbers_in (same_line 3 (omega arith)) ∙ names.counts;
          atom_kept = λ i h. ap atom_line_kept (same_line (4 + i) (omega arith)) ∙ names.atom_kept i h;
          symbol = λ i h. ap symbol_in (same_line (4 + i) (omega arith)) ∙ names.symbol i h;
          bond_kept = λ k h. ap bond_line_kept (same_line (4 + length symbols + k) (omega arith)) ∙ names.bond_kept k h;
          bond = λ k h. ap numbers_in (same_line (4 + length symbols + k) (omega arith)) ∙ names.bond k h;
          ended =
              ap has_end (drop-append-le (4 + length symbols + length bonds) lines more (omega arith))
              ∙ end-append (drop (4 + length symbols + length bonds) lines) more names.ended;
        }

-- ---- files

-- A file is read as the symbols and bonds that its lines name
pub file-read :
    (table : Table) (lines : List Written) (rest : List ℕ) {symbols : List (List ℕ)} {bonds : List Bond} →
    all_fit lines ≡ true → Names symbols bonds (texts lines) →
    read_molfile table (written_text lines rest) ≡
    read_atoms (length symbols) (length bonds) (limits_in table symbols) (bond_at bonds)
file-read table lines rest fit names =
    ap (read_lines table) (written-lines lines rest fit) ∙ names-read (names_more names (lines_in rest)) table

-- Carriage returns, header text, coordinates, bond orders, property lines and what follows M  END make no difference:
-- two files that name the same symbols and bonds are read alike
pub names-alone :
    (table : Table) (lines lines' : List Written) (rest rest' : List ℕ) {symbols : List (List ℕ)} {bonds : List Bond} →
    all_fit lines ≡ true → all_fit lines' ≡ true →
    Names symbols bonds (texts lines) → Names symbols bonds (texts lines') →
    read_molfile table (written_text lines rest) ≡ read_molfile table (written_text lines' rest')
names-alone table lines lines' rest rest' fit fit' names names' =
    file-read table lines rest fit names ∙ sym (file-read table lines' rest' fit' names')
