-- The parts of a molfile, read one after another, are read as the definition says: rule 18 part by part, then the rest.
-- Where lines were passed, the lines from there on are those of the file, counted on.
use Rattle.std.specs.Prelude.{Err, Result}
use Prim.Native.Nat.{ℕ, ◌+◌, ◌<◌}
use mathlib.Core.Path.{◌≡◌, ap, sym, ◌∙◌}
use mathlib.Core.Bool.{true, false}
use mathlib.Core.List.{List, []}
use lib.ListN.{drop}
use lib.Seq.{get_or-drop}
use Rattle.graph.specs.Every.{all_below}
use Rattle.graph.proofs.Places.{all_same}
use Rattle.refusal.specs.declared.Refusal.{Refusal}
use Rattle.refusal.specs.declared.Refusal.TheVariants as refusal
use Rattle.bonds.specs.Bonds.{Bond}
use Rattle.bonds.specs.Parts.{listed}
use Rattle.molfile.specs.declared.Counts.{Counts}
use Rattle.molfile.specs.Lines.{lines_in, file_line}
use Rattle.molfile.specs.Elements.{built_in, limit_of}
use Rattle.molfile.specs.Molfile.{numbers_in, counts_line_kept, atom_line_kept, symbol_in, bond_line_kept, has_end, atoms_in, bonds_in}
use Rattle.molfile.specs.Molfile.{atom_line, bond_line, bond_in, past_bonds, form_kept, limits_of, read_atoms, read_lines}
use Rattle.molfile.specs.Molfile.{read_molfile}
use Rattle.molfile.specs.Parts.{lines_from, LinesPassed, CountsRead, LinesKept, LinesBroken, held_limit, LimitsStored}
use Rattle.molfile.specs.Parts.{BondsStored, ListsFit, LinesNamed}
use Rattle.molfile.proofs.Feeds.{passed_on, lines-on}
use Rattle.molfile.proofs.Limits.{read_same}

-- what rule 18 refuses: a file that does not keep the form, and its reading
pub record NotRead (s : List ℕ) : Type 0 where
  pub broken : form_kept (lines_from s 0) ≡ false
  pub refused : Err refusal.MolfileLines ≡ read_molfile built_in s

pub not-read : (s : List ℕ) → form_kept (lines_in s) ≡ false → Err refusal.MolfileLines ≡ read_molfile built_in s
unfolding read_lines
not-read s bad = rw bad

not-kept : (s : List ℕ) → form_kept (lines_from s 0) ≡ false → NotRead s
not-kept s bad = record { broken = bad; refused = not-read s bad }

-- no fourth line
pub no-fourth : (s : List ℕ) → drop 3 (lines_from s 0) ≡ [] → NotRead s
unfolding form_kept counts_line_kept
no-fourth s none =
    let missing : file_line (lines_from s 0) 3 ≡ [] =
    sym (get_or-drop 3 (lines_from s 0) 0 []) ∙ ap (λ l. file_line l 0) none in
    not-kept s (rw missing)

-- ---- the line of counts, past the three header lines

module _ {s : List ℕ} {at : ℕ} (header : LinesPassed s 0 3 at) where
  fourth : file_line (lines_from s at) 0 ≡ file_line (lines_from s 0) 3
  fourth = lines-on header 0

  pub no-counts-line : counts_line_kept (file_line (lines_from s at) 0) ≡ false → NotRead s
  unfolding form_kept
  no-counts-line bad =
      let broken : counts_line_kept (file_line (lines_from s 0) 3) ≡ false = rw fourth at bad in
      not-kept s (rw broken)

-- what is known past it: n, m, and where the atom lines begin
pub record Counted (s : List ℕ) (n m at : ℕ) : Type 0 where
  pub kept : counts_line_kept (file_line (lines_from s 0) 3) ≡ true
  pub pair : (n, m) ≡ numbers_in (file_line (lines_from s 0) 3)
  pub passed : LinesPassed s 0 4 at

pub counted :
    {s : List ℕ} {at : ℕ} {r : Counts} → LinesPassed s 0 3 at → CountsRead s at r → Counted s r.atoms r.bonds r.next
counted header counts =
    let fourth = lines-on header 0 in
    record {
      kept = rw fourth at counts.kept;
      pair = counts.is ∙ ap numbers_in fourth;
      passed = passed_on header counts.passed;
    }

-- ---- the atom lines

module _ {s : List ℕ} {n m at : ℕ} (known : Counted s n m at) where
  atoms-is : atoms_in (lines_from s 0) ≡ n
  atoms-is = sym (ap (λ x. x.0) known.pair)

  bonds-is : bonds_in (lines_from s 0) ≡ m
  bonds-is = sym (ap (λ x. x.1) known.pair)

  atoms-kept :
      all_below (atoms_in (lines_from s 0)) (λ i. atom_line_kept (atom_line (lines_from s 0) i))
      ≡ all_below n (λ i. atom_line_kept (file_line (lines_from s at) i))
  atoms-kept =
      ap (λ k. all_below k (λ i. atom_line_kept (atom_line (lines_from s 0) i))) atoms-is
      ∙ all_same n _ _ (λ i h. ap atom_line_kept (sym (lines-on known.passed i)))

  pub no-atom-lines : LinesBroken atom_line_kept s at n → NotRead s
  unfolding form_kept
  no-atom-lines bad = not-kept s (rw (known.kept, atoms-kept, bad))

-- what is known past them
pub record Named (s : List ℕ) (n m : ℕ) (limits : List ℕ) (at : ℕ) : Type 0 where
  pub start : ℕ
  pub known : Counted s n m start
  pub kept : all_below (atoms_in (lines_from s 0)) (λ i. atom_line_kept (atom_line (lines_from s 0) i)) ≡ true
  pub stored : (i : ℕ) → i < n → held_limit limits i ≡ limits_of built_in (lines_from s 0) i
  pub passed : LinesPassed s 0 (4 + n) at

pub named :
    {s : List ℕ} {n m at next : ℕ} {limits : List ℕ} → Counted s n m at →
    LinesKept atom_line_kept s at n next × LimitsStored (lines_from s at) n limits → Named s n m limits next
named {at = at} known (lines, limits-are) =
    record {
      start = at;
      known = known;
      kept = atoms-kept known ∙ lines.all;
      stored = λ i h. limits-are.at i h ∙ ap limit-in (lines-on known.passed i);
      passed = passed_on known.passed lines.passed;
    }
  where
    limit-in : List ℕ → ℕ
    limit-in line = limit_of built_in (symbol_in line)

-- ---- the bond lines

module _ {s : List ℕ} {n m at : ℕ} {limits : List ℕ} (names : Named s n m limits at) where
  bond-line : (k : ℕ) → file_line (lines_from s at) k ≡ bond_line (lines_from s 0) k
  bond-line k =
      lines-on names.passed k ∙ ap (λ j. file_line (lines_from s 0) (4 + j + k)) (sym (atoms-is names.known))

  bonds-kept :
      all_below (bonds_in (lines_from s 0)) (λ k. bond_line_kept (bond_line (lines_from s 0) k))
      ≡ all_below m (λ k. bond_line_kept (file_line (lines_from s at) k))
  bonds-kept =
      ap (λ j. all_below j (λ k. bond_line_kept (bond_line (lines_from s 0) k))) (bonds-is names.known)
      ∙ all_same m _ _ (λ k h. ap bond_line_kept (sym (bond-line k)))

  pub no-bond-lines : LinesBroken bond_line_kept s at m → NotRead s
  unfolding form_kept
  no-bond-lines bad = not-kept s (rw (names.known.kept, names.kept, bonds-kept, bad))

  module _ {next : ℕ} (lines : LinesKept bond_line_kept s at m next) where
    past : lines_from s next ≡ past_bonds (lines_from s 0)
    past = (passed_on names.passed lines.passed).rest ∙ rw (atoms-is names.known, bonds-is names.known)

    pub no-end-line : has_end (lines_from s next) ≡ false → NotRead s
    unfolding form_kept
    no-end-line none =
        let missing : has_end (past_bonds (lines_from s 0)) ≡ false = rw past at none in
        not-kept s (rw (names.known.kept, names.kept, bonds-kept, lines.all, missing))

    pub all_named :
        {bonds : List Bond} → BondsStored (lines_from s at) m bonds → ListsFit n m limits bonds →
        has_end (lines_from s next) ≡ true → LinesNamed (lines_from s 0) (n, m) limits bonds
    unfolding form_kept
    all_named stored fit there =
        let ended : has_end (past_bonds (lines_from s 0)) ≡ true = rw past at there in
        record {
          form = rw (names.known.kept, names.kept, bonds-kept, lines.all, ended);
          counts = names.known.pair;
          fit = fit;
          limits_are = names.stored;
          bonds_are = λ k h. stored.at k h ∙ ap numbers_in (bond-line k);
        }

-- ---- rule 18, and then the rules on what lines that keep it name

pub same_refusal : {A : Type 0} {r r' : Refusal} → ◌≡◌ {A = Result A Refusal} (Err r) (Err r') → r ≡ r'
same_refusal e = cc

pub all_read :
    (s : List ℕ) {x : ℕ × ℕ} {limits : List ℕ} {bonds : List Bond} → LinesNamed (lines_in s) x limits bonds →
    read_atoms x.0 x.1 (held_limit limits) (listed bonds) ≡ read_molfile built_in s
unfolding read_lines
all_read s {x} {limits} {bonds} names =
    let lines = lines_in s in
    read_same x.0 x.1 (held_limit limits) (limits_of built_in lines) (listed bonds) (bond_in lines)
    names.limits_are names.bonds_are
    ∙ rw (names.form, names.counts)
