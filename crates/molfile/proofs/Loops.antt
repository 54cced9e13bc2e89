-- The loops over atom lines and bond lines: the lines passed keep rule 18, and what they name is stored.
-- One law over what a line must keep; a line that is missing, and has no bytes, keeps nothing.
use Prim.Native.Nat.{ℕ, ◌+◌, ◌<◌}
use native.Mathlib.Nat.{eq-or-lt_of_le}
use native.Mathlib.Omega.{arith}
use mathlib.Core.Path.{◌≡◌, ap, sym, ◌∙◌}
use mathlib.Core.Bool.{Bool, true, false}
use mathlib.Core.List.{List, [], ◌∷◌}
use mathlib.Core.Logic.{⊎_elim}
use lib.ListN.{length, get_or, take, drop, set, length-set}
use lib.Seq.{get_or-set_same, get_or-set_other, drop-drop}
use Rattle.graph.proofs.Loops.{all-fails, all_more}
use Rattle.bonds.specs.Bonds.{Bond}
use Rattle.bonds.specs.Parts.{listed}
use Rattle.molfile.specs.declared.Line.{Line}
use Rattle.molfile.specs.Lines.{file_line, reaches}
use Rattle.molfile.specs.Elements.{built_in, limit_of}
use Rattle.molfile.specs.Molfile.{numbers_kept, numbers_in, atom_line_kept, symbol_in, bond_line_kept}
use Rattle.molfile.specs.Parts.{lines_from, between, LineFound, LongLine, LinesKept, LinesBroken}
use Rattle.molfile.specs.Parts.{held_limit, LimitsStored, SmallPair, BondsStored}
use Rattle.molfile.proofs.Feeds.{passed-more, line-here, line-first}
use Rattle.molfile.proofs.Words.{three-bytes, part_in}
use Rattle.molfile.proofs.Columns.{reached, same_kept, same-pair}

-- ---- lines that keep a rule

module _ {kept : List ℕ → Bool} {s : List ℕ} {from i at : ℕ} (now : LinesKept kept s from i at) where
  -- one is missing, or is not kept
  pub keeping-not : {n : ℕ} → i < n → kept (file_line (lines_from s at) 0) ≡ false → LinesBroken kept s from n
  keeping-not {n} more bad =
      all-fails n (λ j. kept (file_line (lines_from s from) j)) i more (ap kept (line-first now.passed) ∙ bad)

  -- one more
  pub keeping-more :
      {end next : ℕ} → LineFound s at end next → kept (between s at end) ≡ true → LinesKept kept s from (i + 1) next
  keeping-more found good =
      record {
        passed = passed-more now.passed found;
        all =
            all_more i (λ j. kept (file_line (lines_from s from) j)) now.all
            (ap kept (line-here now.passed found) ∙ good);
      }

-- ---- atom lines

pub record AtomsRead (s : List ℕ) (from : ℕ) (start limits : List ℕ) (i at : ℕ) : Type 0 where
  pub keeping : LinesKept atom_line_kept s from i at
  pub size : length limits ≡ length start
  pub stored : LimitsStored (lines_from s from) i limits

module _
    {s : List ℕ} {from : ℕ} {start limits : List ℕ} {i at : ℕ} (now : AtomsRead s from start limits i at)
    {line : Line} (read : LongLine s at 34 line)
  where
    -- the symbol's three bytes
    symbol-room : at + 33 < length s
    symbol-room =
        let long = read.long in let ends = read.found.ends in let inside = read.found.inside in omega arith

    symbol-is :
        symbol_in (between s at line.end) ≡ get_or s (at + 31) 0 ∷ get_or s (at + 32) 0 ∷ get_or s (at + 33) 0 ∷ []
    symbol-is =
        let long = read.long in
        let ends = read.found.ends in
        let inside = read.found.inside in
        part_in s at line.end read.found.starts (omega arith) 31 3 (omega arith)
        ∙ ap (take 3) (drop-drop 31 at s)
        ∙ three-bytes s (at + 31) (at + 32) (at + 33) (omega arith) (omega arith) symbol-room

    pub atoms-more :
        {limit : ℕ} → i < length start →
        limit ≡ limit_of built_in (get_or s (at + 31) 0 ∷ get_or s (at + 32) 0 ∷ get_or s (at + 33) 0 ∷ []) →
        AtomsRead s from start (set limits i limit) (i + 1) line.next
    atoms-more {limit} room is =
        record {
          keeping = keeping-more now.keeping read.found (reached read.found 34 read.long);
          size = simp length-set now.size;
          stored = record { at = here };
        }
      where
        here :
            (j : ℕ) → j < i + 1 →
            held_limit (set limits i limit) j ≡ limit_of built_in (symbol_in (file_line (lines_from s from) j))
        here j h =
            ⊎_elim
            (λ (same : j ≡ i). last same)
            (λ (less : j < i). get_or-set_other limits i j limit 0 (omega arith) ∙ now.stored.at j less)
            (eq-or-lt_of_le (omega arith))
          where
            last :
                j ≡ i →
                held_limit (set limits i limit) j ≡ limit_of built_in (symbol_in (file_line (lines_from s from) j))
            last same =
                let size = now.size in
                rw same
                (get_or-set_same limits i limit 0 (omega arith)
                ∙ is
                ∙ ap (limit_of built_in) (sym (ap symbol_in (line-here now.keeping.passed read.found) ∙ symbol-is)))

-- ---- bond lines

pub record BondsRead (s : List ℕ) (from : ℕ) (start bonds : List Bond) (k at : ℕ) : Type 0 where
  pub keeping : LinesKept bond_line_kept s from k at
  pub size : length bonds ≡ length start
  pub stored : BondsStored (lines_from s from) k bonds

module _
    {s : List ℕ} {from : ℕ} {start bonds : List Bond} {k at : ℕ} (now : BondsRead s from start bonds k at)
  where
    pub bonds-short :
        {m : ℕ} → k < m → reaches 6 (file_line (lines_from s at) 0) ≡ false → LinesBroken bond_line_kept s from m
    unfolding bond_line_kept
    bonds-short more short = keeping-not now.keeping more (rw short)

    module _ {line : Line} (read : LongLine s at 6 line) where
      abbrev text : List ℕ
      text = between s at line.end

      pub bonds-no-pair : {m : ℕ} → k < m → numbers_kept (drop at s) ≡ false → LinesBroken bond_line_kept s from m
      unfolding bond_line_kept
      bonds-no-pair more bad =
          let first = ap (λ lines. file_line lines 0) read.found.first in
          keeping-not now.keeping more
          (rw (first, reached read.found 6 read.long, same_kept read.found read.long, bad))

      pub bonds-more :
          {x : Bond} → SmallPair (drop at s) x → k < length start →
          BondsRead s from start (set bonds k x) (k + 1) line.next
      unfolding bond_line_kept
      bonds-more {x} pair whole =
          record {
            keeping =
                keeping-more now.keeping read.found
                (rw (reached read.found 6 read.long, same_kept read.found read.long, pair.kept));
            size = simp length-set now.size;
            stored = record { at = here };
          }
        where
          room : k < length bonds
          room = let size = now.size in omega arith

          new : x ≡ numbers_in (file_line (lines_from s from) k)
          new =
              pair.is
              ∙ sym (ap numbers_in (line-here now.keeping.passed read.found) ∙ same-pair read.found read.long)

          here : (j : ℕ) → j < k + 1 → listed (set bonds k x) j ≡ numbers_in (file_line (lines_from s from) j)
          here j h =
              ⊎_elim
              (λ (same : j ≡ k). rw same (get_or-set_same bonds k x (0, 0) room ∙ new))
              (λ (less : j < k). get_or-set_other bonds k j x (0, 0) (omega arith) ∙ now.stored.at j less)
              (eq-or-lt_of_le (omega arith))
