-- The laws of marks as they were before request F-5: a saved one restores the search, an accepted one is saved again as
-- the same bytes. By what is shown of the three lines of every mark: no byte stands past them.
use Rattle.std.specs.Prelude.{Ok}
use Prim.Native.Nat.{ℕ, ◌+◌, ◌*◌, ◌≤◌}
use native.Mathlib.Omega.{arith}
use mathlib.Core.Path.{◌≡◌, ap, sym, ◌∙◌}
use mathlib.Core.Bool.{true}
use mathlib.Core.List.{List, [], ◌++◌, append-nil}
use lib.ListN.{length, drop_of_length-le}
use lib.Dec.{eqb}
use borrow.Author.Tests.{eq-eqb, eqb-true}
use Rattle.graph.proofs.Below.{and_parts}
use Rattle.molecule.specs.declared.Molecule.{Molecule}
use Rattle.molecule.specs.Record.{well_formed}
use Rattle.search.specs.declared.Search.{Search}
use Rattle.search.specs.Place.{beginning, restorable}
use Rattle.search.specs.Mark.{three_lines, value_at, mark_bonds, bonds_from}
use Rattle.search.specs.OldMark.{old_mark_text, old_layout_kept, old_belongs, restore_old_mark}
use Rattle.search.proofs.Lines.{three-lines-of, three-lines-facts}
use Rattle.search.proofs.Restores.{three-length, RestoredBy, by-facts, by-of}
use Rattle.search.proofs.Restores.{MarkOf, atoms-is, bonds-is, lines_are, text-restored}
use Rattle.search.proofs.NamedSearch.{named-restorable, named-full, named-text}

-- An old mark is 91 + 4 × length bytes
pub old-mark-length : (mol : Molecule) (q : Search) → length (old_mark_text mol q) ≡ 91 + 4 * length (beginning q)
old-mark-length mol q = three-length mol q

module _ (mol : Molecule) (q : Search) (formed : well_formed mol ≡ true) (kept : restorable mol q ≡ true)
    (full : length q.prefix ≡ 128) where
  abbrev bytes : List ℕ
  bytes = old_mark_text mol q

  three : MarkOf mol q bytes []
  three = record { formed = formed; kept = kept; full = full; is = sym (append-nil bytes) }

  old-belongs : old_belongs mol bytes ≡ true
  old-belongs =
      rw (
        eq-eqb (value_at 4 bytes 12) mol.atoms (atoms-is three),
        eq-eqb (mark_bonds bytes) mol.bonds (bonds-is three),
      )

  -- The old mark of a search that rule 12 allows restores that search
  pub old-saved-restores : restore_old_mark mol bytes ≡ Ok q
  unfolding restore_old_mark
  old-saved-restores =
      by-of mol bytes q (old_layout_kept bytes) (old_belongs mol bytes)
      (text-restored three (three-lines-of 0 bytes (lines_are three (omega arith))) old-belongs)

-- ---- the search that an accepted old mark restores

abbrev pub OldRestored : Molecule → List ℕ → Search → Type 0
OldRestored mol bytes q = RestoredBy (old_layout_kept bytes) (old_belongs mol bytes) mol bytes q

pub old-restored-facts :
    (mol : Molecule) (bytes : List ℕ) (q : Search) → restore_old_mark mol bytes ≡ Ok q →
    OldRestored mol bytes q
unfolding restore_old_mark
old-restored-facts mol bytes q e = by-facts mol bytes q (old_layout_kept bytes) (old_belongs mol bytes) e

-- Any accepted old mark, saved again, has the same bytes
pub old-restored-saves :
    (mol : Molecule) (bytes : List ℕ) (q : Search) → restore_old_mark mol bytes ≡ Ok q →
    old_mark_text mol q ≡ bytes
old-restored-saves mol bytes q e =
    let f = old-restored-facts mol bytes q e in
    let lines = three-lines-facts 0 bytes f.layout in
    let (n, m) = and_parts (eqb (value_at 4 bytes 12) mol.atoms) (eqb (mark_bonds bytes) mol.bonds) f.own in
    let n-is = eqb-true (value_at 4 bytes 12) mol.atoms n in
    let m-is = eqb-true (mark_bonds bytes) mol.bonds m in
    let past : length bytes ≤ bonds_from bytes = omega arith in
    sym (append-nil (three_lines mol q))
    ∙ ap (λ l. three_lines mol q ++ l) (sym (drop_of_length-le bytes past))
    ∙ named-text f lines n-is m-is

-- An accepted old mark restores a search that rule 12 allows, on a molecule that rule 9 allows
pub old-restored-restorable :
    (mol : Molecule) (bytes : List ℕ) (q : Search) → restore_old_mark mol bytes ≡ Ok q →
    (well_formed mol ≡ true) × (restorable mol q ≡ true) × (length q.prefix ≡ 128)
old-restored-restorable mol bytes q e =
    let f = old-restored-facts mol bytes q e in
    (f.formed, named-restorable f, named-full f (three-lines-facts 0 bytes f.layout))
