-- The answers of a restore past rule 9, by the rules that lead to each; the definition goes by `cond`.
-- The code tests the search that it has built from the stored atoms: its tests are those of the mark.
use Rattle.std.specs.Prelude.{Err, Ok, Option, Some, None}
use Prim.Native.Nat.{ℕ, ◌≤◌}
use native.Mathlib.Omega.{arith}
use mathlib.Core.Path.{◌≡◌, ap, sym, ◌∙◌}
use mathlib.Core.Bool.{Bool, true, false, and_assoc, and-true}
use mathlib.Core.List.{List, map, reverse-reverse}
use lib.ListN.{length, take, length-reverse}
use Rattle.graph.proofs.Below.{and_right}
use Rattle.enumeration.specs.Words.{Family}
use Rattle.enumeration.specs.Lawful.{Lawful}
use Rattle.refusal.specs.declared.Refusal.TheVariants as refusal
use Rattle.molecule.specs.declared.Molecule.{Molecule}
use Rattle.molecule.specs.Record.{well_formed}
use Rattle.molecule.specs.BondList.{ascending}
use Rattle.molecule.proofs.Bonds.{rule9}
use Rattle.molecule.proofs.BondLaws.{ascending-bonds}
use Rattle.search.specs.declared.Search.{Search}
use Rattle.search.specs.Place.{family_of, family, beginning, held, search_at, kind_kept, place_kept}
use Rattle.search.specs.Mark.{value_at, values_at, mark_bonds, mark_length, mark_beginning, mark_search, bonds_from, bonds_named}
use Rattle.search.specs.Mark.{three_lines_kept, bond_lines_kept, layout_kept, belongs, placed_search, restore_by, restore_mark}
use Rattle.search.specs.OldMark.{restore_old_mark}
use Rattle.search.proofs.Lines.{ThreeLines, three-lines-of, three-lines-facts}
use Rattle.search.proofs.BondLines.{bonds-at-length}
use Rattle.search.proofs.Readings.{family-lawful, family-atoms, place-facts}
use Rattle.search.proofs.Views.{held-take, held-length}
use Rattle.mark_reader.specs.Parts.{low, search_of, Placeable, names_own, own_search}
use Rattle.mark_reader.specs.Bonds.{lines_after, bonds_read}
use Rattle.mark_reader.proofs.BondReading.{none-where, some-where}
use Rattle.molecule.specs.Parts.{each_bonded}
use Rattle.mark_reader.proofs.Stored.{values-size, low-length, stored-open, place-stored}

-- ---- the search that is built from the stored atoms

-- the search that a mark names, with its atoms stored as bytes
abbrev built : List ℕ → Search
built bytes = search_of bytes (held (map low (mark_beginning bytes)))

-- what rules 16 and 17 ask of a mark
abbrev mark_kind : Molecule → List ℕ → Bool
mark_kind mol bytes = kind_kept mol.atoms (value_at 4 bytes 0) (value_at 4 bytes 4) (value_at 4 bytes 8)

abbrev mark_family : Molecule → List ℕ → Family
mark_family mol bytes = family_of mol (value_at 4 bytes 0) (value_at 4 bytes 4) (value_at 4 bytes 8)

abbrev mark_place : Molecule → List ℕ → Bool
mark_place mol bytes = place_kept (mark_family mol bytes) (mark_beginning bytes) (value_at 4 bytes 24)

module _ (mol : Molecule) (bytes : List ℕ) (formed : well_formed mol ≡ true) where
  few : (mark_family mol bytes).atoms ≤ 128
  few =
      let same = family-atoms mol (value_at 4 bytes 0) (value_at 4 bytes 4) (value_at 4 bytes 8) in
      omega (arith, (rule9 mol formed).atoms_high)

  lawful : Lawful (mark_family mol bytes)
  lawful = family-lawful mol (value_at 4 bytes 0) (value_at 4 bytes 4) (value_at 4 bytes 8)

  built-beginning : beginning (built bytes) ≡ map low (mark_beginning bytes)
  unfolding beginning search_of
  built-beginning =
      ap (λ k. take k (held (map low (mark_beginning bytes)))) (sym (low-length bytes (mark_length bytes))) ∙
      held-take (map low (mark_beginning bytes))

  built-place : place_kept (family mol (built bytes)) (beginning (built bytes)) (built bytes).next ≡
      mark_place mol bytes
  unfolding search_of
  built-place =
      ap (λ p. place_kept (mark_family mol bytes) p (value_at 4 bytes 24)) built-beginning ∙
      place-stored (mark_family mol bytes) lawful few (mark_beginning bytes) (value_at 4 bytes 24)

  -- where its place is allowed, its atoms are those of the mark
  built-search :
      place_kept (family mol (built bytes)) (beginning (built bytes)) (built bytes).next ≡ true →
      built bytes ≡ mark_search bytes
  unfolding search_of mark_search search_at
  built-search e =
      let F = mark_family mol bytes in
      let opened = (place-facts F (beginning (built bytes)) (value_at 4 bytes 24) e).place_open in
      let same = stored-open F lawful few (mark_beginning bytes) (rw built-beginning at opened) in
      let size = length-reverse (mark_beginning bytes) ∙ values-size bytes 90 (mark_length bytes) in
      rw (same, size, reverse-reverse (mark_beginning bytes))

-- ---- rules 16 and 17

-- the search q is the one that the bytes name
pub record ReadFrom (mol : Molecule) (bytes : List ℕ) (q : Search) : Type 0 where
  pub placeable : Placeable mol bytes
  pub read : q ≡ built bytes

pub built_of :
    (bytes : List ℕ) {prefix : List ℕ} {k : ℕ} {q : Search} →
    q ≡ search_of bytes prefix → prefix ≡ held (map low (values_at bytes 90 k)) → k ≡ mark_length bytes → q ≡
    built bytes
built_of bytes found atoms count = rw (found, atoms, count)

module _ {mol : Molecule} {bytes : List ℕ} {q : Search} (r : ReadFrom mol bytes q) where
  pub read_short : q.len ≤ 127
  unfolding search_of
  read_short = rw r.read r.placeable.most

  pub read-full : length q.prefix ≡ 128
  unfolding search_of
  read-full =
      let size = low-length bytes (mark_length bytes) in
      rw r.read (held-length (map low (mark_beginning bytes)) (omega (arith, r.placeable.most)))

  same_kind : mark_kind mol bytes ≡ kind_kept mol.atoms q.kind q.s q.t
  unfolding search_of
  same_kind = rw r.read

  same_place : mark_place mol bytes ≡ place_kept (family mol q) (beginning q) q.next
  same_place = rw r.read (sym (built-place mol bytes r.placeable.formed))

  -- the code's two tests, and the answer that each leads to
  module _ {kind : Bool} (is-kind : kind ≡ kind_kept mol.atoms q.kind q.s q.t) where
    pub refuses-kind : kind ≡ false → Err refusal.MarkKind ≡ placed_search mol bytes
    unfolding placed_search
    refuses-kind e = rw (same_kind ∙ sym is-kind ∙ e)

    module _ (kept : kind ≡ true) {place : Bool}
        (is-place : place ≡ place_kept (family mol q) (beginning q) q.next) where
      pub refuses-place : place ≡ false → Err refusal.MarkPlace ≡ placed_search mol bytes
      unfolding placed_search
      refuses-place e = rw (same_kind ∙ sym is-kind ∙ kept, same_place ∙ sym is-place ∙ e)

      pub accepts : place ≡ true → Ok q ≡ placed_search mol bytes
      unfolding placed_search
      accepts e =
          let allowed = sym is-place ∙ e in
          let named = r.read ∙ built-search mol bytes r.placeable.formed (rw r.read at allowed) in
          rw (named, same_kind ∙ sym is-kind ∙ kept, same_place ∙ allowed)

-- ---- rules 14 and 15

module _ (mol : Molecule) (bytes : List ℕ) (formed : well_formed mol ≡ true) where
  pub refuses-lines : three_lines_kept 9 bytes ≡ false → Err refusal.MarkBytes ≡ restore_mark mol bytes
  unfolding restore_mark restore_by layout_kept
  refuses-lines e = rw (formed, e)

  -- the three lines are kept, and the bond lines past them are read
  module _ (lines : ThreeLines 9 bytes) where
    abbrev pub read : Option Bool
    read = bonds_read mol.atoms mol.rows bytes (bonds_from bytes) (mark_bonds bytes)

    abbrev order : Bool
    order = lines_after (0, 0) bytes (bonds_from bytes) (mark_bonds bytes)

    layout_is : layout_kept bytes ≡ order
    unfolding layout_kept lines_after
    layout_is = rw (three-lines-of 9 bytes lines)

    pub refuses-bonds : read ≡ None → Err refusal.MarkBytes ≡ restore_mark mol bytes
    unfolding restore_mark restore_by bonds_read
    refuses-bonds e = rw (formed, layout_is ∙ none-where order _ e)

    pub lines-placeable : Placeable mol bytes
    lines-placeable = record { formed = formed; most = lines.most; room = omega arith }

    module _ (own : Bool) (is : read ≡ Some own) where
      told_of : (order ≡ true) × (own ≡ each_bonded mol.atoms mol.rows (bonds_named bytes))
      unfolding bonds_read
      told_of = some-where order is

      ordered : ascending (0, 0) (bonds_named bytes) ≡ true
      unfolding lines_after
      ordered =
          let lines = bond_lines_kept bytes (bonds_from bytes) (mark_bonds bytes) in
          and_right lines (ascending (0, 0) (bonds_named bytes)) told_of.0

      own_is : belongs mol bytes ≡ names_own mol.atoms mol.bonds bytes own
      unfolding belongs names_own
      own_is =
          let same = ascending-bonds mol formed (bonds_named bytes) ordered in
          let count = bonds-at-length bytes (bonds_from bytes) (mark_bonds bytes) in
          rw (← same, count, told_of.1, and_assoc)

      pub goes_on : own_search mol bytes own ≡ restore_mark mol bytes
      unfolding restore_mark restore_by own_search
      goes_on = rw (formed, layout_is ∙ told_of.0, own_is)

-- ---- the same of an old mark

module _ (mol : Molecule) (bytes : List ℕ) (formed : well_formed mol ≡ true) where
  pub refuses-old-lines : three_lines_kept 0 bytes ≡ false → Err refusal.MarkBytes ≡
      restore_old_mark mol bytes
  unfolding restore_old_mark restore_by
  refuses-old-lines e = rw (formed, e)

  module _ (kept : three_lines_kept 0 bytes ≡ true) where
    pub old-placeable : Placeable mol bytes
    old-placeable =
        let lines = three-lines-facts 0 bytes kept in
        record { formed = formed; most = lines.most; room = omega arith }

    -- rule 15 compares n and m
    pub old-goes-on : own_search mol bytes true ≡ restore_old_mark mol bytes
    unfolding restore_old_mark restore_by own_search names_own
    old-goes-on = rw (formed, kept, and-true)
