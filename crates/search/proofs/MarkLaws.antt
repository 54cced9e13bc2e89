-- The laws of marks (document 01, rules 12 to 17, with F-5): saved ones restore, accepted ones are saved again as they
-- were, rule 12 is what some mark restores. By the three lines of a mark (Restores, NamedSearch), then by its bonds.
use Rattle.std.specs.Prelude.{Err, Ok, Result}
use Prim.Native.Nat.{ℕ, ◌+◌, ◌*◌, ◌≤◌, ◌<◌}
use native.Mathlib.Omega.{arith}
use mathlib.Core.Path.{◌≡◌, refl, ap, ap₂, sym, ◌∙◌}
use mathlib.Core.Bool.{true, false}
use mathlib.Core.List.{List, [], ◌∷◌, ◌++◌}
use mathlib.Core.Logic.{◌↔◌}
use lib.ListN.{length, take, drop, length-append, length-drop}
use lib.Seq.{take_at, drop_at}
use lib.Dec.{leb, eqb}
use borrow.Author.Tests.{le-leb, lt-leb, leb-true, eq-eqb, eqb-true}
use Rattle.graph.proofs.Below.{and_parts}
use Rattle.refusal.specs.declared.Refusal.{Refusal}
use Rattle.refusal.specs.declared.Refusal.TheVariants as refusal
use Rattle.refusal.proofs.Passed.{passed}
use Rattle.molecule.specs.declared.Molecule.{Molecule}
use Rattle.molecule.specs.Record.{bonded, well_formed}
use Rattle.molecule.specs.BondList.{Bond, bond_list, same_bonds}
use Rattle.molecule.specs.Parts.{each_bonded}
use Rattle.molecule.proofs.Bonds.{rule9, bonded-facts}
use Rattle.molecule.proofs.BondOrder.{bonds-ascend, same-list, same-itself}
use Rattle.molecule.proofs.BondCount.{bonds-count}
use Rattle.molecule.proofs.BondLaws.{bonds-bonded}
use Rattle.search.specs.declared.Search.{Search}
use Rattle.search.specs.Place.{beginning, restorable}
use Rattle.search.specs.Mark.{three_lines, bond_lines, mark_text, write_answer, save_answer, save_output, value_at}
use Rattle.search.specs.Mark.{mark_bonds, bond_lines_kept, bonds_at, bonds_from, bonds_named, belongs, restore_mark}
use Rattle.search.proofs.Text.{small-fits}
use Rattle.search.proofs.BondLines.{NarrowBonds, no_bond, bond_fits, bond-lines-length, bonds-at-length}
use Rattle.search.proofs.BondLines.{bond-lines-keep, bonds-read, bond-lines-text}
use Rattle.search.proofs.Lines.{Layout, layout_of, layout-facts}
pub use Rattle.search.proofs.Readings.{family-lawful, family-atoms, Restorable, restorable-facts}
pub use Rattle.search.proofs.Readings.{restorable-of, restorable-iff}
pub use Rattle.search.proofs.Views.{state-search, search-state, restorable-valid, restorable-bounded}
pub use Rattle.search.proofs.Views.{valid-restorable, valid-full, fresh-restorable, run-restorable}
use Rattle.search.proofs.Restores.{three-length, Restored, restored-facts, restored-of}
use Rattle.search.proofs.Restores.{MarkOf, atoms-is, bonds-is, rest-is, lines_are, text-restored}
use Rattle.search.proofs.NamedSearch.{named-restorable, named-full, named-text}

-- ---- rule 15

-- The mark names the atoms and the bonds of the molecule
pub record Own (mol : Molecule) (bytes : List ℕ) : Type 0 where
  pub same_atoms : value_at 4 bytes 12 ≡ mol.atoms
  pub bonds-named : bonds_named bytes ≡ bond_list mol.rows

module _ (mol : Molecule) (bytes : List ℕ) where
  pub own-facts : belongs mol bytes ≡ true → Own mol bytes
  unfolding belongs
  own-facts e =
      let named = bonds_named bytes in
      let bonds = bond_list mol.rows in
      let (n, same) = and_parts (eqb (value_at 4 bytes 12) mol.atoms) (same_bonds named bonds) e in
      record {
        same_atoms = eqb-true (value_at 4 bytes 12) mol.atoms n;
        bonds-named = same-list named bonds same;
      }

  pub own_of : Own mol bytes → belongs mol bytes ≡ true
  unfolding belongs
  own_of own =
      rw (eq-eqb (value_at 4 bytes 12) mol.atoms own.same_atoms, own.bonds-named)
      (same-itself (bond_list mol.rows))

-- ---- the mark of a search

-- the bond lines of a molecule
pub bonds-size :
    (mol : Molecule) → well_formed mol ≡ true → length (bond_lines (bond_list mol.rows)) ≡ 9 * mol.bonds
bonds-size mol formed = bond-lines-length (bond_list mol.rows) ∙ ap (λ k. 9 * k) (bonds-count mol formed)

bonded-fit : (n : ℕ) (rows : List ℕ) (xs : List Bond) → n ≤ 128 → each_bonded n rows xs ≡ true → NarrowBonds xs
unfolding each_bonded
bonded-fit n rows [] few e = no_bond
bonded-fit n rows (x ∷ xs) few e =
    let (here, more) = and_parts (bonded n rows x.0 x.1) (each_bonded n rows xs) e in
    let f = bonded-facts n rows x.0 x.1 here in
    bond_fits (small-fits x.0 (omega arith)) (small-fits x.1 (omega arith)) (bonded-fit n rows xs few more)

-- A mark is 91 + 4 × length + 9 × m bytes
pub mark-length :
    (mol : Molecule) (q : Search) → well_formed mol ≡ true →
    length (mark_text mol q) ≡ 91 + 4 * length (beginning q) + 9 * mol.bonds
unfolding mark_text
mark-length mol q formed =
    length-append (three_lines mol q) (bond_lines (bond_list mol.rows))
    ∙ ap₂ (λ (a b : ℕ). a + b) (three-length mol q) (bonds-size mol formed)

module _ (mol : Molecule) (q : Search) (formed : well_formed mol ≡ true) (kept : restorable mol q ≡ true)
    (full : length q.prefix ≡ 128) where
  abbrev bytes : List ℕ
  bytes = mark_text mol q

  abbrev bonds : List Bond
  bonds = bond_list mol.rows

  three : MarkOf mol q bytes (bond_lines bonds)
  three = record { formed = formed; kept = kept; full = full; is = unfold mark_text in refl }

  m-is : mark_bonds bytes ≡ length bonds
  m-is = bonds-is three ∙ sym (bonds-count mol formed)

  fit : NarrowBonds bonds
  fit = bonded-fit mol.atoms mol.rows bonds (rule9 mol formed).atoms_high (bonds-bonded mol formed)

  names : bonds_named bytes ≡ bonds
  names = ap (bonds_at bytes (bonds_from bytes)) m-is ∙ bonds-read bytes bonds (bonds_from bytes) fit (rest-is three)

  -- It keeps the layout
  pub mark-layout : Layout bytes
  mark-layout =
      record {
        lines = lines_are three (bonds-size mol formed);
        bonds-kept =
            ap (bond_lines_kept bytes (bonds_from bytes)) m-is
            ∙ bond-lines-keep bytes bonds (bonds_from bytes) fit (rest-is three);
        ordered = rw names (bonds-ascend mol.rows);
      }

  -- and belongs to the molecule
  pub mark-own : Own mol bytes
  mark-own = record { same_atoms = atoms-is three; bonds-named = names }

  mark-restored : Restored mol bytes q
  mark-restored = text-restored three (layout_of bytes mark-layout) (own_of mol bytes mark-own)

-- The mark of a search that rule 12 allows restores that search
pub saved-restores :
    (mol : Molecule) (q : Search) → well_formed mol ≡ true → restorable mol q ≡ true → length q.prefix ≡ 128 →
    restore_mark mol (mark_text mol q) ≡ Ok q
saved-restores mol q formed kept full =
    restored-of mol (mark_text mol q) q (mark-restored mol q formed kept full)

-- ---- the search that an accepted mark restores

module _ (mol : Molecule) (bytes : List ℕ) (q : Search) (f : Restored mol bytes q) where
  laid : Layout bytes
  laid = layout-facts bytes f.layout

  own : Own mol bytes
  own = own-facts mol bytes f.own

  -- its bond lines are those of the molecule
  bonds-past : drop (bonds_from bytes) bytes ≡ bond_lines (bond_list mol.rows)
  bonds-past =
      bond-lines-text bytes (bonds_from bytes) (mark_bonds bytes) laid.bonds-kept laid.lines.size
      ∙ ap bond_lines own.bonds-named

  named_count : mark_bonds bytes ≡ mol.bonds
  named_count =
      sym (bonds-at-length bytes (bonds_from bytes) (mark_bonds bytes))
      ∙ ap length own.bonds-named
      ∙ bonds-count mol f.formed

  saves-again : mark_text mol q ≡ bytes
  unfolding mark_text
  saves-again = rw (← bonds-past) (named-text f laid.lines own.same_atoms named_count)

-- Any accepted mark, saved again, has the same bytes
pub restored-saves :
    (mol : Molecule) (bytes : List ℕ) (q : Search) → restore_mark mol bytes ≡ Ok q → mark_text mol q ≡
    bytes
restored-saves mol bytes q e = saves-again mol bytes q (restored-facts mol bytes q e)

-- An accepted mark has, past its three lines, the bond lines of the molecule
pub restored-bonds :
    (mol : Molecule) (bytes : List ℕ) (q : Search) → restore_mark mol bytes ≡ Ok q →
    (bonds_from bytes ≤ length bytes) × (drop (bonds_from bytes) bytes ≡ bond_lines (bond_list mol.rows))
restored-bonds mol bytes q e =
    let f = restored-facts mol bytes q e in
    (omega (arith, (laid mol bytes q f).lines.size), bonds-past mol bytes q f)

-- An accepted mark restores a search that rule 12 allows, on a molecule that rule 9 allows
pub restored-restorable :
    (mol : Molecule) (bytes : List ℕ) (q : Search) → restore_mark mol bytes ≡ Ok q →
    (well_formed mol ≡ true) × (restorable mol q ≡ true) × (length q.prefix ≡ 128)
restored-restorable mol bytes q e =
    let f = restored-facts mol bytes q e in
    (f.formed, named-restorable f, named-full f (laid mol bytes q f).lines)

-- Rule 12: a search is allowed exactly when it could be restored from some mark on this molecule
pub rule12 :
    (mol : Molecule) (q : Search) → well_formed mol ≡ true → length q.prefix ≡ 128 →
    (restorable mol q ≡ true) ↔ ((bytes : List ℕ) × (restore_mark mol bytes ≡ Ok q))
rule12 mol q formed full = (
  λ kept. (mark_text mol q, saved-restores mol q formed kept full),
  λ (bytes, restored). (restored-restorable mol bytes q restored).1,
)

-- ---- saving

module _ (mol : Molecule) (q : Search) (out : List ℕ) where
  pub save-record : well_formed mol ≡ false → save_answer mol q out ≡ Err refusal.Record
  unfolding save_answer
  save-record e = rw e

  pub save-search : well_formed mol ≡ true → restorable mol q ≡ false → save_answer mol q out ≡ Err refusal.Search
  unfolding save_answer
  save-search e f = rw (e, f)

  -- past rules 9 and 12 only rule 13 decides
  pub save-allowed :
      well_formed mol ≡ true → restorable mol q ≡ true → save_answer mol q out ≡ write_answer (mark_text mol q) out
  unfolding save_answer
  save-allowed e f = rw (e, f)

  pub save-room :
      well_formed mol ≡ true → restorable mol q ≡ true → length out < length (mark_text mol q) →
      save_answer mol q out ≡ Err refusal.MarkRoom
  unfolding save_answer
  save-room e f h = rw (e, f, lt-leb (length (mark_text mol q)) (length out) h)

  pub save_writes :
      well_formed mol ≡ true → restorable mol q ≡ true → length (mark_text mol q) ≤ length out →
      save_answer mol q out ≡ Ok (length (mark_text mol q))
  unfolding save_answer
  save_writes e f h = rw (e, f, le-leb (length (mark_text mol q)) (length out) h)

  -- what a written mark says: its rules were kept, its length, and the buffer after it
  pub record Wrote (k : ℕ) : Type 0 where
    pub formed : well_formed mol ≡ true
    pub kept : restorable mol q ≡ true
    pub size : k ≡ length (mark_text mol q)
    pub fits : k ≤ length out
    pub mark : take k (save_output mol q out) ≡ mark_text mol q
    pub rest : drop k (save_output mol q out) ≡ drop k out

  written-output : (k : ℕ) → save_answer mol q out ≡ Ok k → save_output mol q out ≡ mark_text mol q ++ drop k out
  unfolding save_output
  written-output k e = rw e

  pub save-written : (k : ℕ) → save_answer mol q out ≡ Ok k → Wrote k
  unfolding save_answer
  save-written k e =
      let (formed, e12) = passed (well_formed mol) _ refusal.Record e in
      let (kept, e13) = passed (restorable mol q) _ refusal.Search e12 in
      let (room, size) = passed (leb (length (mark_text mol q)) (length out)) _ refusal.MarkRoom e13 in
      let fits : length (mark_text mol q) ≤ length out = leb-true (length (mark_text mol q)) (length out) room in
      let same : length (mark_text mol q) ≡ k = cc in
      record {
        formed = formed;
        kept = kept;
        size = sym same;
        fits = omega arith;
        mark = rw (written-output k e) (take_at (mark_text mol q) (drop k out) k same);
        rest = rw (written-output k e) (drop_at (mark_text mol q) (drop k out) k same);
      }

  pub save-refused : (r : Refusal) → save_answer mol q out ≡ Err r → save_output mol q out ≡ out
  unfolding save_output
  save-refused r e = rw e

  -- A save keeps the buffer's length
  pub save-length : length (save_output mol q out) ≡ length out
  save-length = go (save_answer mol q out) refl
    where
      go : (x : Result ℕ Refusal) → save_answer mol q out ≡ x → length (save_output mol q out) ≡ length out
      go (Ok k) e =
          let w = save-written k e in
          ap length (written-output k e) ∙ rw (length-append, length-drop) (omega arith)
      go (Err r) e = ap length (save-refused r e)
