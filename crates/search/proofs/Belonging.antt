-- A mark belongs to one molecule (request F-5): two on which the same bytes are accepted are one, and the mark of a
-- molecule is refused by rule 15 on every other. The atoms and bonds that a mark names tell the record.
use Rattle.std.specs.Prelude.{Err, Ok}
use Prim.Native.Nat.{ℕ}
use mathlib.Core.Path.{◌≡◌, ap, sym, ◌∙◌}
use mathlib.Core.Bool.{true, false}
use mathlib.Core.List.{List}
use lib.ListN.{length}
use Rattle.graph.proofs.Below.{false_of}
use Rattle.enumeration.specs.Words.{members}
use Rattle.refusal.specs.declared.Refusal.TheVariants as refusal
use Rattle.molecule.specs.declared.Molecule.{Molecule}
use Rattle.molecule.specs.Record.{bonded, well_formed}
use Rattle.molecule.proofs.BondLaws.{listed-record}
use Rattle.search.specs.declared.Search.{Search}
use Rattle.search.specs.Place.{family_of, restorable}
use Rattle.search.specs.Mark.{mark_text, belongs, restore_by, restore_mark}
use Rattle.search.proofs.Lines.{layout_of}
use Rattle.search.proofs.Restores.{restored-facts}
use Rattle.search.proofs.MarkLaws.{Own, own-facts, mark-layout, mark-own}

-- ---- one mark on two molecules

-- bytes that belong to two molecules
one-owner :
    {A B : Molecule} {bytes : List ℕ} → well_formed A ≡ true → well_formed B ≡ true → Own A bytes → Own B bytes → A ≡ B
one-owner {A} {B} formed-a formed-b a b =
    listed-record A B formed-a formed-b
    (sym a.same_atoms ∙ b.same_atoms) (sym a.bonds-named ∙ b.bonds-named)

-- Molecules with the same atoms, the same bonds, and the same list for every kind, s and t
pub record Alike (A B : Molecule) : Type 0 where
  pub same_atoms : A.atoms ≡ B.atoms
  pub same-bonds : (a b : ℕ) → bonded A.atoms A.rows a b ≡ bonded B.atoms B.rows a b
  pub same_lists : (kind s t : ℕ) → members (family_of A kind s t) ≡ members (family_of B kind s t)

alike : {A B : Molecule} → A ≡ B → Alike A B
alike e =
    record {
      same_atoms = ap (λ (m : Molecule). m.atoms) e;
      same-bonds = λ a b. ap (λ (m : Molecule). bonded m.atoms m.rows a b) e;
      same_lists = λ kind s t. ap (λ (m : Molecule). members (family_of m kind s t)) e;
    }

module _ (A B : Molecule) (bytes : List ℕ) (p q : Search) (on-a : restore_mark A bytes ≡ Ok p)
    (on-b : restore_mark B bytes ≡ Ok q) where
  -- Bytes that are accepted on two molecules: the two are one record, and one search is restored
  pub accepted-on-two : (A ≡ B) × (p ≡ q)
  accepted-on-two =
      let a = restored-facts A bytes p on-a in
      let b = restored-facts B bytes q on-b in
      let same = one-owner a.formed b.formed (own-facts A bytes a.own) (own-facts B bytes b.own) in
      (same, sym a.search ∙ b.search)

  -- so the two have the same atoms, bonds and lists
  pub accepted-alike : Alike A B
  accepted-alike = alike accepted-on-two.0

-- ---- the mark of another molecule

module _ (A B : Molecule) (q : Search) (formed-a : well_formed A ≡ true) (formed-b : well_formed B ≡ true)
    (kept : restorable A q ≡ true) (full : length q.prefix ≡ 128) where
  not_own : (A ≡ B → ⊥) → belongs B (mark_text A q) ≡ false
  not_own other =
      let on-a = mark-own A q formed-a kept full in
      false_of (belongs B (mark_text A q))
      (λ on-b. other (one-owner formed-a formed-b on-a (own-facts B (mark_text A q) on-b)))

  -- The mark of a molecule is refused on every other one, by rule 15: its layout is kept
  pub other-refused : (A ≡ B → ⊥) → restore_mark B (mark_text A q) ≡ Err refusal.MarkMolecule
  unfolding restore_mark restore_by
  other-refused other =
      rw (formed-b, layout_of (mark_text A q) (mark-layout A q formed-a kept full), not_own other)

  -- The mark of a molecule that differs in the bond of some a and b, as an isomer does. (Before request F-5 it was
  -- accepted where n and m agree: the old lister's fault.)
  pub isomer-refused :
      (a b : ℕ) → (bonded A.atoms A.rows a b ≡ bonded B.atoms B.rows a b → ⊥) →
      restore_mark B (mark_text A q) ≡ Err refusal.MarkMolecule
  isomer-refused a b differ = other-refused (λ same. differ ((alike same).same-bonds a b))

  -- The mark of a molecule with another number of atoms
  pub other-atoms-refused :
      (A.atoms ≡ B.atoms → ⊥) → restore_mark B (mark_text A q) ≡ Err refusal.MarkMolecule
  other-atoms-refused differ = other-refused (λ same. differ (alike same).same_atoms)
