-- The record of listed bonds that keep rules 6, 7 and 8 satisfies rule 9, and its pairs are those that are listed.
-- From the table of the bonds: a cell is set exactly when a bond joins its two atoms.
use Rattle.std.specs.Prelude.{Err, Ok, Result}
use Prim.Native.Nat.{ℕ, suc, ◌-◌, ◌*◌, ◌≤◌}
use native.Mathlib.Omega.{arith}
use mathlib.Core.Path.{◌≡◌, refl, ap, sym, ◌∙◌}
use mathlib.Core.Bool.{Bool, true, false, ◌&&◌, cond}
use mathlib.Core.Logic.{◌⊎◌, inl, inr, ◌↔◌}
use lib.ListN.{length}
use lib.Dec.{eqb}
use borrow.Author.Tests.{eqb-true, eq-eqb}
use Rattle.graph.proofs.Below.{either, and_parts}
use Rattle.refusal.specs.declared.Refusal.{Refusal}
use Rattle.molecule.specs.Record.{bonded, ones_of, well_formed}
use Rattle.molecule.proofs.Rules.{rows-of-bytes, Sound, bytes-of-sound, rule-in-range}
use Rattle.molecule.proofs.Bonds.{bonded-cell, bonded-facts}
use Rattle.bonds.specs.Bonds.{Bond, atoms_kept, none_to_itself, same_pair, none_twice, rows_of}
use Rattle.bonds.specs.Reading.{accepted_reading, read_bonds}
use Rattle.bonds.proofs.Tables.{Kept, kept_of, Joins, joins-swaps, Table, tables}
use Rattle.molecule.specs.declared.Molecule.{Molecule}

-- a rule that was kept on the way to an accepted text
pub kept_on :
    (t : Bool) (x : Result Molecule Refusal) (r : Refusal) {mol : Molecule} → cond t x (Err r) ≡ Ok mol →
    (t ≡ true) × (x ≡ Ok mol)
kept_on true x r e = (refl, e)
kept_on false x r e = cc

-- two pairs that are the same
pub same-pair-cases :
    (x : Bond) (a b : ℕ) → same_pair x (a, b) ≡ true → ((x.0 ≡ a) × (x.1 ≡ b)) ⊎ ((x.0 ≡ b) × (x.1 ≡ a))
unfolding same_pair
same-pair-cases x a b e = go (either (eqb x.0 a && eqb x.1 b))
  where
    both : (c d : ℕ) → eqb x.0 c && eqb x.1 d ≡ true → (x.0 ≡ c) × (x.1 ≡ d)
    both c d t =
        let parts = and_parts (eqb x.0 c) (eqb x.1 d) t in
        (eqb-true x.0 c parts.0, eqb-true x.1 d parts.1)

    go :
        (eqb x.0 a && eqb x.1 b ≡ true) ⊎ (eqb x.0 a && eqb x.1 b ≡ false) →
        ((x.0 ≡ a) × (x.1 ≡ b)) ⊎ ((x.0 ≡ b) × (x.1 ≡ a))
    go (inl t) = inl (both a b t)
    go (inr f) = inr (both b a (rw f at e))

-- two different atoms from 1 to n
record TwoAtoms (n a b : ℕ) : Type 0 where
  low_left : 1 ≤ a
  high_left : a ≤ n
  low_right : 1 ≤ b
  high_right : b ≤ n
  differ : a ≡ b → ⊥

module _ (n : ℕ) (bond : ℕ → Bond) (m : ℕ) (kept : Kept n bond m) where
  -- the atoms that a bond joins
  joined-atoms : (a b : ℕ) → Joins bond m a b → TwoAtoms n a b
  unfolding Joins
  joined-atoms a b (q, h, e) =
      let l = kept.left q h in
      let r = kept.right q h in
      elim (same-pair-cases (bond q) a b e) [
        | inl (first, second) ↦ record {
          low_left = rw first at l.0;
          high_left = rw first at l.1;
          low_right = rw second at r.0;
          high_right = rw second at r.1;
          differ = λ same. kept.apart q h (first ∙ same ∙ sym second);
        }
        | inr (first, second) ↦ record {
          low_left = rw second at r.0;
          high_left = rw second at r.1;
          low_right = rw first at l.0;
          high_right = rw first at l.1;
          differ = λ same. kept.apart q h (first ∙ sym same ∙ sym second);
        }
      ]

  table : Table bond m (rows_of bond m)
  table = tables m kept

  sound : Sound (rows_of bond m) n
  unfolding Sound
  sound i j hi hj set =
      let joins = (table.cells i j hi hj).0 set in
      let atoms = joined-atoms (suc i) (suc j) joins in
      record {
        row_within = atoms.high_left;
        column_within = atoms.high_right;
        off_diagonal = λ d. atoms.differ (ap suc d);
        image = (table.cells j i hj hi).1 (joins-swaps bond m (suc i) (suc j) joins);
      }

  -- The pairs that the record has are those that are listed
  pub record-bonds : (a b : ℕ) → (bonded n (rows_of bond m) a b ≡ true) ↔ Joins bond m a b
  record-bonds a b = (there, back)
    where
      there : bonded n (rows_of bond m) a b ≡ true → Joins bond m a b
      there e =
          let facts = bonded-facts n (rows_of bond m) a b e in
          let few = kept.few in
          let up-a : suc (a - 1) ≡ a = omega arith in
          let up-b : suc (b - 1) ≡ b = omega arith in
          rw (up-a, up-b) at ((table.cells (a - 1) (b - 1) (omega arith) (omega arith)).0 facts.set)

      back : Joins bond m a b → bonded n (rows_of bond m) a b ≡ true
      back joins =
          let atoms = joined-atoms a b joins in
          let few = kept.few in
          let up-a : suc (a - 1) ≡ a = omega arith in
          let up-b : suc (b - 1) ≡ b = omega arith in
          let set = (table.cells (a - 1) (b - 1) (omega arith) (omega arith)).1 (rw (up-a, up-b) joins) in
          bonded-cell n (rows_of bond m) a b
          atoms.low_left atoms.high_left atoms.low_right atoms.high_right
          ∙ set

  pub record-well-formed :
      m ≤ 1024 → none_twice bond m ≡ true → well_formed (record { atoms = n; bonds = m; rows = rows_of bond m }) ≡ true
  record-well-formed light twice =
      let kept-rows = bytes-of-sound (rows_of bond m) n sound in
      rule-in-range (record { atoms = n; bonds = m; rows = rows_of bond m }) kept.few light
      (rows-of-bytes table.bytes) kept-rows
      ∙ eq-eqb (ones_of (rows_of bond m)) (2 * m) (table.ones_count twice)

-- ---- bonds that are accepted

-- the rules that they keep, and what they are read as
pub record BondsTaken (n : ℕ) (bond : ℕ → Bond) (m : ℕ) : Type 0 where
  pub atoms-kept : atoms_kept n bond m ≡ true
  pub none-to-itself : none_to_itself bond m ≡ true
  pub none-twice : none_twice bond m ≡ true
  pub reads : read_bonds n bond m ≡ accepted_reading n bond m

pub bonds-taken :
    (n : ℕ) (bond : ℕ → Bond) (m : ℕ) {mol : Molecule} → read_bonds n bond m ≡ Ok mol → BondsTaken n bond m
unfolding read_bonds
bonds-taken n bond m e =
    let r6 = kept_on (atoms_kept n bond m) _ _ e in
    let r7 = kept_on (none_to_itself bond m) _ _ r6.1 in
    let r8 = kept_on (none_twice bond m) _ _ r7.1 in
    record {
      atoms-kept = r6.0;
      none-to-itself = r7.0;
      none-twice = r8.0;
      reads = rw (r6.0, r7.0, r8.0);
    }

module _ {n : ℕ} {bond : ℕ → Bond} {m : ℕ} (few : n ≤ 128) (taken : BondsTaken n bond m) where
  pub taken-kept : Kept n bond m
  taken-kept = kept_of few taken.atoms-kept taken.none-to-itself

  -- ---- the molecule that they are read as

  module _ {mol : Molecule} (is : read_bonds n bond m ≡ Ok mol) where
    pub taken-is : mol ≡ record { atoms = n; bonds = m; rows = rows_of bond m }
    taken-is = let e = sym is ∙ taken.reads in cc

    pub taken-size : length mol.rows ≡ 2048
    taken-size = rw taken-is (tables m taken-kept).bytes.size

    -- Their record satisfies rule 9
    pub taken-well-formed : m ≤ 1024 → well_formed mol ≡ true
    taken-well-formed light = rw taken-is (record-well-formed n bond m taken-kept light taken.none-twice)
