-- Every molecule that a molfile can name has one: the plain molfile of its list of bonds and of symbols that the table
-- allows its atoms. Its lines name them, and the list of the bonds of a record is read as that record.
use Rattle.std.specs.Prelude.{Ok}
use Prim.Native.Nat.{ℕ, zero, suc, ◌*◌, ◌≤◌, ◌<◌}
use native.Mathlib.Nat.{suc-mul}
use native.Mathlib.Decide.{dec_lt}
use native.Mathlib.Omega.{arith}
use mathlib.Core.Path.{◌≡◌, refl, ap, sym, ◌∙◌}
use mathlib.Core.Bool.{Bool, true, false, cond}
use mathlib.Core.List.{List, [], ◌∷◌}
use lib.ListN.{length, get_or, replicate, length-replicate, get_or-replicate}
use lib.Dec.{leb}
use borrow.Author.Tests.{le-leb, eqb-true}
use Rattle.graph.proofs.Below.{false_of, all_below-of}
use Rattle.graph.proofs.Sums.{sum, sum_same, sum-none}
use Rattle.molecule.specs.declared.Molecule.{Molecule}
use Rattle.molecule.specs.Record.{cell, ones_of, neighbours, well_formed}
use Rattle.molecule.specs.BondList.{bond_list}
use Rattle.molecule.proofs.Bits.{number}
use Rattle.molecule.proofs.Rules.{Sound, sound-of-rules}
use Rattle.molecule.proofs.Bonds.{rule9, bonded-facts}
use Rattle.molecule.proofs.BondWithin.{mem-at}
use Rattle.molecule.proofs.BondCount.{neighbours-counted, ones-neighbours, bonds-count}
use Rattle.molecule.proofs.BondLaws.{listed-is-bonded}
use Rattle.bonds.specs.Bonds.{Bond}
use Rattle.sheet.specs.Text.{bond_at}
use Rattle.sheet.proofs.EveryRecord.{record-reads}
use Rattle.molfile.specs.Lines.{stands}
use Rattle.molfile.specs.Elements.{one_letter, Table, built_in, limit_of}
use Rattle.molfile.specs.Molfile.{symbols_kept, neighbours_kept, read_atoms, read_molfile}
use Rattle.molfile.specs.Text.{texts, lacks, unreturned, Names, Symbol, Small, Suits, plain_lines, plain_file}
use Rattle.molfile.proofs.Limits.{limited-within, symbols-known}
use Rattle.molfile.proofs.Names.{limits_in, file-read}
use Rattle.molfile.proofs.Plain.{plain-names, plain-fit}

texts-back : (lines : List (List ℕ)) → texts (unreturned lines) ≡ lines
texts-back [] = refl
texts-back (line ∷ lines) = ap (λ more. line ∷ more) (texts-back lines)

-- The plain file of symbols and bonds of at most three digits is read as them
pub plain-read :
    (table : Table) (symbols : List (List ℕ)) (bonds : List Bond) → length symbols ≤ 999 → length bonds ≤ 999 →
    ((i : ℕ) → i < length symbols → Symbol (get_or symbols i [])) →
    ((k : ℕ) → k < length bonds → Small (bond_at bonds k)) →
    read_molfile table (plain_file symbols bonds) ≡
    read_atoms (length symbols) (length bonds) (limits_in table symbols) (bond_at bonds)
unfolding plain_file
plain-read table symbols bonds few light symbol small =
    let lines = plain_lines symbols bonds in
    let names : Names symbols bonds (texts (unreturned lines)) =
    rw (texts-back lines) (plain-names symbols bonds few light symbol small) in
    file-read table (unreturned lines) [] (plain-fit symbols bonds symbol) names

-- ---- molecules

module _ (mol : Molecule) (formed : well_formed mol ≡ true) where
  abbrev bonds : List Bond
  bonds = bond_list mol.rows

  -- the atoms of a listed bond are of the molecule
  small-bonds : (k : ℕ) → k < length bonds → Small (bond_at bonds k)
  small-bonds k h =
      let few = (rule9 mol formed).atoms_high in
      let x = bond_at bonds k in
      let bonded = listed-is-bonded mol formed x (mem-at bonds k h) in
      let facts = bonded-facts mol.atoms mol.rows x.0 x.1 bonded in
      record { left = omega arith; right = omega arith }

  module _ {table : Table} {symbols : List (List ℕ)} (suits : Suits table mol symbols) where
    abbrev limit : ℕ → ℕ
    limit = limits_in table symbols

    atoms-read :
        mol.bonds ≤ 999 →
        read_atoms mol.atoms (length bonds) limit (bond_at bonds) ≡ Ok mol
    unfolding symbols_kept neighbours_kept
    atoms-read light =
        let few = (rule9 mol formed).atoms_high in
        let count = bonds-count mol formed in
        let known = all_below-of mol.atoms (λ i. leb 1 (limit i)) (λ i h. le-leb 1 (limit i) (suits.known i h)) in
        let room =
        all_below-of mol.atoms (λ i. leb (neighbours mol.rows i) (limit i))
        (λ i h. le-leb (neighbours mol.rows i) (limit i) (suits.room i h)) in
        let within = limited-within limit mol.atoms (sym (record-reads mol formed)) room in
        sym (within ∙ symbols-known mol.atoms (length bonds) limit (bond_at bonds) few (omega arith) known)

    -- Every molecule of at most 999 bonds is read from a molfile
    pub every-molecule-has-a-molfile :
        mol.bonds ≤ 999 → read_molfile table (plain_file symbols bonds) ≡ Ok mol
    every-molecule-has-a-molfile light =
        let few = (rule9 mol formed).atoms_high in
        let count = bonds-count mol formed in
        let size = suits.as_many in
        plain-read table symbols bonds (omega arith) (omega arith) (λ i h. suits.symbol i (omega arith)) small-bonds
        ∙ rw suits.as_many (atoms-read light)

-- ---- the built-in table

-- it allows no atom more than six neighbours
cond-most : {a b c : ℕ} (t : Bool) → a ≤ c → b ≤ c → cond t a b ≤ c
cond-most true left right = left
cond-most false left right = right

pub built-in-most : (symbol : List ℕ) → limit_of built_in symbol ≤ 6
unfolding limit_of
built-in-most symbol =
    cond-most (here 72) (omega arith)
    (cond-most (here 67) (omega arith)
    (cond-most (here 78) (omega arith)
    (cond-most (here 79) (omega arith)
    (cond-most (here 70) (omega arith)
    (cond-most (here 80) (omega arith) (cond-most (here 83) (omega arith) (omega arith)))))))
  where
    here : ℕ → Bool
    here letter = stands (one_letter letter) 0 symbol

sum-most : (c k : ℕ) (f : ℕ → ℕ) → ((i : ℕ) → i < k → f i ≤ c) → sum k f ≤ k * c
unfolding sum
sum-most c zero f most = omega arith
sum-most c (suc k) f most =
    let less = sum-most c k f (λ i h. most i (omega arith)) in
    omega (arith, suc-mul k c, most k (omega arith))

module _ (mol : Molecule) (formed : well_formed mol ≡ true) where
  -- a row past the last atom has no neighbours
  none-beyond : (i : ℕ) → i < 128 → mol.atoms ≤ i → neighbours mol.rows i ≡ 0
  unfolding Sound
  none-beyond i h past =
      let rule = rule9 mol formed in
      let sound = sound-of-rules mol.rows mol.atoms rule.rows-sound in
      neighbours-counted mol.rows rule.bytes i h ∙ sum_same 128 _ _ (clear sound) ∙ sum-none 128
    where
      clear : Sound mol.rows mol.atoms → (j : ℕ) → j < 128 → number (cell mol.rows i j) ≡ 0
      clear sound j l =
          let off = false_of (cell mol.rows i j) (λ e. omega (arith, (sound i j h l e).row_within)) in
          rw off

  -- Atoms of at most six neighbours have at most 384 bonds
  pub built-in-range : ((i : ℕ) → i < mol.atoms → neighbours mol.rows i ≤ 6) → mol.bonds ≤ 384
  built-in-range most =
      let rule = rule9 mol formed in
      let count = eqb-true (ones_of mol.rows) (2 * mol.bonds) rule.ones_count in
      let total = ones-neighbours mol.rows rule.bytes in
      omega (arith, sum-most 6 128 (neighbours mol.rows) each)
    where
      each : (i : ℕ) → i < 128 → neighbours mol.rows i ≤ 6
      each i h = elim (dec_lt i mol.atoms) [
        | yes inside ↦ most i inside
        | no past ↦ omega (arith, none-beyond i h (omega arith))
      ]

  -- Every molecule whose atoms the built-in table allows is read from a molfile
  pub every-molecule-has-a-molfile-built-in :
      {symbols : List (List ℕ)} → Suits built_in mol symbols →
      read_molfile built_in (plain_file symbols (bond_list mol.rows)) ≡ Ok mol
  every-molecule-has-a-molfile-built-in {symbols} suits =
      let range = built-in-range (λ i h. omega (arith, suits.room i h, built-in-most (get_or symbols i []))) in
      every-molecule-has-a-molfile mol formed suits (omega arith)

-- ---- sulfurs, which the built-in table allows six neighbours

abbrev sulfur : List ℕ
sulfur = one_letter 83

sulfur-limit : limit_of built_in sulfur ≡ 6
unfolding limit_of stands
sulfur-limit = refl

sulfur-symbol : Symbol sulfur
unfolding lacks
sulfur-symbol = record { size = refl; no_feed = refl; no_return = refl }

module _ (mol : Molecule) (most : (i : ℕ) → i < mol.atoms → neighbours mol.rows i ≤ 6) where
  -- Atoms of at most six neighbours can all be sulfurs
  pub sulfurs-suit : Suits built_in mol (replicate mol.atoms (one_letter 83))
  sulfurs-suit = record {
    as_many = length-replicate mol.atoms sulfur;
    symbol = λ i h. rw (each i h) sulfur-symbol;
    known = λ i h. rw (each i h, sulfur-limit) (omega arith);
    room = λ i h. rw (each i h, sulfur-limit) (most i h);
  }
    where
      each : (i : ℕ) → i < mol.atoms → get_or (replicate mol.atoms sulfur) i [] ≡ sulfur
      each i h = get_or-replicate mol.atoms i sulfur [] h

  -- so every molecule of such atoms is read from a molfile
  pub sulfurs-read :
      well_formed mol ≡ true →
      read_molfile built_in (plain_file (replicate mol.atoms (one_letter 83)) (bond_list mol.rows)) ≡
      Ok mol
  sulfurs-read formed = every-molecule-has-a-molfile-built-in mol formed sulfurs-suit
