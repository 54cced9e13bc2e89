-- A restore is accepted exactly where each of its rules is kept, and the three lines of a search's mark restore it.
-- The tests of a restore are passed one after the other; the numbers of a search that rule 12 allows fit their columns.
use Rattle.std.specs.Prelude.{Err, Ok, Result}
use Prim.Native.Nat.{ℕ, suc, ◌+◌, ◌*◌, ◌≤◌}
use native.Mathlib.Omega.{arith}
use mathlib.Core.Path.{◌≡◌, refl, ap, sym, ◌∙◌}
use mathlib.Core.Bool.{Bool, true, cond}
use mathlib.Core.List.{List, [], ◌∷◌, ◌++◌}
use mathlib.Core.Logic.{inl, inr}
use lib.ListN.{length, get_or, drop}
use Rattle.graph.proofs.All.{All, all_of, none, ◌◁◌}
use Rattle.fields.specs.Field.{limit}
use Rattle.refusal.specs.declared.Refusal.{Refusal}
use Rattle.refusal.specs.declared.Refusal.TheVariants as refusal
use Rattle.refusal.proofs.Passed.{passed}
use Rattle.molecule.specs.declared.Molecule.{Molecule}
use Rattle.molecule.specs.Record.{well_formed}
use Rattle.molecule.proofs.Bonds.{rule9}
use Rattle.search.specs.declared.Search.{Search}
use Rattle.search.specs.Place.{family_of, beginning, state_of, kind_kept, place_kept, restorable}
use Rattle.search.specs.Mark.{three_lines, value_at, mark_bonds, bonds_from, layout_kept, mark_beginning, mark_length}
use Rattle.search.specs.Mark.{mark_search, belongs, placed_search, restore_by, restore_mark}
use Rattle.search.proofs.Text.{Fits, small-fits, values_of, values-four}
use Rattle.search.proofs.Lines.{text_of, text-length, ThreeLines, LinesOf, head-values, count-values}
use Rattle.search.proofs.Lines.{atom-values, rest_at, text-lines}
use Rattle.search.proofs.Readings.{NextHigh, restorable-facts, restorable-place, kind-small}
use Rattle.search.proofs.Views.{beginning-length, beginning-range, search-state}

-- ---- an accepted restore

-- by whether rules 14 and 15 are kept,
pub record RestoredBy (laid owned : Bool) (mol : Molecule) (bytes : List ℕ) (q : Search) : Type 0 where
  pub formed : well_formed mol ≡ true
  pub layout : laid ≡ true
  pub own : owned ≡ true
  pub kinds : kind_kept mol.atoms (value_at 4 bytes 0) (value_at 4 bytes 4) (value_at 4 bytes 8) ≡ true
  pub place :
      place_kept (family_of mol (value_at 4 bytes 0) (value_at 4 bytes 4) (value_at 4 bytes 8))
      (mark_beginning bytes) (value_at 4 bytes 24) ≡ true
  pub search : mark_search bytes ≡ q

-- and of a new mark
abbrev pub Restored : Molecule → List ℕ → Search → Type 0
Restored mol bytes q = RestoredBy (layout_kept bytes) (belongs mol bytes) mol bytes q

module _ (mol : Molecule) (bytes : List ℕ) (q : Search) where
  -- the tests of rules 16 and 17, and what each rule leaves to the next
  abbrev kind-test : Bool
  kind-test = kind_kept mol.atoms (value_at 4 bytes 0) (value_at 4 bytes 4) (value_at 4 bytes 8)

  abbrev place-test : Bool
  place-test =
      place_kept (family_of mol (value_at 4 bytes 0) (value_at 4 bytes 4) (value_at 4 bytes 8))
      (mark_beginning bytes) (value_at 4 bytes 24)

  abbrev rule17 : Result Search Refusal
  rule17 = cond place-test (Ok (mark_search bytes)) (Err refusal.MarkPlace)

  abbrev rule16 : Result Search Refusal
  rule16 = cond kind-test rule17 (Err refusal.MarkKind)

  module _ (laid owned : Bool) where
    abbrev rule15 : Result Search Refusal
    rule15 = cond owned rule16 (Err refusal.MarkMolecule)

    abbrev rule14 : Result Search Refusal
    rule14 = cond laid rule15 (Err refusal.MarkBytes)

    pub by-facts : restore_by laid owned mol bytes ≡ Ok q → RestoredBy laid owned mol bytes q
    unfolding restore_by placed_search
    by-facts e =
        let (formed, e14) = passed (well_formed mol) rule14 refusal.Record e in
        let (layout, e15) = passed laid rule15 refusal.MarkBytes e14 in
        let (own, e16) = passed owned rule16 refusal.MarkMolecule e15 in
        let (kinds, e17) = passed kind-test rule17 refusal.MarkKind e16 in
        let (place, named) = passed place-test (Ok (mark_search bytes)) refusal.MarkPlace e17 in
        record {
          formed = formed;
          layout = layout;
          own = own;
          kinds = kinds;
          place = place;
          search = cc;
        }

    pub by-of : RestoredBy laid owned mol bytes q → restore_by laid owned mol bytes ≡ Ok q
    unfolding restore_by placed_search
    by-of f = rw (f.formed, f.layout, f.own, f.kinds, f.place, f.search)

  pub restored-facts : restore_mark mol bytes ≡ Ok q → Restored mol bytes q
  unfolding restore_mark
  restored-facts e = by-facts (layout_kept bytes) (belongs mol bytes) e

  pub restored-of : Restored mol bytes q → restore_mark mol bytes ≡ Ok q
  unfolding restore_mark
  restored-of f = by-of (layout_kept bytes) (belongs mol bytes) f

-- ---- the three lines of a search

abbrev pub head_of : Molecule → Search → List ℕ
head_of mol q = q.kind ∷ q.s ∷ q.t ∷ mol.atoms ∷ mol.bonds ∷ q.len ∷ q.next ∷ []

abbrev pub counts_of : Search → List ℕ
counts_of q = q.trials ∷ q.extensions ∷ q.listed ∷ []

pub three-text : (mol : Molecule) (q : Search) → three_lines mol q ≡ text_of (head_of mol q) (counts_of q) (beginning q)
unfolding three_lines
three-text mol q = refl

pub three-length : (mol : Molecule) (q : Search) → length (three_lines mol q) ≡ 91 + 4 * length (beginning q)
three-length mol q = ap length (three-text mol q) ∙ text-length (head_of mol q) (counts_of q) (beginning q) refl refl

-- their numbers fit their columns
count_fits : (v : ℕ) → v ≤ limit → Fits 20 v
count_fits v h = (omega arith, h)

next-most : (n : ℕ) (p : List ℕ) (c : ℕ) → NextHigh n p c → c ≤ suc n
next-most n p c (inl h) = omega arith
next-most n p c (inr h) = omega arith

module _ (mol : Molecule) (q : Search) (formed : well_formed mol ≡ true) (kept : restorable mol q ≡ true) where
  head-fits : All (Fits 4) (head_of mol q)
  head-fits =
      let f = restorable-facts mol q kept in
      let rule = rule9 mol formed in
      let k = kind-small mol.atoms q.kind q.s q.t rule.atoms_high f.kind-kept in
      let high = next-most mol.atoms (beginning q) q.next f.next_high in
      small-fits q.kind (omega arith)
      ◁ small-fits q.s (omega arith)
      ◁ small-fits q.t (omega arith)
      ◁ small-fits mol.atoms (omega arith)
      ◁ small-fits mol.bonds (omega arith)
      ◁ small-fits q.len (omega arith)
      ◁ small-fits q.next (omega arith)
      ◁ none

  counts-fit : All (Fits 20) (counts_of q)
  counts-fit =
      let f = restorable-facts mol q kept in
      count_fits q.trials f.trials_most
      ◁ count_fits q.extensions f.extensions_most
      ◁ count_fits q.listed f.listed_most
      ◁ none

  atoms-fit : All (Fits 4) (beginning q)
  atoms-fit =
      let few = (rule9 mol formed).atoms_high in
      all_of (beginning q)
      (λ i h. small-fits (get_or (beginning q) i 0) (omega (arith, beginning-range mol q kept i h)))

-- ---- restoring them, whatever stands past them

-- The bytes are the three lines of a search that rule 12 allows on a molecule that rule 9 allows, and then the rest
pub record MarkOf (mol : Molecule) (q : Search) (bytes rest : List ℕ) : Type 0 where
  pub formed : well_formed mol ≡ true
  pub kept : restorable mol q ≡ true
  pub full : length q.prefix ≡ 128
  pub is : bytes ≡ three_lines mol q ++ rest

module _ {mol : Molecule} {q : Search} {bytes rest : List ℕ} (m : MarkOf mol q bytes rest) where
  len_is : q.len ≡ length (beginning q)
  len_is = sym (beginning-length q m.full (restorable-facts mol q m.kept).short)

  text : LinesOf bytes (head_of mol q) (counts_of q) (beginning q) rest
  text =
      record {
        is = m.is ∙ ap (λ l. l ++ rest) (three-text mol q);
        seven = refl;
        three = refl;
        heads = head-fits mol q m.formed m.kept;
        lows = counts-fit mol q m.formed m.kept;
        fits = atoms-fit mol q m.formed m.kept;
      }

  heads : values_of 4 bytes 0 7 ≡ head_of mol q
  heads = head-values text

  counts : values_of 20 bytes 29 3 ≡ counts_of q
  counts = count-values text

  atoms : mark_beginning bytes ≡ beginning q
  atoms = values-four bytes 90 (mark_length bytes) ∙ atom-values text len_is

  kind_is : value_at 4 bytes 0 ≡ q.kind
  kind_is = ap (λ l. get_or l 0 0) heads

  s_is : value_at 4 bytes 4 ≡ q.s
  s_is = ap (λ l. get_or l 1 0) heads

  t_is : value_at 4 bytes 8 ≡ q.t
  t_is = ap (λ l. get_or l 2 0) heads

  pub atoms-is : value_at 4 bytes 12 ≡ mol.atoms
  atoms-is = ap (λ l. get_or l 3 0) heads

  pub bonds-is : mark_bonds bytes ≡ mol.bonds
  bonds-is = ap (λ l. get_or l 4 0) heads

  next-is : value_at 4 bytes 24 ≡ q.next
  next-is = ap (λ l. get_or l 6 0) heads

  pub rest-is : drop (bonds_from bytes) bytes ≡ rest
  rest-is = rest_at text len_is

  pub lines_are : {per_bond : ℕ} → length rest ≡ per_bond * mol.bonds → ThreeLines per_bond bytes
  lines_are size = text-lines text len_is (rw (← len_is) (restorable-facts mol q m.kept).short) size

  search_is : mark_search bytes ≡ q
  unfolding mark_search
  search_is =
      let trials_is : value_at 20 bytes 29 ≡ q.trials = ap (λ l. get_or l 0 0) counts in
      let extensions_is : value_at 20 bytes 49 ≡ q.extensions = ap (λ l. get_or l 1 0) counts in
      let listed_is : value_at 20 bytes 69 ≡ q.listed = ap (λ l. get_or l 2 0) counts in
      rw (kind_is, s_is, t_is, next-is, trials_is, extensions_is, listed_is, atoms)
      (unfold state_of in (search-state mol q m.kept m.full))

  pub text-restored : {laid owned : Bool} → laid ≡ true → owned ≡ true → RestoredBy laid owned mol bytes q
  text-restored layout own =
      let f = restorable-facts mol q m.kept in
      record {
        formed = m.formed;
        layout = layout;
        own = own;
        kinds = rw (kind_is, s_is, t_is) f.kind-kept;
        place = rw (kind_is, s_is, t_is, next-is, atoms) (restorable-place mol q f);
        search = search_is;
      }
