-- The search that an accepted mark restores: rule 12 allows it, and the bytes begin with its three lines.
-- Its numbers are the values of the fields, and fields that zeros do not fill are the text of their values.
use Prim.Native.Nat.{ℕ}
use native.Mathlib.Omega.{arith}
use mathlib.Core.Path.{◌≡◌, refl, ap, sym, ◌∙◌}
use mathlib.Core.Bool.{Bool, true}
use mathlib.Core.List.{List, ◌++◌, reverse, reverse-reverse}
use lib.ListN.{length, take, drop, length-reverse}
use Rattle.enumeration.specs.Machine.{State}
use Rattle.enumeration.specs.Trials.{Valid}
use Rattle.enumeration.specs.RunFacts.{Bounded}
use Rattle.fields.proofs.Laws.{value-bounds}
use Rattle.molecule.specs.declared.Molecule.{Molecule}
use Rattle.search.specs.declared.Search.{Search}
use Rattle.search.specs.Place.{family_of, beginning, search_at, restorable}
use Rattle.search.specs.Mark.{three_lines, value_at, mark_bonds, mark_length, bonds_from, mark_beginning}
use Rattle.search.specs.Mark.{mark_search}
use Rattle.search.proofs.Text.{values_of, values-four, values_length}
use Rattle.search.proofs.Lines.{text_of, ThreeLines, layout-text}
use Rattle.search.proofs.Readings.{place-facts}
use Rattle.search.proofs.Views.{beginning-at, search-length, placed-valid, valid-restorable}
use Rattle.search.proofs.Restores.{head_of, counts_of, three-text, RestoredBy}

same_text :
    {head₀ head counts₀ counts atoms₀ atoms : List ℕ} → head₀ ≡ head → counts₀ ≡ counts → atoms₀ ≡ atoms →
    text_of head₀ counts₀ atoms₀ ≡ text_of head counts atoms
same_text h c a = rw (h, c, a)

module _ {laid owned : Bool} {mol : Molecule} {bytes : List ℕ} {q : Search}
    (f : RestoredBy laid owned mol bytes q) where
  -- kind, s and t, and the state that the mark names
  abbrev kind : ℕ
  kind = value_at 4 bytes 0

  abbrev s : ℕ
  s = value_at 4 bytes 4

  abbrev t : ℕ
  t = value_at 4 bytes 8

  abbrev named : State
  named = record {
    stack = reverse (mark_beginning bytes);
    next = value_at 4 bytes 24;
    trials = value_at 20 bytes 29;
    extensions = value_at 20 bytes 49;
    listed = value_at 20 bytes 69;
  }

  abbrev whole : Search
  whole = search_at kind s t named

  named-length : length named.stack ≡ mark_length bytes
  named-length =
      length-reverse (mark_beginning bytes)
      ∙ ap length (values-four bytes 90 (mark_length bytes))
      ∙ values_length 4 bytes 90 (mark_length bytes)

  named-search : whole ≡ q
  named-search = unfold mark_search in f.search

  named-valid : Valid (family_of mol kind s t) named
  named-valid =
      let place = place-facts (family_of mol kind s t) (mark_beginning bytes) (value_at 4 bytes 24) f.place in
      placed-valid (family_of mol kind s t) named (rw reverse-reverse place)

  named-bounded : Bounded named
  named-bounded =
      record {
        trials_most = (value-bounds (take 20 (drop 29 bytes))).1;
        extensions_most = (value-bounds (take 20 (drop 49 bytes))).1;
        listed_most = (value-bounds (take 20 (drop 69 bytes))).1;
      }

  pub named-restorable : restorable mol q ≡ true
  named-restorable =
      rw (← named-search) (valid-restorable mol kind s t f.formed f.kinds named named-valid named-bounded)

  module _ {per_bond : ℕ} (lines : ThreeLines per_bond bytes) where
    pub named-full : length q.prefix ≡ 128
    named-full = rw (← named-search) (search-length kind s t named (omega (arith, named-length)))

    -- the numbers of the search are the values of the fields, where n and m are those of the molecule
    module _ (n-is : value_at 4 bytes 12 ≡ mol.atoms) (m-is : mark_bonds bytes ≡ mol.bonds) where
      named-head : head_of mol whole ≡ values_of 4 bytes 0 7
      unfolding search_at
      named-head = rw (named-length, n-is, m-is)

      named-counts : counts_of whole ≡ values_of 20 bytes 29 3
      unfolding search_at
      named-counts = refl

      named-atoms : beginning whole ≡ values_of 4 bytes 90 (mark_length bytes)
      named-atoms =
          beginning-at kind s t named
          ∙ reverse-reverse (mark_beginning bytes)
          ∙ values-four bytes 90 (mark_length bytes)

      named-three :
          three_lines mol q
          ≡ text_of (values_of 4 bytes 0 7) (values_of 20 bytes 29 3) (values_of 4 bytes 90 (mark_length bytes))
      named-three =
          ap (three_lines mol) (sym named-search)
          ∙ three-text mol whole
          ∙ same_text named-head named-counts named-atoms

      -- The bytes are the three lines of the search, and then what stands past them
      pub named-text : three_lines mol q ++ drop (bonds_from bytes) bytes ≡ bytes
      named-text = ap (λ l. l ++ drop (bonds_from bytes) bytes) named-three ∙ sym (layout-text bytes lines)
