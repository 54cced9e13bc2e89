-- Rule 17 by the tests of the code: openness first, then the next atom.
-- The length of the beginning tells whether it is empty.
use Prim.Native.Nat.{ℕ, suc, ◌≤◌}
use native.Mathlib.Omega.{arith}
use mathlib.Core.Path.{◌≡◌, refl, sym, ◌∙◌}
use mathlib.Core.Bool.{Bool, true, ◌&&◌}
use mathlib.Core.List.{List, [], ◌∷◌}
use lib.ListN.{length, take}
use lib.Dec.{eqb}
use borrow.Author.Tests.{ne_eqb}
use Rattle.enumeration.specs.Words.{is_open}
use Rattle.enumeration.specs.Machine.{is_empty}
use Rattle.molecule.specs.declared.Molecule.{Molecule}
use Rattle.molecule.specs.Record.{well_formed}
use Rattle.atomset.specs.Set.{WordsOf}
use Rattle.search.specs.declared.Search.{Search}
use Rattle.search.specs.Place.{family, beginning, place_kept}
use Rattle.search.proofs.Readings.{family-atoms}
use Rattle.search.proofs.Views.{beginning-length}
use Rattle.openness.specs.Plan.{family_by}
use Rattle.openness.proofs.Molecules.{open-same}
use Rattle.search_rules.specs.Parts.{next_kept}

empty-length : (p : List ℕ) → is_empty p ≡ eqb (length p) 0
unfolding is_empty
empty-length [] = refl
empty-length (a ∷ p) = sym (ne_eqb (suc (length p)) 0 (λ e. omega arith))

module _ (mol : Molecule) (q : Search) where
  -- what `is_open` finds over the word table holds of the family of the search
  pub open_told :
      (formed : well_formed mol ≡ true) (table : List ℕ) → WordsOf mol.rows table → (r : Bool) →
      r ≡ is_open (family_by mol.atoms table q.kind q.s q.t) (take q.len q.prefix) →
      r ≡ is_open (family mol q) (beginning q)
  open_told formed table words r e = e ∙ open-same mol formed table words q

  -- rule 17 is the test of c, and openness
  pub place-is :
      length q.prefix ≡ 128 → q.len ≤ 127 →
      place_kept (family mol q) (beginning q) q.next ≡
      (is_open (family mol q) (beginning q) && next_kept mol.atoms q.len q.next)
  unfolding place_kept next_kept
  place-is full short =
      rw (family-atoms mol q.kind q.s q.t, empty-length (beginning q), beginning-length q full short)
