-- The tests of rule 12, by what the code finds.
-- The places past the length as a list, and the order of the tests.
use Prim.Native.Nat.{ℕ, zero, suc, ◌+◌, ◌-◌, ◌≤◌, ◌<◌}
use native.Mathlib.Omega.{arith}
use mathlib.Core.Path.{◌≡◌, refl, sym}
use mathlib.Core.Bool.{Bool, true, false, ◌&&◌, and-true, and-false}
use mathlib.Core.List.{List, [], ◌∷◌}
use lib.ListN.{length, get_or, drop, length-drop}
use lib.Dec.{leb, eqb}
use borrow.Author.Tests.{eqb-true}
use Rattle.std.specs.List.{list_all}
use Rattle.std.proofs.lemmas.List.{get_or-drop}
use Rattle.graph.proofs.Below.{same_test, and_parts}
use Rattle.enumeration.specs.Run.{limit}
use Rattle.molecule.specs.declared.Molecule.{Molecule}
use Rattle.search.specs.declared.Search.{Search}
use Rattle.search.specs.Place.{family, beginning, kind_kept, place_kept, restorable}
use Rattle.search.proofs.Readings.{zeros-past, past-zeros}
use Rattle.search_rules.specs.Parts.{padded_at, padded, counts_kept}

-- ---- the places past the length

module _ (prefix : List ℕ) (len : ℕ) where
  padded-at : padded prefix len ≡ true → (i : ℕ) → len ≤ i → i < 128 → get_or prefix i 0 ≡ 0
  unfolding padded padded_at
  padded-at = zeros-past prefix len

  padded-from : ((i : ℕ) → len ≤ i → i < 128 → get_or prefix i 0 ≡ 0) → padded prefix len ≡ true
  unfolding padded padded_at
  padded-from = past-zeros prefix len

-- each place past the length holds 0, and so the list of these places has no other number
all-zero : (xs : List ℕ) → list_all (λ a. eqb a 0) xs ≡ true → (i : ℕ) → get_or xs i 0 ≡ 0
all-zero [] e i = refl
all-zero (x ∷ xs) e zero = eqb-true x 0 (and_parts (eqb x 0) (list_all (λ a. eqb a 0) xs) e).0
all-zero (x ∷ xs) e (suc i) = all-zero xs (and_parts (eqb x 0) (list_all (λ a. eqb a 0) xs) e).1 i

zero-all : (xs : List ℕ) → ((i : ℕ) → i < length xs → get_or xs i 0 ≡ 0) → list_all (λ a. eqb a 0) xs ≡ true
zero-all [] f = refl
zero-all (x ∷ xs) f = rw (f 0 (omega arith)) (zero-all xs (λ i h. f (suc i) (omega arith)))

pub skipped-padded :
    (prefix : List ℕ) (len : ℕ) → length prefix ≡ 128 →
    list_all (λ a. eqb a 0) (drop len prefix) ≡ padded prefix len
skipped-padded prefix len full = same_test _ _ (λ e. padded-from prefix len (zeros e)) (λ e. zero-all _ (held e))
  where
    zeros :
        list_all (λ a. eqb a 0) (drop len prefix) ≡ true → (i : ℕ) → len ≤ i → i < 128 → get_or prefix i 0 ≡ 0
    zeros e i l h =
        let at : len + (i - len) ≡ i = omega arith in
        rw (get_or-drop len prefix (i - len) 0, at) at (all-zero (drop len prefix) e (i - len))

    held : padded prefix len ≡ true → (i : ℕ) → i < length (drop len prefix) → get_or (drop len prefix) i 0 ≡ 0
    held e i h =
        rw (get_or-drop len prefix i 0)
        (padded-at prefix len e (len + i) (omega arith) (omega (arith, length-drop len prefix)))

-- ---- rule 12

-- the fourth of seven tests may come last
fourth-last : (x d e f g : Bool) → x && d && e && f && g ≡ ((x && (e && f && g)) && d)
fourth-last false d e f g = refl
fourth-last true false e f g = sym (and-false (e && f && g))
fourth-last true true e f g = sym (and-true (e && f && g))

module _ (mol : Molecule) (q : Search) where
  pub place-last :
      restorable mol q ≡
      ((leb q.len 127 && padded q.prefix q.len && kind_kept mol.atoms q.kind q.s q.t &&
      counts_kept q.trials q.extensions q.listed) && place_kept (family mol q) (beginning q) q.next)
  unfolding restorable padded padded_at
  place-last =
      fourth-last
      (leb q.len 127 && padded q.prefix q.len && kind_kept mol.atoms q.kind q.s q.t)
      (place_kept (family mol q) (beginning q) q.next) (leb q.trials limit) (leb q.extensions limit)
      (leb q.listed limit)
