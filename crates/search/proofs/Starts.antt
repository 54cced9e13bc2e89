-- The answers of starting a search, by the tests that lead to each.
-- The definitions go by `cond`, so each answer follows by rewriting the tests.
use Rattle.std.specs.Prelude.{Err, Ok}
use Prim.Native.Nat.{ℕ}
use mathlib.Core.Path.{◌≡◌, refl}
use mathlib.Core.Bool.{true, false, ◌&&◌, and-false}
use lib.Dec.{eqb}
use borrow.Author.Tests.{ne_eqb}
use Rattle.refusal.specs.declared.Refusal.{Refusal}
use Rattle.refusal.specs.declared.Refusal.TheVariants.{Record, MarkKind, RingSize}
use Rattle.molecule.specs.declared.Molecule.{Molecule}
use Rattle.molecule.specs.Record.{well_formed}
use Rattle.molecule.specs.Ends.{ends_answer}
use Rattle.molecule.proofs.Ends.{ends-refused, ends-accepted}
use Rattle.search.specs.Place.{lists_paths, fresh_search, bound_kept}
use Rattle.search.specs.Entries.{fresh_paths, fresh_rings_up_to, fresh_of_kind}
use Rattle.search.specs.Entries.{start_rings, start_paths, start_shortest, start_rings_up_to, start_search}
use Rattle.search.proofs.Readings.{path-no-ring}

-- ---- rules 10 and 11

module _ (n kind s t : ℕ) where
  pub paths-refused : {r : Refusal} → ends_answer n s t ≡ Err r → fresh_paths n kind s t ≡ Err r
  unfolding fresh_paths
  paths-refused e = ends-refused n s t _ _ e

  pub paths-fresh : ends_answer n s t ≡ Ok _ → fresh_paths n kind s t ≡ Ok (fresh_search kind s t)
  unfolding fresh_paths
  paths-fresh e = ends-accepted n s t _ _ e

-- ---- rule 21

module _ (k : ℕ) where
  pub size-refused : bound_kept k ≡ false → fresh_rings_up_to k ≡ Err RingSize
  unfolding fresh_rings_up_to
  size-refused e = rw e

  pub size-fresh : bound_kept k ≡ true → fresh_rings_up_to k ≡ Ok (fresh_search 2 k 0)
  unfolding fresh_rings_up_to
  size-fresh e = rw e

-- ---- rule 16, and then the rules of the kind

module _ (n kind s t : ℕ) where
  pub of-paths : lists_paths kind ≡ true → fresh_of_kind n kind s t ≡ fresh_paths n kind s t
  unfolding fresh_of_kind
  of-paths path = rw (path-no-ring kind path, path)

  module _ (other : lists_paths kind ≡ false) where
    pub no-t : (t ≡ 0 → ⊥) → fresh_of_kind n kind s t ≡ Err MarkKind
    unfolding fresh_of_kind
    no-t d =
        rw (ne_eqb t 0 d, and-false (eqb kind 0 && eqb s 0), other, and-false (eqb kind 2))

    module _ (none : t ≡ 0) where
      pub of_size : kind ≡ 2 → fresh_of_kind n kind s t ≡ fresh_rings_up_to s
      unfolding fresh_of_kind
      of_size two = rw (two, none)

      pub no_kind : (kind ≡ 2 → ⊥) → (kind ≡ 0 → ⊥) → fresh_of_kind n kind s t ≡ Err MarkKind
      unfolding fresh_of_kind
      no_kind two zero = rw (ne_eqb kind 0 zero, other, ne_eqb kind 2 two)

      module _ (zero : kind ≡ 0) where
        pub no-s : (s ≡ 0 → ⊥) → fresh_of_kind n kind s t ≡ Err MarkKind
        unfolding fresh_of_kind
        no-s d = rw (zero, ne_eqb s 0 d)

        pub rings-fresh : s ≡ 0 → fresh_of_kind n kind s t ≡ Ok (fresh_search 0 0 0)
        unfolding fresh_of_kind
        rings-fresh e = rw (zero, e, none)

-- ---- rule 9, and then the rules of the kind

module _ (mol : Molecule) where
  module _ (kind s t : ℕ) where
    pub record-refused : well_formed mol ≡ false → start_search mol kind s t ≡ Err Record
    unfolding start_search
    record-refused e = rw e

    pub record-taken : well_formed mol ≡ true → start_search mol kind s t ≡ fresh_of_kind mol.atoms kind s t
    unfolding start_search
    record-taken e = rw e

  -- ---- a start of one kind is one of any kind

  pub is-rings : start_search mol 0 0 0 ≡ start_rings mol
  unfolding start_search fresh_of_kind start_rings
  is-rings = refl

  pub is-paths : (s t : ℕ) → start_search mol 1 s t ≡ start_paths mol s t
  unfolding start_search fresh_of_kind start_paths
  is-paths s t = refl

  pub is-shortest : (s t : ℕ) → start_search mol 3 s t ≡ start_shortest mol s t
  unfolding start_search fresh_of_kind start_shortest
  is-shortest s t = refl

  pub is-size : (k : ℕ) → start_search mol 2 k 0 ≡ start_rings_up_to mol k
  unfolding start_search fresh_of_kind start_rings_up_to
  is-size k = refl

  pub rings-started : well_formed mol ≡ true → start_rings mol ≡ Ok (fresh_search 0 0 0)
  unfolding start_rings
  rings-started e = rw e
