-- Which starts are accepted: those whose kind, s and t rule 16 allows, each with the fresh search of them.
-- The tests of a start are passed one after the other.
use Rattle.std.specs.Prelude.{Err, Ok, Result, ⊤}
use Prim.Native.Nat.{ℕ}
use mathlib.Core.Path.{◌≡◌, refl, sym, ◌∙◌}
use mathlib.Core.Logic.{◌⊎◌, inl, inr}
use mathlib.Core.Bool.{Bool, true, false, ◌&&◌, cond}
use lib.Dec.{eqb}
use borrow.Author.Tests.{eqb-true}
use Rattle.graph.proofs.Below.{and_parts}
use Rattle.refusal.specs.declared.Refusal.{Refusal}
use Rattle.refusal.specs.declared.Refusal.TheVariants as refusal
use Rattle.refusal.proofs.Passed.{not_taken, passed}
use Rattle.molecule.specs.declared.Molecule.{Molecule}
use Rattle.molecule.specs.Record.{well_formed}
use Rattle.molecule.specs.Ends.{with_ends, ends_answer}
use Rattle.molecule.proofs.Ends.{ends-refused, ends-accepted}
use Rattle.search.specs.Place.{lists_paths, fresh_search, ends_kept, bound_kept, kind_kept}
use Rattle.search.specs.Entries.{fresh_paths, fresh_rings_up_to, fresh_of_kind, start_search}
use Rattle.search.proofs.Readings.{KindFacts, kind-facts, kind-of, ends-facts, ends-go, path-no-ring}
use Rattle.search.specs.declared.Search.{Search}

-- which side of a test was taken
either :
    {q : Search} (b : Bool) (x y : Result Search Refusal) → cond b x y ≡ Ok q →
    ((b ≡ true) × (x ≡ Ok q)) ⊎ ((b ≡ false) × (y ≡ Ok q))
either true x y e = inl (refl, e)
either false x y e = inr (refl, e)

-- ---- the kinds

module _ (n kind s t : ℕ) {q : Search} where
  -- rules 10 and 11 are kept
  ends-taken : fresh_paths n kind s t ≡ Ok q → ends_kept n s t ≡ true
  unfolding fresh_paths ends_kept
  ends-taken e = go (ends_answer n s t) refl
    where
      go : (x : Result ⊤ Refusal) → ends_answer n s t ≡ x → with_ends n s t (λ r. false) true ≡ true
      go (Ok _) is = ends-accepted n s t _ _ is
      go (Err r) is = absurd (not_taken (sym (ends-refused n s t _ _ is) ∙ e))

  size-taken : fresh_rings_up_to s ≡ Ok q → bound_kept s ≡ true
  unfolding fresh_rings_up_to
  size-taken e = (passed (bound_kept s) _ refusal.RingSize e).0

  -- what a start asks of a kind, s and t is what rule 16 asks
  startable : fresh_of_kind n kind s t ≡ Ok q → KindFacts n kind s t
  unfolding fresh_of_kind
  startable e = first (either (eqb kind 0 && eqb s 0 && eqb t 0) _ _ e)
    where
      third : (eqb kind 2 && eqb t 0 ≡ true) × (fresh_rings_up_to s ≡ Ok q) → KindFacts n kind s t
      third (h, f) =
          let (two, t-zero) = and_parts (eqb kind 2) (eqb t 0) h in
          inr (inr (eqb-true kind 2 two, size-taken f, eqb-true t 0 t-zero))

      second :
          ((lists_paths kind ≡ true) × (fresh_paths n kind s t ≡ Ok q))
          ⊎ ((lists_paths kind ≡ false)
          × (cond (eqb kind 2 && eqb t 0) (fresh_rings_up_to s) (Err refusal.MarkKind) ≡ Ok q)) →
          KindFacts n kind s t
      second (inl (path, f)) = inr (inl (path, ends-facts n s t (ends-taken f)))
      second (inr (other, f)) = third (passed (eqb kind 2 && eqb t 0) _ refusal.MarkKind f)

      first :
          ((eqb kind 0 && eqb s 0 && eqb t 0 ≡ true) × ◌≡◌ {A = Result Search Refusal} (Ok (fresh_search 0 0 0)) (Ok q))
          ⊎ ((eqb kind 0 && eqb s 0 && eqb t 0 ≡ false)
          × (cond (lists_paths kind) (fresh_paths n kind s t)
          (cond (eqb kind 2 && eqb t 0) (fresh_rings_up_to s) (Err refusal.MarkKind)) ≡ Ok q)) →
          KindFacts n kind s t
      first (inl (h, f)) =
          let (kind-s, t-zero) = and_parts (eqb kind 0 && eqb s 0) (eqb t 0) h in
          let (zero, s-zero) = and_parts (eqb kind 0) (eqb s 0) kind-s in
          inl (eqb-true kind 0 zero, eqb-true s 0 s-zero, eqb-true t 0 t-zero)
      first (inr (other, f)) = second (either (lists_paths kind) _ _ f)

module _ (n kind s t : ℕ) where
  startable-starts : KindFacts n kind s t → fresh_of_kind n kind s t ≡ Ok (fresh_search kind s t)
  unfolding fresh_of_kind fresh_paths fresh_rings_up_to
  startable-starts (inl (zero, s-zero, t-zero)) = rw (zero, s-zero, t-zero)
  startable-starts (inr (inl (path, ends))) =
      rw (path-no-ring kind path, path) (ends-go ends _ _)
  startable-starts (inr (inr (two, size, t-zero))) = rw (two, t-zero, size)

-- ---- the entry

module _ (mol : Molecule) (kind s t : ℕ) where
  starts :
      well_formed mol ≡ true → KindFacts mol.atoms kind s t →
      start_search mol kind s t ≡ Ok (fresh_search kind s t)
  unfolding start_search
  starts formed ok = rw formed (startable-starts mol.atoms kind s t ok)

  module _ {q : Search} (e : start_search mol kind s t ≡ Ok q) where
    parts : (well_formed mol ≡ true) × (fresh_of_kind mol.atoms kind s t ≡ Ok q)
    unfolding start_search
    parts = passed (well_formed mol) _ refusal.Record e

    -- rule 9 allows the record of an accepted start
    pub started-formed : well_formed mol ≡ true
    started-formed = parts.0

    taken : KindFacts mol.atoms kind s t
    taken = startable mol.atoms kind s t parts.1

    -- An accepted start returns the fresh search of its kind, s and t,
    pub started-fresh : start_search mol kind s t ≡ Ok (fresh_search kind s t)
    started-fresh = starts started-formed taken

    -- rule 16 allows them,
    pub started-kept : kind_kept mol.atoms kind s t ≡ true
    started-kept = kind-of mol.atoms kind s t taken

  -- and every start that rule 16 allows is accepted
  pub kept-starts :
      well_formed mol ≡ true → kind_kept mol.atoms kind s t ≡ true →
      start_search mol kind s t ≡ Ok (fresh_search kind s t)
  kept-starts formed kept = starts formed (kind-facts mol.atoms kind s t kept)
