-- The number of shortest paths: what `distance::number` tells of it, and what the entry answers (document 02, F-14).
-- By the number of lists that lead from t to s, over the bonds of the record.
use Prim.Native.Nat.{ℕ, ◌<◌}
use native.Mathlib.Omega.{arith}
use mathlib.Core.Path.{◌≡◌, refl, sym, ap, ◌∙◌}
use mathlib.Core.Bool.{Bool, true, false, ◌&&◌, cond}
use mathlib.Core.List.{List}
use mathlib.Core.Logic.{inl, inr, ◌↔◌}
use lib.ListN.{length}
use lib.Dec.{leb, eqb}
use borrow.Author.Tests.{leb-false}
use Rattle.std.specs.Prelude.{Err, Ok, Result}
use Rattle.graph.specs.Chordless.{Adjacency}
use Rattle.enumeration.specs.Words.{words, members}
use Rattle.enumeration.specs.Run.{limit}
use Rattle.enumeration.proofs.Basics.{keep-none}
use Rattle.chordless.specs.Families.{joins, is_shortest, shortest_paths}
use Rattle.chordless.specs.Distance.{Atom}
use Rattle.chordless.proofs.Number.{number-from-start, none-from-start}
use Rattle.refusal.specs.declared.Refusal.{Refusal}
use Rattle.refusal.specs.declared.Refusal.TheVariants.{Record, PathEnd, SameEnds, TooManyPaths}
use Rattle.molecule.specs.declared.Molecule.{Molecule}
use Rattle.molecule.specs.Record.{is_atom, bonded, well_formed}
use Rattle.molecule.specs.Ends.{with_ends}
use Rattle.molecule.proofs.Bonds.{rule9, bonded-symmetric}
use Rattle.atomset.specs.Set.{linked_by, WordsOf}
use Rattle.atomset.proofs.Bonds.{linked-same, linked-symmetric}
use Rattle.search.specs.Place.{family_in, family_of, ends_kept}
use Rattle.search.proofs.Readings.{ends-facts}
use Rattle.distance.specs.Capped.{capped, MeasuredEnds, Numbered}
use Rattle.counter.specs.Count.{shortest_number, count_shortest}
use Rattle.counter.proofs.Answers.{count-above}

-- ---- the number

module _ (mol : Molecule) (s t : ℕ) where
  -- the bonds of the record
  abbrev bonds : Adjacency
  bonds = bonded mol.atoms mol.rows

  number_is : shortest_number mol s t ≡ length (members (shortest_paths mol.atoms bonds s t))
  unfolding shortest_number family_of family_in
  number_is = refl

  -- no list joins s to t: the number is 0
  pub not-joined : ((w : List ℕ) → joins mol.atoms bonds s t w ≡ false) → shortest_number mol s t ≡ 0
  unfolding members is_shortest
  not-joined h =
      number_is
      ∙ ap (λ (l : List (List ℕ)). length l)
      (keep-none (is_shortest mol.atoms bonds s t) (words mol.atoms mol.atoms) (λ w m. rw (h w)))

  -- s and t are atoms of a record that rule 9 allows, and differ
  module _ (formed : well_formed mol ≡ true) (kept : ends_kept mol.atoms s t ≡ true) where
    start-atom : Atom mol.atoms s
    start-atom = let f = ends-facts mol.atoms s t kept in record { low = f.s_low; high = f.s_high }

    end-atom : Atom mol.atoms t
    end-atom = let f = ends-facts mol.atoms s t kept in record { low = f.t_low; high = f.t_high }

    -- what the sums along the distances from s tell is the number, up to the limit of the counts
    pub number-capped : {r : ℕ} → Numbered mol.atoms bonds s t r → r ≡ capped (shortest_number mol s t)
    number-capped (inl (d, far, told)) =
        told
        ∙ ap capped
        (sym (number-from-start mol.atoms bonds s t (bonded-symmetric mol formed) start-atom end-atom far)
        ∙ sym number_is)
    number-capped (inr (none, told)) =
        let zero = none-from-start mol.atoms bonds s t (bonded-symmetric mol formed) start-atom end-atom none in
        rw (number_is, zero) (unfold capped in told)

    -- the word table of the record
    module _ (table : List ℕ) (words : WordsOf mol.rows table) where
      pub table-joined : MeasuredEnds mol.atoms (linked_by table) s t
      table-joined = record {
        measured =
            record {
              few = (rule9 mol formed).atoms_high;
              both_ways = linked-symmetric mol formed table words;
              atom = start-atom;
            };
        end = end-atom;
      }

      pub table_capped : {r : ℕ} → Numbered mol.atoms (linked_by table) s t r → r ≡ capped (shortest_number mol s t)
      table_capped {r} told = number-capped (rw (linked-same mol formed table words) at told)

-- ---- the answer

module _ (mol : Molecule) (s t : ℕ) where
  -- the parts of a definition by tests: rules 9, 10, 11 and 26
  abbrev by_tests : Bool → Bool → Bool → Bool → Result ℕ Refusal
  by_tests formed atoms same few =
      cond formed
      (cond atoms
      (cond same (Err SameEnds) (cond few (Ok (shortest_number mol s t)) (Err TooManyPaths)))
      (Err PathEnd))
      (Err Record)

  -- a number that is answered is the number of shortest paths
  pub count-exact : {k : ℕ} → count_shortest mol s t ≡ Ok k → k ≡ shortest_number mol s t
  unfolding count_shortest with_ends
  count-exact {k} e =
      go (well_formed mol) (is_atom mol.atoms s && is_atom mol.atoms t) (eqb s t)
      (leb (shortest_number mol s t) limit) e
    where
      go : (formed atoms same few : Bool) → by_tests formed atoms same few ≡ Ok k → k ≡ shortest_number mol s t
      go true true true few e = cc
      go true true false true e = cc
      go true true false false e = cc
      go true false same few e = cc
      go false atoms same few e = cc

  -- rules 9, 10 and 11 are kept, and the number is above the limit of the counts
  abbrev Above : Type 0
  Above = (well_formed mol ≡ true) × (ends_kept mol.atoms s t ≡ true) × (limit < shortest_number mol s t)

  refused-above : count_shortest mol s t ≡ Err TooManyPaths → Above
  unfolding count_shortest ends_kept with_ends
  refused-above e =
      let (formed, kept, above) = go (well_formed mol) (is_atom mol.atoms s && is_atom mol.atoms t) (eqb s t)
      (leb (shortest_number mol s t) limit) e in
      (formed, kept, leb-false (shortest_number mol s t) limit above)
    where
      go :
          (formed atoms same few : Bool) → by_tests formed atoms same few ≡ Err TooManyPaths →
          (formed ≡ true) × (cond atoms (cond same false true) false ≡ true) × (few ≡ false)
      go true true true few e = absurd (let z : ◌≡◌ {A = ℕ} 0 1 = cc in omega arith)
      go true true false true e = absurd (let z : ◌≡◌ {A = ℕ} 0 1 = cc in omega arith)
      go true true false false e = (refl, refl, refl)
      go true false same few e = absurd (let z : ◌≡◌ {A = ℕ} 0 1 = cc in omega arith)
      go false atoms same few e = absurd (let z : ◌≡◌ {A = ℕ} 0 1 = cc in omega arith)

  -- rule 26: exactly where rules 9, 10 and 11 are kept and the number is above the limit of the counts
  pub too_many :
      (count_shortest mol s t ≡ Err TooManyPaths) ↔
      ((well_formed mol ≡ true) × (ends_kept mol.atoms s t ≡ true) × (limit < shortest_number mol s t))
  too_many = (refused-above, λ (formed, kept, above). count-above mol s t formed kept above)
