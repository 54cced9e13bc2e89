-- Demand 3 for rings, paths, rings up to a size and shortest paths, each from the search that its start entry returns.
-- Instances of `demand3`: rule 16 takes kind 0, kinds 1 and 3 with s and t by rules 10 and 11, kind 2 with s by 21.
use Rattle.std.specs.Prelude.{Ok}
use Prim.Native.Nat.{ℕ}
use mathlib.Core.Path.{◌≡◌, refl, sym, ap, ◌∙◌}
use mathlib.Core.Bool.{true}
use mathlib.Core.List.{List, Memᴰ}
use mathlib.Core.Logic.{inl, inr}
use Rattle.enumeration.specs.Words.{words, members}
use Rattle.enumeration.proofs.Basics.{keep-mem, mem-keep}
use Rattle.chordless.specs.Families.{rings, paths, up_to, shortest_paths}
use Rattle.chordless.proofs.ShortestPaths.{shortest-path}
use Rattle.molecule.specs.declared.Molecule.{Molecule}
use Rattle.molecule.specs.Record.{well_formed, bonded}
use Rattle.molecule.proofs.Bonds.{rule9}
use Rattle.search.specs.Place.{lists_paths, family_in, family_of, ends_kept, bound_kept, kind_kept}
use Rattle.search.specs.Entries.{start_rings, start_paths, start_shortest, start_rings_up_to}
use Rattle.search.proofs.Readings.{all-sizes, kind-of, ends-facts}
use Rattle.search.proofs.Starts.{is-rings, is-paths, is-shortest, is-size}
use Rattle.search.proofs.Accepts.{kept-starts}
use Rattle.history.specs.Calls.{Call, start, standing, History}
use Rattle.history.specs.Demand.{Demand}
use Rattle.history.proofs.Demand3.{demand3}

-- ---- lists and starts

-- The list of kind 0 is the rings of the record, that of kind 1 its paths from s to t
pub rings-listed : (R : Molecule) (s t : ℕ) → family_of R 0 s t ≡ rings R.atoms (bonded R.atoms R.rows)
unfolding family_of family_in
rings-listed R s t = refl

pub paths-listed : (R : Molecule) (s t : ℕ) → family_of R 1 s t ≡ paths R.atoms (bonded R.atoms R.rows) s t
unfolding family_of family_in
paths-listed R s t = refl

-- The list of kind 2 is the rings of at most k atoms; with k = 128 it is that of kind 0
pub bounded-listed :
    (R : Molecule) (k t : ℕ) → family_of R 2 k t ≡ up_to k (rings R.atoms (bonded R.atoms R.rows))
unfolding family_of family_in
bounded-listed R k t = refl

pub all-sizes-listed :
    (R : Molecule) → well_formed R ≡ true → members (family_of R 2 128 0) ≡ members (family_of R 0 0 0)
unfolding family_of
all-sizes-listed R good =
    let adj = bonded R.atoms R.rows in
    ap members (all-sizes R.atoms adj 2 128 0 refl (rule9 R good).atoms_high ∙ sym (unfold family_in in refl))

-- The list of kind 3 is the shortest paths of the record from s to t; each is a member of the list of kind 1
pub shortest-listed :
    (R : Molecule) (s t : ℕ) → family_of R 3 s t ≡ shortest_paths R.atoms (bonded R.atoms R.rows) s t
unfolding family_of family_in
shortest-listed R s t = refl

pub shortest-among-paths :
    (R : Molecule) (s t : ℕ) (w : List ℕ) →
    Memᴰ w (members (family_of R 3 s t)) → Memᴰ w (members (family_of R 1 s t))
unfolding family_of family_in members
shortest-among-paths R s t w listed =
    let n = R.atoms in
    let adj = bonded n R.rows in
    let (word, shortest) = keep-mem (shortest_paths n adj s t).member (words n n) listed in
    mem-keep (paths n adj s t).member word (shortest-path n adj s t w shortest)

-- ---- rule 16 allows them

pub rings_kept : (n : ℕ) → kind_kept n 0 0 0 ≡ true
rings_kept n = kind-of n 0 0 0 (inl (refl, refl, refl))

paths-kept : (n kind s t : ℕ) → lists_paths kind ≡ true → ends_kept n s t ≡ true → kind_kept n kind s t ≡ true
paths-kept n kind s t path ends = kind-of n kind s t (inr (inl (path, ends-facts n s t ends)))

bounded-kept : (n k : ℕ) → bound_kept k ≡ true → kind_kept n 2 k 0 ≡ true
bounded-kept n k bound = kind-of n 2 k 0 (inr (inr (refl, bound, refl)))

-- The start of a history is what the start entries return: a start that rule 16 allows is accepted
module _ (R : Molecule) (good : well_formed R ≡ true) where
  pub rings-start : start_rings R ≡ Ok (start 0 0 0).search
  unfolding start
  rings-start = sym (is-rings R) ∙ kept-starts R 0 0 0 good (rings_kept R.atoms)

  pub paths-start :
      (s t : ℕ) → ends_kept R.atoms s t ≡ true → start_paths R s t ≡ Ok (start 1 s t).search
  unfolding start
  paths-start s t ends = sym (is-paths R s t) ∙ kept-starts R 1 s t good (paths-kept R.atoms 1 s t refl ends)

  pub shortest-start :
      (s t : ℕ) → ends_kept R.atoms s t ≡ true → start_shortest R s t ≡ Ok (start 3 s t).search
  unfolding start
  shortest-start s t ends =
      sym (is-shortest R s t) ∙ kept-starts R 3 s t good (paths-kept R.atoms 3 s t refl ends)

  pub bounded-start : (k : ℕ) → bound_kept k ≡ true → start_rings_up_to R k ≡ Ok (start 2 k 0).search
  unfolding start
  bounded-start k bound = sym (is-size R k) ∙ kept-starts R 2 k 0 good (bounded-kept R.atoms k bound)

-- ---- demand 3

pub rings-demand3 :
    (R : Molecule) → well_formed R ≡ true →
    (calls : List Call) → History R (start 0 0 0) calls →
    Demand R 0 0 0 calls (standing (start 0 0 0) calls)
rings-demand3 R good = demand3 R 0 0 0 good (rings_kept R.atoms)

pub paths-demand3 :
    (R : Molecule) (s t : ℕ) → well_formed R ≡ true → ends_kept R.atoms s t ≡ true →
    (calls : List Call) → History R (start 1 s t) calls →
    Demand R 1 s t calls (standing (start 1 s t) calls)
paths-demand3 R s t good ends = demand3 R 1 s t good (paths-kept R.atoms 1 s t refl ends)

pub shortest-demand3 :
    (R : Molecule) (s t : ℕ) → well_formed R ≡ true → ends_kept R.atoms s t ≡ true →
    (calls : List Call) → History R (start 3 s t) calls →
    Demand R 3 s t calls (standing (start 3 s t) calls)
shortest-demand3 R s t good ends = demand3 R 3 s t good (paths-kept R.atoms 3 s t refl ends)

pub bounded-demand3 :
    (R : Molecule) (k : ℕ) → well_formed R ≡ true → bound_kept k ≡ true →
    (calls : List Call) → History R (start 2 k 0) calls →
    Demand R 2 k 0 calls (standing (start 2 k 0) calls)
bounded-demand3 R k good bound = demand3 R 2 k 0 good (bounded-kept R.atoms k bound)
