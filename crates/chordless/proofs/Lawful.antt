-- Rings and paths are families that the theory of a search is about.
-- Sizes and ranges come from the definitions; no ring, and no path, begins another.
use Prim.Native.Nat.{ℕ}
use Rattle.graph.specs.Chordless.{Adjacency}
use Rattle.graph.proofs.Below.{clash}
use Rattle.enumeration.specs.Words.{begins}
use Rattle.enumeration.specs.Lawful.{Lawful}
use Rattle.chordless.specs.Families.{rings, paths}
use Rattle.chordless.proofs.Bounds.{rings-sizes, rings-stop, paths-sizes, paths-stop}

pub rings-lawful : (n : ℕ) (adj : Adjacency) → Lawful (rings n adj)
rings-lawful n adj = record {
  non_empty = λ w e. let (non-empty, short, range) = rings-sizes n adj w e in non-empty;
  short = λ w e. let (non-empty, short, range) = rings-sizes n adj w e in short;
  in_range = λ w e. let (non-empty, short, range) = rings-sizes n adj w e in range;
  prefix_free = λ v w e f begun. clash (begins v w) begun (rings-stop n adj v w e f);
}

pub paths-lawful : (n : ℕ) (adj : Adjacency) (s t : ℕ) → Lawful (paths n adj s t)
paths-lawful n adj s t = record {
  non_empty = λ w e. let (non-empty, short, range) = paths-sizes n adj s t w e in non-empty;
  short = λ w e. let (non-empty, short, range) = paths-sizes n adj s t w e in short;
  in_range = λ w e. let (non-empty, short, range) = paths-sizes n adj s t w e in range;
  prefix_free = λ v w e f begun. clash (begins v w) begun (paths-stop n adj s t v w e f);
}
