-- The number of shortest paths from s to t, by an entry of its own (document 02, F-14): rules 9 to 11 come first.
use Rattle.std.specs.Prelude.{ℕ, cond, length, leb, Err, Ok, Result}
use Rattle.enumeration.specs.Words.{members}
use Rattle.enumeration.specs.Run.{limit}
use Rattle.refusal.specs.declared.Refusal.{Refusal}
use Rattle.refusal.specs.declared.Refusal.TheVariants.{Record, TooManyPaths}
use Rattle.molecule.specs.declared.Molecule.{Molecule}
use Rattle.molecule.specs.Record.{well_formed}
use Rattle.molecule.specs.Ends.{with_ends}
use Rattle.search.specs.Place.{family_of}

-- How many shortest paths lead from s to t: the length of the list of kind 3
unfoldable pub shortest_number : Molecule → ℕ → ℕ → ℕ
shortest_number mol s t = length (members (family_of mol 3 s t))

-- Rule 9, rule 10, rule 11, rule 26
unfoldable pub count_shortest : Molecule → ℕ → ℕ → Result ℕ Refusal
count_shortest mol s t =
    cond (well_formed mol)
    (with_ends mol.atoms s t Err
    (cond (leb (shortest_number mol s t) limit) (Ok (shortest_number mol s t)) (Err TooManyPaths)))
    (Err Record)
