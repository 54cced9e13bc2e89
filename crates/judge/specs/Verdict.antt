-- The judge of document 01: yes or no to any atom list, as a ring or as an s-t path; rules 9 to 11 come first.
use Rattle.std.specs.Prelude.{ℕ, Bool, cond, List, Err, Ok, Result}
use Rattle.refusal.specs.declared.Refusal.{Refusal}
use Rattle.refusal.specs.declared.Refusal.TheVariants.{Record}
use Rattle.molecule.specs.declared.Molecule.{Molecule}
use Rattle.molecule.specs.Record.{well_formed, bonded}
use Rattle.molecule.specs.Ends.{with_ends}
use Rattle.graph.specs.Chordless.{is_ring, is_path}

-- As a ring: rule 9
unfoldable pub judge_ring : Molecule → List ℕ → Result Bool Refusal
judge_ring mol xs =
    cond (well_formed mol) (Ok (is_ring mol.atoms (bonded mol.atoms mol.rows) xs)) (Err Record)

-- As a path from s to t: rule 9, rule 10, rule 11
unfoldable pub judge_path : Molecule → ℕ → ℕ → List ℕ → Result Bool Refusal
judge_path mol s t xs =
    cond (well_formed mol)
    (with_ends mol.atoms s t Err (Ok (is_path mol.atoms (bonded mol.atoms mol.rows) s t xs)))
    (Err Record)
