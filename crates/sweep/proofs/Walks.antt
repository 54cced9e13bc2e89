-- Walks depend only on which atoms are bonded and free, so
-- what a sweep finds serves for tests that agree with its own.
-- By induction on the walk.
use Prim.Native.Nat.{ℕ, ◌≤◌}
use mathlib.Core.Path.{◌≡◌, sym, ◌∙◌}
use mathlib.Core.Bool.{Bool, true}
use mathlib.Core.List.{List}
use Rattle.graph.specs.Chordless.{Adjacency}
use Rattle.chordless.specs.Reach.{Walk, there, through, Reaches}
use Rattle.chordless.proofs.Shortest.{walk-longer}
use Rattle.molecule.specs.declared.Molecule.{Molecule}
use Rattle.molecule.specs.Record.{bonded, well_formed}
use Rattle.atomset.specs.Set.{linked_by, WordsOf}
use Rattle.atomset.proofs.Bonds.{linked-bonded}
use Rattle.sweep.specs.Swept.{Reached}

-- the same bonds and the same free atoms
pub walk_same :
    {adj adj' : Adjacency} {f g : ℕ → Bool} {b d v : ℕ} → ((u w : ℕ) → adj u w ≡ adj' u w) → ((u : ℕ) → f u ≡ g u) →
    Walk adj f b d v → Walk adj' g b d v
walk_same bonds atoms (there {v = v} e) = there (sym (bonds v _) ∙ e)
walk_same bonds atoms (through {v = v} {w} e a k) =
    through (sym (bonds v w) ∙ e) (sym (atoms w) ∙ a) (walk_same bonds atoms k)

pub reaches_same :
    {adj adj' : Adjacency} {f g t u : ℕ → Bool} {d v : ℕ} → ((a b : ℕ) → adj a b ≡ adj' a b) → ((a : ℕ) → f a ≡ g a) →
    ((a : ℕ) → t a ≡ u a) → Reaches adj f t d v → Reaches adj' g u d v
reaches_same bonds atoms ends (b, is-target, walk) = (b, sym (ends b) ∙ is-target, walk_same bonds atoms walk)

-- more steps
pub reaches-longer :
    {adj : Adjacency} {f t : ℕ → Bool} {d e v : ℕ} → d ≤ e → Reaches adj f t d v → Reaches adj f t e v
reaches-longer {adj} h (b, is-target, walk) = (b, is-target, walk-longer adj h walk)

-- What a sweep finds, for other tests with the same answers
pub reached-same :
    {adj adj' : Adjacency} {f g t u want S : ℕ → Bool} {d : ℕ} → ((a b : ℕ) → adj a b ≡ adj' a b) →
    ((a : ℕ) → f a ≡ g a) → ((a : ℕ) → t a ≡ u a) → Reached adj f t d want S → Reached adj' g u d want S
reached-same bonds atoms ends s v = (
  λ e. let (wanted, reaches) = (s v).0 e in (wanted, reaches_same bonds atoms ends reaches),
  λ r. (s v).1 (r.0, reaches_same (λ a b. sym (bonds a b)) (λ a. sym (atoms a)) (λ a. sym (ends a)) r.1),
)

-- A sweep over the word table of a record that rule 9 allows serves for the record's bonds
pub sweeps-bonded :
    (mol : Molecule) → well_formed mol ≡ true → (table : List ℕ) → WordsOf mol.rows table →
    {f g t u want S : ℕ → Bool} {d : ℕ} → ((a : ℕ) → f a ≡ g a) → ((a : ℕ) → t a ≡ u a) →
    Reached (linked_by table) f t d want S → Reached (bonded mol.atoms mol.rows) g u d want S
sweeps-bonded mol ok table words = reached-same (linked-bonded mol ok table words)
