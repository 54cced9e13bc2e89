-- How many lists of as few bonds as can be join two atoms: numbers up to the limit of a count, and one number that
-- stands for all above it. What the parts of `distance` ask and tell of them.
use Rattle.std.specs.Prelude.{ℕ, suc, ◌≡◌, Bool, true, false, ◌&&◌, cond, List, ◌⊎◌, length, get_or, leb}
use Rattle.graph.specs.Chordless.{Adjacency}
use Rattle.fields.specs.Field.{limit}
use Rattle.chordless.specs.Distance.{Atom, Far, total, ways}
use Rattle.distance.specs.Layers.{Measured}

-- the number itself up to the limit of a count, and one above the limit for every greater one
unfoldable pub capped : ℕ → ℕ
capped x = cond (leb x limit) x (suc limit)

-- the sum of the numbers of the atoms of a set
abbrev pub sum_over : (ℕ → Bool) → List ℕ → ℕ
sum_over s numbers = total 128 (λ a. cond (s a) (get_or numbers a 0) 0)

-- 129 numbers; no atom of `found` is in `front`, so no sum changes a number that another one takes
pub record SumsAsked (front found : ℕ → Bool) (numbers : List ℕ) : Type 0 where
  pub size : length numbers ≡ 129
  pub apart : (a : ℕ) → found a ≡ true → front a ≡ false

-- the number of each atom of `found` becomes the sum of those of the atoms of `front` that it is bonded to; the other
-- numbers stay
pub record SumsKept (adj : Adjacency) (front found : ℕ → Bool) (old new : List ℕ) : Type 0 where
  pub size : length new ≡ 129
  pub sums :
      (v : ℕ) → get_or new v 0 ≡ cond (found v) (capped (sum_over (λ a. adj v a && front a) old)) (get_or old v 0)

-- both ends of a path: distances to s can be measured, and t is an atom
pub record MeasuredEnds (n : ℕ) (adj : Adjacency) (s t : ℕ) : Type 0 where
  pub measured : Measured n adj s
  pub end : Atom n t

-- r is how many lists of as few bonds as can be lead from t to s; it is 0 where none leads there
abbrev pub Numbered : ℕ → Adjacency → ℕ → ℕ → ℕ → Type 0
Numbered n adj s t r =
    ((d : ℕ) × Far n adj s d t × (r ≡ capped (ways n adj s d t)))
    ⊎ (((d : ℕ) → ways n adj s d t ≡ 0) × (r ≡ 0))
