-- What the theory of a search asks of its family (document 01, "Rings, paths and the list").
use Rattle.std.specs.Prelude.{ℕ, ◌≤◌, ◌<◌, ◌≡◌, true, List, length, get_or}
use Rattle.enumeration.specs.Words.{Family, begins}

pub record Lawful (F : Family) : Type 0 where
  -- a member has 1 to n atoms
  pub non_empty : (w : List ℕ) → F.member w ≡ true → 1 ≤ length w
  pub short : (w : List ℕ) → F.member w ≡ true → length w ≤ F.atoms
  -- each of them from 1 to n
  pub in_range :
      (w : List ℕ) → F.member w ≡ true → (i : ℕ) → i < length w →
      (1 ≤ get_or w i 0) × (get_or w i 0 ≤ F.atoms)
  -- no member is a proper beginning of another
  pub prefix_free : (v w : List ℕ) → F.member v ≡ true → F.member w ≡ true → begins v w ≡ true → ⊥

-- no member has more than k atoms
abbrev pub AtMost : Family → ℕ → Type 0
AtMost F k = (w : List ℕ) → F.member w ≡ true → length w ≤ k
