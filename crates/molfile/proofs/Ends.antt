-- Whether a line is exactly M  END, line by line.
-- The definition goes down the list of lines.
use Prim.Native.Nat.{ℕ}
use mathlib.Core.Path.{◌≡◌}
use mathlib.Core.Bool.{true, false}
use mathlib.Core.List.{List, []}
use Rattle.molfile.specs.Molfile.{is_end, has_end}
use Rattle.molfile.specs.Parts.{lines_from, between, LineFound}

pub no_end : (s : List ℕ) (at : ℕ) → lines_from s at ≡ [] → false ≡ has_end (lines_from s at)
unfolding has_end
no_end s at none = rw none

module _ {s : List ℕ} {at end next : ℕ} (found : LineFound s at end next) where
  pub end-here : is_end (between s at end) ≡ true → true ≡ has_end (lines_from s at)
  unfolding has_end
  end-here e = rw (found.first, e)

  pub end_later : is_end (between s at end) ≡ false → has_end (lines_from s next) ≡ has_end (lines_from s at)
  unfolding has_end
  end_later e = rw (found.first, e)
