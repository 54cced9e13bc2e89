-- Fields in a row are read one by one: one that a mark does not accept decides, and past the others the last. The bytes
-- that three lines ask for fit their type.
use Prim.Native.Nat.{ℕ, ◌+◌, ◌*◌, ◌≤◌, ◌<◌}
use native.Mathlib.Nat.{mul-le-mul_right}
use native.Mathlib.Omega.{arith}
use mathlib.Core.Path.{◌≡◌, ap, sym, ◌∙◌}
use mathlib.Core.Bool.{Bool, true, false}
use mathlib.Core.List.{List}
use Rattle.std.specs.Prelude.{Option}
use Rattle.fields.specs.declared.Number.{Number}
use Rattle.fields.proofs.Laws.{value-fits}
use Rattle.graph.proofs.Loops.{all-fails, all_more}
use Rattle.search.specs.Mark.{blanks_only, field_kept, fields_kept, mark_bonds}

-- ---- fields in a row

module _ (columns : ℕ) (bytes : List ℕ) (at k i : ℕ) where
  abbrev is_field : ℕ → Bool
  is_field j = field_kept columns bytes (at + columns * j)

  -- one is none that a mark accepts
  pub passed-fails :
      i < k → field_kept columns bytes (at + columns * i) ≡ false → false ≡ fields_kept columns bytes at k
  unfolding fields_kept
  passed-fails h e = sym (all-fails k is_field i h e)

  -- one more is one
  pub passed-more :
      fields_kept columns bytes at i ≡ true → field_kept columns bytes (at + columns * i) ≡ true →
      fields_kept columns bytes at (i + 1) ≡ true
  unfolding fields_kept
  passed-more before e = all_more i is_field before e

-- the field at a place is looked at, and whether it is one that a mark accepts
pub told : {x y : Option Number} {r : Bool} → x ≡ y → r ≡ blanks_only x → blanks_only y ≡ r
told is says = sym (ap blanks_only is) ∙ sym says

-- ---- three lines

-- the bytes of m bonds are no more than 9 × 9,999
pub bonds-small :
    (each : ℕ) (bytes : List ℕ) {m : ℕ} → each ≤ 9 → m ≡ mark_bonds bytes → each * m ≤ 89991
bonds-small each bytes {m} few is =
    let fits = value-fits 4 bytes 16 in
    omega (arith, mul-le-mul_right m few)
