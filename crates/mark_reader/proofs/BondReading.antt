-- Bond lines read one after another: what is still to be read decides as all of them do.
-- The definitions go by the first line and then the rest, so each turn of the loop takes one line off them.
use Prim.Native.Nat.{ℕ, suc, ◌+◌, ◌-◌, ◌*◌, ◌≤◌, ◌<◌}
use native.Mathlib.Nat.{add-zero, sub-zero}
use native.Mathlib.Omega.{arith}
use mathlib.Core.Path.{◌≡◌, refl, sym, ◌∙◌}
use mathlib.Core.Bool.{Bool, true, false, ◌&&◌, ◌||◌, and-true, and_assoc}
use mathlib.Core.List.{List}
use Rattle.std.specs.Prelude.{Some, None, cond, ⊤}
use Rattle.std.proofs.Common.{Less, Equal, Greater}
use Rattle.std.specs.Ordering.{partial_lt, partial_ordering_then}
use Rattle.molecule.specs.Record.{bonded}
use Rattle.molecule.specs.BondList.{Bond, ascending}
use Rattle.molecule.specs.Parts.{each_bonded}
use Rattle.search.specs.Mark.{value_at, field_kept, fields_kept, is_feed, bond_lines_kept, bonds_at}
use Rattle.mark_reader.specs.Bonds.{line_at, followed, lines_after, bonds_read}

-- ---- one bond after another

-- the order of pairs, where p and q tell of the first parts whether one is lower and whether they are equal, r and s of
-- the second
pub dictionary :
    (p q r s : Bool) →
    let first = Some (cond p Less (cond q Equal Greater)) in
    let second = Some (cond r Less (cond s Equal Greater)) in
    partial_lt (λ (x y : ⊤). partial_ordering_then first second) tt tt ≡ (p || q && r)
dictionary true q r s = refl
dictionary false true true s = refl
dictionary false true false true = refl
dictionary false true false false = refl
dictionary false false r s = refl

-- ---- the lines from a place on

pub two-kept :
    (bytes : List ℕ) (at : ℕ) → fields_kept 4 bytes at 2 ≡ (field_kept 4 bytes at && field_kept 4 bytes (at + 4))
unfolding fields_kept
two-kept bytes at = rw (add-zero at)

-- what an optional value tells of the test that decides whether it is there
pub none-where : {A : Type 0} (t : Bool) (v : A) → cond t (Some v) None ≡ None → t ≡ false
none-where true v e = absurd cc
none-where false v e = refl

pub some-where : {A : Type 0} (t : Bool) {v y : A} → cond t (Some v) None ≡ Some y → (t ≡ true) × (y ≡ v)
some-where true e = (refl, cc)
some-where false e = absurd cc

swap : (p q r : Bool) → (p && (q && r)) ≡ (q && (p && r))
swap true q r = refl
swap false true r = refl
swap false false r = refl

-- the first of k + 1 lines, after the bond x
module _ (x : Bond) (bytes : List ℕ) (at k : ℕ) where
  -- it is not right
  pub line-bad : line_at bytes at ≡ None → lines_after x bytes at (suc k) ≡ false
  unfolding line_at lines_after bond_lines_kept
  line-bad e = rw (none-where (fields_kept 4 bytes at 2 && is_feed bytes (at + 8)) _ e)

  module _ (y : Bond) (is : line_at bytes at ≡ Some y) where
    told_of :
        ((fields_kept 4 bytes at 2 && is_feed bytes (at + 8)) ≡ true) ×
        (y ≡ (value_at 4 bytes at, value_at 4 bytes (at + 4)))
    unfolding line_at
    told_of = some-where (fields_kept 4 bytes at 2 && is_feed bytes (at + 8)) is

    -- it is right, and then its order decides with the lines that follow
    pub line-on :
        lines_after x bytes at (suc k) ≡ (followed x y && lines_after y bytes (at + 9) k)
    unfolding lines_after bond_lines_kept bonds_at ascending followed
    line-on =
        rw (told_of.1, told_of.0)
        (swap (bond_lines_kept bytes (at + 9) k) (followed x (value_at 4 bytes at, value_at 4 bytes (at + 4))) _)

    pub line-bonded :
        (n : ℕ) (rows : List ℕ) →
        each_bonded n rows (bonds_at bytes at (suc k)) ≡
        (bonded n rows y.0 y.1 && each_bonded n rows (bonds_at bytes (at + 9) k))
    unfolding bonds_at each_bonded
    line-bonded n rows = rw told_of.1

-- i of k bond lines are read, which begin at a place; the last of them has the bond `above`, and `own` says that their
-- bonds are the record's
pub record Reading (n : ℕ) (rows bytes : List ℕ) (from k : ℕ) (above : Bond) (own : Bool) (i : ℕ) : Type 0 where
  pub order : lines_after above bytes (from + 9 * i) (k - i) ≡ lines_after (0, 0) bytes from k
  pub bonds :
      (own && each_bonded n rows (bonds_at bytes (from + 9 * i) (k - i))) ≡ each_bonded n rows (bonds_at bytes from k)

pub reading-none : (n : ℕ) (rows bytes : List ℕ) (from k : ℕ) → Reading n rows bytes from k (0, 0) true 0
reading-none n rows bytes from k = record { order = rw (add-zero, sub-zero); bonds = rw (add-zero, sub-zero) }

module _ {n : ℕ} {rows bytes : List ℕ} {from k : ℕ} {above : Bond} {own : Bool} {i : ℕ}
    (f : Reading n rows bytes from k above own i) where
  -- no line is left
  module _ (all : k ≤ i) where
    no_more : k - i ≡ 0
    no_more = omega arith

    all-order : lines_after (0, 0) bytes from k ≡ true
    unfolding lines_after bond_lines_kept bonds_at ascending
    all-order = sym (rw no_more at f.order)

    all-bonds : each_bonded n rows (bonds_at bytes from k) ≡ own
    unfolding bonds_at each_bonded
    all-bonds = sym (rw no_more at f.bonds) ∙ and-true own

    pub reading-all : Some own ≡ bonds_read n rows bytes from k
    unfolding bonds_read
    reading-all = rw (all-order, all-bonds)

  module _ (more : i < k) where
    -- one line, and the others
    one_more : k - i ≡ suc (k - (i + 1))
    one_more = omega arith

    place : from + 9 * i + 9 ≡ from + 9 * (i + 1)
    place = omega arith

    first-order : lines_after above bytes (from + 9 * i) (suc (k - (i + 1))) ≡ lines_after (0, 0) bytes from k
    first-order = rw one_more at f.order

    first-bonds :
        (own && each_bonded n rows (bonds_at bytes (from + 9 * i) (suc (k - (i + 1))))) ≡
        each_bonded n rows (bonds_at bytes from k)
    first-bonds = rw one_more at f.bonds

    refused : lines_after above bytes (from + 9 * i) (suc (k - (i + 1))) ≡ false → None ≡ bonds_read n rows bytes from k
    unfolding bonds_read
    refused e = rw (sym first-order ∙ e)

    pub reading-bad : line_at bytes (from + 9 * i) ≡ None → None ≡ bonds_read n rows bytes from k
    reading-bad e = refused (line-bad above bytes (from + 9 * i) (k - (i + 1)) e)

    module _ {y : Bond} (is : line_at bytes (from + 9 * i) ≡ Some y) where
      pub reading-early : followed above y ≡ false → None ≡ bonds_read n rows bytes from k
      reading-early e = refused (line-on above bytes (from + 9 * i) (k - (i + 1)) y is ∙ rw e)

      pub reading-more :
          {own' : Bool} → followed above y ≡ true → own' ≡ (own && bonded n rows y.0 y.1) →
          Reading n rows bytes from k y own' (i + 1)
      reading-more follows too =
          let on = line-on above bytes (from + 9 * i) (k - (i + 1)) y is in
          let bonded-on = line-bonded above bytes (from + 9 * i) (k - (i + 1)) y is n rows in
          record {
            order = rw (← place) (rw follows at (sym on ∙ first-order));
            bonds = rw (← place, too, and_assoc, ← bonded-on) first-bonds;
          }
