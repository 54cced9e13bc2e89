-- One line of a sheet, by what its fields and its end are, and the loop that stores their numbers.
-- The definitions go by tests, so each case follows by rewriting them.
use Rattle.std.specs.Prelude.{Some, None}
use Prim.Native.Nat.{ℕ, min, ◌+◌, ◌*◌, ◌/◌, ◌^◌, ◌<◌}
use native.Mathlib.Nat.{eq-or-lt_of_le}
use native.Mathlib.Omega.{arith}
use mathlib.Core.Path.{◌≡◌, refl, ap, sym, ◌∙◌}
use mathlib.Core.Bool.{Bool, true, false, cond}
use mathlib.Core.List.{List}
use mathlib.Core.Logic.{⊎_elim}
use lib.ListN.{length, get_or, set, length-set}
use lib.Seq.{get_or-set_same, get_or-set_other}
use borrow.Author.Tests.{eq-eqb, ne_eqb}
use Rattle.graph.specs.Every.{all_below}
use Rattle.graph.proofs.Loops.{all-fails, all_more}
use Rattle.fields.specs.declared.Number.{Number}
use Rattle.fields.specs.Field.{field_at}
use Rattle.fields.proofs.Laws.{value-fits}
use Rattle.bonds.specs.Bonds.{Bond}
use Rattle.sheet.specs.Read.{lines_kept, line_kept, line_of}
use Rattle.bonds.specs.Parts.{listed}
use Rattle.sheet.specs.Parts.{Decodes, numbers_at, Decodable, LinesRead}

-- ---- one line

module _ (s : List ℕ) (i : ℕ) where
  pub line-left-bad : field_at 4 s (9 * i) ≡ None → None ≡ numbers_at s i
  unfolding numbers_at line_kept
  line-left-bad e = rw e

  module _ {x : Number} (left : field_at 4 s (9 * i) ≡ Some x) where
    pub line-right-bad : field_at 4 s (9 * i + 4) ≡ None → None ≡ numbers_at s i
    unfolding numbers_at line_kept
    line-right-bad e = rw (left, e)

    module _ {y : Number} (right : field_at 4 s (9 * i + 4) ≡ Some y) where
      pub line-end-bad : (get_or s (9 * i + 8) 0 ≡ 10 → ⊥) → None ≡ numbers_at s i
      unfolding numbers_at line_kept
      line-end-bad e = rw (left, right, ne_eqb (get_or s (9 * i + 8) 0) 10 e)

      module _ (end : get_or s (9 * i + 8) 0 ≡ 10) where
        pub line-good : line_kept s i ≡ true
        unfolding line_kept
        line-good = rw (left, right, eq-eqb (get_or s (9 * i + 8) 0) 10 end)

        pub line_is : line_of s i ≡ (x.value, y.value)
        unfolding line_of
        line_is = rw (left, right)

        pub line-read : Some (x.value, y.value) ≡ numbers_at s i
        unfolding numbers_at
        line-read = rw (line-good, line_is)

  -- what the numbers of a line tell of it
  pub numbers-none : numbers_at s i ≡ None → line_kept s i ≡ false
  unfolding numbers_at
  numbers-none e = go (line_kept s i) e
    where
      go : (t : Bool) → cond t (Some (line_of s i)) None ≡ None → t ≡ false
      go false e = refl
      go true e = cc

  pub numbers-some : {x : Bond} → numbers_at s i ≡ Some x → (line_kept s i ≡ true) × (x ≡ line_of s i)
  unfolding numbers_at
  numbers-some {x} e = go (line_kept s i) e
    where
      go : (t : Bool) → cond t (Some (line_of s i)) None ≡ Some x → (t ≡ true) × (x ≡ line_of s i)
      go true e = (refl, cc)
      go false e = cc

-- the value of a field of 4 columns has at most 4 digits
pub field-small : (s : List ℕ) (at : ℕ) {x : Number} → field_at 4 s at ≡ Some x → x.value < 2 ^ 16
field-small s at e = let fits = rw e at (value-fits 4 s at) in omega arith

-- ---- the list of values, with the numbers x of line i put at place k of it

module _
    (values : List Bond) (line : ℕ → Bond) (i k : ℕ) (x : Bond) (room : k < length values) (slot : k ≡ min i 1025)
  where
    decodes-more : Decodes values line i → x ≡ line i → Decodes (set values k x) line (i + 1)
    decodes-more d new = record { at = here }
      where
        here : (j : ℕ) → j < i + 1 → j < 1025 → listed (set values k x) j ≡ line j
        here j h small =
            ⊎_elim
            (λ (e : j ≡ i). last e)
            (λ (l : j < i). get_or-set_other values k j x (0, 0) (omega arith) ∙ d.at j l small)
            (eq-or-lt_of_le (omega arith))
          where
            last : j ≡ i → listed (set values k x) j ≡ line j
            last e =
                let same : j ≡ k = omega arith in
                ap (listed (set values k x)) same
                ∙ get_or-set_same values k x (0, 0) room
                ∙ new
                ∙ ap line (sym e)

-- ---- the loop over the lines: those before i are kept, and their numbers are stored
-- `start` is the list of values before the first

pub record Decoding (s : List ℕ) (start values : List Bond) (i : ℕ) : Type 0 where
  pub kept : all_below i (line_kept s) ≡ true
  pub size : length values ≡ length start
  pub decodable : Decodable s start
  pub decodes : Decodes values (line_of s) i

pub decoding-none : {s : List ℕ} {start : List Bond} → Decodable s start → Decoding s start start 0
decoding-none decodable =
    record {
      kept = refl;
      size = refl;
      decodable = decodable;
      decodes = record { at = λ i h. absurd (omega arith) };
    }

module _ {s : List ℕ} {start values : List Bond} {i : ℕ} (now : Decoding s start values i) where
  module _ (more : i < length s / 9) where
    -- a line that is not kept
    pub decoding-bad : numbers_at s i ≡ None → lines_kept s ≡ false
    unfolding lines_kept
    decoding-bad none = all-fails (length s / 9) (line_kept s) i more (numbers-none s i none)

    -- one line more
    pub decoding-more :
        {x : Bond} {k : ℕ} → numbers_at s i ≡ Some x → k ≡ min i 1025 → Decoding s start (set values k x) (i + 1)
    decoding-more {x} {k} some place =
        let here : k < length values = omega (arith, now.decodable, now.size) in
        let line = numbers-some s i some in
        record {
          kept = all_more i (line_kept s) now.kept line.0;
          size = simp length-set now.size;
          decodable = now.decodable;
          decodes = decodes-more values (line_of s) i k x here place now.decodes line.1;
        }

  -- all of them
  pub decoding-all : i ≡ length s / 9 → LinesRead s values
  unfolding lines_kept
  decoding-all last = record { kept = rw last at now.kept; values_are = rw last at now.decodes }
