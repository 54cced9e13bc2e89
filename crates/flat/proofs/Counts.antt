-- What the count of shortest paths on flat buffers returns and writes.
-- By the length of the rows, and then by the answer of the count.
use Rattle.std.specs.Prelude.{Result}
use Prim.Native.Nat.{ℕ}
use mathlib.Core.Path.{◌≡◌, ap, ◌∙◌}
use mathlib.Core.List.{List}
use lib.ListN.{length}
use borrow.Author.Tests.{eq-eqb, ne_eqb}
use Rattle.refusal.specs.declared.Refusal.{Refusal}
use Rattle.molecule.specs.declared.Molecule.{Molecule}
use Rattle.counter.specs.Count.{count_shortest}
use Rattle.flat.specs.Codes.{wrong_length, molecule, answer_code, if_counted, count_code, count_output}

module _ (atoms bonds : ℕ) (rows : List ℕ) (s t old : ℕ) where
  abbrev Left : ℕ → ℕ → Type 0
  Left code new = (code ≡ count_code atoms bonds rows s t) × (new ≡ count_output atoms bonds rows s t old)

  pub count-wrong-length : (length rows ≡ 2048 → ⊥) → Left wrong_length old
  unfolding count_code count_output
  count-wrong-length wrong = (rw (ne_eqb (length rows) 2048 wrong), rw (ne_eqb (length rows) 2048 wrong))

  -- the code counted on the record m
  pub count-answered :
      length rows ≡ 2048 → {m : Molecule} → m ≡ molecule atoms bonds rows →
      {x : Result ℕ Refusal} → x ≡ count_shortest m s t →
      {code new : ℕ} → (code ≡ answer_code x) × (new ≡ if_counted x old) → Left code new
  unfolding count_code count_output
  count-answered size same counted (is_code, is_new) =
      let answer = counted ∙ ap (λ (m : Molecule). count_shortest m s t) same in (
        rw (eq-eqb (length rows) 2048 size) (is_code ∙ ap answer_code answer),
        rw (eq-eqb (length rows) 2048 size) (is_new ∙ ap (λ x. if_counted x old) answer),
      )
