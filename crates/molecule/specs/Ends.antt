-- The ends of a path (document 01, "Turned back by number", rules 10 and 11).
use Rattle.std.specs.Prelude.{ℕ, ◌&&◌, cond, eqb, Err, Ok, Result, ⊤}
use Rattle.refusal.specs.declared.Refusal.{Refusal}
use Rattle.refusal.specs.declared.Refusal.TheVariants.{PathEnd, SameEnds}
use Rattle.molecule.specs.Record.{is_atom}

-- Rules 10 and 11 of the ends s and t among n atoms, and what is done where both are kept
unfoldable pub with_ends : {A : Type 0} → ℕ → ℕ → ℕ → (Refusal → A) → A → A
with_ends n s t refuse goes =
    cond (is_atom n s && is_atom n t) (cond (eqb s t) (refuse SameEnds) goes) (refuse PathEnd)

-- The answer of these two rules alone
abbrev pub ends_answer : ℕ → ℕ → ℕ → Result ⊤ Refusal
ends_answer n s t = with_ends n s t Err (Ok _)
