-- What an entry returns and leaves that writes bytes and puts their number through a pointer (include/ringlist.h).
use Rattle.std.specs.Prelude.{ℕ, List, Err, Ok, Result}
use Rattle.refusal.specs.Number.{number_of}
use Rattle.refusal.specs.declared.Refusal.{Refusal}

-- The number that it returns, and its two outputs after it: the bytes, and how many were written
pub record WrittenOut : Type 0 where
  pub number : ℕ
  pub bytes : List ℕ
  pub length : ℕ

-- The number: 0 where bytes were written, else that of the refusal
abbrev pub saved_number : Result ℕ Refusal → ℕ
saved_number (Ok k) = 0
saved_number (Err r) = number_of r

-- How many were written; a refusal leaves the number that was there
abbrev pub saved_length : Result ℕ Refusal → ℕ → ℕ
saved_length (Ok k) before = k
saved_length (Err r) before = before

-- An answer with the bytes that it leaves, and the number that was there before
abbrev pub written_out : Result ℕ Refusal → List ℕ → ℕ → WrittenOut
written_out saved bytes before =
    record { number = saved_number saved; bytes = bytes; length = saved_length saved before }
