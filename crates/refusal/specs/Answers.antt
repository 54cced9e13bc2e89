-- What an entry does with an answer that it is handed.
use Rattle.std.specs.Prelude.{Err, Ok, Result}
use Rattle.refusal.specs.declared.Refusal.{Refusal}

-- Rules tried one after the other: the first refusal is the answer, and what a rule accepts goes on to the next
infixl 10 ◌>>=◌
abbrev pub ◌>>=◌ : {A B : Type 0} → Result A Refusal → (A → Result B Refusal) → Result B Refusal
(Ok x) >>= f = f x
(Err r) >>= f = Err r

-- What a refusal makes of a call, or what it goes on with
abbrev pub unless_refused : {A B : Type 0} → Result A Refusal → (Refusal → B) → (A → B) → B
unless_refused (Ok x) refuse goes = goes x
unless_refused (Err r) refuse goes = refuse r
