-- What the test-only boundary returns and writes of searches. A search is ten numbers (kind, s, t, length of p, next
-- atom, trials, extensions, listed, used, made) and the 128 bytes of its array; used and made are results only.
use Rattle.std.specs.Prelude.{ℕ, ◌≡◌, Bool, ◌&&◌, cond, List, [], ◌∷◌, length, get_or, eqb, Err, Ok, Result}
use Rattle.refusal.specs.declared.Refusal.{Refusal}
use Rattle.refusal.specs.Number.{number_of}
use Rattle.molecule.specs.declared.Molecule.{Molecule}
use Rattle.search.specs.declared.Search.{Search}
use Rattle.search.specs.declared.Ran.{Ran}
use Rattle.search.specs.Entries.{run_search, run_output, ended, ended_number}
use Rattle.search.specs.Mark.{save_answer, save_output}
use Rattle.flat.specs.Codes.{wrong_length, answer_code, if_accepted, molecule}

-- the rows, the numbers and the array have their lengths
unfoldable pub sizes_kept : List ℕ → List ℕ → List ℕ → Bool
sizes_kept rows numbers prefix = eqb (length rows) 2048 && eqb (length numbers) 10 && eqb (length prefix) 128

-- the answer says whether they have
pub record SizesTold (rows numbers prefix : List ℕ) (answer : Bool) : Type 0 where
  pub told : answer ≡ sizes_kept rows numbers prefix

-- the numbers and the array of a search have their lengths
pub record SearchSize (numbers prefix : List ℕ) : Type 0 where
  pub words : length numbers ≡ 10
  pub array : length prefix ≡ 128

-- the search that numbers and an array name
unfoldable pub search_from : List ℕ → List ℕ → Search
search_from numbers prefix =
    record {
      kind = get_or numbers 0 0;
      s = get_or numbers 1 0;
      t = get_or numbers 2 0;
      len = get_or numbers 3 0;
      prefix = prefix;
      next = get_or numbers 4 0;
      trials = get_or numbers 5 0;
      extensions = get_or numbers 6 0;
      listed = get_or numbers 7 0;
    }

-- the numbers of a search, of which a run used so many bytes and made so many trials
unfoldable pub numbers_of : Search → ℕ → ℕ → List ℕ
numbers_of q used made =
    q.kind ∷ q.s ∷ q.t ∷ q.len ∷ q.next ∷ q.trials ∷ q.extensions ∷ q.listed ∷ used ∷ made ∷ []

-- a search, used and made stand in the numbers and the array
pub record Packed (q : Search) (used made : ℕ) (numbers prefix : List ℕ) : Type 0 where
  pub words_are : numbers ≡ numbers_of q used made
  pub array_is : prefix ≡ q.prefix

-- an answer where the buffers have their lengths, and another where one of them has not
unfoldable pub sized : {A : Type 0} → List ℕ → List ℕ → List ℕ → A → A → A
sized rows numbers prefix answer other = cond (sizes_kept rows numbers prefix) answer other

-- A made search is written over the buffers where it was accepted
unfoldable pub made_numbers : Result Search Refusal → List ℕ → List ℕ
made_numbers made numbers = if_accepted made (λ q. numbers_of q 0 0) numbers

unfoldable pub made_prefix : Result Search Refusal → List ℕ → List ℕ
made_prefix made prefix = if_accepted made (λ (q : Search). q.prefix) prefix

-- the code of a made search, and the numbers and the array after it
pub record MadeStored
    (made : Result Search Refusal) (numbers prefix : List ℕ) (code : ℕ) (numbers' prefix' : List ℕ) : Type 0 where
  pub code_is : code ≡ answer_code made
  pub numbers_are : numbers' ≡ made_numbers made numbers
  pub prefix_is : prefix' ≡ made_prefix made prefix

-- the same of an entry on the buffers rows, numbers and prefix: where one has not its length, nothing changes
pub record MadeLeft
    (rows numbers prefix : List ℕ) (made : Result Search Refusal)
    (code : ℕ) (numbers' prefix' : List ℕ) : Type 0 where
  pub code_is : code ≡ sized rows numbers prefix (answer_code made) wrong_length
  pub numbers_are : numbers' ≡ sized rows numbers prefix (made_numbers made numbers) numbers
  pub prefix_is : prefix' ≡ sized rows numbers prefix (made_prefix made prefix) prefix

-- A run's search, used and made are written over the buffers where it stopped; nothing changes otherwise
abbrev pub ran_numbers : Result Ran Refusal → List ℕ → List ℕ
ran_numbers (Ok ran) numbers = numbers_of ran.search ran.used ran.made
ran_numbers (Err r) numbers = numbers

abbrev pub ran_prefix : Result Ran Refusal → List ℕ → List ℕ
ran_prefix (Ok ran) prefix = ran.search.prefix
ran_prefix (Err r) prefix = prefix

-- the code of a run, and the numbers and the array after it
pub record RanStored
    (ran : Result Ran Refusal) (numbers prefix : List ℕ) (code : ℕ) (numbers' prefix' : List ℕ) : Type 0 where
  pub code_is : code ≡ ended_number (ended ran)
  pub numbers_are : numbers' ≡ ran_numbers ran numbers
  pub prefix_is : prefix' ≡ ran_prefix ran prefix

abbrev pub saved_code : Result ℕ Refusal → ℕ
saved_code (Ok size) = size
saved_code (Err r) = number_of r

-- What a run and a save leave: the arguments of the entry, its code, and the buffers after it
module _ (atoms bonds : ℕ) (rows numbers prefix : List ℕ) where
  abbrev mol : Molecule
  mol = molecule atoms bonds rows

  abbrev q : Search
  q = search_from numbers prefix

  pub record RunLeft (budget : ℕ) (out : List ℕ) (code : ℕ) (numbers' prefix' out' : List ℕ) : Type 0 where
    pub code_is : code ≡ sized rows numbers prefix (ended_number (ended (run_search mol q budget out))) wrong_length
    pub numbers_are : numbers' ≡ sized rows numbers prefix (ran_numbers (run_search mol q budget out) numbers) numbers
    pub prefix_is : prefix' ≡ sized rows numbers prefix (ran_prefix (run_search mol q budget out) prefix) prefix
    pub out_is : out' ≡ sized rows numbers prefix (run_output mol q budget out) out

  pub record SaveLeft (mark : List ℕ) (code : ℕ) (mark' : List ℕ) : Type 0 where
    pub code_is : code ≡ sized rows numbers prefix (saved_code (save_answer mol q mark)) wrong_length
    pub mark_is : mark' ≡ sized rows numbers prefix (save_output mol q mark) mark
