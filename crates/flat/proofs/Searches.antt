-- The entries on searches: what they return and write, by the lengths of their buffers and the answer of the entry that
-- they call. The definitions go by the test of the lengths, and then by the cases of the answer.
use Rattle.std.specs.Prelude.{Ok, Result}
use Prim.Native.Nat.{ℕ, ◌≤◌}
use native.Mathlib.Omega.{arith}
use mathlib.Core.Path.{◌≡◌, sym, ap, ◌∙◌}
use mathlib.Core.Bool.{Bool, true, false, ◌&&◌}
use mathlib.Core.List.{List}
use lib.ListN.{length}
use lib.Dec.{eqb}
use borrow.Author.Tests.{eqb-true}
use Rattle.graph.proofs.Below.{and_parts}
use Rattle.refusal.specs.declared.Refusal.{Refusal}
use Rattle.molecule.specs.declared.Molecule.{Molecule}
use Rattle.search.specs.declared.Search.{Search}
use Rattle.search.specs.declared.Ran.{Ran}
use Rattle.search.specs.declared.Form.TheVariants.{New}
use Rattle.search.specs.Entries.{run_search, run_output, ended, ended_number}
use Rattle.search.specs.Mark.{save_answer, save_output}
use Rattle.search.proofs.MarkLaws.{save-written}
use Rattle.search.proofs.FormLaws.{form-most}
use Rattle.flat.specs.Codes.{wrong_length, answer_code, molecule}
use Rattle.flat.specs.Searches.{sizes_kept, SizesTold, SearchSize, search_from, sized, saved_code}
use Rattle.flat.specs.Searches.{made_numbers, made_prefix, MadeStored, MadeLeft}
use Rattle.flat.specs.Searches.{ran_numbers, ran_prefix, RanStored, RunLeft, SaveLeft}

-- ---- the lengths of the buffers, by their test

module _ {rows numbers prefix : List ℕ} where
  -- one of them has not its length
  module _ (short : SizesTold rows numbers prefix false) {A : Type 0} (new other : A) where
    sized-not : other ≡ sized rows numbers prefix new other
    unfolding sized
    sized-not = rw (← short.told)

  -- all have
  module _ (kept : SizesTold rows numbers prefix true) where
    sized-is : {A : Type 0} {x new : A} → x ≡ new → (other : A) → x ≡ sized rows numbers prefix new other
    unfolding sized
    sized-is same other = rw (← kept.told) same

    abbrev rows-test : Bool
    rows-test = eqb (length rows) 2048

    abbrev numbers-test : Bool
    numbers-test = eqb (length numbers) 10

    abbrev prefix-test : Bool
    prefix-test = eqb (length prefix) 128

    tests : ((rows-test && numbers-test) ≡ true) × (prefix-test ≡ true)
    unfolding sizes_kept
    tests = and_parts (rows-test && numbers-test) prefix-test (sym kept.told)

    pub rows-size : length rows ≡ 2048
    rows-size = eqb-true (length rows) 2048 (and_parts rows-test numbers-test tests.0).0

    pub search-size : SearchSize numbers prefix
    search-size =
        record {
          words = eqb-true (length numbers) 10 (and_parts rows-test numbers-test tests.0).1;
          array = eqb-true (length prefix) 128 tests.1;
        }

-- ---- an entry that makes a search

module _ {rows numbers prefix : List ℕ} {made : Result Search Refusal} where
  pub made-unsized :
      SizesTold rows numbers prefix false → MadeLeft rows numbers prefix made wrong_length numbers prefix
  made-unsized short =
      record {
        code_is = sized-not short (answer_code made) wrong_length;
        numbers_are = sized-not short (made_numbers made numbers) numbers;
        prefix_is = sized-not short (made_prefix made prefix) prefix;
      }

  -- the code stored what was made
  pub made-stored :
      SizesTold rows numbers prefix true → {m : Result Search Refusal} → m ≡ made →
      {code : ℕ} {words bytes : List ℕ} →
      MadeStored m numbers prefix code words bytes → MadeLeft rows numbers prefix made code words bytes
  made-stored kept same stored =
      let here = rw same at stored in
      record {
        code_is = sized-is kept here.code_is wrong_length;
        numbers_are = sized-is kept here.numbers_are numbers;
        prefix_is = sized-is kept here.prefix_is prefix;
      }

-- ---- a run

module _ {rows numbers prefix : List ℕ} {atoms bonds budget : ℕ} {out : List ℕ} where
  pub run-unsized :
      SizesTold rows numbers prefix false →
      RunLeft atoms bonds rows numbers prefix budget out wrong_length numbers prefix out
  run-unsized short =
      let mol = molecule atoms bonds rows in
      let q = search_from numbers prefix in
      let ran = run_search mol q budget out in
      record {
        code_is = sized-not short (ended_number (ended ran)) wrong_length;
        numbers_are = sized-not short (ran_numbers ran numbers) numbers;
        prefix_is = sized-not short (ran_prefix ran prefix) prefix;
        out_is = sized-not short (run_output mol q budget out) out;
      }

  -- the code ran the search x on the molecule m, and stored what came of it
  pub run-stored :
      SizesTold rows numbers prefix true → {m : Molecule} → m ≡ molecule atoms bonds rows →
      {x : Search} → x ≡ search_from numbers prefix →
      {ran : Result Ran Refusal} {output : List ℕ} →
      (ran ≡ run_search m x budget out) × (output ≡ run_output m x budget out) →
      {code : ℕ} {words bytes : List ℕ} → RanStored ran numbers prefix code words bytes →
      RunLeft atoms bonds rows numbers prefix budget out code words bytes output
  run-stored kept same-mol same-q run stored =
      let here = rw (rw (same-mol, same-q) at run.0) at stored in
      record {
        code_is = sized-is kept here.code_is wrong_length;
        numbers_are = sized-is kept here.numbers_are numbers;
        prefix_is = sized-is kept here.prefix_is prefix;
        out_is = sized-is kept (rw (same-mol, same-q) at run.1) out;
      }

-- ---- a save

module _ {rows numbers prefix : List ℕ} {atoms bonds : ℕ} {mark : List ℕ} where
  pub save-unsized :
      SizesTold rows numbers prefix false → SaveLeft atoms bonds rows numbers prefix mark wrong_length mark
  save-unsized short =
      let mol = molecule atoms bonds rows in
      let q = search_from numbers prefix in
      record {
        code_is = sized-not short (saved_code (save_answer mol q mark)) wrong_length;
        mark_is = sized-not short (save_output mol q mark) mark;
      }

  -- the code saved the search x on the molecule m
  pub save-stored :
      SizesTold rows numbers prefix true → {m : Molecule} → m ≡ molecule atoms bonds rows →
      {x : Search} → x ≡ search_from numbers prefix →
      {saved : Result ℕ Refusal} {output : List ℕ} →
      (saved ≡ save_answer m x mark) × (output ≡ save_output m x mark) →
      {code : ℕ} → code ≡ saved_code saved →
      SaveLeft atoms bonds rows numbers prefix mark code output
  save-stored kept same-mol same-q save is =
      record {
        code_is = sized-is kept (is ∙ ap saved_code (rw (same-mol, same-q) at save.0)) wrong_length;
        mark_is = sized-is kept (rw (same-mol, same-q) at save.1) mark;
      }

-- a mark has at most 91 + 4 × 127 + 9 × 1,024 bytes
pub mark-small : (mol : Molecule) (q : Search) (out : List ℕ) (k : ℕ) → save_answer mol q out ≡ Ok k → k ≤ 9815
mark-small mol q out k e =
    let wrote = save-written mol q out k e in
    omega (arith, wrote.size, form-most New mol q wrote.formed wrote.kept)
