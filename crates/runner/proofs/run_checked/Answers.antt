-- `runner::run_checked` meets its contract: the run over the table of the search is the run of the molecule's family.
-- What rules 9 and 12 tell of the molecule and the search makes the search ready for the run over the table.
use borrow.Author.Rules.{rules}
use Rattle.search.proofs.Readings.{restorable-facts}
use Rattle.openness.proofs.Molecules.{plain_of, measured-of, near_of}
use Rattle.runner.proofs.Answers.{ready, answers-run}
use Rattle.runner.proofs.run_checked.Goals as goal

-- ---- of shortest paths, over the bonds that lead nearer to t

pub nearing-near-requires : goal.nearing-near-requires
nearing-near-requires c =
    let (formed, kept) = c.requires in
    let (to-s, to-t) = measured-of _ _ _ _ formed c.if-q-eq3.true c.words_of-words.ensures _
    (restorable-facts _ _ kept).kind-kept in
    search

pub run_over-requires : goal.run_over-requires
run_over-requires c =
    let (formed, kept) = c.requires in
    let near = near_of _ _ _ _ formed c.if-q-eq3.true c.words_of-words.ensures _ c.nearing-near.ensures in
    ready _ _ _ formed kept near (search rules)

pub returns-then-q-eq3 : goal.returns-then-q-eq3
returns-then-q-eq3 c =
    let (formed, kept) = c.requires in
    let near = near_of _ _ _ _ formed c.if-q-eq3.true c.words_of-words.ensures _ c.nearing-near.ensures in
    answers-run _ _ _ formed kept near _ c.run_over.ensures

-- ---- over every bond

pub run_over-requires-2 : goal.run_over-requires-2
run_over-requires-2 c =
    let (formed, kept) = c.requires in
    ready _ _ _ formed kept (plain_of _ _ _ _ c.if-q-eq3.false c.words_of-words.ensures) (search rules)

pub returns : goal.returns
returns c =
    let (formed, kept) = c.requires in
    answers-run _ _ _ formed kept (plain_of _ _ _ _ c.if-q-eq3.false c.words_of-words.ensures) _ c.run_over-2.ensures
