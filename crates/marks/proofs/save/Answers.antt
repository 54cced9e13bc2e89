-- `marks::save` meets its contract: a refusal by the test that led to it, and the save past both tests.
-- What the tests told is said once, at the place past each.
use mathlib.Core.Path.{◌≡◌, sym, ◌∙◌}
use mathlib.Core.Bool.{true}
use borrow.Author.Rules.{rules}
use Rattle.molecule.specs.Record.{well_formed}
use Rattle.mark_writer.proofs.MarkSplices.{own-lines-none}
use Rattle.marks.proofs.Answers.{saved-record, saved-search}
use Rattle.marks.proofs.save.Lts as lts
use Rattle.marks.proofs.save.Reads as reads
use Rattle.marks.proofs.save.Tie as tie
use Rattle.marks.proofs.save.Goals as goal

-- what is known at a place of the function
abbrev Place : (lts.Claims → lts.Pre-type → lts.Post-type → Type 0) → Type 0
Place place = place tie.the-claims reads.Pre reads.Post

-- what is known past the first test
formed : (c : Place lts.Else1) → well_formed c.args.m ≡ true
formed c = sym c.well_formed-2.ensures ∙ c.if-not-well_formed.false

pub returns-then-not-well_formed : goal.returns-then-not-well_formed
returns-then-not-well_formed c =
    let malformed = sym c.well_formed-2.ensures ∙ c.if-not-well_formed.true in
    saved-record c.args.m c.args.q c.args.out.now malformed

pub check_search-requires : goal.check_search-requires
check_search-requires c = formed (search)

pub returns-then-not-check_search : goal.returns-then-not-check_search
returns-then-not-check_search c =
    let unkept = sym c.check_search.ensures ∙ c.if-not-check_search.true in
    saved-search c.args.m c.args.q c.args.out.now (formed (search)) unkept

pub save_checked-requires : goal.save_checked-requires
save_checked-requires c =
    let kept = sym c.check_search.ensures ∙ c.if-not-check_search.false in
    (formed (search), kept, own-lines-none _ _ (search rules))
