-- `mark_reader::placed_search` meets its contract: each answer is the definition's by the rules that led to it.
-- The search is built from the stored atoms, which rule 17 does not tell from the atoms of the mark.
use mathlib.Core.Path.{◌∙◌, sym}
use Rattle.mark_reader.proofs.Answers.{ReadFrom, built_of, read_short, read-full}
use Rattle.mark_reader.proofs.Answers.{refuses-kind, refuses-place, accepts}
use Rattle.mark_reader.proofs.placed_search.Lts as lts
use Rattle.mark_reader.proofs.placed_search.Reads as reads
use Rattle.mark_reader.proofs.placed_search.Tie as tie
use Rattle.mark_reader.proofs.placed_search.Goals as goal

-- what is known at a place of the function
abbrev Place : (lts.Claims → lts.Pre-type → lts.Post-type → Type 0) → Type 0
Place place = place tie.the-claims reads.Pre reads.Post

-- ---- the place where the search is read, and what is known there

read :
    (c : Place lts.After-search_of) →
    let args = c.args in
    ReadFrom args.m args.bytes.now c.search_of-q.result
read c =
    record {
      placeable = c.requires;
      read = built_of _ c.search_of-q.ensures c.atoms_of.ensures c.small_at.ensures;
    }

pub returns-then-not-kind_kept : goal.returns-then-not-kind_kept
returns-then-not-kind_kept c =
    refuses-kind (read (search)) c.kind_kept.ensures c.if-not-kind_kept.true

pub place_kept-requires : goal.place_kept-requires
place_kept-requires c =
    let kind = sym c.kind_kept.ensures ∙ c.if-not-kind_kept.false in
    (c.requires.formed, kind, read_short (read (search)), read-full (read (search)))

pub returns-then-not-place_kept : goal.returns-then-not-place_kept
returns-then-not-place_kept c =
    refuses-place (read (search)) c.kind_kept.ensures c.if-not-kind_kept.false
    c.place_kept.ensures c.if-not-place_kept.true

pub returns : goal.returns
returns c =
    accepts (read (search)) c.kind_kept.ensures c.if-not-kind_kept.false
    c.place_kept.ensures c.if-not-place_kept.false
