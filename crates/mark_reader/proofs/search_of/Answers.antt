-- `mark_reader::search_of` meets its contract: each field is read at its place.
use Rattle.mark_reader.specs.Parts.{search_of}
use Rattle.mark_reader.proofs.search_of.Goals as goal

pub returns : goal.returns
unfolding search_of
returns c = cc
