-- A search over its numbers and its array.
-- Both copies fill their buffers.
use Rattle.flat.specs.Searches.{numbers_of}
use Rattle.flat.proofs.pack.Goals as goal

pub returns : goal.returns
unfolding numbers_of
returns c = record { words_are = c.copy_from_slice.ensures.after; array_is = c.copy_from_slice-2.ensures.after }
