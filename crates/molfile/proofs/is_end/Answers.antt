-- Whether the bytes between two places are exactly M  END.
-- The test of two texts is the definition's, of their bytes.
use mathlib.Core.Path.{◌∙◌}
use Rattle.molfile.specs.Molfile.{is_end, end_word}
use Rattle.molfile.specs.Parts.{between}
use Rattle.molfile.proofs.Words.{word-is}
use Rattle.molfile.proofs.is_end.Goals as goal

pub returns : goal.returns
unfolding is_end
returns c =
    rw c.as_slice.ensures at c.eq.ensures ∙ word-is end_word (between c.args.s.now c.args.from c.args.end)
