-- `atomset::word_at` meets its contract: the bits of the eight bytes, one byte above the other.
-- By `eight-bytes`.
use Rattle.atomset.proofs.Table.{eight-bytes}
use Rattle.atomset.proofs.word_at.Goals as goal

pub returns : goal.returns
returns c = eight-bytes c.args.rows.now c.args.at c.fits-rows c.from_le_bytes.ensures
