-- `bond_writer::put_feed` meets its contract: a byte that is set is a text of one byte.
use Rattle.bond_writer.proofs.Splices.{splice-byte}
use Rattle.bond_writer.proofs.put_feed.Goals as goal

pub returns : goal.returns
returns c = splice-byte c.args.out.now c.args.at 10 c.requires
