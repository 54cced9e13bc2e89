-- `bond_writer::put_bond` meets its contract: two fields and a line feed, each put where the one before it ends.
use Rattle.bond_writer.proofs.BondSplices.{line-put}
use Rattle.bond_writer.proofs.put_bond.Goals as goal

pub returns : goal.returns
returns c =
    line-put _ c.args.at c.args.a c.args.b c.requires c.put_field.ensures
    c.put_field-2.ensures c.put_feed.ensures
