-- `atomset::contains` meets its contract: the bit of atom a in its word.
-- By `has-atom`.
use Rattle.atomset.proofs.Members.{has-atom}
use Rattle.atomset.proofs.contains.Goals as goal

pub returns : goal.returns
returns c = has-atom c.args.x c.args.a c.requires.0 c.requires.1
