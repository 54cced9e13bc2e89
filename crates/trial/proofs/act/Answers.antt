-- `trial::act` meets its contract, by the kinds of trial: it extends the beginning, or lists the word, or only raises
-- the next atom.
use Rattle.trial.proofs.Arrays.{acted-extends, acted-unwinds}
use Rattle.trial.proofs.act.Goals as goal

pub returns-then-not-member : goal.returns-then-not-member
returns-then-not-member c =
    let (standing, counting) = c.requires in
    rw (c.if-not-member.true, c.if-extends.true) (acted-extends standing counting)

pub returns : goal.returns
returns c = acted-unwinds c.args.member c.args.extends c.else-extends.either c.from.ensures c.unwind-len.ensures
