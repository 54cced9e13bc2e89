-- `mark_reader::restore_in` meets its contract.
-- By the form: in each it is the restore of that form.
use Rattle.mark_reader.proofs.restore_in.Goals as goal

pub returns-in-Old : goal.returns-in-Old
returns-in-Old c = rw c.in-Old.is c.restore_old.ensures

pub returns-in-New : goal.returns-in-New
returns-in-New c = rw c.in-New.is c.restore_checked.ensures
