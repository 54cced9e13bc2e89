-- `bond_writer::put_field` meets its contract: the field fills the part of the list that is lent for it.
use Rattle.bond_writer.proofs.Splices.{splice-field}
use Rattle.bond_writer.proofs.put_field.Goals as goal

pub returns : goal.returns
returns c =
    splice-field _ _ _ _ c.requires c.write_number.ensures
