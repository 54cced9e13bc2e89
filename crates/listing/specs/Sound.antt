-- A listing that `print` may be handed: with rings to come, its search stands as demand 3 speaks of it.
use Rattle.std.specs.Prelude.{◌≡◌, true, List}
use Rattle.molecule.specs.declared.Molecule.{Molecule}
use Rattle.molecule.specs.Record.{well_formed}
use Rattle.search.specs.declared.Search.{Search}
use Rattle.history.specs.Calls.{Call, start, standing, History}
use Rattle.listing.specs.declared.Listing.{Listing}
use Rattle.listing.specs.declared.Listing.TheVariants.{Refused, Rings, Counts}

-- q stands after some list of calls on the record m that began with the fresh ring search: what demand 3 speaks of
pub record Stands (m : Molecule) (q : Search) : Type 0 where
  pub good : well_formed m ≡ true
  pub calls : List Call
  pub history : History m (start 0 0 0) calls
  pub search_is : q ≡ (standing (start 0 0 0) calls).search

abbrev pub Sound : Listing → Type 0
Sound (Refused r) = Unit {0}
Sound (Rings m q) = Stands m q
Sound (Counts q) = Unit {0}
