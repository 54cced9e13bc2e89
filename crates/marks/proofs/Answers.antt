-- The refusals of a save and of a restore by the rules that come first: 9, then 12 for a save.
-- The definitions go by `cond`, so each answer follows by rewriting the rules.
use Rattle.std.specs.Prelude.{Err}
use Prim.Native.Nat.{ℕ}
use mathlib.Core.Path.{◌≡◌, sym}
use mathlib.Core.Bool.{true, false}
use mathlib.Core.List.{List}
use Rattle.refusal.specs.declared.Refusal.TheVariants as refusal
use Rattle.molecule.specs.declared.Molecule.{Molecule}
use Rattle.molecule.specs.Record.{well_formed}
use Rattle.search.specs.declared.Search.{Search}
use Rattle.search.specs.Place.{restorable}
use Rattle.search.specs.Mark.{save_answer, save_output, restore_by, restore_mark}
use Rattle.search.proofs.MarkLaws.{save-record, save-search, save-refused}

module _ (mol : Molecule) (bytes : List ℕ) where
  pub restore-record : well_formed mol ≡ false → Err refusal.Record ≡ restore_mark mol bytes
  unfolding restore_mark restore_by
  restore-record e = rw e

module _ (mol : Molecule) (q : Search) (out : List ℕ) where
  pub saved-record :
      well_formed mol ≡ false → (Err refusal.Record ≡ save_answer mol q out) × (out ≡ save_output mol q out)
  saved-record e = let a = save-record mol q out e in (sym a, sym (save-refused mol q out refusal.Record a))

  module _ (formed : well_formed mol ≡ true) where
    pub saved-search :
        restorable mol q ≡ false → (Err refusal.Search ≡ save_answer mol q out) × (out ≡ save_output mol q out)
    saved-search e = let a = save-search mol q out formed e in (sym a, sym (save-refused mol q out refusal.Search a))
