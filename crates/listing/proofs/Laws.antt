-- What the definition of the text amounts to: how its search ends, and its text then.
-- Instances of `Whole` for the rings of a molecule record.
use Rattle.std.specs.Prelude.{None, Option, Some}
use Prim.Native.Nat.{ℕ, suc, ◌*◌, ◌≤◌}
use native.Mathlib.Omega.{arith}
use mathlib.Core.Path.{◌≡◌, refl, ap, sym, subst}
use mathlib.Core.Logic.{◌⊎◌}
use mathlib.Core.Bool.{true}
use mathlib.Core.List.{List, ◌++◌}
use lib.ListN.{length}
use lib.Seq.{take_all}
use Rattle.enumeration.specs.declared.Stop.TheVariants.{Done, Limit}
use Rattle.enumeration.specs.Words.{members}
use Rattle.enumeration.specs.Lawful.{Lawful}
use Rattle.enumeration.specs.Run.{limit}
use Rattle.enumeration.specs.Listing.{open_words}
use Rattle.molecule.specs.declared.Molecule.{Molecule}
use Rattle.molecule.specs.Record.{well_formed}
use Rattle.search.proofs.Readings.{family-atoms, family-lawful}
use Rattle.molecule.proofs.Bonds.{rule9}
use Rattle.report.specs.Lines.{lines_of, count_line}
use Rattle.listing.specs.declared.Listing.{Listing}
use Rattle.listing.specs.Text.{rings_of, whole_run, listing_text}
use Rattle.listing.specs.Turns.{turned_text, text_of, Prints, ends, goes_on}
use Rattle.listing.proofs.Whole.{whole-ends, whole_listed, whole_extensions, whole-trials, whole-done}

-- a turn is the last one or has one listing after it
last-or-not : {x : Option Listing} {next : Listing} → x ≡ None → x ≡ Some next → ⊥
last-or-not e f = let z : ◌≡◌ {A = ℕ} 0 1 = cc in omega arith

pub one-next : {x : Option Listing} {a b : Listing} → x ≡ Some a → x ≡ Some b → a ≡ b
one-next e f = cc

module _ (m : Molecule) (good : well_formed m ≡ true) where
  lawful : Lawful (rings_of m)
  lawful = family-lawful m 0 0 0

  short : (rings_of m).atoms ≤ 128
  short = omega (arith, family-atoms m 0 0 0, (rule9 m good).atoms_high)

  -- The search of the definition ends done or limit, never spent or full
  pub ends-done-or-limit : ((whole_run m).stop ≡ Done) ⊎ ((whole_run m).stop ≡ Limit)
  unfolding whole_run
  ends-done-or-limit = whole-ends (rings_of m) lawful short

  -- It ends done if n × (extensions + 1), all its trials, are within the limit
  pub ends-done : m.atoms * suc (length (open_words (rings_of m))) ≤ limit → (whole_run m).stop ≡ Done
  unfolding whole_run
  ends-done h =
      let extensions = length (open_words (rings_of m)) in
      whole-done (rings_of m) lawful short
      (subst (λ (n : ℕ). n * suc extensions ≤ limit) (sym (family-atoms m 0 0 0)) h)

  -- The text then: the lines of all rings in dictionary order, and the counts that demand 3 gives
  pub done-text :
      (whole_run m).stop ≡ Done →
      let rings = members (rings_of m) in
      let extensions = length (open_words (rings_of m)) in
      listing_text m (whole_run m).state
      ≡ lines_of rings ++ count_line (length rings) extensions (m.atoms * suc extensions)
  unfolding whole_run listing_text
  done-text e =
      let rings = members (rings_of m) in
      let extensions = length (open_words (rings_of m)) in
      rw (
        whole_listed (rings_of m) lawful short e,
        whole_extensions (rings_of m) lawful short e,
        whole-trials (rings_of m) lawful short e,
        take_all (length rings) rings (omega arith),
      )
      (ap (λ (n : ℕ). lines_of rings ++ count_line (length rings) extensions (n * suc extensions))
      (family-atoms m 0 0 0))

-- The turns print one text
pub prints-one :
    {l : Listing} {buffer text other : List ℕ} → Prints l buffer text → Prints l buffer other → text ≡ other
prints-one (ends l buffer e) (ends _ _ f) = refl
prints-one (ends l buffer e) (goes_on _ next _ rest f p) = absurd (last-or-not e f)
prints-one (goes_on l next buffer rest e p) (ends _ _ f) = absurd (last-or-not f e)
prints-one (goes_on l next buffer rest e p) (goes_on _ other _ more f q) =
    let same = subst (λ (x : Listing). Prints x (turned_text l buffer) rest) (one-next e f) p in
    ap (λ (t : List ℕ). text_of l buffer ++ t) (prints-one same q)
