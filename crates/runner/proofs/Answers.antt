-- The answer of a run past rules 9 and 12: the run over the table of the search, whose family is that of the molecule.
-- The families are equal, so the definition's run is the one over the table.
use Prim.Native.Nat.{ℕ}
use native.Mathlib.Omega.{arith}
use mathlib.Core.Path.{◌≡◌, ap}
use mathlib.Core.Bool.{true}
use mathlib.Core.List.{List}
use lib.ListN.{length}
use Rattle.std.specs.Prelude.{Ok}
use Rattle.enumeration.specs.Words.{Family}
use Rattle.enumeration.specs.Run.{Outcome, run}
use Rattle.molecule.specs.declared.Molecule.{Molecule}
use Rattle.molecule.specs.Record.{well_formed}
use Rattle.search.specs.declared.Search.{Search}
use Rattle.search.specs.declared.Ran.{Ran}
use Rattle.search.specs.Place.{family, state_of, restorable}
use Rattle.search.specs.Entries.{outcome, run_search, run_output}
use Rattle.search.proofs.Readings.{restorable-facts}
use Rattle.search.proofs.Views.{restorable-valid, restorable-bounded}
use Rattle.openness.specs.Plan.{family_by}
use Rattle.openness.proofs.Molecules.{TableOf, table_of, family-of}
use Rattle.runner.specs.Parts.{Ready, Yields}

module _ (m : Molecule) (q : Search) (table : List ℕ) (ok : well_formed m ≡ true) (kept : restorable m q ≡ true)
    (k : TableOf m q.kind q.t table) where
  same-family : family_by m.atoms table q.kind q.s q.t ≡ family m q
  same-family = family-of ok k q.s

  pub ready :
      {at : ℕ × ℕ} → length q.prefix ≡ 128 →
      Ready (record {
        table = record { ref_ptr = at; now = table };
        n = m.atoms;
        kind = q.kind;
        s = q.s;
        t = q.t;
      }) q
  ready full =
      let f = restorable-facts m q kept in
      record {
        words = table_of ok k;
        kinds = f.kind-kept;
        standing = record {
          within = record { size = full; most = omega (arith, f.short); zeros = f.padded };
          short = f.short;
        };
        valid = rw same-family (restorable-valid m q kept);
        bounded = restorable-bounded m q kept;
      }

  abbrev outcome_over : ℕ → List ℕ → Outcome
  outcome_over budget out = run (family_by m.atoms table q.kind q.s q.t) budget (length out) (state_of q)

  pub answers-run :
      (budget : ℕ) {out last : List ℕ} {r : Ran} → Yields q (outcome_over budget out) out r last →
      (Ok r ≡ run_search m q budget out) × (last ≡ run_output m q budget out)
  unfolding run_search run_output
  answers-run budget {out} y =
      let same : outcome_over budget out ≡ outcome m q budget out =
      ap (λ (F : Family). run F budget (length out) (state_of q)) same-family in
      rw (ok, kept, ← same) (ap (λ (ran : Ran). Ok ran) y.result, y.output)
