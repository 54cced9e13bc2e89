-- The judge's answers, by the tests that lead to each.
-- The definitions go by `cond`, so each answer follows by rewriting the tests.
use Prim.Native.Nat.{ℕ}
use mathlib.Core.Path.{◌≡◌, sym, ap, ◌∙◌}
use mathlib.Core.Bool.{Bool, true, false}
use mathlib.Core.List.{List}
use Rattle.std.specs.Prelude.{Err, Ok}
use Rattle.refusal.specs.declared.Refusal.{Refusal}
use Rattle.refusal.specs.declared.Refusal.TheVariants.{Record}
use Rattle.molecule.specs.declared.Molecule.{Molecule}
use Rattle.molecule.specs.Record.{well_formed, bonded}
use Rattle.molecule.specs.Ends.{ends_answer}
use Rattle.molecule.proofs.Ends.{ends-refused, ends-accepted}
use Rattle.graph.specs.Chordless.{is_ring, is_path}
use Rattle.judge.specs.Verdict.{judge_ring, judge_path}

-- rule 9 comes first
module _ (mol : Molecule) (wrong : well_formed mol ≡ false) (xs : List ℕ) where
  pub ring-no-record : Err Record ≡ judge_ring mol xs
  unfolding judge_ring
  ring-no-record = rw wrong

  pub path-no-record : (s t : ℕ) → Err Record ≡ judge_path mol s t xs
  unfolding judge_path
  path-no-record s t = rw wrong

module _ (mol : Molecule) (xs : List ℕ) (formed : well_formed mol ≡ true) where
  -- the code found whether the list is a ring
  pub ring-judged :
      {found : Bool} → found ≡ is_ring mol.atoms (bonded mol.atoms mol.rows) xs → Ok found ≡ judge_ring mol xs
  unfolding judge_ring
  ring-judged told = rw formed (ap Ok told)

  module _ (s t : ℕ) where
    -- rules 10 and 11 refuse, or the code found whether the list is a path
    pub path-refused : {r : Refusal} → ends_answer mol.atoms s t ≡ Err r → Err r ≡ judge_path mol s t xs
    unfolding judge_path
    path-refused e = rw formed (sym (ends-refused mol.atoms s t Err _ e))

    pub path-judged :
        ends_answer mol.atoms s t ≡ Ok _ →
        {found : Bool} → found ≡ is_path mol.atoms (bonded mol.atoms mol.rows) s t xs →
        Ok found ≡ judge_path mol s t xs
    unfolding judge_path
    path-judged e told = rw formed (ap Ok told ∙ sym (ends-accepted mol.atoms s t Err _ e))
