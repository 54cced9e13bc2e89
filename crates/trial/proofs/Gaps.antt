-- Where the test of the limit fails, no count is at the limit.
use Prim.Native.Nat.{ℕ}
use mathlib.Core.Path.{◌≡◌}
use mathlib.Core.Bool.{false, ◌||◌}
use lib.Dec.{eqb}
use Rattle.enumeration.specs.Run.{limit}
use Rattle.enumeration.proofs.Basics.{or-neither}

-- no count is at the limit
pub record NoneAtLimit (trials extensions listed : ℕ) : Type 0 where
  pub trials_other : eqb trials limit ≡ false
  pub extensions_other : eqb extensions limit ≡ false
  pub listed_other : eqb listed limit ≡ false

pub none-at-limit :
    (trials extensions listed : ℕ) → (eqb trials limit || eqb extensions limit || eqb listed limit) ≡ false →
    NoneAtLimit trials extensions listed
none-at-limit trials extensions listed e =
    let all = or-neither (eqb trials limit || eqb extensions limit) (eqb listed limit) e in
    let two = or-neither (eqb trials limit) (eqb extensions limit) all.0 in
    record { trials_other = two.0; extensions_other = two.1; listed_other = all.1 }
