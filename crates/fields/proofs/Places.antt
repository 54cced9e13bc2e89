-- Fields in a row, c columns each: the place of field i, and that it is within the bytes.
-- By arithmetic.
use Prim.Native.Nat.{ℕ, ◌+◌, ◌*◌, ◌≤◌, ◌<◌}
use native.Mathlib.Nat.{add-zero, mul-zero, mul-suc, mul-le-mul_left}
use native.Mathlib.Numerals.{add-one}
use native.Mathlib.Omega.{arith}
use mathlib.Core.Path.{◌≡◌}

pub place-first : (at c : ℕ) → at ≡ at + c * 0
place-first at c = rw (mul-zero, add-zero)

pub place-on : (at c i place : ℕ) → place ≡ at + c * i → place + c ≡ at + c * (i + 1)
place-on at c i place e = rw add-one (omega (arith, mul-suc c i))

pub place-fits : (at c k n i place : ℕ) → at + c * k ≤ n → i < k → place ≡ at + c * i → place + c ≤ n
place-fits at c k n i place room h e = omega (arith, mul-le-mul_left c h, mul-suc c i)
