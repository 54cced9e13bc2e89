-- Sums over the numbers below a bound: of equal terms, of two terms, by rows and columns, in either order.
-- By induction on the bound.
use Prim.Native.Nat.{ℕ, zero, suc, ◌+◌, ◌*◌, ◌<◌}
use native.Mathlib.Omega.{arith}
use native.Mathlib.Nat.{add-zero, add-suc, zero-mul, suc-mul}
use mathlib.Core.Path.{◌≡◌, refl, ap, ap₂, sym, ◌∙◌}

-- the sum of f over the numbers below k
unfoldable pub sum : ℕ → (ℕ → ℕ) → ℕ
sum zero f = 0
sum (suc k) f = sum k f + f k

pub sum_same : (k : ℕ) (f g : ℕ → ℕ) → ((i : ℕ) → i < k → f i ≡ g i) → sum k f ≡ sum k g
unfolding sum
sum_same zero f g e = refl
sum_same (suc k) f g e = ap₂ ◌+◌ (sum_same k f g (λ i h. e i (omega arith))) (e k (omega arith))

-- the first term apart
pub sum_first : (k : ℕ) (f : ℕ → ℕ) → sum (suc k) f ≡ f 0 + sum k (λ i. f (suc i))
unfolding sum
sum_first zero f = omega arith
sum_first (suc k) f = let less = sum_first k f in omega (arith, less)

pub sum-add : (k : ℕ) (f g : ℕ → ℕ) → sum k (λ i. f i + g i) ≡ sum k f + sum k g
unfolding sum
sum-add zero f g = refl
sum-add (suc k) f g = let less = sum-add k f g in omega (arith, less)

-- two stretches
sum-after : (a b : ℕ) (f : ℕ → ℕ) → sum (a + b) f ≡ sum a f + sum b (λ j. f (a + j))
unfolding sum
sum-after a zero f = rw (add-zero a, add-zero (sum a f))
sum-after a (suc b) f = let less = sum-after a b f in rw (add-suc a b) (omega (arith, less))

-- a rows of b columns, row by row
pub sum_rows : (a b : ℕ) (f : ℕ → ℕ) → sum (a * b) f ≡ sum a (λ i. sum b (λ j. f (i * b + j)))
unfolding sum
sum_rows zero b f = rw (zero-mul b)
sum_rows (suc a) b f =
    let less = sum_rows a b f in
    ap (λ k. sum k f) (suc-mul a b) ∙ sum-after (a * b) b f ∙ ap (λ s. s + sum b (λ j. f (a * b + j))) less

pub sum-none : (k : ℕ) → sum k (λ i. 0) ≡ 0
unfolding sum
sum-none zero = refl
sum-none (suc k) = let less = sum-none k in omega (arith, less)

-- columns first
pub sum-swap : (a b : ℕ) (f : ℕ → ℕ → ℕ) → sum a (λ i. sum b (f i)) ≡ sum b (λ j. sum a (λ i. f i j))
unfolding sum
sum-swap zero b f = sym (sum-none b)
sum-swap (suc a) b f = let less = sum-swap a b f in simp sum-add (omega (arith, less))

-- equal terms in every row and column
pub sum-grid :
    (a b : ℕ) (f g : ℕ → ℕ → ℕ) → ((i j : ℕ) → i < a → j < b → f i j ≡ g i j) →
    sum a (λ i. sum b (f i)) ≡ sum a (λ i. sum b (g i))
sum-grid a b f g e =
    sum_same a (λ i. sum b (f i)) (λ i. sum b (g i)) (λ i hi. sum_same b (f i) (g i) (λ j hj. e i j hi hj))

-- each term and its mirror image
pub sum-mirror : (k : ℕ) (f : ℕ → ℕ → ℕ) → sum k (λ i. sum k (λ j. f i j + f j i)) ≡ 2 * sum k (λ i. sum k (f i))
sum-mirror k f = let same = sum-swap k k f in simp sum-add (omega (arith, same))
