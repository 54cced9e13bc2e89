-- The words that a search tries from a place on, where a gate says below which words it goes; and with every gate open.
-- A test that only words below open gates pass keeps the same of both: below a shut gate it keeps nothing.
use Prim.Native.Nat.{ℕ, zero, suc, ◌-◌, ◌≤◌, ◌<◌}
use native.Mathlib.Omega.{arith}
use mathlib.Core.Path.{◌≡◌, refl, sym, ◌∙◌}
use mathlib.Core.Logic.{◌⊎◌, inl, inr}
use mathlib.Core.Bool.{Bool, true, false, cond}
use mathlib.Core.List.Memᴰ
use mathlib.Core.List.{List, [], ◌∷◌, ◌++◌, map, map-map, reverse, reverse_aux, append_assoc, Memᴰ}
use lib.ListN.{length}
use borrow.Author.Tests.{eq-eqb}
use Rattle.enumeration.specs.Words.{begins, numbers_from, joined, words, keep}
use Rattle.enumeration.proofs.Basics.{starting, apart, not-true-false, keep_append, keep-none, joined-cong, map-joined, keep-joined, joined-mem}

-- ---- the stream

-- the numbers from c to n
unfoldable pub upto : ℕ → ℕ → List ℕ
upto n c = numbers_from c (suc n - c)

-- a word, and what is tried below it if its gate is open
abbrev pub under : Bool → List ℕ → List (List ℕ) → List (List ℕ)
under gate w ws = w ∷ cond gate ws []

abbrev pub always : List ℕ → Bool
always w = true

-- what is tried below the stack p, k atoms deep
unfoldable pub branch : (List ℕ → Bool) → ℕ → ℕ → List ℕ → List (List ℕ)
branch G n zero p = []
branch G n (suc k) p =
    joined (λ a. under (G (reverse (a ∷ p))) (reverse (a ∷ p)) (branch G n k (a ∷ p))) (numbers_from 1 n)

-- p with the atom a added, and what is tried below it, k atoms deeper
abbrev pub twig : (List ℕ → Bool) → ℕ → ℕ → List ℕ → ℕ → List (List ℕ)
twig G n k p a = under (G (reverse (a ∷ p))) (reverse (a ∷ p)) (branch G n k (a ∷ p))

-- the same up to n atoms in all
unfoldable pub turn : (List ℕ → Bool) → ℕ → List ℕ → ℕ → List (List ℕ)
turn G n p a = twig G n (n - suc (length p)) p a

-- what is tried below p from the atom c on
unfoldable pub level : (List ℕ → Bool) → ℕ → List ℕ → ℕ → List (List ℕ)
level G n p c = joined (turn G n p) (upto n c)

-- what is tried once p is left
unfoldable pub later : (List ℕ → Bool) → ℕ → List ℕ → List (List ℕ)
later G n [] = []
later G n (a ∷ p) = level G n p (suc a) ++ later G n p

-- what is tried from the place of p and c on
unfoldable pub rest : (List ℕ → Bool) → ℕ → List ℕ → ℕ → List (List ℕ)
rest G n p c = level G n p c ++ later G n p

-- ---- how the stream begins

pub upto-cons : (n c : ℕ) → c ≤ n → upto n c ≡ c ∷ upto n (suc c)
unfolding upto numbers_from
upto-cons n c h =
    let e : suc n - c ≡ suc (suc n - suc c) = omega arith in
    rw e

pub upto-end : (n : ℕ) → upto n (suc n) ≡ []
unfolding upto numbers_from
upto-end n =
    let e : suc n - suc n ≡ 0 = omega arith in
    rw e

pub upto-one : (n : ℕ) → upto n 1 ≡ numbers_from 1 n
unfolding upto
upto-one n =
    let e : suc n - 1 ≡ n = omega arith in
    rw e

pub level-cons :
    (G : List ℕ → Bool) (n : ℕ) (p : List ℕ) (c : ℕ) → c ≤ n →
    level G n p c ≡ turn G n p c ++ level G n p (suc c)
unfolding level joined
level-cons G n p c h = rw (upto-cons n c h)

pub level-end : (G : List ℕ → Bool) (n : ℕ) (p : List ℕ) → level G n p (suc n) ≡ []
unfolding level joined
level-end G n p = rw (upto-end n)

-- one more level of a branch
pub branch-level :
    (G : List ℕ → Bool) (n k : ℕ) (p : List ℕ) → n - suc (length p) ≡ k → branch G n (suc k) p ≡ level G n p 1
unfolding branch level turn
branch-level G n k p e = rw (upto-one n, ← e)

pub branch-root : (G : List ℕ → Bool) (n : ℕ) → branch G n n [] ≡ level G n [] 1
unfolding branch level upto numbers_from joined
branch-root G zero = refl
branch-root G (suc n) = branch-level G (suc n) n [] (omega arith)

-- at the end of a level the stream is the one of the beginning without its last atom
pub rest-pop : (G : List ℕ → Bool) (n a : ℕ) (p : List ℕ) → rest G n (a ∷ p) (suc n) ≡ rest G n p (suc a)
unfolding rest later
rest-pop G n a p = rw (level-end G n (a ∷ p))

-- the head of the stream is the word tried; then comes what is below it, or the next atom
pub rest-shut :
    (G : List ℕ → Bool) (n : ℕ) (p : List ℕ) (c : ℕ) → c ≤ n → G (reverse (c ∷ p)) ≡ false →
    rest G n p c ≡ reverse (c ∷ p) ∷ rest G n p (suc c)
unfolding rest turn
rest-shut G n p c h g = rw (level-cons G n p c h, g)

pub rest-open :
    (G : List ℕ → Bool) (n : ℕ) (p : List ℕ) (c : ℕ) → c ≤ n → suc (length p) < n → G (reverse (c ∷ p)) ≡ true →
    rest G n p c ≡ reverse (c ∷ p) ∷ rest G n (c ∷ p) 1
unfolding rest later turn
rest-open G n p c h l g =
    let deeper = n - suc (suc (length p)) in
    let d : n - suc (length p) ≡ suc deeper = omega arith in
    let below = level G n (c ∷ p) 1 in
    rw (level-cons G n p c h, g, d, branch-level G n deeper (c ∷ p) refl)
    (rw (append_assoc below (level G n p (suc c)) (later G n p)))

-- ---- what is in it

-- w is p, then an atom b, then perhaps more
abbrev pub Beyond : List ℕ → List ℕ → Type 0
Beyond p w = (b : ℕ) × (v : List ℕ) × (w ≡ reverse_aux p (b ∷ v))

under-mem :
    (gate : Bool) (u : List ℕ) (ws : List (List ℕ)) {w : List ℕ} → Memᴰ w (under gate u ws) →
    (w ≡ u) ⊎ Memᴰ w ws
under-mem true u ws m = Memᴰ.cases_cons m
under-mem false u ws m = inl (Memᴰ.eq_of_singleton m)

-- one turn at an atom: the words that begin with p and it
twig-mem :
    (G : List ℕ → Bool) (n k : ℕ) (p : List ℕ) (a : ℕ) {w : List ℕ} →
    (Memᴰ w (branch G n k (a ∷ p)) → Beyond (a ∷ p) w) →
    Memᴰ w (twig G n k p a) → (v : List ℕ) × (w ≡ reverse_aux p (a ∷ v))
twig-mem G n k p a below m =
    elim (under-mem (G (reverse (a ∷ p))) (reverse (a ∷ p)) (branch G n k (a ∷ p)) m) [
      | inl itself ↦ ([], itself)
      | inr q ↦ let (b, v, shape) = below q in (b ∷ v, shape)
    ]

pub branch-mem : (G : List ℕ → Bool) (n k : ℕ) (p : List ℕ) {w : List ℕ} → Memᴰ w (branch G n k p) → Beyond p w
unfolding branch
branch-mem G n zero p m = absurd (Memᴰ.not-nil m)
branch-mem G n (suc k) p m =
    let (a, of-atoms, of-twig) = joined-mem (twig G n k p) (numbers_from 1 n) m in
    let (v, shape) = twig-mem G n k p a (branch-mem G n k (a ∷ p)) of-twig in
    (a, v, shape)

pub turn-mem :
    (G : List ℕ → Bool) (n : ℕ) (p : List ℕ) (a : ℕ) {w : List ℕ} → Memᴰ w (turn G n p a) →
    (v : List ℕ) × (w ≡ reverse_aux p (a ∷ v))
unfolding turn
turn-mem G n p a m =
    let k = n - suc (length p) in
    twig-mem G n k p a (branch-mem G n k (a ∷ p)) m

-- the same beginning does not matter to whether one begins the other
pub begins-on : (p v w : List ℕ) → begins (reverse_aux p v) (reverse_aux p w) ≡ begins v w
unfolding begins
begins-on [] v w = refl
begins-on (a ∷ p) v w = begins-on p (a ∷ v) (a ∷ w) ∙ rw (eq-eqb a a refl)

pub beyond-begins : (p w : List ℕ) → Beyond p w → begins (reverse p) w ≡ true
unfolding begins
beyond-begins p w (b, v, shape) = rw shape (begins-on p [] (b ∷ v))

-- ---- shut gates

module _ (G t : List ℕ → Bool) (shown : (q w : List ℕ) → t w ≡ true → begins q w ≡ true → G q ≡ true) where
  -- what is kept below a word is the same with the gate as without
  keep-under :
      (p : List ℕ) (xs ys : List (List ℕ)) → keep t xs ≡ keep t ys → ((w : List ℕ) → Memᴰ w ys → Beyond p w) →
      keep t (under (G (reverse p)) (reverse p) xs) ≡ keep t (under true (reverse p) ys)
  unfolding keep
  keep-under p xs ys e below = go (G (reverse p)) refl
    where
      missed : G (reverse p) ≡ false → (w : List ℕ) → Memᴰ w ys → t w ≡ false
      missed g w m =
          let beginning : begins (reverse p) w ≡ true = beyond-begins p w (below w m) in
          not-true-false (t w) (λ passes. apart (sym (shown (reverse p) w passes beginning) ∙ g))

      go : (b : Bool) → G (reverse p) ≡ b → keep t (under b (reverse p) xs) ≡ keep t (under true (reverse p) ys)
      go true g = rw e
      go false g = rw (keep-none t ys (missed g))

  keep-twig :
      (n k : ℕ) (p : List ℕ) (a : ℕ) → keep t (branch G n k (a ∷ p)) ≡ keep t (branch always n k (a ∷ p)) →
      keep t (twig G n k p a) ≡ keep t (twig always n k p a)
  keep-twig n k p a e =
      keep-under (a ∷ p) (branch G n k (a ∷ p)) (branch always n k (a ∷ p)) e (λ w m. branch-mem always n k (a ∷ p) m)

  pub keep-branch : (n k : ℕ) (p : List ℕ) → keep t (branch G n k p) ≡ keep t (branch always n k p)
  unfolding branch
  keep-branch n zero p = refl
  keep-branch n (suc k) p =
      keep-joined t (twig G n k p) (twig always n k p) (numbers_from 1 n)
      (λ a. keep-twig n k p a (keep-branch n k (a ∷ p)))

  pub keep-level : (n : ℕ) (p : List ℕ) (c : ℕ) → keep t (level G n p c) ≡ keep t (level always n p c)
  unfolding level turn
  keep-level n p c =
      let k = n - suc (length p) in
      keep-joined t (turn G n p) (turn always n p) (upto n c) (λ a. keep-twig n k p a (keep-branch n k (a ∷ p)))

  keep-later : (n : ℕ) (p : List ℕ) → keep t (later G n p) ≡ keep t (later always n p)
  unfolding later
  keep-later n [] = refl
  keep-later n (a ∷ p) = simp (keep_append, keep-level n p (suc a), keep-later n p)

  pub keep-rest : (n : ℕ) (p : List ℕ) (c : ℕ) → keep t (rest G n p c) ≡ keep t (rest always n p c)
  unfolding rest
  keep-rest n p c = simp (keep_append, keep-level n p c, keep-later n p)

-- ---- every word

-- the words that start with a, each after p
starting-twig :
    (n k : ℕ) (p : List ℕ) (a : ℕ) →
    map (reverse_aux (a ∷ p)) (words n k) ≡ reverse (a ∷ p) ∷ branch always n k (a ∷ p) →
    map (reverse_aux p) (starting n k a) ≡ twig always n k p a
starting-twig n k p a below = map-map (reverse_aux p) (λ (w : List ℕ). a ∷ w) (words n k) ∙ below

-- with every gate open it is every word below p
pub words-branch : (n k : ℕ) (p : List ℕ) → map (reverse_aux p) (words n k) ≡ reverse p ∷ branch always n k p
unfolding words branch
words-branch n zero p = refl
words-branch n (suc k) p =
    rw (map-joined (reverse_aux p) (starting n k) (numbers_from 1 n))
    (rw (joined-cong (λ (a : ℕ). map (reverse_aux p) (starting n k a)) (twig always n k p) (numbers_from 1 n)
    (λ a. starting-twig n k p a (words-branch n k (a ∷ p)))))

pub words-root : (n : ℕ) → words n n ≡ [] ∷ level always n [] 1
words-root n = sym (map_same (words n n)) ∙ words-branch n n [] ∙ rw (branch-root always n)
  where
    map_same : (ws : List (List ℕ)) → map (reverse_aux []) ws ≡ ws
    map_same [] = refl
    map_same (w ∷ ws) = rw (map_same ws)
