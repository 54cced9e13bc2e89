-- b is reached from v in at most d steps through allowed atoms exactly when a chordless list leads from v to b with
-- fewer than d of them between (document 003, lemma 2). By induction on the walk: v goes before the last atom of the
-- list from the next atom that it is bonded to.
use Prim.Native.Nat.{ℕ, zero, suc, ◌≤◌, ◌<◌}
use mathlib.Core.Path.{◌≡◌, sym}
use mathlib.Core.Bool.{Bool, true, false}
use mathlib.Core.List.{List, [], ◌∷◌, ◌++◌}
use mathlib.Core.Logic.{◌≢◌, ◌⊎◌, inl, inr, ◌↔◌}
use native.Mathlib.Decide.{ℕ_discrete}
use native.Mathlib.Nat.{not-suc-le-zero, le_of_suc-le-suc}
use native.Mathlib.Omega.{arith}
use lib.ListN.{length}
use Rattle.graph.specs.Chordless.{Adjacency, induces, along_path}
use Rattle.graph.proofs.Below.{clash, either}
use Rattle.graph.proofs.All.{All, none, ◌◁◌, all_head, all_tail, all_both}
use Rattle.graph.proofs.Chain.{Chordless, chordless-iff}
use Rattle.chordless.specs.Reach.{Walk, there, through}

module _ (adj : Adjacency) where
  -- ---- chordless lists

  pub chain-tail : (x : ℕ) (r : List ℕ) → Chordless adj (x ∷ r) → Chordless adj r
  chain-tail x [] c = tt
  chain-tail x (y ∷ r) (differ, bonded, off, chain) = chain

  -- bonded to z, and not bonded to z: two atoms
  pub differs : (x y z : ℕ) → adj x z ≡ true → adj y z ≡ false → x ≢ y
  differs x y z p q e = clash (adj x z) p (rw e q)

  -- an atom bonded to none of a chordless list to b is not in it, unless it is b
  pub stays_out :
      (v b : ℕ) (q : List ℕ) → v ≢ b → Chordless adj (q ++ b ∷ []) →
      All (λ u. adj v u ≡ false) (q ++ b ∷ []) → All (λ u. v ≢ u) (q ++ b ∷ [])
  stays_out v b [] h c a = h ◁ none
  stays_out v b (y ∷ []) h (differ, bonded, off, chain) (y-off ◁ b-off ◁ none) =
      (λ e. differs y v b bonded b-off (sym e)) ◁ h ◁ none
  stays_out v b (y ∷ z ∷ q) h (differ, bonded, off, chain) (y-off ◁ a) =
      (λ e. differs y v z bonded (all_head a) (sym e)) ◁ stays_out v b (z ∷ q) h chain a

  -- a chordless list of at most d steps from v to b, through atoms with P
  abbrev pub Lane : (ℕ → Type 0) → ℕ → ℕ → ℕ → Type 0
  Lane P d v b = (q : List ℕ) × (length q < d) × All P q × Chordless adj (v ∷ q ++ b ∷ [])

  -- v goes before the last atom of the list that it is bonded to; or it is bonded to none
  cut :
      {P : ℕ → Type 0} → ((u : ℕ) → P u → adj u u ≡ false) →
      (v b : ℕ) (q : List ℕ) → v ≢ b → Chordless adj (q ++ b ∷ []) → All P q →
      Lane P (suc (length q)) v b ⊎ All (λ u. adj v u ≡ false) (q ++ b ∷ [])
  cut irr v b [] h c a = elim (either (adj v b)) [
    | inl e ↦ inl ([], omega arith, none, (h, e, none, tt))
    | inr e ↦ inr (e ◁ none)
  ]
  cut {P} irr v b (y ∷ q) h c a = go (either (adj v y)) (cut irr v b q h tail (all_tail a))
    where
      tail : Chordless adj (q ++ b ∷ [])
      tail = chain-tail y (q ++ b ∷ []) c

      go :
          (adj v y ≡ true) ⊎ (adj v y ≡ false) →
          Lane P (suc (length q)) v b ⊎ All (λ u. adj v u ≡ false) (q ++ b ∷ []) →
          Lane P (suc (length (y ∷ q))) v b ⊎ All (λ u. adj v u ≡ false) (y ∷ q ++ b ∷ [])
      go e (inl (r, short, between, chain)) = inl (r, omega arith, between, chain)
      go (inl e) (inr off) =
          let differ : v ≢ y = differs v y y e (irr y (all_head a)) in
          inl (y ∷ q, omega arith, a, (differ, e, all_both (stays_out v b q h tail off) off, c))
      go (inr e) (inr off) = inr (e ◁ off)

  pub shortest :
      {allowed : ℕ → Bool} {b d v : ℕ} → ((u : ℕ) → allowed u ≡ true → adj u u ≡ false) → v ≢ b →
      Walk adj allowed b d v → Lane (λ u. allowed u ≡ true) d v b
  shortest irr h (there e) = ([], omega arith, none, (h, e, none, tt))
  shortest {b} irr h (through {d} {v} {w} e a k) = elim (ℕ_discrete w b) [
    | yes g ↦ ([], omega arith, none, (h, rw g at e, none, tt))
    | no g ↦
        let (q, short, between, chain) = shortest irr g k in
        elim (cut irr v b (w ∷ q) h chain (a ◁ between)) [
          | inl (r, shorter, through-r, lane) ↦ (r, omega arith, through-r, lane)
          | inr off ↦ absurd (clash (adj v w) e (all_head off))
        ]
  ]

  pub walks :
      {allowed : ℕ → Bool} {v b : ℕ} (q : List ℕ) → All (λ u. allowed u ≡ true) q →
      Chordless adj (v ∷ q ++ b ∷ []) → Walk adj allowed b (suc (length q)) v
  walks [] a (differ, bonded, off, chain) = there bonded
  walks (y ∷ q) (y-allowed ◁ a) (differ, bonded, off, chain) = through bonded y-allowed (walks q a chain)

  -- ---- walks

  -- more steps
  pub walk-longer : {f : ℕ → Bool} {b d e v : ℕ} → d ≤ e → Walk adj f b d v → Walk adj f b e v
  walk-longer {e = zero} h (there bond) = absurd (not-suc-le-zero h)
  walk-longer {e = suc e} h (there bond) = there bond
  walk-longer {e = zero} h (through bond a k) = absurd (not-suc-le-zero h)
  walk-longer {e = suc e} h (through bond a k) = through bond a (walk-longer (le_of_suc-le-suc h) k)

  pub shortest-iff :
      (allowed : ℕ → Bool) (d v b : ℕ) → ((u : ℕ) → allowed u ≡ true → adj u u ≡ false) → v ≢ b →
      Walk adj allowed b d v ↔ Lane (λ u. allowed u ≡ true) d v b
  shortest-iff allowed d v b irr h =
      (shortest irr h, λ (q, short, between, chain). walk-longer short (walks q between chain))

  -- the same with the test `induces`
  pub shortest-induces :
      (allowed : ℕ → Bool) (d v b : ℕ) → ((u : ℕ) → allowed u ≡ true → adj u u ≡ false) → v ≢ b →
      Walk adj allowed b d v ↔
      ((q : List ℕ) × (length q < d) × All (λ u. allowed u ≡ true) q
      × (induces adj along_path (v ∷ q ++ b ∷ []) ≡ true))
  shortest-induces allowed d v b irr h = (
    λ k. let (q, short, between, chain) = shortest irr h k in
        (q, short, between, (chordless-iff adj (v ∷ q ++ b ∷ [])).1 chain),
    λ (q, short, between, e). walk-longer short (walks q between ((chordless-iff adj (v ∷ q ++ b ∷ [])).0 e)),
  )

  -- through more atoms
  pub walk_more :
      {f g : ℕ → Bool} {b d v : ℕ} → ((u : ℕ) → f u ≡ true → g u ≡ true) → Walk adj f b d v → Walk adj g b d v
  walk_more m (there e) = there e
  walk_more m (through {w = w} e a k) = through e (m w a) (walk_more m k)

  -- what holds next to b, and next to an allowed atom that has it, holds
  -- wherever b is reached from: a set that is closed so has them all
  pub walk-within :
      {f : ℕ → Bool} {b d v : ℕ} (P : ℕ → Type 0) → ((u : ℕ) → adj u b ≡ true → P u) →
      ((u w : ℕ) → adj u w ≡ true → f w ≡ true → P w → P u) → Walk adj f b d v → P v
  walk-within P start step (there {v = v} e) = start v e
  walk-within P start step (through {v = v} {w = w} e a k) = step v w e a (walk-within P start step k)
