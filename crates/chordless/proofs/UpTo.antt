-- The members of a family that have at most k atoms: a word is one, and a beginning is open, exactly as the definition
-- says; with k at least n they are the family's own. From the laws of the two tests, and of lists and open beginnings.
use Prim.Native.Nat.{ℕ, ◌≤◌, ◌<◌}
use mathlib.Core.Path.{◌≡◌, ap, fun_ext}
use mathlib.Core.Bool.{Bool, true, and-true}
use mathlib.Core.List.{List, [], ◌∷◌, ◌++◌}
use mathlib.Core.Logic.{◌↔◌}
use native.Mathlib.Omega.{arith}
use native.Mathlib.Nat.{not-suc-le-zero}
use lib.ListN.{length, length-append}
use borrow.Author.Tests.{leb-true, le-leb}
use Rattle.graph.proofs.Below.{and_parts, and_both, same_test}
use Rattle.enumeration.specs.Words.{Family, is_open}
use Rattle.enumeration.specs.Lawful.{Lawful}
use Rattle.chordless.specs.Families.{up_to}
use Rattle.chordless.proofs.Members.{Bounded, open-has, open_of}

module _ (k : ℕ) (F : Family) where
  pub upto-facts : (w : List ℕ) → (up_to k F).member w ≡ true → (F.member w ≡ true) × (length w ≤ k)
  upto-facts w e =
      let (member, short) = and_parts _ _ e in
      (member, leb-true _ _ short)

  pub upto-of : (w : List ℕ) → F.member w ≡ true → length w ≤ k → (up_to k F).member w ≡ true
  upto-of w member short = and_both _ _ member (le-leb (length w) k short)

  pub upto-lawful : Lawful F → Lawful (up_to k F)
  upto-lawful L = record {
    non_empty = λ w e. L.non_empty w (upto-facts w e).0;
    short = λ w e. L.short w (upto-facts w e).0;
    in_range = λ w e. L.in_range w (upto-facts w e).0;
    prefix_free = λ v w e f begun. L.prefix_free v w (upto-facts v e).0 (upto-facts w f).0 begun;
  }

  module _ (bounded : Bounded F) where
    pub upto-bounded : Bounded (up_to k F)
    upto-bounded w e = bounded w (upto-facts w e).0

    -- an open beginning that is not empty: some member of at most k atoms goes on it
    pub upto-open :
        (x : ℕ) (p : List ℕ) →
        (is_open (up_to k F) (x ∷ p) ≡ true) ↔
        ((a : ℕ) × (r : List ℕ) × (F.member (x ∷ p ++ a ∷ r) ≡ true) × (length (x ∷ p ++ a ∷ r) ≤ k))
    upto-open x p =
        (to, λ (a, r, e, short). open_of (up_to k F) upto-bounded x p a r (upto-of (x ∷ p ++ a ∷ r) e short))
      where
        to :
            is_open (up_to k F) (x ∷ p) ≡ true →
            (a : ℕ) × (r : List ℕ) × (F.member (x ∷ p ++ a ∷ r) ≡ true) × (length (x ∷ p ++ a ∷ r) ≤ k)
        to e =
            let (a, r, m) = open-has (up_to k F) upto-bounded x p e in
            let (member, short) = upto-facts (x ∷ p ++ a ∷ r) m in
            (a, r, member, short)

    -- it has fewer than k atoms
    pub upto-room : (x : ℕ) (p : List ℕ) → is_open (up_to k F) (x ∷ p) ≡ true → length (x ∷ p) < k
    upto-room x p e =
        let (a, r, member, short) = (upto-open x p).0 e in
        omega (arith, length-append p (a ∷ r))

    -- so one atom more makes one of at most k
    pub upto_next :
        (p : List ℕ) (v : ℕ) → 1 ≤ length p → is_open (up_to k F) p ≡ true →
        (up_to k F).member (p ++ v ∷ []) ≡ F.member (p ++ v ∷ [])
    upto_next [] v h e = absurd (not-suc-le-zero h)
    upto_next (x ∷ p) v h e =
        let room = upto-room x p e in
        let short = le-leb (length (x ∷ p ++ v ∷ [])) k (omega (arith, length-append p (v ∷ []))) in
        rw short (and-true (F.member (x ∷ p ++ v ∷ [])))

  -- no member has more than n atoms: with k at least n the bound leaves out none
  pub upto_all : Lawful F → F.atoms ≤ k → up_to k F ≡ F
  upto_all L h =
      ap (λ (member : List ℕ → Bool). record { atoms = F.atoms; member = member })
      (fun_ext (λ w. same_test ((up_to k F).member w) (F.member w) (λ e. (upto-facts w e).0)
      (λ e. let short = L.short w e in upto-of w e (omega arith))))
