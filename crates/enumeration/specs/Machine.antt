-- The search, trial by trial (document 01), for any family.
use Rattle.std.specs.Prelude.{ℕ, suc, Bool, true, false, ◌&&◌, cond, List, [], ◌∷◌, reverse, eqb}
use Rattle.enumeration.specs.Words.{Family, is_open}

-- A search: the present beginning as a stack, its last atom first; the next atom; the three counts
pub record State : Type 0 where
  pub stack : List ℕ
  pub next : ℕ
  pub trials : ℕ
  pub extensions : ℕ
  pub listed : ℕ

-- Fresh: no beginning, next atom 1, counts 0
unfoldable pub fresh : State
fresh = record { stack = []; next = 1; trials = 0; extensions = 0; listed = 0 }

-- the beginning with the next atom added
unfoldable pub tried : State → List ℕ
tried st = reverse (st.next ∷ st.stack)

unfoldable pub is_empty : List ℕ → Bool
is_empty [] = true
is_empty (a ∷ rest) = false

-- Done: the beginning is empty and the next atom is n + 1
unfoldable pub is_done : ℕ → State → Bool
is_done n st = is_empty st.stack && eqb st.next (suc n)

-- Unwinding: as long as the next atom is n + 1 and the beginning is not empty,
-- its last atom is dropped, and the next atom is that atom + 1
unfoldable pub unwound : ℕ → List ℕ → ℕ → List ℕ × ℕ
unwound n [] next = ([], next)
unwound n (a ∷ stack) next =
    cond (eqb next (suc n)) (unwound n stack (suc a)) (a ∷ stack, next)

-- a search at a place, with its counts
abbrev pub placed : List ℕ × ℕ → ℕ → ℕ → ℕ → State
placed place trials extensions listed = record {
  stack = place.0;
  next = place.1;
  trials = trials;
  extensions = extensions;
  listed = listed;
}

-- What a trial does, by whether the word is a member and whether it is open:
-- it is listed, or becomes the beginning, or neither
unfoldable pub act : ℕ → Bool → Bool → State → State
act n true extends st =
    placed (unwound n st.stack (suc st.next))
    (suc st.trials) st.extensions (suc st.listed)
act n false true st =
    placed (unwound n (st.next ∷ st.stack) 1)
    (suc st.trials) (suc st.extensions) st.listed
act n false false st =
    placed (unwound n st.stack (suc st.next))
    (suc st.trials) st.extensions st.listed

-- One trial with the unwinding after it
unfoldable pub trial : Family → State → State
trial F st = act F.atoms (F.member (tried st)) (is_open F (tried st)) st
