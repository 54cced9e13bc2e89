-- A beginning: its length and its atoms.
-- The atoms of an open beginning are from 1 to n, since every family here is lawful.
use Prim.Native.Nat.{ℕ, ◌≤◌, ◌<◌}
use native.Mathlib.Omega.{arith}
use mathlib.Core.Path.{◌≡◌, ap}
use mathlib.Core.Bool.{true}
use mathlib.Core.List.{List, [], ◌∷◌, ◌++◌}
use lib.ListN.{length, take}
use lib.Seq.{get_or-take, length-take-le, take-suc}
use Rattle.graph.specs.Chordless.{atom_at}
use Rattle.enumeration.specs.Words.{Family, is_open}
use Rattle.enumeration.specs.Lawful.{Lawful}
use Rattle.search.proofs.Readings.{open-range}

-- one atom, and two
pub one-taken : (p : List ℕ) → 1 ≤ length p → take 1 p ≡ atom_at p 0 ∷ []
one-taken p some = take-suc p 0 0 (omega arith)

pub two-taken : (p : List ℕ) → 2 ≤ length p → take 2 p ≡ atom_at p 0 ∷ atom_at p 1 ∷ []
two-taken p some =
    rw (take-suc p 1 0 (omega arith)) (ap (λ (q : List ℕ). q ++ atom_at p 1 ∷ []) (one-taken p (omega arith)))

-- the atoms of an open beginning
pub opened-atoms :
    {F : Family} {n : ℕ} (p : List ℕ) → Lawful F → F.atoms ≡ n → is_open F p ≡ true → (i : ℕ) → i < length p →
    (1 ≤ atom_at p i) × (atom_at p i ≤ n)
opened-atoms {F} p L e o i h = let r = open-range F L p o i h in (r.0, rw e at r.1)

-- ---- in the array of a search

pub taken-length : (prefix : List ℕ) (len : ℕ) → length prefix ≡ 128 → len ≤ 128 → length (take len prefix) ≡ len
taken-length prefix len size short = length-take-le len prefix (omega arith)

pub open-atoms :
    {F : Family} {n : ℕ} (prefix : List ℕ) (len : ℕ) → Lawful F → F.atoms ≡ n → length prefix ≡ 128 → len ≤ 128 →
    is_open F (take len prefix) ≡ true → (i : ℕ) → i < len → (1 ≤ atom_at prefix i) × (atom_at prefix i ≤ n)
open-atoms {F} prefix len L e size short o i h =
    let at = get_or-take len prefix i 0 h in
    let length-is = taken-length prefix len size short in
    rw at at (opened-atoms (take len prefix) L e o i (omega arith))
