-- What the inner functions ask and return. Nothing to believe:
-- the laws of proofs/ relate them to members and open beginnings.
use Rattle.std.specs.Prelude.{ℕ, suc, ◌-◌, ◌≤◌, ◌<◌, ◌≡◌, Bool, true, false, ◌&&◌, List, [], ◌∷◌, length, eqb}
use Rattle.std.specs.Prelude.{Option, Some, None}
use Rattle.graph.specs.Chordless.{Adjacency}
use Rattle.enumeration.specs.Words.{Family, is_open}
use Rattle.chordless.specs.Reach.{Irreflexive}
use Rattle.atomset.specs.Set.{has, linked_by}
use Rattle.search.specs.Place.{ends_kept}
use Rattle.openness.specs.declared.Aim.{Aim}
use Rattle.openness.specs.declared.Beside.{Beside}
use Rattle.openness.specs.declared.FirstPlan.{FirstPlan}
use Rattle.openness.specs.Plan.{rings_by, paths_by, Words, Everywhere, HandedOn, Steered, EachOpens, FirstTells}

-- an atom that may begin a ring of at most so many atoms
pub record OneAtom (n : ℕ) (table : List ℕ) (most c : ℕ) : Type 0 where
  pub words : Words n table
  pub room : 3 ≤ most
  pub low : 1 ≤ c
  pub high : c ≤ n

-- two atoms that may begin a ring
pub record TwoAtoms (n : ℕ) (table : List ℕ) (s v : ℕ) : Type 0 where
  pub words : Words n table
  pub first_low : 1 ≤ s
  pub first_high : s ≤ n
  pub second_low : 1 ≤ v
  pub second_high : v ≤ n

-- the ends of a path, over a table of n atoms
pub record TwoEnds (n : ℕ) (table : List ℕ) (s t : ℕ) : Type 0 where
  pub few : n ≤ 128
  pub irreflexive : Irreflexive n (linked_by table)
  pub ends : ends_kept n s t ≡ true

-- the closing atoms and the free ones that are bonded to the last atom x
pub record BesideLast (adj : Adjacency) (x : ℕ) (aim : Aim) (near : Beside) : Type 0 where
  pub members_is : (v : ℕ) → has near.members v ≡ (has aim.goal v && adj x v)
  pub want_is : (v : ℕ) → has near.want v ≡ (has aim.free v && adj x v)

-- a beginning that the sets steer, the sets handed on, the steps left, its members and its candidates; of shortest
-- paths each atom beside the last one makes a member or opens
pub record Stepping (F : Family) (adj : Adjacency) (kind most : ℕ) (p : List ℕ) (x : ℕ) (aim next : Aim) (steps : ℕ)
    (members want : List ℕ) : Type 0 where
  pub steered : Steered F adj most p x aim
  pub each : kind ≡ 3 → EachOpens F adj p x
  pub left : steps ≡ most - suc (length p)
  pub handed : HandedOn adj x aim next
  pub members_is : (v : ℕ) → has members v ≡ (has aim.goal v && adj x v)
  pub want_is : (v : ℕ) → has want v ≡ (has aim.free v && adj x v)

-- the plan of the beginning of one atom, of rings of at most so many atoms
pub record FirstOf (n : ℕ) (table : List ℕ) (most atom : ℕ) (first : FirstPlan) : Type 0 where
  pub atom_is : first.atom ≡ atom
  pub tells : Everywhere (rings_by n table most) (atom ∷ []) first.plan

-- of the atoms from c on, the first that begins a ring of at most so many atoms, and its plan
pub record FirstFound (n : ℕ) (table : List ℕ) (most c : ℕ) (first : FirstPlan) : Type 0 where
  pub tells : Everywhere (rings_by n table most) (first.atom ∷ []) first.plan
  pub high : first.atom ≤ n
  pub from : c ≤ first.atom
  pub begins : is_open (rings_by n table most) (first.atom ∷ []) ≡ true
  pub before : (v : ℕ) → c ≤ v → v < first.atom → is_open (rings_by n table most) (v ∷ []) ≡ false

-- the same where one does; otherwise none from c on begins one
abbrev pub FirstAhead : ℕ → List ℕ → ℕ → ℕ → Option FirstPlan → Type 0
FirstAhead n table most c None = (v : ℕ) → c ≤ v → is_open (rings_by n table most) (v ∷ []) ≡ false
FirstAhead n table most c (Some first) = FirstFound n table most c first

-- whether v is the atom of the first plan
abbrev pub begins_first : Option FirstPlan → ℕ → Bool
begins_first None v = false
begins_first (Some first) v = eqb v first.atom

-- an open beginning of one atom or none, of rings of at most so many atoms, and the first plan that is kept
pub record ShortRing (n : ℕ) (table : List ℕ) (most : ℕ) (p : List ℕ) (c : ℕ) (first : Option FirstPlan) : Type 0
  where
    pub words : Words n table
    pub room : 3 ≤ most
    pub short : length p ≤ 1
    pub is_opened : is_open (rings_by n table most) p ≡ true
    pub low : 1 ≤ c
    pub high : c ≤ n
    pub tells : FirstTells (rings_by n table most) first

-- the set has the atoms that begin a path from s to t
abbrev pub PathFirsts : ℕ → List ℕ → ℕ → ℕ → List ℕ → Type 0
PathFirsts n table s t set = (v : ℕ) → has set v ≡ is_open (paths_by n table s t) (v ∷ [])
