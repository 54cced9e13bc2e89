-- What a trial finds at a beginning, as two sets of atoms, over the table of a search (`SearchTable`).
use Rattle.std.specs.Prelude.{ℕ, suc, ◌-◌, ◌≤◌, ◌<◌, ◌≡◌, true, false, ◌||◌, cond, leb, eqb}
use Rattle.std.specs.Prelude.{List, [], ◌∷◌, ◌++◌, length, Option}
use Rattle.std.specs.Option.{ForSome}
use Rattle.graph.specs.Chordless.{Adjacency}
use Rattle.enumeration.specs.Words.{Family, is_open}
use Rattle.enumeration.specs.Lawful.{Lawful}
use Rattle.chordless.specs.Families.{rings, paths, up_to}
use Rattle.chordless.specs.Reach.{Irreflexive, Symmetric}
use Rattle.chordless.specs.Distance.{Leading}
use Rattle.chordless.specs.Steers.{without, Steers}
use Rattle.atomset.specs.Set.{has, linked_by}
use Rattle.search.specs.Place.{family_in, lists_paths, kind_kept}
use Rattle.openness.specs.declared.Plan.{Plan}
use Rattle.openness.specs.declared.Aim.{Aim}
use Rattle.openness.specs.declared.FirstPlan.{FirstPlan}
use Rattle.openness.specs.declared.Found.{Found}
use Rattle.openness.specs.declared.Wanted.{Wanted}

-- The family of a kind over a word table
unfoldable pub family_by : ℕ → List ℕ → ℕ → ℕ → ℕ → Family
family_by n table kind s t = family_in n (linked_by table) kind s t

-- the most atoms that a member may have: of kind 2 its largest size s; of the other kinds 128, which no member exceeds
abbrev pub most_atoms : ℕ → ℕ → ℕ
most_atoms kind s = cond (leb kind 1 || eqb kind 3) 128 s

-- the steps that are left past an atom added to a beginning of `len` atoms
abbrev pub steps_left : ℕ → ℕ → ℕ → ℕ
steps_left kind s len = most_atoms kind s - suc len

-- the rings of at most so many atoms over a word table, and the paths, of which none has more than 128
abbrev pub rings_by : ℕ → List ℕ → ℕ → Family
rings_by n table most = up_to most (rings n (linked_by table))

abbrev pub paths_by : ℕ → List ℕ → ℕ → ℕ → Family
paths_by n table s t = up_to 128 (paths n (linked_by table) s t)

-- a word table of n atoms
pub record Words (n : ℕ) (table : List ℕ) : Type 0 where
  pub few : n ≤ 128
  pub symmetric : Symmetric (linked_by table)
  pub irreflexive : Irreflexive n (linked_by table)

-- the bonds of a table go both ways, but for those of shortest paths
abbrev pub BothWays : ℕ → Adjacency → Type 0
BothWays kind adj = (kind ≡ 3 → ⊥) → Symmetric adj

-- The table of a search of a kind to t: a word table of n atoms; of shortest paths every bond of it leads one nearer
-- to t
pub record SearchTable (n : ℕ) (table : List ℕ) (kind t : ℕ) : Type 0 where
  pub few : n ≤ 128
  pub irreflexive : Irreflexive n (linked_by table)
  pub both_ways : BothWays kind (linked_by table)
  pub leading : kind ≡ 3 → Leading n t (linked_by table)

-- The sets tell whether the beginning p with v added is a member, and whether it is open
pub record Tells (F : Family) (p : List ℕ) (plan : Plan) (v : ℕ) : Type 0 where
  pub members : has plan.members v ≡ F.member (p ++ v ∷ [])
  pub opens : has plan.opens v ≡ is_open F (p ++ v ∷ [])

-- They tell it of every atom
abbrev pub Everywhere : Family → List ℕ → Plan → Type 0
Everywhere F p plan = (v : ℕ) → Tells F p plan v

-- They tell it of every atom from c up to the first that opens, that one included
abbrev pub Ahead : Family → List ℕ → ℕ → Plan → Type 0
Ahead F p c plan = (v : ℕ) → c ≤ v → ((u : ℕ) → c ≤ u → u < v → has plan.opens u ≡ false) → Tells F p plan v

-- They tell it of the next atom c, of those up to the first that opens, and of every atom where p has an atom or more
pub record Planned (F : Family) (p : List ℕ) (c : ℕ) (plan : Plan) : Type 0 where
  pub next : Tells F p plan c
  pub ahead : Ahead F p c plan
  pub every : 1 ≤ length p → Everywhere F p plan

-- the first plan, if there is one, tells of the beginning of its atom
abbrev pub FirstTells : Family → Option FirstPlan → Type 0
FirstTells F first = ForSome first (λ kept. Everywhere F (kept.atom ∷ []) kept.plan)

-- an open beginning of a search
pub record Beginning (n : ℕ) (table : List ℕ) (kind s t : ℕ) (p : List ℕ) : Type 0 where
  pub words : SearchTable n table kind t
  pub kinds : kind_kept n kind s t ≡ true
  pub short : length p ≤ 127
  pub is_opened : is_open (family_by n table kind s t) p ≡ true

-- the family of what a search wants, and an open beginning of it
abbrev pub family_wanted : Wanted → Family
family_wanted w = family_by w.n w.table.now w.kind w.s w.t

abbrev pub Begins : Wanted → List ℕ → Type 0
Begins w p = Beginning w.n w.table.now w.kind w.s w.t p

-- an open beginning that is to be planned from the next atom c on, and the first plan that is kept
pub record Planning (n : ℕ) (table : List ℕ) (kind s t : ℕ) (p : List ℕ) (c : ℕ) (first : Option FirstPlan) : Type 0
  where
    pub begun : Beginning n table kind s t p
    pub low : 1 ≤ c
    pub high : c ≤ n
    pub tells : FirstTells (family_by n table kind s t) first

-- what is found there, and the first plan that is kept from then on
pub record FoundAt (F : Family) (p : List ℕ) (c : ℕ) (found : Found) : Type 0 where
  pub planned : Planned F p c found.plan
  pub tells : FirstTells F found.first

-- the length of the shortest beginnings that two sets steer, by the kind
abbrev pub first_length : ℕ → ℕ
first_length kind = cond (lists_paths kind) 1 2

-- the sets handed on past the last atom x
pub record HandedOn (adj : Adjacency) (x : ℕ) (aim next : Aim) : Type 0 where
  pub goal-left : (u : ℕ) → has next.goal u ≡ without adj x (has aim.goal) u
  pub free-left : (u : ℕ) → has next.free u ≡ without adj x (has aim.free) u

-- an open beginning p, with the last atom x, that the sets steer to members of at most so many atoms
pub record Steered (F : Family) (adj : Adjacency) (most : ℕ) (p : List ℕ) (x : ℕ) (aim : Aim) : Type 0 where
  pub lawful : Lawful F
  pub some : 1 ≤ length p
  pub is_opened : is_open F p ≡ true
  pub steers : Steers F adj most p x (has aim.goal) (has aim.free)

-- every atom bonded to the last atom x of the beginning p makes a member or opens it
abbrev pub EachOpens : Family → Adjacency → List ℕ → ℕ → Type 0
EachOpens F adj p x =
    (v : ℕ) → adj x v ≡ true → F.member (p ++ v ∷ []) ≡ false → is_open F (p ++ v ∷ []) ≡ true

-- The plan tells of every atom, at each beginning that the sets steer, with the last atom x, where so many steps are
-- left past an atom added; of shortest paths, where each atom bonded to x makes a member or opens
abbrev pub PlansBy : Adjacency → ℕ → ℕ → Aim → ℕ → Plan → Type 0
PlansBy adj kind x aim steps plan =
    (F : Family) (most : ℕ) (p : List ℕ) → Steered F adj most p x aim → (kind ≡ 3 → EachOpens F adj p x) →
    steps ≡ most - suc (length p) → Everywhere F p plan
