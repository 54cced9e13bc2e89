-- What is kept by length: of the beginnings of i atoms at place i. Nothing to believe: it serves the proof of the fast
-- loop.
use Rattle.std.specs.Prelude.{ℕ, suc, ◌+◌, ◌-◌, ◌≤◌, ◌<◌, ◌≡◌, Bool, true, ◌&&◌, ◌||◌}
use Rattle.std.specs.Prelude.{List, [], ◌∷◌, ◌++◌, length, get_or, take, set, leb}
use Rattle.graph.specs.Chordless.{Adjacency}
use Rattle.enumeration.specs.Words.{Family, is_open}
use Rattle.enumeration.specs.Lawful.{Lawful}
use Rattle.atomset.specs.Set.{has}
use Rattle.openness.specs.declared.Aim.{Aim}
use Rattle.dive.specs.declared.LevelWords.{LevelWords}
use Rattle.dive.specs.declared.Level.{Level}
use Rattle.openness.specs.Plan.{HandedOn, EachOpens, Steered}

-- no atoms
abbrev pub no_words : LevelWords
no_words = record { goal = 0; free = 0; rest = 0 }

abbrev pub no_level : Level
no_level = record { low = no_words; high = no_words }

-- the sets of a level, each by its two words
abbrev pub aim_of : Level → Aim
aim_of l = record { goal = l.low.goal ∷ l.high.goal ∷ []; free = l.low.free ∷ l.high.free ∷ [] }

abbrev pub rest_of : Level → List ℕ
rest_of l = l.low.rest ∷ l.high.rest ∷ []

-- a level with other sets that steer, and with other atoms to be tried
abbrev pub with_aim : Level → Aim → Level
with_aim l aim = record {
  low = record { goal = get_or aim.goal 0 0; free = get_or aim.free 0 0; rest = l.low.rest };
  high = record { goal = get_or aim.goal 1 0; free = get_or aim.free 1 0; rest = l.high.rest };
}

abbrev pub with_rest : Level → List ℕ → Level
with_rest l rest = record {
  low = record { goal = l.low.goal; free = l.low.free; rest = get_or rest 0 0 };
  high = record { goal = l.high.goal; free = l.high.free; rest = get_or rest 1 0 };
}

-- there is room for what is kept of the beginnings of i atoms, and so of shorter ones
abbrev pub LevelRoom : ℕ → List Level → Type 0
LevelRoom i levels = i < length levels

-- the two sets that steer the beginnings of i atoms
abbrev pub aim_in : List Level → ℕ → Aim
aim_in levels i = aim_of (get_or levels i no_level)

-- the atoms still to be tried at the beginning of i atoms
abbrev pub rest_in : List Level → ℕ → List ℕ
rest_in levels i = rest_of (get_or levels i no_level)

abbrev pub kept_aim : List Level → ℕ → Aim → List Level
kept_aim levels i aim = set levels i (with_aim (get_or levels i no_level) aim)

abbrev pub kept_rest : List Level → ℕ → List ℕ → List Level
kept_rest levels i rest = set levels i (with_rest (get_or levels i no_level) rest)

-- v makes a member of the beginning p, or opens it
abbrev pub goes_on_by : Family → List ℕ → ℕ → Bool
goes_on_by F p v = F.member (p ++ v ∷ []) || is_open F (p ++ v ∷ [])

-- the beginning of `len` atoms with the last atom x, past which so many steps are left, is planned: the atoms to be
-- tried are kept, and the sets handed on; the other lengths are as they were
pub record LevelPlanned (adj : Adjacency) (kind x len steps : ℕ) (before after : List Level) : Type 0 where
  pub size : length after ≡ length before
  pub handed : HandedOn adj x (aim_in before len) (aim_in after (suc len))
  pub to_try :
      (F : Family) (longest : ℕ) (p : List ℕ) → Steered F adj longest p x (aim_in before len) →
      (kind ≡ 3 → EachOpens F adj p x) → steps ≡ longest - suc (length p) → (v : ℕ) →
      has (rest_in after len) v ≡ goes_on_by F p v
  pub aims_kept : (i : ℕ) → i ≤ len → aim_in after i ≡ aim_in before i
  pub rests_kept : (i : ℕ) → suc i ≤ len → rest_in after i ≡ rest_in before i

-- the sets steer the open beginning p, with the last atom x, to members of at most `longest` atoms, and are handed on
pub record Led (F : Family) (adj : Adjacency) (longest : ℕ) (p : List ℕ) (x : ℕ) (aim next : Aim) : Type 0 where
  pub steered : Steered F adj longest p x aim
  pub handed : HandedOn adj x aim next

-- the beginning p of `len` atoms, which has got its last atom x, is planned, in a search whose sets steer beginnings of
-- `first` atoms or more: those of a longer one were handed on, those of one of `first` atoms are made
pub record LevelAdded (F : Family) (adj : Adjacency) (longest first x len : ℕ) (p : List ℕ) (before after : List Level)
    : Type 0
  where
    pub size : length after ≡ length before
    pub aims_kept : (i : ℕ) → i < len → aim_in after i ≡ aim_in before i
    pub aim_kept : first < len → aim_in after len ≡ aim_in before len
    pub rests_kept : (i : ℕ) → i < len → rest_in after i ≡ rest_in before i
    pub led :
        (first < len → Steered F adj longest p x (aim_in before len)) →
        Led F adj longest p x (aim_in after len) (aim_in after (suc len))
    pub to_try :
        (first < len → Steered F adj longest p x (aim_in before len)) → (v : ℕ) →
        has (rest_in after len) v ≡ goes_on_by F p v

-- an open beginning of i atoms on the way down, whose next atom is c, and what is kept for its length: from `first`
-- atoms on the sets steer it; of a shorter one the atoms that make a member are kept as those that may close one. The
-- atoms still to be tried are those from the next one on that make a member or open it
pub record Stage (F : Family) (adj : Adjacency) (longest first : ℕ) (prefix : List ℕ) (levels : List Level) (i c : ℕ)
    : Type 0 where
  pub lawful : Lawful F
  pub is_opened : is_open F (take i prefix) ≡ true
  pub long :
      first ≤ i → Led F adj longest (take i prefix) (get_or prefix (i - 1) 0) (aim_in levels i) (aim_in levels (suc i))
  pub short : i < first → (v : ℕ) → has (aim_in levels i).goal v ≡ F.member (take i prefix ++ v ∷ [])
  pub to_try : (v : ℕ) → 1 ≤ v → has (rest_in levels i) v ≡ (leb c v && goes_on_by F (take i prefix) v)
