-- The plan of a beginning, from what is found at each kind and length.
-- The empty beginning of a ring search has the atoms up to the first that opens, and one of one atom may have the plan
-- that is kept; every other beginning has every atom.
use Prim.Native.Nat.{ℕ, ◌≤◌, ◌<◌}
use native.Mathlib.Decide.{dec_lt, ℕ_discrete}
use native.Mathlib.Omega.{arith}
use mathlib.Core.Path.{◌≡◌, refl, sym, ◌∙◌}
use mathlib.Core.Bool.{Bool, true, false, cond}
use mathlib.Core.List.{List, [], ◌∷◌}
use mathlib.Core.Logic.{◌⊎◌, inl, inr}
use lib.ListN.{length}
use Rattle.std.proofs.lemmas.List.{take_all}
use Rattle.std.specs.Prelude.{Option, Some, None}
use lib.Dec.{eqb}
use borrow.Author.Tests.{eq-eqb, ne_eqb, lt-leb}
use Rattle.graph.specs.Chordless.{Adjacency, atom_at}
use Rattle.graph.proofs.Below.{clash, either, false_of}
use Rattle.enumeration.specs.Words.{Family, is_open}
use Rattle.enumeration.specs.Lawful.{Lawful}
use Rattle.chordless.specs.Families.{rings, paths, up_to, shortest_paths}
use Rattle.chordless.proofs.UpTo.{upto_all}
use Rattle.chordless.proofs.Lawful.{rings-lawful, paths-lawful}
use Rattle.chordless.proofs.Paths.{path-not-one}
use Rattle.chordless.proofs.Nearer.{leading-paths}
use Rattle.atomset.specs.Set.{has, linked_by}
use Rattle.search.specs.Place.{family_in, lists_paths, kind_kept, ends_kept}
use Rattle.search.proofs.Readings.{family-in-lawful, family-in-atoms, kind-facts, KindFacts, path-kinds}
use Rattle.search.proofs.Readings.{ends-facts, ends_of, bound-facts}
use Rattle.openness.specs.declared.Plan.{Plan}
use Rattle.openness.specs.declared.FirstPlan.{FirstPlan}
use Rattle.openness.specs.declared.Found.{Found}
use Rattle.openness.specs.Plan.{family_by, most_atoms, rings_by, paths_by, first_length}
use Rattle.openness.specs.Plan.{Words, SearchTable, Planned, Ahead, Everywhere, FirstTells}
use Rattle.openness.specs.Plan.{Beginning, Planning, FoundAt}
use Rattle.openness.specs.Parts.{OneAtom, TwoEnds, FirstOf, FirstAhead, ShortRing, PathFirsts, begins_first}
use Rattle.openness.proofs.Arrays.{one-taken, opened-atoms}
use Rattle.openness.proofs.Rings.{rings-by-lawful, ring-by-not-short}

-- ---- the table of a search

-- no path is listed: the kind is neither 1 nor 3
no-path-kinds : (kind : ℕ) → lists_paths kind ≡ false → (kind ≡ 1 → ⊥) × (kind ≡ 3 → ⊥)
no-path-kinds kind ring = (
  λ one. clash (lists_paths kind) (rw one) ring,
  λ three. clash (lists_paths kind) (rw three) ring,
)

-- of a kind that lists rings, its bonds go both ways
pub ring-words :
    {n : ℕ} {table : List ℕ} {kind t : ℕ} → SearchTable n table kind t → lists_paths kind ≡ false → Words n table
ring-words {kind = kind} words ring =
    record {
      few = words.few;
      symmetric = words.both_ways (no-path-kinds kind ring).1;
      irreflexive = words.irreflexive;
    }

-- ---- the family of a kind

module _ (n : ℕ) (table : List ℕ) (kind s t : ℕ) where
  -- of every kind that lists no paths, rings of at most so many atoms: where it has no bound, no ring exceeds 128
  pub family-rings : lists_paths kind ≡ false → n ≤ 128 → family_by n table kind s t ≡
      rings_by n table (most_atoms kind s)
  unfolding family_by family_in
  family-rings ring few = go (ℕ_discrete kind 0)
    where
      adj : Adjacency
      adj = linked_by table

      go :
          Dec (kind ≡ 0) →
          cond (eqb kind 0) (rings n adj)
          (cond (eqb kind 1) (paths n adj s t) (cond (eqb kind 3) (shortest_paths n adj s t) (up_to s (rings n adj))))
          ≡ rings_by n table (most_atoms kind s)
      go (yes e) = rw e (sym (upto_all 128 (rings n adj) (rings-lawful n adj) few))
      go (no other) =
          let (no-path, no-shortest) = no-path-kinds kind ring in
          rw (ne_eqb kind 0 other, ne_eqb kind 1 no-path, ne_eqb kind 3 no-shortest, lt-leb kind 1 (omega arith))

  -- of the others, paths: where every bond leads nearer to t, the shortest paths are all paths
  pub family-paths :
      lists_paths kind ≡ true → SearchTable n table kind t → family_by n table kind s t ≡ paths_by n table s t
  unfolding family_by family_in
  family-paths path words =
      go (path-kinds kind path) ∙ sym (upto_all 128 _ (paths-lawful n (linked_by table) s t) words.few)
    where
      go : (kind ≡ 1) ⊎ (kind ≡ 3) → family_in n (linked_by table) kind s t ≡ paths n (linked_by table) s t
      go (inl one) = rw one
      go (inr three) = rw three (leading-paths (words.leading three) s)

  pub most-paths : lists_paths kind ≡ true → most_atoms kind s ≡ 128
  most-paths path = elim (path-kinds kind path) [
    | inl one ↦ rw one
    | inr three ↦ rw three
  ]

  -- of every kind, the members of a family that have at most so many atoms
  pub family-bounded :
      SearchTable n table kind t →
      (F : Family) × Lawful F × (family_by n table kind s t ≡ up_to (most_atoms kind s) F)
  family-bounded words =
      let adj = linked_by table in
      elim (either (lists_paths kind)) [
        | inl path ↦ (paths n adj s t, paths-lawful n adj s t, rw (most-paths path) (family-paths path words))
        | inr ring ↦ (rings n adj, rings-lawful n adj, family-rings ring words.few)
      ]

  pub family-by-lawful : Lawful (family_by n table kind s t)
  unfolding family_by
  family-by-lawful = family-in-lawful n (linked_by table) kind s t

  pub family-by-atoms : (family_by n table kind s t).atoms ≡ n
  unfolding family_by
  family-by-atoms = family-in-atoms n (linked_by table) kind s t

  pub kind-ends : lists_paths kind ≡ true → kind_kept n kind s t ≡ true → ends_kept n s t ≡ true
  kind-ends path e = go (kind-facts n kind s t e) (path-kinds kind path)
    where
      go : KindFacts n kind s t → (kind ≡ 1) ⊎ (kind ≡ 3) → ends_kept n s t ≡ true
      go (inl f) (inl one) = absurd (omega arith)
      go (inl f) (inr three) = absurd (omega arith)
      go (inr (inl f)) k = ends_of n s t f.1
      go (inr (inr f)) (inl one) = absurd (omega arith)
      go (inr (inr f)) (inr three) = absurd (omega arith)

  -- every kind has room for a ring
  pub most-room : kind_kept n kind s t ≡ true → 3 ≤ most_atoms kind s
  most-room e = go (kind-facts n kind s t e)
    where
      go : KindFacts n kind s t → 3 ≤ most_atoms kind s
      go (inl f) = rw f.0 (omega arith)
      go (inr (inl f)) = rw (most-paths f.0) (omega arith)
      go (inr (inr (two, bound, t-zero))) =
          let (low, high) = bound-facts bound in
          rw two (omega arith)

-- the first length of each kind
pub first-of-rings : (kind : ℕ) → lists_paths kind ≡ false → first_length kind ≡ 2
first-of-rings kind ring = rw ring

pub first-of-paths : (kind : ℕ) → lists_paths kind ≡ true → first_length kind ≡ 1
first-of-paths kind path = rw path

-- where one atom is too few for two sets, rings are listed
pub short-ring-kind : (kind : ℕ) → 1 < first_length kind → lists_paths kind ≡ false
short-ring-kind kind h = false_of (lists_paths kind) (λ path. omega (arith, first-of-paths kind path))

pub first-few : (kind : ℕ) → first_length kind ≤ 2
first-few kind = go (lists_paths kind)
  where
    go : (b : Bool) → cond b 1 2 ≤ 2
    go true = omega arith
    go false = omega arith

-- ---- the answers

pub planned-every : {F : Family} {p : List ℕ} {c : ℕ} {plan : Plan} → Everywhere F p plan → Planned F p c plan
planned-every {c = c} f = record { next = f c; ahead = λ v l none. f v; every = λ h v. f v }

-- at the empty beginning, from c on
planned-ahead : {F : Family} {c : ℕ} {plan : Plan} → Ahead F [] c plan → Planned F [] c plan
planned-ahead {c = c} f =
    record {
      next = f c (omega arith) (λ u l h. absurd (omega arith));
      ahead = f;
      every = λ g. absurd (omega arith);
    }

none-taken : (p : List ℕ) → length p ≡ 0 → p ≡ []
none-taken [] e = refl
none-taken (x ∷ p) e = absurd (omega arith)

-- ---- a ring beginning of one atom or none

-- the first atom ahead, and its plan
module _ (n : ℕ) (table : List ℕ) (most c : ℕ) where
  ahead-tells :
      (first : Option FirstPlan) → FirstAhead n table most c first → FirstTells (rings_by n table most) first
  ahead-tells None k kept e = cc
  ahead-tells (Some first) k kept e = let same : first ≡ kept = cc in rw same at k.tells

  -- it is the first that opens
  first_alone :
      (first : Option FirstPlan) (opens : List ℕ) → FirstAhead n table most c first →
      ((v : ℕ) → has opens v ≡ begins_first first v) → (v : ℕ) → c ≤ v →
      ((u : ℕ) → c ≤ u → u < v → has opens u ≡ false) → has opens v ≡ is_open (rings_by n table most) (v ∷ [])
  first_alone None opens k opens-is v l shut = opens-is v ∙ sym (k v l)
  first_alone (Some first) opens k opens-is v l shut = opens-is v ∙ go (dec_lt v a) (dec_lt a v)
    where
      a : ℕ
      a = first.atom

      go : Dec (v < a) → Dec (a < v) → eqb v a ≡ is_open (rings_by n table most) (v ∷ [])
      go (yes below) e = ne_eqb v a (λ q. omega arith) ∙ sym (k.before v l below)
      go (no other) (yes above) =
          absurd (clash (has opens a) (opens-is a ∙ eq-eqb a a refl) (shut a k.from above))
      go (no other) (no past) = let same : v ≡ a = omega arith in eq-eqb v a same ∙ sym (rw same k.begins)

module _ {n : ℕ} {table : List ℕ} {most : ℕ} {p : List ℕ} {c : ℕ}
    {first : Option FirstPlan} (q : ShortRing n table most p c first) where
  abbrev FoundHere : Found → Type 0
  FoundHere found = FoundAt (rings_by n table most) p c found

  pub next-atom : OneAtom n table most c
  next-atom = record { words = q.words; room = q.room; low = q.low; high = q.high }

  -- at the empty beginning
  pub start-found :
      {none opens : List ℕ} {ahead : Option FirstPlan} → length p ≡ 0 → ((v : ℕ) → has none v ≡ false) →
      FirstAhead n table most c ahead → ((v : ℕ) → has opens v ≡ begins_first ahead v) →
      FoundHere (record { plan = record { members = none; opens = opens }; first = ahead })
  start-found {opens = opens} {ahead = ahead} empty none_is k opens-is =
      record {
        planned = rw (none-taken p empty)
            (planned-ahead (λ v l shut. record {
              members = none_is v ∙ sym (ring-by-not-short n table most [] v (omega arith));
              opens = first_alone n table most c ahead opens k opens-is v l shut;
            }));
        tells = ahead-tells n table most c ahead k;
      }

  -- at one atom
  module _ (some : length p ≡ 0 → ⊥) where
    one-atom : p ≡ atom_at p 0 ∷ []
    one-atom = sym (take_all 1 p q.short) ∙ one-taken p (omega arith)

    pub first-atom : {a : ℕ} → a ≡ atom_at p 0 → OneAtom n table most a
    first-atom e =
        let L = rings-by-lawful n table most in
        let (low, high) = opened-atoms p L refl q.is_opened 0 (omega arith) in
        record { words = q.words; room = q.room; low = rw e low; high = rw e high }

    -- the plan that is kept is of this atom
    pub kept-found :
        {kept : FirstPlan} → first ≡ Some kept → atom_at p 0 ≡ kept.atom →
        FoundHere (record { plan = kept.plan; first = first })
    kept-found {kept} e same =
        let read : p ≡ kept.atom ∷ [] = rw same at one-atom in
        record { planned = rw read (planned-every (q.tells kept e)); tells = q.tells }

    -- a new plan
    pub made_found :
        {made : FirstPlan} → FirstOf n table most (atom_at p 0) made →
        FoundHere (record { plan = made.plan; first = Some made })
    made_found {made} k =
        record {
          planned = rw one-atom (planned-every k.tells);
          tells = λ kept e. let same : made ≡ kept = cc in
              let tells : Everywhere (rings_by n table most) (made.atom ∷ []) made.plan = rw k.atom_is k.tells in
              rw same at tells;
        }

-- ---- at an open beginning

pub path-ends :
    {n : ℕ} {table : List ℕ} {kind s t : ℕ} {p : List ℕ} → Beginning n table kind s t p →
    lists_paths kind ≡ true → TwoEnds n table s t
path-ends {n} {table} {kind} {s} {t} b path =
    record {
      few = b.words.few;
      irreflexive = b.words.irreflexive;
      ends = kind-ends n table kind s t path b.kinds;
    }

module _ {n : ℕ} {table : List ℕ} {kind s t : ℕ} {p : List ℕ} {c : ℕ}
    {first : Option FirstPlan} (q : Planning n table kind s t p c first) where
  abbrev FoundBy : Found → Type 0
  FoundBy found = FoundAt (family_by n table kind s t) p c found

  -- a ring search
  module _ (ring : lists_paths kind ≡ false) {most : ℕ} (most-is : most ≡ most_atoms kind s) where
    same : family_by n table kind s t ≡ rings_by n table most
    same = rw most-is (family-rings n table kind s t ring q.begun.words.few)

    pub ring-asked : length p < first_length kind → ShortRing n table most p c first
    ring-asked short =
        record {
          words = ring-words q.begun.words ring;
          room = rw most-is (most-room n table kind s t q.begun.kinds);
          short = omega (arith, first-few kind);
          is_opened = rw same at q.begun.is_opened;
          low = q.low;
          high = q.high;
          tells = rw same at q.tells;
        }

    pub ring-found : {found : Found} → FoundAt (rings_by n table most) p c found → FoundBy found
    ring-found k = rw same k

  -- a path search, at the empty beginning
  pub path-found :
      {none opens : List ℕ} → lists_paths kind ≡ true → length p < first_length kind → ((v : ℕ) → has none v ≡ false) →
      PathFirsts n table s t opens → FoundBy (record { plan = record { members = none; opens = opens }; first = first })
  path-found {none} {opens} e before none_is opens-is = record { planned = planned; tells = q.tells }
    where
      planned : Planned (family_by n table kind s t) p c (record { members = none; opens = opens })
      planned =
          let empty : length p ≡ 0 = omega (arith, first-of-paths kind e) in
          let differ = (ends-facts n s t (path-ends q.begun e).ends).differ in
          rw (family-paths n table kind s t e q.begun.words, none-taken p empty)
          (planned-every
          (λ v. record {
            members = none_is v ∙ sym (rw (path-not-one n (linked_by table) s t v differ));
            opens = opens-is v;
          }))
