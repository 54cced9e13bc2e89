-- The word table of a record that rule 9 allows: its bonds are the record's, so its families are too, and a plan over
-- its words answers as the record's own membership and openness are defined (request F-3 of document 02).
-- As the table has the record's bonds.
use Prim.Native.Nat.{ℕ, ◌≤◌}
use native.Mathlib.Decide.{ℕ_discrete}
use mathlib.Core.Path.{◌≡◌, sym, ap, ◌∙◌}
use mathlib.Core.Bool.{true}
use mathlib.Core.List.{List, [], ◌∷◌, ◌++◌}
use lib.ListN.{length, take}
use Rattle.std.specs.Prelude.{Option}
use Rattle.graph.specs.Chordless.{Adjacency}
use Rattle.enumeration.specs.Words.{Family, is_open}
use Rattle.chordless.specs.Distance.{Nearing}
use Rattle.chordless.proofs.Nearer.{nearing-leading, nearing-same, leading-irreflexive}
use Rattle.molecule.specs.declared.Molecule.{Molecule}
use Rattle.molecule.specs.Record.{bonded, well_formed}
use Rattle.molecule.proofs.Bonds.{rule9, bonded-irreflexive}
use Rattle.atomset.specs.Set.{has, linked_by, WordsOf}
use Rattle.atomset.proofs.Bonds.{linked-bonded, linked-same, linked-symmetric}
use Rattle.search.specs.declared.Search.{Search}
use Rattle.search.specs.Place.{family_in, family_of, family, beginning, kind_kept}
use Rattle.openness.specs.declared.Plan.{Plan}
use Rattle.openness.specs.declared.FirstPlan.{FirstPlan}
use Rattle.openness.specs.Plan.{family_by, Words, SearchTable, Tells, Planned, FirstTells, Beginning, Planning}
use Rattle.distance.specs.Layers.{Measured}
use Rattle.search.proofs.Readings.{Ends, ends-facts}
use Rattle.openness.proofs.Plans.{kind-ends}

-- ---- the table of a search over n atoms

module _ {n : ℕ} {table : List ℕ} {kind t : ℕ} where
  -- of every kind but 3 the word table
  pub words-table : Words n table → (kind ≡ 3 → ⊥) → SearchTable n table kind t
  words-table words other =
      record {
        few = words.few;
        irreflexive = words.irreflexive;
        both_ways = λ d. words.symmetric;
        leading = λ three. absurd (other three);
      }

  -- of shortest paths the bonds that lead one nearer to t
  pub near-table :
      {adj : Adjacency} → n ≤ 128 → kind ≡ 3 → Nearing n adj t (linked_by table) → SearchTable n table kind t
  near-table few three k =
      record {
        few = few;
        irreflexive = leading-irreflexive (nearing-leading k);
        both_ways = λ d. absurd (d three);
        leading = λ e. nearing-leading k;
      }

-- they have the shortest paths
pub near-family :
    {n t : ℕ} {adj near : Adjacency} (kind s : ℕ) → kind ≡ 3 → Nearing n adj t near →
    family_in n near kind s t ≡ family_in n adj kind s t
unfolding family_in
near-family kind s three k = rw three (sym (nearing-same k s))

module _ (n : ℕ) (words : List ℕ) (kind s t : ℕ) (three : kind ≡ 3) where
  -- distances to either end are measured where rule 16 allows the search
  pub near-measured :
      Words n words → kind_kept n kind s t ≡ true → Measured n (linked_by words) s × Measured n (linked_by words) t
  near-measured k kept = (
    record { few = k.few; both_ways = k.symmetric; atom = record { low = ends.s_low; high = ends.s_high } },
    record { few = k.few; both_ways = k.symmetric; atom = record { low = ends.t_low; high = ends.t_high } },
  )
    where
      ends : Ends n s t
      ends = ends-facts n s t (kind-ends n words kind s t (rw three) kept)

  pub near-open :
      (near p : List ℕ) → Nearing n (linked_by words) t (linked_by near) →
      is_open (family_by n near kind s t) p ≡ is_open (family_by n words kind s t) p
  unfolding family_by
  near-open near p k = ap (λ (F : Family). is_open F p) (near-family kind s three k)

-- ---- on a molecule

module _ (mol : Molecule) (ok : well_formed mol ≡ true) (table : List ℕ) (words : WordsOf mol.rows table) where
  -- The table is that of n atoms
  pub table-words : Words mol.atoms table
  table-words =
      record {
        few = (rule9 mol ok).atoms_high;
        symmetric = linked-symmetric mol ok table words;
        irreflexive = λ u l h. linked-bonded mol ok table words u u ∙ bonded-irreflexive mol ok u;
      }

  -- Its families are the record's
  pub family-same : (kind s t : ℕ) → family_by mol.atoms table kind s t ≡ family_of mol kind s t
  unfolding family_by family_of
  family-same kind s t =
      ap (λ (adj : Adjacency). family_in mol.atoms adj kind s t) (linked-same mol ok table words)

  pub open-same :
      (q : Search) → is_open (family_by mol.atoms table q.kind q.s q.t) (take q.len q.prefix) ≡
      is_open (family mol q) (beginning q)
  unfolding beginning
  open-same q = ap (λ (F : Family). is_open F (take q.len q.prefix)) (family-same q.kind q.s q.t)

-- The table of a search of a kind to t: that of `words_of`; of shortest paths that of `nearing`
pub record TableOf (mol : Molecule) (kind t : ℕ) (table : List ℕ) : Type 0 where
  pub plain : (kind ≡ 3 → ⊥) → WordsOf mol.rows table
  pub near : kind ≡ 3 → Nearing mol.atoms (bonded mol.atoms mol.rows) t (linked_by table)

-- The word table of the record's rows, and the bonds that lead nearer, found over it
module _ (mol : Molecule) (kind t : ℕ) (words : List ℕ) where
  pub plain_of : (kind ≡ 3 → ⊥) → WordsOf mol.rows words → TableOf mol kind t words
  plain_of other k = record { plain = λ d. k; near = λ three. absurd (other three) }

  module _ (ok : well_formed mol ≡ true) (three : kind ≡ 3) (k : WordsOf mol.rows words) where
    pub measured-of :
        (s : ℕ) → kind_kept mol.atoms kind s t ≡ true →
        Measured mol.atoms (linked_by words) s × Measured mol.atoms (linked_by words) t
    measured-of s kept = near-measured mol.atoms words kind s t three (table-words mol ok words k) kept

    pub near_of :
        (near : List ℕ) → Nearing mol.atoms (linked_by words) t (linked_by near) → TableOf mol kind t near
    near_of near found =
        record { plain = λ other. absurd (other three); near = λ e. rw (linked-same mol ok words k) at found }

module _
    {mol : Molecule} (ok : well_formed mol ≡ true) {kind t : ℕ} {table : List ℕ} (k : TableOf mol kind t table) where
  pub table_of : SearchTable mol.atoms table kind t
  table_of = elim (ℕ_discrete kind 3) [
    | yes three ↦ near-table (rule9 mol ok).atoms_high three (k.near three)
    | no other ↦ words-table (table-words mol ok table (k.plain other)) other
  ]

  -- Its families are the record's
  pub family-of : (s : ℕ) → family_by mol.atoms table kind s t ≡ family_of mol kind s t
  unfolding family_by family_of
  family-of s = elim (ℕ_discrete kind 3) [
    | yes three ↦ near-family kind s three (k.near three)
    | no other ↦ family-same mol ok table (k.plain other) kind s t
  ]

-- ---- from a record to the answer

-- A record that rule 9 allows, the table of a search on it, of a kind that rule 16 allows, an open beginning, and an
-- atom c
pub record Asked (mol : Molecule) (table : List ℕ) (kind s t : ℕ) (p : List ℕ) (c : ℕ) : Type 0 where
  pub allowed : well_formed mol ≡ true
  pub words : TableOf mol kind t table
  pub kinds : kind_kept mol.atoms kind s t ≡ true
  pub short : length p ≤ 127
  pub is_opened : is_open (family_of mol kind s t) p ≡ true
  pub low : 1 ≤ c
  pub high : c ≤ mol.atoms

-- The two sets of a plan answer for the atom v after the beginning p as membership and openness are defined
pub record AnswersAsDefined (mol : Molecule) (kind s t : ℕ) (p : List ℕ) (plan : Plan) (v : ℕ) : Type 0 where
  pub members : has plan.members v ≡ (family_of mol kind s t).member (p ++ v ∷ [])
  pub opens : has plan.opens v ≡ is_open (family_of mol kind s t) (p ++ v ∷ [])

-- `plan_at` may be called, with any first plan that tells, and what it ensures of the plan that it finds is that this
-- answers as defined: for the atom c, and for every atom where the beginning has an atom or more
pub record PlanAnswers (mol : Molecule) (table : List ℕ) (kind s t : ℕ) (p : List ℕ) (c : ℕ) : Type 0 where
  pub may_call :
      (first : Option FirstPlan) → FirstTells (family_by mol.atoms table kind s t) first →
      Planning mol.atoms table kind s t p c first
  pub next :
      (plan : Plan) → Planned (family_by mol.atoms table kind s t) p c plan → AnswersAsDefined mol kind s t p plan c
  pub every :
      (plan : Plan) → Planned (family_by mol.atoms table kind s t) p c plan → 1 ≤ length p → (v : ℕ) →
      AnswersAsDefined mol kind s t p plan v

-- Request F-3: on every record that rule 9 allows, for every open beginning and every atom, the test by words answers
-- as openness is defined and as membership is, for every kind of search
pub words-answer-openness :
    {mol : Molecule} {table : List ℕ} {kind s t : ℕ} {p : List ℕ} {c : ℕ} → Asked mol table kind s t p c →
    PlanAnswers mol table kind s t p c
words-answer-openness {mol} {table} {kind} {s} {t} {p} {c} q =
    record {
      may_call = λ first tells. record { begun = begun; low = q.low; high = q.high; tells = tells };
      next = λ plan k. defined plan c k.next;
      every = λ plan k some v. defined plan v (k.every some v);
    }
  where
    same : family_by mol.atoms table kind s t ≡ family_of mol kind s t
    same = family-of q.allowed q.words s

    begun : Beginning mol.atoms table kind s t p
    begun =
        record {
          words = table_of q.allowed q.words;
          kinds = q.kinds;
          short = q.short;
          is_opened = rw same q.is_opened;
        }

    defined :
        (plan : Plan) (v : ℕ) → Tells (family_by mol.atoms table kind s t) p plan v →
        AnswersAsDefined mol kind s t p plan v
    defined plan v k = record { members = rw same at k.members; opens = rw same at k.opens }
