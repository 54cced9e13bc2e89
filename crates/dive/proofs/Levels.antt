-- What is kept by length: what is kept for a length is found again, and the other lengths are as they were.
use Prim.Native.Nat.{ℕ, suc, ◌+◌, ◌-◌, ◌≤◌, ◌<◌}
use native.Mathlib.Numerals.{add-one}
use native.Mathlib.Omega.{arith}
use native.Mathlib.Decide.{ℕ_discrete, dec_le, dec_lt}
use mathlib.Core.Path.{◌≡◌, refl, sym, ap, ap₂, ◌∙◌}
use mathlib.Core.Bool.{true, false, ◌||◌}
use mathlib.Core.List.{List, [], ◌∷◌}
use mathlib.Core.Logic.{◌⊎◌, inl, inr}
use lib.ListN.{length, get_or, take, set, length-set}
use lib.Seq.{take-length, get_or-set_same, get_or-set_other}
use borrow.Author.Tests.{leb-true}
use Rattle.std.proofs.lemmas.List.{set_past}
use Rattle.graph.specs.Chordless.{Adjacency}
use Rattle.graph.proofs.Below.{either, and_parts}
use Rattle.enumeration.specs.Words.{Family}
use Rattle.chordless.proofs.Steers.{steers-same}
use Rattle.molecule.specs.Record.{is_atom}
use Rattle.atomset.specs.Set.{has}
use Rattle.atomset.proofs.Members.{has-outside, has_first, has-second}
use Rattle.openness.specs.declared.Aim.{Aim}
use Rattle.openness.specs.declared.Plan.{Plan}
use Rattle.openness.specs.Plan.{EachOpens, HandedOn, Steered, PlansBy}
use Rattle.dive.specs.declared.Level.{Level}
use Rattle.dive.specs.Levels.{no_level, aim_of, rest_of, LevelRoom, aim_in, rest_in, kept_aim, kept_rest}
use Rattle.dive.specs.Levels.{LevelPlanned, Led, LevelAdded}

-- ---- sets with the same two words hold the same atoms

pub same-words :
    (these those : List ℕ) → get_or these 0 0 ≡ get_or those 0 0 → get_or these 1 0 ≡ get_or those 1 0 → (u : ℕ) →
    has these u ≡ has those u
same-words these those first second u = go (either (is_atom 128 u))
  where
    within : 1 ≤ u → u ≤ 128 → Dec (u ≤ 64) → has these u ≡ has those u
    within l h (yes m) = rw (has_first these u l m, has_first those u l m, first)
    within l h (no m) =
        let past : 65 ≤ u = omega arith in
        rw (has-second these u past h, has-second those u past h, second)

    go : (is_atom 128 u ≡ true) ⊎ (is_atom 128 u ≡ false) → has these u ≡ has those u
    go (inl e) =
        let parts = and_parts _ _ e in
        within (leb-true 1 u parts.0) (leb-true u 128 parts.1) (dec_le u 64)
    go (inr e) = rw (has-outside these u e, has-outside those u e)

pub has-pair : (words : List ℕ) (u : ℕ) → has (get_or words 0 0 ∷ get_or words 1 0 ∷ []) u ≡ has words u
has-pair words u = same-words (get_or words 0 0 ∷ get_or words 1 0 ∷ []) words refl refl u

-- a list of two words is those two
two-words : (words : List ℕ) → length words ≡ 2 → get_or words 0 0 ∷ get_or words 1 0 ∷ [] ≡ words
two-words [] e = absurd (omega arith)
two-words (x ∷ []) e = absurd (omega arith)
two-words (x ∷ y ∷ []) e = refl
two-words (x ∷ y ∷ z ∷ rest) e = absurd (omega arith)

-- a part that is kept as it was at one length is so at every length
part-kept :
    {A : Type 0} (f : Level → A) (levels : List Level) (i : ℕ) (l : Level) → f l ≡ f (get_or levels i no_level) →
    (j : ℕ) → f (get_or (set levels i l) j no_level) ≡ f (get_or levels j no_level)
part-kept f levels i l same j = go (ℕ_discrete j i) (dec_lt i (length levels))
  where
    go :
        Dec (j ≡ i) → Dec (i < length levels) →
        f (get_or (set levels i l) j no_level) ≡ f (get_or levels j no_level)
    go (yes e) (yes room) = rw e (ap f (get_or-set_same levels i l no_level room) ∙ same)
    go (yes e) (no past) =
        let unchanged : set levels i l ≡ levels = set_past levels i l (omega arith) in
        ap (λ (k : List Level). f (get_or k j no_level)) unchanged
    go (no d) r = ap f (get_or-set_other levels i j l no_level d)

module _ (levels : List Level) (i : ℕ) where
  -- ---- the atoms to be tried

  module _ (rest : List ℕ) where
    pub length-kept-rest : length (kept_rest levels i rest) ≡ length levels
    length-kept-rest = simp length-set

    pub rest-kept-same : LevelRoom i levels → (u : ℕ) → has (rest_in (kept_rest levels i rest) i) u ≡ has rest u
    rest-kept-same room u =
        ap (λ (l : Level). has (rest_of l) u) (get_or-set_same levels i _ no_level room) ∙ has-pair rest u

    -- a set of two words, which every set of the programs is, is found again word for word
    pub rest-kept-words : LevelRoom i levels → length rest ≡ 2 → rest_in (kept_rest levels i rest) i ≡ rest
    rest-kept-words room two =
        ap (λ (l : Level). rest_of l) (get_or-set_same levels i _ no_level room) ∙ two-words rest two

    pub rest-kept-other : (j : ℕ) → (j ≡ i → ⊥) → rest_in (kept_rest levels i rest) j ≡ rest_in levels j
    rest-kept-other j d = ap (λ (l : Level). rest_of l) (get_or-set_other levels i j _ no_level d)

    pub aim-past-rest : (j : ℕ) → aim_in (kept_rest levels i rest) j ≡ aim_in levels j
    aim-past-rest = part-kept (λ (l : Level). aim_of l) levels i _ refl

  -- ---- the two sets that steer

  module _ (aim : Aim) where
    pub length-kept-aim : length (kept_aim levels i aim) ≡ length levels
    length-kept-aim = simp length-set

    module _ (room : LevelRoom i levels) (u : ℕ) where
      pub goal-kept-same : has (aim_in (kept_aim levels i aim) i).goal u ≡ has aim.goal u
      goal-kept-same =
          ap (λ (l : Level). has (aim_of l).goal u) (get_or-set_same levels i _ no_level room) ∙ has-pair aim.goal u

      pub free-kept-same : has (aim_in (kept_aim levels i aim) i).free u ≡ has aim.free u
      free-kept-same =
          ap (λ (l : Level). has (aim_of l).free u) (get_or-set_same levels i _ no_level room) ∙ has-pair aim.free u

    -- two sets of two words are found again word for word
    pub aim-kept-same :
        LevelRoom i levels → length aim.goal ≡ 2 → length aim.free ≡ 2 → aim_in (kept_aim levels i aim) i ≡ aim
    aim-kept-same room goal free =
        ap (λ (l : Level). aim_of l) (get_or-set_same levels i _ no_level room)
        ∙ rw (two-words aim.goal goal, two-words aim.free free)

    pub aim-kept-other : (j : ℕ) → (j ≡ i → ⊥) → aim_in (kept_aim levels i aim) j ≡ aim_in levels j
    aim-kept-other j d = ap (λ (l : Level). aim_of l) (get_or-set_other levels i j _ no_level d)

    pub rest-past-aim : (j : ℕ) → rest_in (kept_aim levels i aim) j ≡ rest_in levels j
    rest-past-aim = part-kept (λ (l : Level). rest_of l) levels i _ refl

-- ---- a beginning is planned

-- what is found for a beginning with the last atom x: the sets handed on, the plan, the atoms to be tried
pub record Found (adj : Adjacency) (kind x steps : ℕ) (aim next : Aim) (plan : Plan) (rest : List ℕ) : Type 0 where
  pub handing : HandedOn adj x aim next
  pub telling : PlansBy adj kind x aim steps plan
  pub either_set : (v : ℕ) → has rest v ≡ (has plan.members v || has plan.opens v)

module _ {adj : Adjacency} {kind x steps : ℕ} {next : Aim} {plan : Plan} {rest : List ℕ} where
  pub level-planned :
      (levels : List Level) (len : ℕ) → LevelRoom (suc len) levels →
      Found adj kind x steps (aim_in levels len) next plan rest →
      LevelPlanned adj kind x len steps levels (kept_rest (kept_aim levels (len + 1) next) len rest)
  level-planned levels len room found =
      let longer = kept_aim levels (suc len) next in
      let room' : LevelRoom len longer = omega (arith, length-kept-aim levels (suc len) next) in
      rw (add-one len)
      (record {
        size = length-kept-rest longer len rest ∙ length-kept-aim levels (suc len) next;
        handed = record {
          goal-left = λ u.
              ap (λ (a : Aim). has a.goal u) (aim-past-rest longer len rest (suc len))
              ∙ goal-kept-same levels (suc len) next room u ∙ found.handing.goal-left u;
          free-left = λ u.
              ap (λ (a : Aim). has a.free u) (aim-past-rest longer len rest (suc len))
              ∙ free-kept-same levels (suc len) next room u ∙ found.handing.free-left u;
        };
        to_try = λ F longest p steered each left v.
            let tells = found.telling F longest p steered each left v in
            rest-kept-same longer len rest room' v ∙ found.either_set v ∙ ap₂ ◌||◌ tells.members tells.opens;
        aims_kept = λ i l.
            aim-past-rest longer len rest i ∙ aim-kept-other levels (suc len) next i (λ e. omega arith);
        rests_kept = λ i l.
            rest-kept-other longer len rest i (λ e. omega arith) ∙ rest-past-aim levels (suc len) next i;
      })

-- ---- the sets steer what they are kept for

module _ {F : Family} {adj : Adjacency} {longest : ℕ} {p : List ℕ} {x : ℕ} where
  pub kept-steers :
      (levels : List Level) (i : ℕ) (aim : Aim) → LevelRoom i levels → Steered F adj longest p x aim →
      Steered F adj longest p x (aim_in (kept_aim levels i aim) i)
  kept-steers levels i aim room k = record {
    lawful = k.lawful;
    some = k.some;
    is_opened = k.is_opened;
    steers =
        steers-same (λ u. sym (goal-kept-same levels i aim room u)) (λ u. sym (free-kept-same levels i aim room u))
        k.steers;
  }

  -- they are as they were after the beginning is planned
  pub planned-led :
      {kind len steps : ℕ} {before after : List Level} → LevelPlanned adj kind x len steps before after →
      Steered F adj longest p x (aim_in before len) → Led F adj longest p x (aim_in after len) (aim_in after (suc len))
  planned-led {len} plan k =
      let still = plan.aims_kept len (omega arith) in
      record { steered = rw still k; handed = rw still plan.handed }

-- the first ones, which are those of the whole beginning
pub steered-whole :
    {F : Family} {adj : Adjacency} {longest : ℕ} (p : List ℕ) {x k : ℕ} {aim : Aim} → x ≡ get_or p (length p - 1) 0 →
    length p ≡ k → Steered F adj longest (take k p) (get_or p (k - 1) 0) aim → Steered F adj longest p x aim
steered-whole p last_is same steered = rw (← same, take-length p, ← last_is) at steered

-- ---- a beginning that has got its last atom

module _ {F : Family} {adj : Adjacency} {kind longest first x len steps : ℕ} {p : List ℕ} {levels after : List Level}
    (each : kind ≡ 3 → EachOpens F adj p x) (left : steps ≡ longest - suc (length p)) where
  -- the shortest that the sets steer: they are made and kept
  pub added-first :
      (aim : Aim) → LevelRoom len levels → len ≡ first → Steered F adj longest p x aim →
      LevelPlanned adj kind x len steps (kept_aim levels len aim) after →
      LevelAdded F adj longest first x len p levels after
  added-first aim room same steered plan =
      let sets = kept-steers levels len aim room steered in
      record {
        size = plan.size ∙ length-kept-aim levels len aim;
        aims_kept = λ i l. plan.aims_kept i (omega arith) ∙ aim-kept-other levels len aim i (λ e. omega arith);
        aim_kept = λ l. absurd (omega arith);
        rests_kept = λ i l. plan.rests_kept i (omega arith) ∙ rest-past-aim levels len aim i;
        led = λ before. planned-led plan sets;
        to_try = λ before. plan.to_try F longest p sets each left;
      }

  -- a longer one: they were handed on
  pub added-later :
      first ≤ len → (len ≡ first → ⊥) → LevelPlanned adj kind x len steps levels after →
      LevelAdded F adj longest first x len p levels after
  added-later long other plan = record {
    size = plan.size;
    aims_kept = λ i l. plan.aims_kept i (omega arith);
    aim_kept = λ l. plan.aims_kept len (omega arith);
    rests_kept = λ i l. plan.rests_kept i (omega arith);
    led = λ before. planned-led plan (before (omega arith));
    to_try = λ before. plan.to_try F longest p (before (omega arith)) each left;
  }
