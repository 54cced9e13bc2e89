-- What a trial and its record promise: the place of a search in its array, unwinding, a trial, trials that only raise
-- the next atom. Nothing to believe: they serve the proof of the run.
use Rattle.std.specs.Prelude.{ℕ, ◌+◌, ◌≤◌, ◌<◌, ◌≡◌, Bool, false, List, reverse, length, get_or, take, eqb}
use Rattle.enumeration.specs.Machine.{State, unwound, act}
use Rattle.enumeration.specs.Run.{limit}
use Rattle.search.specs.declared.Search.{Search}
use Rattle.atomset.specs.Set.{has}
use Rattle.openness.specs.declared.Plan.{Plan}
use Rattle.trial.specs.declared.Spot.{Spot}
use Rattle.trial.specs.declared.Place.{Place}

-- the stack of the beginning that the first `len` places of an array hold
abbrev pub stack_of : List ℕ → ℕ → List ℕ
stack_of prefix len = reverse (take len prefix)

-- the state of a search at a place
abbrev pub state_at : List ℕ → Spot → State
state_at prefix at =
    record {
      stack = stack_of prefix at.len;
      next = at.next;
      trials = at.trials;
      extensions = at.extensions;
      listed = at.listed;
    }

-- the place and the counts of a search
abbrev pub spot_of : Search → Spot
spot_of q = record { len = q.len; next = q.next; trials = q.trials; extensions = q.extensions; listed = q.listed }

-- the search at a place
abbrev pub search_held : ℕ → ℕ → ℕ → List ℕ → Spot → Search
search_held kind s t prefix at =
    record {
      kind = kind;
      s = s;
      t = t;
      len = at.len;
      prefix = prefix;
      next = at.next;
      trials = at.trials;
      extensions = at.extensions;
      listed = at.listed;
    }

-- a beginning of `len` atoms in its array: the places past them hold 0
pub record Held (prefix : List ℕ) (len : ℕ) : Type 0 where
  pub size : length prefix ≡ 128
  pub most : len ≤ 128
  pub zeros : (i : ℕ) → len ≤ i → i < 128 → get_or prefix i 0 ≡ 0

-- the same with room for one atom more
pub record HeldWithRoom (prefix : List ℕ) (len : ℕ) : Type 0 where
  pub within : Held prefix len
  pub short : len ≤ 127

-- the next atom is from 1 to n, and counts are below the limit
pub record Counting (n : ℕ) (at : Spot) : Type 0 where
  pub few : n ≤ 128
  pub low : 1 ≤ at.next
  pub high : at.next ≤ n
  pub trials_less : at.trials < limit
  pub extensions_less : at.extensions < limit
  pub listed_less : at.listed < limit

-- a beginning that is to be unwound, of a molecule of n atoms
pub record ToUnwind (n : ℕ) (prefix : List ℕ) (len : ℕ) : Type 0 where
  pub standing : HeldWithRoom prefix len
  pub few : n ≤ 128

-- unwinding of the place of `from` atoms and the next atom c
pub record Unwound (n : ℕ) (before : List ℕ) (from c : ℕ) (after : List ℕ) (place : Place) : Type 0 where
  pub within : Held after place.len
  pub place_is : (stack_of after place.len, place.next) ≡ unwound n (stack_of before from) c

-- a trial
pub record Acted (n : ℕ) (before : List ℕ) (at : Spot) (member extends : Bool) (after : List ℕ) (r : Spot) :
    Type 0 where
  pub within : Held after r.len
  pub state_is : state_at after r ≡ act n member extends (state_at before at)

-- c is an atom of a molecule of n atoms
pub record AtomAhead (c n : ℕ) : Type 0 where
  pub low : 1 ≤ c
  pub high : c ≤ n
  pub few : n ≤ 128

-- c and so many atoms after it, all below n, neither make a member nor open a beginning
pub record Gap (found : Plan) (c n k : ℕ) : Type 0 where
  pub within : c + k ≤ n
  pub idle : (i : ℕ) → i < k → (has found.members (c + i) ≡ false) × (has found.opens (c + i) ≡ false)

-- k trials that only raise the next atom, and that no test stops
pub record Skips (found : Plan) (at : Spot) (n k : ℕ) : Type 0 where
  pub gap : Gap found at.next n k
  pub trials_most : at.trials + k ≤ limit
  pub extensions_other : eqb at.extensions limit ≡ false
  pub listed_other : eqb at.listed limit ≡ false

-- there are k such trials, within the budget that is left
pub record Idle (found : Plan) (at : Spot) (n left k : ℕ) : Type 0 where
  pub affordable : k ≤ left
  pub small : k ≤ 128
  pub runs : 0 < k → Skips found at n k

-- the place after k such trials
abbrev pub skip : ℕ → Spot → Spot
skip k at = record {
  len = at.len;
  next = at.next + k;
  trials = at.trials + k;
  extensions = at.extensions;
  listed = at.listed;
}

-- no new plan: the beginning is as long as it was
pub record Stale (before after : ℕ) (stale : Bool) : Type 0 where
  pub same : stale ≡ false → before ≡ after
