-- What the fast loop keeps from turn to turn, and its three turns: the last atom is dropped, a member is listed, an
-- atom is added. Each turn is trials that only raise the next atom, and at most one more: `Makes` joins them.
use Prim.Native.Nat.{ℕ, suc, ◌+◌, ◌-◌, ◌*◌, ◌≤◌, ◌<◌}
use native.Mathlib.Omega.{arith}
use native.Mathlib.Numerals.{add-one}
use native.Mathlib.Decide.{dec_lt}
use mathlib.Core.Path.{◌≡◌, refl, sym, ap, subst, ◌∙◌}
use mathlib.Core.Bool.{true, false}
use mathlib.Core.List.{List, [], ◌∷◌, ◌++◌, append-nil, reverse, reverse-cons}
use lib.ListN.{length, get_or, take, drop, set, length-set}
use lib.Seq.{length-take-le, get_or-take, take-set-le, take-suc-set, get_or-set_same, get_or-set_other}
use lib.Dec.{leb}
use borrow.Author.Tests.{le-leb}
use borrow.Rule.Slice.PartMut.{put_mid}
use mathlib.Core.Logic.{◌⊎◌, inl, inr}
use Rattle.graph.proofs.Below.{clash, false_of, and_both}
use Rattle.enumeration.specs.Words.{Family, is_open}
use Rattle.enumeration.specs.Machine.{State, placed, unwound}
use Rattle.enumeration.specs.Run.{limit, record_of}
use Rattle.enumeration.specs.Lawful.{Lawful}
use Rattle.enumeration.specs.Makes.{Makes, none}
use Rattle.enumeration.proofs.Basics.{or-either, or-neither}
use Rattle.enumeration.proofs.Makes.{Rises, makes-join, makes-rises, makes-lists, makes-extends}
use Rattle.enumeration.proofs.Order.{range_at}
use Rattle.enumeration.proofs.Open.{range-on, stack-short, stack_top}
use Rattle.atomset.specs.Set.{has, linked_by, Lowest, LowestLeft}
use Rattle.openness.specs.declared.Wanted.{Wanted}
use Rattle.openness.specs.Plan.{family_wanted, most_atoms, first_length}
use Rattle.search.proofs.Readings.{open-short}
use Rattle.openness.proofs.Arrays.{taken-length, open-atoms}
use Rattle.openness.proofs.Plans.{family-by-atoms}
use Rattle.trial.specs.declared.Spot.{Spot}
use Rattle.trial.specs.Parts.{stack_of, HeldWithRoom}
use Rattle.trial.proofs.Arrays.{stack-length, stack-back, stack_push, held-push, Unwinding, unwinding-pop}
use Rattle.trial.proofs.Bytes.{part-back, record-length}
use Rattle.dive.specs.declared.Dived.{Dived}
use Rattle.dive.specs.declared.Level.{Level}
use Rattle.dive.specs.Levels.{LevelRoom, aim_in, rest_in, kept_rest, goes_on_by, LevelAdded, Stage}
use Rattle.dive.specs.Parts.{Rising, listed_at, extended_at, dropped_at, Bounds, state_before}
use Rattle.dive.specs.Parts.{Added, Descent, Listed, Left}
use Rattle.dive.proofs.Levels.{rest-kept-other, aim-past-rest, length-kept-rest}
use Rattle.dive.proofs.Stages.{stage-same, stage-lowered, stage-added}
use Rattle.dive.proofs.Stages.{lowest-from, lowest-goes-on, lowest-first, lowest-member, lowest-opens}
use Rattle.dive.proofs.Listings.{listed-none, listed_more, listed-within}

module _ {w : Wanted} {most : ℕ} {from : Dived} {prefix₀ : List ℕ} {levels₀ : List Level} {out₀ : List ℕ}
    (d : Descent w most from prefix₀ levels₀ out₀) where
  abbrev F : Family
  F = family_wanted w

  atoms_are : F.atoms ≡ w.n
  atoms_are = family-by-atoms w.n w.table.now w.kind w.s w.t

  abbrev StageHere : List ℕ → List Level → ℕ → ℕ → Type 0
  StageHere prefix levels i c =
      Stage F (linked_by w.table.now) (most_atoms w.kind w.s) (first_length w.kind) prefix levels i c

  pub record Diving (prefix : List ℕ) (levels : List Level) (out : List ℕ) (at : Spot) (used : ℕ) : Type 0 where
    pub bytes : List ℕ
    pub held : HeldWithRoom prefix at.len
    pub size : length levels ≡ length levels₀
    pub low : 1 ≤ at.next
    pub high : at.next ≤ suc w.n
    pub more : from.at.trials ≤ at.trials
    pub bounds : Bounds at most
    pub makes :
        Makes F (state_before w.n prefix at) (state_before w.n prefix₀ from.at) (at.trials - from.at.trials) bytes
    pub listing : Listed out₀ from.used bytes out used
    -- the present beginning, and those that it went on from
    pub here : from.at.len ≤ at.len → StageHere prefix levels at.len at.next
    pub passed : (i : ℕ) → from.at.len ≤ i → i < at.len → StageHere prefix levels i (get_or prefix i 0 + 1)

  pub diving-starts : Diving prefix₀ levels₀ out₀ from.at from.used
  diving-starts = record {
    bytes = [];
    held = d.standing;
    size = refl;
    low = omega (arith, d.first);
    high = omega (arith, d.first);
    more = omega arith;
    bounds = d.bounds;
    makes = let z : from.at.trials - from.at.trials ≡ 0 = omega arith in rw z none;
    listing = listed-none d.in_room;
    here = λ h. rw d.first d.stage;
    passed = λ i l h. absurd (omega arith);
  }

  -- ---- a turn

  module _ {prefix : List ℕ} {levels : List Level} {out : List ℕ} {at : Spot} {used : ℕ}
      (k : Diving prefix levels out at used) (deep : from.at.len ≤ at.len) (far : 129 ≤ most - at.trials) where
    abbrev stack : List ℕ
    stack = stack_of prefix at.len

    abbrev word : List ℕ
    word = take at.len prefix

    abbrev stage : StageHere prefix levels at.len at.next
    stage = k.here deep

    lawful : Lawful F
    lawful = stage.lawful

    -- an open beginning is shorter than w.n, so there is room for its sets and those of a longer one
    pub deep-most : suc at.len ≤ w.n
    deep-most =
        let taken = taken-length prefix at.len k.held.within.size k.held.within.most in
        omega (arith, open-short F lawful word stage.is_opened, atoms_are, d.some)

    pub deep_room : LevelRoom at.len levels
    deep_room = omega (arith, deep-most, d.sized, k.size)

    word-is : (u : ℕ) → reverse (u ∷ stack) ≡ word ++ u ∷ []
    word-is u = reverse-cons u stack ∙ ap (λ (w : List ℕ). w ++ u ∷ []) (stack-back prefix at.len)

    -- an atom that goes on is at most w.n
    goes-most : (v : ℕ) → goes_on_by F word v ≡ true → v ≤ w.n
    goes-most v e = rw (atoms_are) at (split (or-either (F.member (word ++ v ∷ [])) (is_open F (word ++ v ∷ [])) e))
      where
        split : (F.member (word ++ v ∷ []) ≡ true) ⊎ (is_open F (word ++ v ∷ []) ≡ true) → v ≤ F.atoms
        split (inl m) =
            let atoms = lawful.in_range (reverse (v ∷ stack)) (rw (word-is v) m) in
            let whole = range_at F.atoms (reverse (v ∷ stack)) atoms in
            let (low, high, only) = range-on F.atoms stack (v ∷ []) whole in
            high
        split (inr o) = (stack_top F lawful stack v (rw (word-is v) o)).1

    -- j trials that only raise the next atom
    rises :
        (j : ℕ) → at.next + j ≤ suc w.n → j ≤ 128 →
        ((u : ℕ) → at.next ≤ u → u < at.next + j → goes_on_by F word u ≡ false) →
        Makes F (placed (unwound w.n stack (at.next + j)) (at.trials + j) at.extensions at.listed)
        (state_before w.n prefix at) j []
    rises j high small idle =
        let e< : at.extensions < limit = omega (arith, k.bounds) in
        let l< : at.listed < limit = omega (arith, k.bounds) in
        let t≤ : at.trials + j ≤ limit = omega (arith, k.bounds) in
        subst
        (λ (m : ℕ). Makes F (placed (unwound m stack (at.next + j)) (at.trials + j) at.extensions at.listed)
        (placed (unwound m stack at.next) at.trials at.extensions at.listed) j [])
        (atoms_are) (makes-rises stack at.next j k.low (omega (arith, atoms_are)) neither t≤ e< l<)
      where
        neither : Rises F stack at.next j
        neither i h =
            rw (word-is (at.next + i))
            (or-neither (F.member (word ++ (at.next + i) ∷ [])) (is_open F (word ++ (at.next + i) ∷ []))
            (idle (at.next + i) (omega arith) (omega arith)))

    -- trials after those that were made
    joins :
        {last : State} {j trials' : ℕ} {more : List ℕ} → Makes F last (state_before w.n prefix at) j more →
        trials' ≡ at.trials + j →
        Makes F last (state_before w.n prefix₀ from.at) (trials' - from.at.trials) (k.bytes ++ more)
    joins {j = j} {trials' = trials'} m e =
        let made : trials' - from.at.trials ≡ at.trials - from.at.trials + j = omega (arith, k.more) in
        rw made (makes-join k.makes m)

    -- ---- the last atom is dropped

    module _ {last : ℕ} (last_is : last ≡ get_or prefix (at.len - 1) 0)
        (nothing : (u : ℕ) → has (rest_in levels at.len) u ≡ false) where
      abbrev shorter : List ℕ
      shorter = set prefix (at.len - 1) 0

      popped : Unwinding w.n prefix at.len (w.n + 1) shorter (at.len - 1) (last + 1)
      popped =
          unwinding-pop (record { held = k.held.within; rest = refl }) (omega (arith, d.some)) refl last_is

      -- no atom goes on
      idle : (u : ℕ) → at.next ≤ u → goes_on_by F word u ≡ false
      idle u h =
          false_of (goes_on_by F word u)
          (λ e. clash (has (rest_in levels at.len) u)
          (stage.to_try u (omega (arith, k.low)) ∙
          and_both (leb at.next u) (goes_on_by F word u) (le-leb at.next u h) e)
          (nothing u))

      raised :
          Makes F (state_before w.n shorter (dropped_at at w.n last)) (state_before w.n prefix at)
          (w.n + 1 - at.next) []
      raised =
          let all : at.next + (w.n + 1 - at.next) ≡ w.n + 1 = omega (arith, k.high) in
          rw popped.rest
          (rw all at
          (rises (w.n + 1 - at.next) (omega (arith, k.high)) (omega (arith, k.low, d.words.few))
          (λ u l h. idle u l)))

      -- the places of a shorter beginning are as they were
      word_kept : (i : ℕ) → i ≤ at.len - 1 → take i shorter ≡ take i prefix
      word_kept i h = take-set-le i prefix (at.len - 1) 0 h

      atom_kept : (i : ℕ) → i < at.len - 1 → get_or shorter i 0 ≡ get_or prefix i 0
      atom_kept i h = get_or-set_other prefix (at.len - 1) i 0 0 (λ e. omega arith)

      stage-kept :
          (i : ℕ) {c : ℕ} → from.at.len ≤ i → i ≤ at.len - 1 → StageHere prefix levels i c →
          StageHere shorter levels i c
      stage-kept i l h s =
          stage-same s (word_kept i h) (atom_kept (i - 1) (omega (arith, d.some))) refl (λ e. refl) refl

      pub diving-drops : Diving shorter levels out (dropped_at at w.n last) used
      diving-drops = record {
        bytes = k.bytes ++ [];
        held = record { within = popped.held; short = omega (arith, k.held.short) };
        size = k.size;
        low = omega arith;
        high = omega (arith, last-most);
        more = omega (arith, k.more);
        bounds = bounds';
        makes = joins raised refl;
        listing = rw (append-nil k.bytes) k.listing;
        here = λ l.
            rw last_is (stage-kept (at.len - 1) l (omega arith) (k.passed (at.len - 1) l (omega (arith, d.some))));
        passed = λ i l h.
            rw (atom_kept i h) (stage-kept i l (omega arith) (k.passed i l (omega arith)));
      }
        where
          last-most : last ≤ w.n
          last-most =
              rw last_is
              (open-atoms prefix at.len lawful (atoms_are) k.held.within.size k.held.within.most
              stage.is_opened (at.len - 1) (omega (arith, d.some))).1

          bounds' : Bounds (dropped_at at w.n last) most
          bounds' = record {
            trials_most = omega (arith, k.bounds, k.low, d.words.few);
            most_limit = k.bounds.most_limit;
            extensions_most = omega (arith, k.bounds, k.low, d.words.few);
            listed_most = omega (arith, k.bounds, k.low, d.words.few);
          }

    -- ---- the lowest atom to be tried

    module _ {v : ℕ} {others : List ℕ} (l : Lowest (rest_in levels at.len) v)
        (left : LowestLeft (rest_in levels at.len) others) where
      abbrev levels' : List Level
      levels' = kept_rest levels at.len others

      v-from : at.next ≤ v
      v-from = lowest-from stage l

      pub v-most : v ≤ w.n
      v-most = goes-most v (lowest-goes-on stage l)

      size' : length levels' ≡ length levels₀
      size' = length-kept-rest levels at.len others ∙ k.size

      lowered : StageHere prefix levels' at.len (v + 1)
      lowered = stage-lowered stage l deep_room left

      passed' : (i : ℕ) → from.at.len ≤ i → i < at.len → StageHere prefix levels' i (get_or prefix i 0 + 1)
      passed' i low h =
          stage-same (k.passed i low h) refl refl (aim-past-rest levels at.len others i)
          (λ e. aim-past-rest levels at.len others (suc i))
          (rest-kept-other levels at.len others i (λ e. omega arith))

      -- the trials before it
      before :
          Makes F (placed (unwound w.n stack v) (at.trials + (v - at.next)) at.extensions at.listed)
          (state_before w.n prefix at) (v - at.next) []
      before =
          let up : at.next + (v - at.next) ≡ v = omega (arith, v-from) in
          rw up at
          (rises (v - at.next) (omega (arith, v-from, v-most)) (omega (arith, v-most, d.words.few))
          (λ u from_next h. lowest-first stage l u (omega (arith, k.low)) from_next (omega (arith, v-from))))

      -- its trial, of which the state and the bytes are given
      with-last :
          {last : State} {bytes : List ℕ} →
          Makes F last (placed (unwound w.n stack v) (at.trials + (v - at.next)) at.extensions at.listed) 1
          bytes →
          Makes F last (state_before w.n prefix₀ from.at) (at.trials + (v + 1 - at.next) - from.at.trials)
          (k.bytes ++ bytes)
      with-last m = joins (makes-join before m) (omega (arith, v-from))

      counts' :
          (listed extensions : ℕ) → listed ≤ suc at.listed → extensions ≤ suc at.extensions →
          {len next : ℕ} →
          Bounds (record {
            len = len;
            next = next;
            trials = at.trials + (v + 1 - at.next);
            extensions = extensions;
            listed = listed;
          }) most
      counts' listed extensions hl he =
          record {
            trials_most = omega (arith, k.bounds, k.low, v-most, d.words.few);
            most_limit = k.bounds.most_limit;
            extensions_most = omega (arith, k.bounds, k.low, v-from, v-most, d.words.few);
            listed_most = omega (arith, k.bounds, k.low, v-from, v-most, d.words.few);
          }

      -- it makes a member, and the record is written
      pub diving-lists :
          {out' part : List ℕ} {used' : ℕ} → has (aim_in levels at.len).goal v ≡ true →
          at.len + 2 ≤ length out - used →
          part ≡ record_of (word ++ v ∷ []) ++ drop (at.len + 2) (take (length out - used) (drop used out)) →
          out' ≡ put_mid used (length out - used) out part → used' ≡ used + (at.len + 2) →
          Diving prefix levels' out' (listed_at at v) used'
      diving-lists {out'} {part} {used'} closes room put back used_is = record {
        bytes = k.bytes ++ record_of (word ++ v ∷ []);
        held = k.held;
        size = size';
        low = omega arith;
        high = omega (arith, v-most);
        more = omega (arith, k.more);
        bounds = counts' (at.listed + 1) at.extensions (omega arith) (omega arith);
        makes = with-last member;
        listing =
            listed_more k.listing (record_of (word ++ v ∷ [])) (omega (arith, record-size)) written
            (omega (arith, record-size));
        here = λ h. lowered;
        passed = passed';
      }
        where
          record-size : length (record_of (word ++ v ∷ [])) ≡ at.len + 2
          record-size = record-length prefix at.len v k.held.within.size k.held.short

          written :
              let bytes = record_of (word ++ v ∷ []) in
              out' ≡ take used out ++ (bytes ++ drop (length bytes) (drop used out))
          written =
              let bytes = record_of (word ++ v ∷ []) in
              rw record-size (back ∙ part-back out part bytes used (at.len + 2) (listed-within k.listing) put)

          member :
              Makes F (state_before w.n prefix (listed_at at v))
              (placed (unwound w.n stack v) (at.trials + (v - at.next)) at.extensions at.listed) 1
              (record_of (word ++ v ∷ []))
          member =
              let next : v + 1 ≡ suc v = add-one v in
              let trials : at.trials + (v + 1 - at.next) ≡ suc (at.trials + (v - at.next)) =
              omega (arith, v-from) in
              let listed : at.listed + 1 ≡ suc at.listed = add-one at.listed in
              let e< : at.extensions < limit = omega (arith, k.bounds) in
              let l< : at.listed < limit = omega (arith, k.bounds) in
              let t< : at.trials + (v - at.next) < limit = omega (arith, k.bounds, v-most, d.words.few, k.low) in
              let is_member = ap F.member (word-is v) ∙ lowest-member stage l ∙ closes in
              rw (trials, next, listed, ← word-is v)
              (subst
              (λ (m : ℕ). Makes F
              (placed (unwound m stack (suc v)) (suc (at.trials + (v - at.next))) at.extensions (suc at.listed))
              (placed (unwound m stack v) (at.trials + (v - at.next)) at.extensions at.listed) 1
              (record_of (reverse (v ∷ stack))))
              (atoms_are) (makes-lists stack v l.low (omega (arith, v-most, atoms_are)) is_member t< e< l<))

      -- it opens the beginning
      module _ (not-closing : has (aim_in levels at.len).goal v ≡ false) where
        opens : is_open F (word ++ v ∷ []) ≡ true
        opens = lowest-opens stage l not-closing

        opens-stack : is_open F (reverse (v ∷ stack)) ≡ true
        opens-stack = ap (is_open F) (word-is v) ∙ opens

        added-short : at.len + 1 < w.n
        added-short =
            let size = stack-length prefix at.len k.held.within in
            omega (arith, stack-short F lawful stack v opens-stack, atoms_are)

        short' : at.len + 1 ≤ 127
        short' = omega (arith, added-short, d.words.few)

        room : at.len < length prefix
        room = omega (arith, k.held.within.size, k.held.short)

        -- the longer beginning, which is to be planned
        longer : take (at.len + 1) (set prefix at.len v) ≡ word ++ v ∷ []
        longer = rw (add-one at.len, take-suc-set prefix at.len v room) refl

        pub longer-length : length (take (at.len + 1) (set prefix at.len v)) ≡ at.len + 1
        longer-length =
            length-take-le (at.len + 1) (set prefix at.len v) (omega (arith, room, length-set prefix at.len v))

        pub added-here : Added w (take (at.len + 1) (set prefix at.len v)) levels' v
        added-here =
            let size = longer-length in
            let one : length (take (at.len + 1) (set prefix at.len v)) - 1 ≡ at.len = omega arith in
            record {
              begun = record {
                words = d.words;
                kinds = d.kinds;
                short = omega (arith, short');
                is_opened = rw (longer) opens;
              };
              long = omega (arith, d.near);
              last_is =
                  rw one
                  (sym (get_or-take (at.len + 1) (set prefix at.len v) at.len 0 (omega arith)
                  ∙ get_or-set_same prefix at.len v 0 room));
              low = l.low;
              high = l.high;
              sized = omega (arith, added-short, d.sized, size');
            }

      -- it is added
      pub diving-extends :
          {levels'' : List Level} → has (aim_in levels at.len).goal v ≡ false →
          LevelAdded F (linked_by w.table.now) (most_atoms w.kind w.s) (first_length w.kind) v (at.len + 1)
          (take (at.len + 1) (set prefix at.len v)) levels' levels'' →
          Diving (set prefix at.len v) levels'' out (extended_at at v) used
      diving-extends {levels''} not-closing added = record {
        bytes = k.bytes ++ [];
        held = record { within = held-push prefix at.len v k.held; short = short' not-closing };
        size = added.size ∙ size';
        low = omega arith;
        high = omega (arith, v-most, l.low);
        more = omega (arith, k.more);
        bounds = counts' at.listed (at.extensions + 1) (omega arith) (omega arith);
        makes = with-last extended;
        listing = rw (append-nil k.bytes) k.listing;
        here = λ h. stage-added lowered (room not-closing) (omega (arith, d.near)) (opens not-closing) added;
        passed = passed'';
      }
        where
          -- the sets that were handed on to it
          next-kept :
              (i : ℕ) → i ≤ at.len → Dec (i < at.len) → first_length w.kind ≤ i →
              aim_in levels'' (suc i) ≡ aim_in levels' (suc i)
          next-kept i h (yes b) e = added.aims_kept (suc i) (omega arith)
          next-kept i h (no b) e =
              let last : suc i ≡ at.len + 1 = omega arith in
              rw last (added.aim_kept (omega arith))

          -- the beginnings that it goes on from
          kept :
              (i : ℕ) {c : ℕ} → from.at.len ≤ i → i ≤ at.len → StageHere prefix levels' i c →
              StageHere (set prefix at.len v) levels'' i c
          kept i low h s =
              stage-same s (take-set-le i prefix at.len v h)
              (get_or-set_other prefix at.len (i - 1) v 0 (λ e. omega (arith, d.some)))
              (added.aims_kept i (omega arith)) (next-kept i h (dec_lt i at.len)) (added.rests_kept i (omega arith))

          passed'' :
              (i : ℕ) → from.at.len ≤ i → i < at.len + 1 →
              StageHere (set prefix at.len v) levels'' i (get_or (set prefix at.len v) i 0 + 1)
          passed'' i low h = split (dec_lt i at.len)
            where
              split :
                  Dec (i < at.len) →
                  StageHere (set prefix at.len v) levels'' i (get_or (set prefix at.len v) i 0 + 1)
              split (yes b) =
                  rw (get_or-set_other prefix at.len i v 0 (λ e. omega arith))
                  (kept i low (omega arith) (passed' i low b))
              split (no b) =
                  let same : i ≡ at.len = omega arith in
                  rw (same, get_or-set_same prefix at.len v 0 (room not-closing))
                  (kept at.len deep (omega arith) lowered)

          extended :
              Makes F (state_before w.n (set prefix at.len v) (extended_at at v))
              (placed (unwound w.n stack v) (at.trials + (v - at.next)) at.extensions at.listed) 1 []
          extended =
              let len : at.len + 1 ≡ suc at.len = add-one at.len in
              let trials : at.trials + (v + 1 - at.next) ≡ suc (at.trials + (v - at.next)) =
              omega (arith, v-from) in
              let extensions : at.extensions + 1 ≡ suc at.extensions = add-one at.extensions in
              let e< : at.extensions < limit = omega (arith, k.bounds) in
              let l< : at.listed < limit = omega (arith, k.bounds) in
              let t< : at.trials + (v - at.next) < limit = omega (arith, k.bounds, v-most, d.words.few, k.low) in
              let no_member = ap F.member (word-is v) ∙ lowest-member stage l ∙ not-closing in
              rw (len, trials, extensions, stack_push prefix at.len v (room not-closing))
              (subst
              (λ (m : ℕ). Makes F
              (placed (unwound m (v ∷ stack) 1) (suc (at.trials + (v - at.next))) (suc at.extensions) at.listed)
              (placed (unwound m stack v) (at.trials + (v - at.next)) at.extensions at.listed) 1 [])
              (atoms_are)
              (makes-extends stack v l.low (omega (arith, v-most, atoms_are)) no_member (opens-stack not-closing) t<
              e< l<))

-- ---- the turns as the calls tell them

-- a turn that tries the lowest atom v: the beginning is not shorter than at the start, no stop is near, and the atoms
-- still to be tried are kept without it
pub record Tries (most : ℕ) (from at : Spot) (levels : List Level) (v : ℕ) (others : List ℕ) : Type 0 where
  pub deep : from.len ≤ at.len
  pub far : 129 ≤ most - at.trials
  pub lowest : Lowest (rest_in levels at.len) v
  pub left : LowestLeft (rest_in levels at.len) others

module _ {w : Wanted} {most : ℕ} {from : Dived} {prefix₀ : List ℕ} {levels₀ : List Level} {out₀ : List ℕ}
    (d : Descent w most from prefix₀ levels₀ out₀) {prefix : List ℕ} {levels : List Level} {out : List ℕ} {at : Spot}
    {used : ℕ} (k : Diving d prefix levels out at used)
  where
    module _ {v : ℕ} {others : List ℕ} (r : Tries most from.at at levels v others) where
      from_next : at.next ≤ v
      from_next = v-from d k r.deep r.far r.lowest r.left

      -- the trials up to v can be counted
      pub rising : Rising at v
      rising = record {
        ahead = omega (arith, from_next);
        few = r.lowest.high;
        countable = omega (arith, k.bounds);
      }

      -- the trials that are left fall
      pub falls-by :
          129 * (most - (at.trials + (v + 1 - at.next))) + suc at.len < 129 * (most - at.trials) + at.len
      falls-by = omega (arith, from_next, k.low, r.lowest.high, r.far)

-- ---- the loop is left

module _ {w : Wanted} {most : ℕ} {from : Dived} {prefix₀ : List ℕ} {levels₀ : List Level} {out₀ : List ℕ}
    (d : Descent w most from prefix₀ levels₀ out₀) where
  pub diving-left :
      {prefix : List ℕ} {levels : List Level} {out : List ℕ} {at : Spot} {used : ℕ} →
      Diving d prefix levels out at used →
      Left (family_wanted w) w.n most prefix₀ from out₀ prefix out (record { at = at; used = used })
  diving-left k = record {
    bytes = k.bytes;
    held = k.held;
    low = k.low;
    high = k.high;
    more = k.more;
    within = k.bounds.trials_most;
    makes = k.makes;
    listing = k.listing;
  }
