-- Openness of a beginning of one atom or two of a ring, from what sweeps tell: a second atom opens when it reaches a
-- higher one. By `ring-opens-one` and `ring-opens-none`; a loop over the second atoms takes each as the last one, from
-- the lowest on, and one over the first atoms stops at the first that begins a ring.
use Prim.Native.Nat.{ℕ, ◌+◌, ◌-◌, ◌≤◌, ◌<◌}
use native.Mathlib.Decide.{dec_lt}
use native.Mathlib.Omega.{arith}
use mathlib.Core.Path.{◌≡◌, refl, sym, ◌∙◌}
use mathlib.Core.Bool.{Bool, true, false, ◌&&◌, ◌||◌, not}
use mathlib.Core.List.{List, [], ◌∷◌, ◌++◌}
use mathlib.Core.Logic.{◌⊎◌, inl, inr}
use lib.ListN.{length}
use Rattle.std.specs.Prelude.{None}
use lib.Dec.{leb, ltb, eqb}
use borrow.Author.Tests.{lt-ltb, ltb-true, le-leb, leb-true, eq-eqb, ne_eqb, eqb-true, eqb-false, not-true}
use Rattle.graph.proofs.Below.{clash, false_of, true_of, and_parts, same_test}
use Rattle.graph.proofs.All as all
use Rattle.enumeration.specs.Words.{is_open}
use Rattle.enumeration.specs.Lawful.{Lawful}
use Rattle.enumeration.proofs.Basics.{or-either, or_right, or-neither}
use Rattle.chordless.specs.Families.{rings}
use Rattle.chordless.specs.Reach.{Walk, clear, free}
use Rattle.chordless.proofs.Touch.{touches-facts, touches-of, closing-facts, closing-of}
use Rattle.chordless.proofs.UpTo.{upto-lawful}
use Rattle.chordless.proofs.Lawful.{rings-lawful}
use Rattle.chordless.proofs.Rings.{ring-opens-one, ring-opens-none, ring-not-short}
use Rattle.atomset.specs.Set.{has, linked_by, Lowest, LowestLeft, Emptiness}
use Rattle.atomset.proofs.Size.{rest-within}
use Rattle.sweep.specs.Swept.{Reached}
use Rattle.sweep.proofs.Walks.{reached-same}
use Rattle.search.proofs.Readings.{open-range}
use Rattle.openness.specs.declared.Plan.{Plan}
use Rattle.openness.specs.Plan.{rings_by, Everywhere}
use Rattle.openness.specs.Parts.{OneAtom, TwoAtoms, FirstFound, FirstAhead}

-- rings of at most so many atoms are a family that the theory of a search is about
pub rings-by-lawful : (n : ℕ) (table : List ℕ) (most : ℕ) → Lawful (rings_by n table most)
rings-by-lawful n table most = upto-lawful most (rings n (linked_by table)) (rings-lawful n (linked_by table))

-- ---- two atoms

-- v may come second in a ring that begins with s
pub record Second (n : ℕ) (table : List ℕ) (s v : ℕ) : Type 0 where
  pub above : s < v
  pub range : v ≤ n
  pub bond : linked_by table s v ≡ true

-- from it, a higher one is reached through the atoms above s that are not bonded to s, in as many steps as a ring of at
-- most so many atoms leaves: it may come last
pub record Reaching (n : ℕ) (table : List ℕ) (most s v last : ℕ) : Type 0 where
  pub second : Second n table s v
  pub closing : Second n table s last
  pub higher : v < last
  pub reached : Walk (linked_by table) (free n (linked_by table) s (s ∷ [])) last (most - 2) v

-- the test of an atom above x that is bonded to s
module _ {n : ℕ} (table : List ℕ) (s : ℕ) {x v : ℕ} where
  bonded-facts :
      ltb x v && leb v n && linked_by table s v ≡ true → (x < v) × (v ≤ n) × (linked_by table s v ≡ true)
  bonded-facts e =
      let (range, bond) = and_parts (ltb x v && leb v n) (linked_by table s v) e in
      let (above, high) = and_parts (ltb x v) (leb v n) range in
      (ltb-true x v above, leb-true v n high, bond)

  bonded-of : x < v → v ≤ n → linked_by table s v ≡ true → ltb x v && leb v n && linked_by table s v ≡ true
  bonded-of above high bond = rw (lt-ltb x v above, le-leb v n high) bond

module _ {n : ℕ} {table : List ℕ} {most s : ℕ} (b : OneAtom n table most s) where
  -- it opens exactly when it reaches one
  pub reaching-opens : {v last : ℕ} → Reaching n table most s v last → is_open (rings_by n table most) (s ∷ v ∷ []) ≡
      true
  reaching-opens {v} {last} k =
      let end = k.closing in
      (ring-opens-one n (linked_by table) b.words.irreflexive most s v b.low).1
      (record {
        above = k.second.above;
        range = k.second.range;
        touches = touches-of (linked_by table) (s ∷ []) v k.second.bond;
        last = last;
        closes = closing-of (linked_by table) n s [] v last k.higher end.range end.bond all.none;
        reached = k.reached;
      })

  pub opens-reaching :
      {v : ℕ} → is_open (rings_by n table most) (s ∷ v ∷ []) ≡ true → (last : ℕ) × Reaching n table most s v last
  opens-reaching {v} e =
      let o = (ring-opens-one n (linked_by table) b.words.irreflexive most s v b.low).0 e in
      let bond = touches-facts (linked_by table) (s ∷ []) v o.touches in
      let (higher, high, closes, clear) = closing-facts (linked_by table) n s [] v o.last o.closes in
      let above : s < o.last = omega (arith, o.above) in (
        o.last,
        record {
          second = record { above = o.above; range = o.range; bond = bond };
          closing = record { above = above; range = high; bond = closes };
          higher = higher;
          reached = o.reached;
        },
      )

  pub pair-above : (v : ℕ) → v ≤ s → is_open (rings_by n table most) (s ∷ v ∷ []) ≡ false
  pair-above v h =
      false_of (is_open (rings_by n table most) (s ∷ v ∷ []))
      (λ e. omega (arith, (opens-reaching e).1.second.above))

  pub pair-bonded :
      (v : ℕ) → linked_by table s v ≡ false → is_open (rings_by n table most) (s ∷ v ∷ []) ≡ false
  pair-bonded v h =
      false_of (is_open (rings_by n table most) (s ∷ v ∷ []))
      (λ e. clash (linked_by table s v) (opens-reaching e).1.second.bond h)

  -- one opens: some ring begins with s
  pub start-some :
      (v : ℕ) → is_open (rings_by n table most) (s ∷ v ∷ []) ≡ true →
      is_open (rings_by n table most) (s ∷ []) ≡ true
  start-some v e =
      let irr = b.words.irreflexive in
      let opens = (ring-opens-one n (linked_by table) irr most s v b.low).0 e in
      (ring-opens-none n (linked_by table) irr most s).1 (v, b.low, opens)

  -- none opens: no ring begins with s
  pub start_none :
      ((v : ℕ) → is_open (rings_by n table most) (s ∷ v ∷ []) ≡ false) →
      is_open (rings_by n table most) (s ∷ []) ≡ false
  start_none shut =
      let irr = b.words.irreflexive in
      false_of (is_open (rings_by n table most) (s ∷ []))
      (λ e. let (v, low, o) = (ring-opens-none n (linked_by table) irr most s).0 e in
      clash (is_open (rings_by n table most) (s ∷ v ∷ [])) ((ring-opens-one n (linked_by table) irr most s v low).1 o)
      (shut v))

pub first_of : {n : ℕ} {table : List ℕ} {most s v : ℕ} → TwoAtoms n table s v × (3 ≤ most) → OneAtom n table most s
first_of (b, room) = record { words = b.words; room = room; low = b.first_low; high = b.first_high }

-- a sweep through the atoms above s that are not bonded to s
module _ (n : ℕ) (table : List ℕ) (s : ℕ) {between targets : ℕ → Bool} {steps : ℕ} {want swept : ℕ → Bool}
    (between_is : (u : ℕ) → between u ≡ (ltb s u && leb u n && not (linked_by table s u)))
    (swept-is : Reached (linked_by table) between targets steps want swept) where
  between-one : (u : ℕ) → between u ≡ free n (linked_by table) s (s ∷ []) u
  unfolding free clear
  between-one u = between_is u

  sweeps : Reached (linked_by table) (free n (linked_by table) s (s ∷ [])) targets steps want swept
  sweeps = reached-same (λ a b. refl) between-one (λ u. refl) swept-is

-- of which the second atom v is the sole candidate
module _ {n : ℕ} {table : List ℕ} {most s v : ℕ} {targets between want swept : ℕ → Bool}
    (b : TwoAtoms n table s v × (3 ≤ most))
    (targets-is : (u : ℕ) → targets u ≡ (ltb v u && leb u n && linked_by table s u))
    (between_is : (u : ℕ) → between u ≡ (ltb s u && leb u n && not (linked_by table s u)))
    (want_is : (u : ℕ) → want u ≡ eqb u v)
    (swept-is : Reached (linked_by table) between targets (most - 2) want swept) where
  pub pair-told : s < v → linked_by table s v ≡ true → swept v ≡ is_open (rings_by n table most) (s ∷ v ∷ [])
  pair-told above bond = same_test (swept v) (is_open (rings_by n table most) (s ∷ v ∷ [])) to back
    where
      to : swept v ≡ true → is_open (rings_by n table most) (s ∷ v ∷ []) ≡ true
      to e =
          let (wanted, reaches) = (sweeps n table s between_is swept-is v).0 e in
          let (last, target, walk) = reaches in
          let (higher, high, closes) = bonded-facts table s (sym (targets-is last) ∙ target) in
          reaching-opens (first_of b)
          (record {
            second = record { above = above; range = b.0.second_high; bond = bond };
            closing = record { above = omega arith; range = high; bond = closes };
            higher = higher;
            reached = walk;
          })

      back : is_open (rings_by n table most) (s ∷ v ∷ []) ≡ true → swept v ≡ true
      back e =
          let (last, k) = opens-reaching (first_of b) e in
          let target = targets-is last ∙ bonded-of table s k.higher k.closing.range k.closing.bond in
          (sweeps n table s between_is swept-is v).1 (want_is v ∙ eq-eqb v v refl, (last, target, k.reached))

-- ---- the second atoms

-- Of the atoms that may come second, those in `left` are not yet taken as the last one. Of the others, those in `found`
-- open, and one in `shut` reaches no higher one but those that are left
pub record Sifted (n : ℕ) (table : List ℕ) (most s : ℕ) (left shut found : List ℕ) : Type 0 where
  pub left_second : (v : ℕ) → has left v ≡ true → Second n table s v
  pub shut_second : (v : ℕ) → has shut v ≡ true → Second n table s v
  pub shut_lower : (v w : ℕ) → has shut v ≡ true → has left w ≡ true → v < w
  pub found_opens : (v : ℕ) → has found v ≡ true → is_open (rings_by n table most) (s ∷ v ∷ []) ≡ true
  pub others :
      (v last : ℕ) → Reaching n table most s v last → has found v ≡ false →
      (has left last ≡ true) × (has left v || has shut v ≡ true)

-- a turn: the lowest atom that is left is taken as the last one; `more` are those of `shut` from which it is reached
pub record SiftingTurn (n : ℕ) (table : List ℕ) (most s : ℕ) (left shut found rest closed opened : List ℕ) : Type 0
  where
    pub atom : OneAtom n table most s
    pub sifted : Sifted n table most s left shut found
    pub alone : List ℕ
    pub between : List ℕ
    pub more : List ℕ
    pub fewer : List ℕ
    pub takes : LowestLeft left rest
    pub alone_is : (v : ℕ) → has alone v ≡ eqb v takes.taken
    pub between_is : (v : ℕ) → has between v ≡ (ltb s v && leb v n && not (linked_by table s v))
    pub more_is : Reached (linked_by table) (has between) (has alone) (most - 2) (has shut) (has more)
    pub opened_is : (v : ℕ) → has opened v ≡ (has found v || has more v)
    pub fewer_is : (v : ℕ) → has fewer v ≡ (has shut v && not (has more v))
    pub closed_is : (v : ℕ) → has closed v ≡ (has fewer v || has alone v)

module _ {n : ℕ} {table : List ℕ} {most s : ℕ} {left shut found rest closed opened : List ℕ}
    (t : SiftingTurn n table most s left shut found rest closed opened) where
  abbrev k : Sifted n table most s left shut found
  k = t.sifted

  abbrev last : ℕ
  last = t.takes.taken

  abbrev lowest : Lowest left last
  lowest = t.takes.lowest

  rest-is : (v : ℕ) → has rest v ≡ (has left v && not (eqb v last))
  rest-is = t.takes.others last lowest

  rest-higher : (v : ℕ) → has rest v ≡ true → last < v
  rest-higher v e =
      let (in_left, other) = and_parts (has left v) (not (eqb v last)) (sym (rest-is v) ∙ e) in
      let differ = eqb-false v last (not-true _ other) in
      omega (arith, lowest.least v in_left)

  rest_has : (v : ℕ) → has left v ≡ true → last < v → has rest v ≡ true
  rest_has v e h = rw (rest-is v, e, ne_eqb v last (λ q. omega arith))

  more-reaching : (v : ℕ) → has t.more v ≡ true → Reaching n table most s v last
  more-reaching v e =
      let (in-shut, reaches) = (sweeps n table s t.between_is t.more_is v).0 e in
      let (end, target, walk) = reaches in
      let same = eqb-true end last (sym (t.alone_is end) ∙ target) in
      record {
        second = k.shut_second v in-shut;
        closing = k.left_second last lowest.member;
        higher = k.shut_lower v last in-shut lowest.member;
        reached = rw same at walk;
      }

  -- one in `shut` that is not among `more` does not reach it
  not_last : (v end : ℕ) → Reaching n table most s v end → has shut v ≡ true → has t.more v ≡ false → end ≡ last → ⊥
  not_last v end r in-shut not_more same =
      let target = t.alone_is end ∙ eq-eqb end last same in
      let swept = (sweeps n table s t.between_is t.more_is v).1 (in-shut, (end, target, r.reached)) in
      clash (has t.more v) swept not_more

  closed-cases : (v : ℕ) → has closed v ≡ true → (has shut v ≡ true) ⊎ (v ≡ last)
  closed-cases v e = elim (or-either (has t.fewer v) (has t.alone v) (sym (t.closed_is v) ∙ e)) [
    | inl stays ↦ inl (and_parts (has shut v) (not (has t.more v)) (sym (t.fewer_is v) ∙ stays)).0
    | inr joins ↦ inr (eqb-true v last (sym (t.alone_is v) ∙ joins))
  ]

  closed-second : (v : ℕ) → has closed v ≡ true → Second n table s v
  closed-second v e = elim (closed-cases v e) [
    | inl in-shut ↦ k.shut_second v in-shut
    | inr same ↦ rw same (k.left_second last lowest.member)
  ]

  closed-lower : (v w : ℕ) → has closed v ≡ true → has rest w ≡ true → v < w
  closed-lower v w e l = elim (closed-cases v e) [
    | inl in-shut ↦ k.shut_lower v w in-shut (rest-within t.takes w l)
    | inr same ↦ rw same (rest-higher w l)
  ]

  opened-opens : (v : ℕ) → has opened v ≡ true → is_open (rings_by n table most) (s ∷ v ∷ []) ≡ true
  opened-opens v e = elim (or-either (has found v) (has t.more v) (sym (t.opened_is v) ∙ e)) [
    | inl in-found ↦ k.found_opens v in-found
    | inr in-more ↦ reaching-opens t.atom (more-reaching v in-more)
  ]

  -- where one is that has not opened, which was left or in `shut`
  abbrev Placed : ℕ → ℕ → Type 0
  Placed v end = (has rest end ≡ true) × (has rest v || has closed v ≡ true)

  from-left : (v end : ℕ) → Reaching n table most s v end → has left end ≡ true → has left v ≡ true → Placed v end
  from-left v end r end-left v-left =
      (rest_has end end-left (omega (arith, r.higher, lowest.least v v-left)), go (dec_lt last v))
    where
      go : Dec (last < v) → has rest v || has closed v ≡ true
      go (yes above) = rw (rest_has v v-left above)
      go (no other) =
          let same : v ≡ last = omega (arith, lowest.least v v-left) in
          let joins = or_right (has t.fewer v) (has t.alone v) (t.alone_is v ∙ eq-eqb v last same) in
          or_right (has rest v) (has closed v) (t.closed_is v ∙ joins)

  from-shut :
      (v end : ℕ) → Reaching n table most s v end → has left end ≡ true → has shut v ≡ true → has t.more v ≡ false →
      Placed v end
  from-shut v end r end-left v-shut not_more =
      let differ = not_last v end r v-shut not_more in
      let above : last < end = omega (arith, lowest.least end end-left) in
      let stays : has closed v ≡ true = rw (t.closed_is v, t.fewer_is v, v-shut, not_more) in
      (rest_has end end-left above, or_right (has rest v) (has closed v) stays)

  placed : (v end : ℕ) → Reaching n table most s v end → has opened v ≡ false → Placed v end
  placed v end r not_opened =
      let (not_found, not_more) = or-neither (has found v) (has t.more v) (sym (t.opened_is v) ∙ not_opened) in
      let (end-left, place) = k.others v end r not_found in
      elim (or-either (has left v) (has shut v) place) [
        | inl v-left ↦ from-left v end r end-left v-left
        | inr v-shut ↦ from-shut v end r end-left v-shut not_more
      ]

  pub sifted-turn : Sifted n table most s rest closed opened
  sifted-turn =
      record {
        left_second = λ v e. k.left_second v (rest-within t.takes v e);
        shut_second = closed-second;
        shut_lower = closed-lower;
        found_opens = opened-opens;
        others = placed;
      }

-- none is left
pub sifted-end :
    {n : ℕ} {table : List ℕ} {most s : ℕ} {left shut found : List ℕ} → OneAtom n table most s →
    Sifted n table most s left shut found → ((v : ℕ) → has left v ≡ false) →
    (v : ℕ) → has found v ≡ is_open (rings_by n table most) (s ∷ v ∷ [])
sifted-end {left = left} {found = found} b k none v =
    same_test (has found v) _ (k.found_opens v)
    (λ e. let (last, r) = opens-reaching b e in
    true_of (has found v) (λ not_found. clash (has left last) (k.others v last r not_found).0 (none last)))

-- a ring has three atoms or more
pub ring-by-not-short :
    (n : ℕ) (table : List ℕ) (most : ℕ) (p : List ℕ) (v : ℕ) → length p ≤ 1 →
    (rings_by n table most).member (p ++ v ∷ []) ≡ false
ring-by-not-short n table most p v h = rw (ring-not-short n (linked_by table) p v h)

-- they are the plan of the beginning s
pub seconds-tell :
    {n : ℕ} (table : List ℕ) (most : ℕ) {s : ℕ} {members opens : List ℕ} → ((v : ℕ) → has members v ≡ false) →
    ((v : ℕ) → has opens v ≡ is_open (rings_by n table most) (s ∷ v ∷ [])) →
    Everywhere (rings_by n table most) (s ∷ []) (record { members = members; opens = opens })
seconds-tell {n} table most {s} members-none opens-is v =
    record {
      members = members-none v ∙ sym (ring-by-not-short n table most (s ∷ []) v (omega arith));
      opens = opens-is v;
    }

-- whether there is one tells whether some ring begins with s
pub starts-told :
    {n : ℕ} {table : List ℕ} {most s : ℕ} {opens : List ℕ} {empty : Bool} → OneAtom n table most s →
    ((v : ℕ) → has opens v ≡ is_open (rings_by n table most) (s ∷ v ∷ [])) → Emptiness opens empty →
    not empty ≡ is_open (rings_by n table most) (s ∷ [])
starts-told {empty = true} b opens-is k = sym (start_none b (λ v. sym (opens-is v) ∙ k.none refl v))
starts-told {empty = false} b opens-is k =
    let (v, e) = k.some refl in
    sym (start-some b v (sym (opens-is v) ∙ e))

-- ---- the first atom ahead

-- no atom from c on and below a begins a ring
pub record NoneBefore (n : ℕ) (table : List ℕ) (most c a : ℕ) : Type 0 where
  pub from : c ≤ a
  pub shut : (v : ℕ) → c ≤ v → v < a → is_open (rings_by n table most) (v ∷ []) ≡ false

pub none_before : {n : ℕ} {table : List ℕ} {most : ℕ} (c : ℕ) → NoneBefore n table most c c
none_before c = record { from = omega arith; shut = λ v l h. absurd (omega arith) }

module _ {n : ℕ} {table : List ℕ} {most c a : ℕ} (k : NoneBefore n table most c a) where
  pub none_more : is_open (rings_by n table most) (a ∷ []) ≡ false → NoneBefore n table most c (a + 1)
  none_more e = record { from = omega (arith, k.from); shut = λ v l h. go v l h (dec_lt v a) }
    where
      go : (v : ℕ) → c ≤ v → v < a + 1 → Dec (v < a) → is_open (rings_by n table most) (v ∷ []) ≡ false
      go v l h (yes below) = k.shut v l below
      go v l h (no other) = let same : v ≡ a = omega arith in rw same e

  -- the atom of a turn
  pub turn-atom : OneAtom n table most c → a ≤ n → OneAtom n table most a
  turn-atom b high = record { words = b.words; room = b.room; low = omega (arith, b.low, k.from); high = high }

  -- it begins one
  pub ahead-first :
      {plan : Plan} → OneAtom n table most a → is_open (rings_by n table most) (a ∷ []) ≡ true →
      Everywhere (rings_by n table most) (a ∷ []) plan → FirstFound n table most c (record { plan = plan; atom = a })
  ahead-first b e tells =
      record { tells = tells; high = b.high; from = k.from; begins = e; before = k.shut }

  -- a is past the last atom: none begins one
  pub ahead_none : n < a → FirstAhead n table most c None
  ahead_none end v l = go (dec_lt v a)
    where
      go : Dec (v < a) → is_open (rings_by n table most) (v ∷ []) ≡ false
      go (yes below) = k.shut v l below
      go (no other) =
          false_of (is_open (rings_by n table most) (v ∷ []))
          (λ o. let L = rings-by-lawful n table most in
          let range = open-range (rings_by n table most) L (v ∷ []) o 0 (omega arith) in
          omega (arith, range))
