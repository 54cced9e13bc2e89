-- The numbers of the atoms seen are those of the lists of as few bonds as can be that lead from them to s, capped.
-- An atom's number is the sum over the atoms of the layer before it that it is bonded to: the others lead nowhere.
use Prim.Native.Nat.{ℕ, suc, ◌≤◌, ◌<◌}
use native.Mathlib.Decide.{ℕ_discrete, dec_lt}
use native.Mathlib.Omega.{arith}
use mathlib.Core.Path.{◌≡◌, refl, ap, sym, ◌∙◌}
use mathlib.Core.Bool.{Bool, true, false, ◌&&◌, not, cond, and-false}
use mathlib.Core.List.{List}
use mathlib.Core.Logic.{◌⊎◌, inl, inr}
use lib.ListN.{length, get_or, set, replicate, length-set, length-replicate}
use lib.Seq.{get_or-set_same, get_or-set_other}
use borrow.Author.Tests.{eq-eqb, not-true}
use Rattle.graph.specs.Chordless.{Adjacency}
use Rattle.graph.proofs.Below.{clash, either, false_of, and_parts}
use Rattle.graph.proofs.Places.{zeros-at}
use Rattle.chordless.specs.Distance.{Atom, Far, ways}
use Rattle.chordless.proofs.Sums.{total-same, total-beyond}
use Rattle.chordless.proofs.Routes.{none_of, ways-here, here-ways}
use Rattle.chordless.proofs.Distances.{far-same, far-next, nearest}
use Rattle.distance.specs.Layers.{NextLayer, Measured}
use Rattle.distance.specs.Capped.{capped, SumsKept, Numbered}
use Rattle.distance.proofs.Layers.{Layers, found-far, found-every, layers-next, none-farther}
use Rattle.distance.proofs.Sums.{sum_before, capped_small, capped-total}

-- the numbers after d rounds
pub record Tallied (n : ℕ) (adj : Adjacency) (s d : ℕ) (unseen : ℕ → Bool) (numbers : List ℕ) : Type 0 where
  pub size : length numbers ≡ 129
  pub seen : (v e : ℕ) → e ≤ d → Atom n v → Far n adj s e v → get_or numbers v 0 ≡ capped (ways n adj s e v)
  pub none : (v : ℕ) → unseen v ≡ true → get_or numbers v 0 ≡ 0

-- the rounds of a count of lists
pub record Tally (n : ℕ) (adj : Adjacency) (s : ℕ) (numbers : List ℕ) (front unseen : ℕ → Bool) : Type 0 where
  pub d : ℕ
  pub layers : Layers n adj s d front unseen
  pub tallied : Tallied n adj s d unseen numbers

-- ---- at first s alone has a number

abbrev pub no_numbers : List ℕ
no_numbers = replicate 129 0

module _ {n : ℕ} {adj : Adjacency} {s : ℕ} where
  pub tally-start :
      {front unseen : ℕ → Bool} → Measured n adj s → Layers n adj s 0 front unseen →
      Tally n adj s (set no_numbers s 1) front unseen
  unfolding ways
  tally-start {front} {unseen} measured l =
      record { d = 0; layers = l; tallied = record { size = long; seen = seen; none = none } }
    where
      zeros-long : length no_numbers ≡ 129
      zeros-long = length-replicate {A = ℕ} 129 0

      long : length (set no_numbers s 1) ≡ 129
      long = length-set no_numbers s 1 ∙ zeros-long

      seen :
          (v e : ℕ) → e ≤ 0 → Atom n v → Far n adj s e v → get_or (set no_numbers s 1) v 0 ≡ capped (ways n adj s e v)
      seen v e h at far =
          let first : e ≡ 0 = omega arith in
          let inside : s < length no_numbers = omega (arith, zeros-long, measured.few, measured.atom.high) in
          let same : v ≡ s = here-ways n adj s (rw first at far.joined) in
          rw (first, same, eq-eqb s s refl)
          (get_or-set_same no_numbers s 1 0 inside ∙ sym (capped_small (omega arith)))

      none : (v : ℕ) → unseen v ≡ true → get_or (set no_numbers s 1) v 0 ≡ 0
      none v e =
          let other : v ≡ s → ⊥ =
          λ same. omega (arith, l.unseen_far v e 0 (omega arith), ways-here n adj s same) in
          get_or-set_other no_numbers s v 1 0 other ∙ zeros-at 129 v

  -- ---- the next layer

  module _
      {d : ℕ} {front unseen found : ℕ → Bool} (measured : Measured n adj s) (l : Layers n adj s d front unseen)
      (next : NextLayer adj front unseen found) where
    -- no atom is in two layers
    layers-apart : (v : ℕ) → found v ≡ true → front v ≡ false
    layers-apart v e =
        false_of (front v) (λ h.
        let same = far-same (found-far l measured.both_ways next v e) (l.front_far v h) in
        omega arith)

    -- an atom that is not in this layer, bonded to one of the next, leads nowhere by d bonds
    leads-nowhere :
        (v a : ℕ) → Far n adj s (suc d) v → Atom n a → adj v a ≡ true → front a ≡ false → ways n adj s d a ≡ 0
    leads-nowhere v a far at bond away =
        none_of (ways n adj s d a) (λ some. clash (front a) (l.front_every a at (far-next far at bond some)) away)

    -- so the lists from an atom of the next layer go on by an atom of this one
    sum-ways :
        {numbers : List ℕ} → Tallied n adj s d unseen numbers → (v : ℕ) → Far n adj s (suc d) v →
        sum_before adj front numbers v ≡ capped (ways n adj s (suc d) v)
    unfolding ways
    sum-ways {numbers} tallied v far =
        ap capped
        (total-beyond n 128 part measured.few beyond
        ∙ total-same n part (λ a. capped (whole a)) (λ a at. same a at (either (adj v a))))
        ∙ capped-total n whole
      where
        part : ℕ → ℕ
        part a = cond (adj v a && front a) (get_or numbers a 0) 0

        whole : ℕ → ℕ
        whole a = cond (adj v a) (ways n adj s d a) 0

        beyond : (a : ℕ) → n < a → part a ≡ 0
        beyond a h =
            let away = false_of (front a) (λ e. absurd (omega (arith, (l.front_atom a e).high))) in
            rw (away, and-false (adj v a))

        same : (a : ℕ) → Atom n a → (adj v a ≡ true) ⊎ (adj v a ≡ false) → part a ≡ capped (whole a)
        same a at (inr q) = rw q (sym (capped_small (omega arith)))
        same a at (inl q) = elim (either (front a)) [
          | inl here ↦ rw (q, here) (tallied.seen a d (omega arith) at (l.front_far a here))
          | inr away ↦ rw (q, away, leads-nowhere v a far at q away) (sym (capped_small (omega arith)))
        ]

    tallied-more :
        {further : ℕ → Bool} {numbers new : List ℕ} → Tallied n adj s d unseen numbers →
        SumsKept adj front found numbers new → ((a : ℕ) → further a ≡ (unseen a && not (found a))) →
        Tallied n adj s (suc d) further new
    tallied-more {further} {numbers} {new} tallied kept further-is =
        record { size = kept.size; seen = λ v e h at far. seen v e h at far (ℕ_discrete e (suc d)); none = none }
      where
        stays : (v : ℕ) → found v ≡ false → get_or new v 0 ≡ get_or numbers v 0
        stays v e = kept.sums v ∙ rw e

        seen :
            (v e : ℕ) → e ≤ suc d → Atom n v → Far n adj s e v → Dec (e ≡ suc d) →
            get_or new v 0 ≡ capped (ways n adj s e v)
        seen v e h at far (yes q) =
            let far-next : Far n adj s (suc d) v = rw q at far in
            let is_found = found-every l measured.both_ways next v at far-next in
            kept.sums v ∙ rw (is_found, q) (sum-ways tallied v far-next)
        seen v e h at far (no q) =
            let not_found = false_of (found v) (λ i. q (far-same far (found-far l measured.both_ways next v i))) in
            stays v not_found ∙ tallied.seen v e (omega arith) at far

        none : (v : ℕ) → further v ≡ true → get_or new v 0 ≡ 0
        none v e =
            let (is-unseen, not_found) = and_parts (unseen v) (not (found v)) (sym (further-is v) ∙ e) in
            stays v (not-true (found v) not_found) ∙ tallied.none v is-unseen

  pub tally-more :
      {front unseen found further : ℕ → Bool} {numbers new : List ℕ} → Measured n adj s →
      Tally n adj s numbers front unseen → NextLayer adj front unseen found → SumsKept adj front found numbers new →
      ((a : ℕ) → further a ≡ (unseen a && not (found a))) → Tally n adj s new found further
  tally-more measured y next kept further-is = record {
    d = suc y.d;
    layers = layers-next y.layers measured.both_ways next further-is;
    tallied = tallied-more measured y.layers next y.tallied kept further-is;
  }

  -- ---- an empty layer

  pub tally-end :
      {front unseen : ℕ → Bool} {numbers : List ℕ} {t : ℕ} → Tally n adj s numbers front unseen →
      ((a : ℕ) → front a ≡ false) → Atom n t → Numbered n adj s t (get_or numbers t 0)
  tally-end {t = t} y empty at = elim (nearest n adj s y.d t) [
    | inr (e, within, far) ↦ inl (e, far, y.tallied.seen t e within at far)
    | inl none ↦ inr (λ e. nowhere none e, y.tallied.none t (y.layers.unseen_every t at none))
  ]
    where
      nowhere : ((e : ℕ) → e ≤ y.d → ways n adj s e t ≡ 0) → (e : ℕ) → ways n adj s e t ≡ 0
      nowhere none e = elim (nearest n adj s e t) [
        | inl All-none ↦ All-none e (omega arith)
        | inr (k, within, far) ↦ elim (dec_lt y.d k) [
          | yes above ↦ absurd (none-farther y.layers empty k t (omega arith) at far)
          | no below ↦ absurd (omega (arith, far.joined, none k (omega arith)))
        ]
      ]
