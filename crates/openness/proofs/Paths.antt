-- Openness of a beginning of one atom of a path: only s begins a path from s to t, and whether it does is told by a
-- sweep of which s is the sole candidate, or by its row where every bond leads nearer to t.
use Prim.Native.Nat.{ℕ}
use mathlib.Core.Path.{◌≡◌, refl, sym, ◌∙◌}
use mathlib.Core.Bool.{Bool, true, false, ◌&&◌, and-true}
use mathlib.Core.List.{List, [], ◌∷◌}
use mathlib.Core.Logic.{◌↔◌}
use lib.Dec.{leb, eqb}
use native.Mathlib.Decide.{ℕ_discrete}
use borrow.Author.Tests.{eq-eqb, ne_eqb, eqb-true}
use Rattle.graph.proofs.Below.{clash, false_of, same_test}
use Rattle.enumeration.specs.Words.{is_open}
use Rattle.chordless.specs.Reach.{Walk, clear, free}
use Rattle.chordless.specs.Families.{paths}
use Rattle.chordless.specs.Distance.{Leading}
use Rattle.chordless.proofs.Paths.{path-opens-none}
use Rattle.chordless.proofs.Lawful.{paths-lawful}
use Rattle.chordless.proofs.UpTo.{upto_all}
use Rattle.chordless.proofs.Nearer.{leading-starts}
use Rattle.search.proofs.Readings.{ends-facts}
use Rattle.atomset.specs.Set.{has, linked_by, Emptiness}
use Rattle.sweep.specs.Swept.{Reached}
use Rattle.sweep.proofs.Walks.{reached-same}
use Rattle.openness.specs.Plan.{paths_by}
use Rattle.openness.specs.Parts.{TwoEnds}

module _ {n : ℕ} {table : List ℕ} {s t : ℕ} (b : TwoEnds n table s t) where
  start-opens :
      (c : ℕ) → (is_open (paths_by n table s t) (c ∷ []) ≡ true) ↔
      ((c ≡ s) × Walk (linked_by table) (free n (linked_by table) 0 []) t 127 s)
  start-opens c =
      let e = ends-facts n s t b.ends in
      path-opens-none n (linked_by table) s t b.irreflexive 128 c e.differ (e.s_low, e.s_high)
      (e.t_low, e.t_high)

  pub start-other : {c : ℕ} → (c ≡ s → ⊥) → is_open (paths_by n table s t) (c ∷ []) ≡ false
  start-other {c} d =
      false_of (is_open (paths_by n table s t) (c ∷ [])) (λ o. d ((start-opens c).0 o).0)

  -- the sweep of which s is the sole candidate
  pub firsts-told :
      {goal all want swept : ℕ → Bool} → ((v : ℕ) → goal v ≡ eqb v t) →
      ((v : ℕ) → all v ≡ (leb 1 v && leb v n)) → ((v : ℕ) → want v ≡ eqb v s) →
      Reached (linked_by table) all goal 127 want swept →
      (v : ℕ) → swept v ≡ is_open (paths_by n table s t) (v ∷ [])
  firsts-told {goal} {all} {want} {swept} goal-is all-is want_is found v =
      same_test (swept v) (is_open (paths_by n table s t) (v ∷ [])) to back
    where
      all-free : (u : ℕ) → all u ≡ free n (linked_by table) 0 [] u
      all-free u = all-is u ∙ sym (and-true (leb 1 u && leb u n)) ∙ (unfold free clear in refl)

      sweeps : Reached (linked_by table) (free n (linked_by table) 0 []) (λ u. eqb u t) 127 want swept
      sweeps = reached-same (λ a b. refl) all-free goal-is found

      to : swept v ≡ true → is_open (paths_by n table s t) (v ∷ []) ≡ true
      to e =
          let (wanted, reaches) = (sweeps v).0 e in
          let (last, is-t, walk) = reaches in
          let is-s = eqb-true v s (sym (want_is v) ∙ wanted) in
          (start-opens v).1 (is-s, rw (eqb-true last t is-t, is-s) at walk)

      back : is_open (paths_by n table s t) (v ∷ []) ≡ true → swept v ≡ true
      back o =
          let (is-s, walk) = (start-opens v).0 o in
          (sweeps v).1 (want_is v ∙ eq-eqb v s is-s, (t, eq-eqb t t refl, rw is-s walk))

  -- every bond leads nearer to t: the row of s tells
  module _ (leading : Leading n t (linked_by table)) {row : List ℕ} (row_is : (v : ℕ) → has row v ≡ linked_by table s v)
      {empty : Bool} (told : Emptiness row empty) where
    s-opens : (is_open (paths_by n table s t) (s ∷ []) ≡ true) ↔ ((v : ℕ) × (linked_by table s v ≡ true))
    s-opens =
        rw (upto_all 128 (paths n (linked_by table) s t) (paths-lawful n (linked_by table) s t) b.few)
        (leading-starts leading s)

    -- no bond leads on from s
    pub none-led : empty ≡ true → (v : ℕ) → has row v ≡ is_open (paths_by n table s t) (v ∷ [])
    none-led empties v = told.none empties v ∙ sym (false_of (is_open (paths_by n table s t) (v ∷ [])) shut)
      where
        shut : is_open (paths_by n table s t) (v ∷ []) ≡ true → ⊥
        shut o =
            let is-s = ((start-opens v).0 o).0 in
            let (a, bond) = s-opens.0 (rw is-s at o) in
            clash (has row a) (row_is a ∙ bond) (told.none empties a)

    -- some bond does
    pub one-led :
        {alone : ℕ → Bool} → ((v : ℕ) → alone v ≡ eqb v s) → empty ≡ false → (v : ℕ) →
        alone v ≡ is_open (paths_by n table s t) (v ∷ [])
    one-led {alone} alone_is some v = alone_is v ∙ go (ℕ_discrete v s)
      where
        go : Dec (v ≡ s) → eqb v s ≡ is_open (paths_by n table s t) (v ∷ [])
        go (yes e) =
            let (a, held) = told.some some in
            eq-eqb v s e ∙ sym (rw e (s-opens.1 (a, sym (row_is a) ∙ held)))
        go (no d) = ne_eqb v s d ∙ sym (start-other d)
