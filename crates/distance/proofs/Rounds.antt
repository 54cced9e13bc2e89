-- The rows kept so far are the bonds that lead one nearer to t, from distance d or less.
-- A round keeps those from the next layer; with an empty layer they are all.
use Prim.Native.Nat.{ℕ, suc, ◌<◌}
use native.Mathlib.Decide.{ℕ_discrete, dec_lt}
use native.Mathlib.Omega.{arith}
use mathlib.Core.Path.{◌≡◌, sym, ◌∙◌}
use mathlib.Core.Bool.{Bool, true, false, ◌&&◌, not}
use mathlib.Core.List.{List}
use mathlib.Core.Logic.{inl, inr}
use lib.ListN.{length, length-replicate}
use Rattle.graph.specs.Chordless.{Adjacency}
use Rattle.graph.proofs.Below.{clash, either, false_of, and_parts, and_both}
use Rattle.chordless.specs.Distance.{Atom, Far, Nearing}
use Rattle.chordless.specs.Reach.{Symmetric}
use Rattle.chordless.proofs.Distances.{far-same}
use Rattle.atomset.specs.Set.{linked_by}
use Rattle.distance.specs.Layers.{NextLayer, RowsKept}
use Rattle.distance.proofs.Layers.{Layers, found-far, found-every, layers-next, none-farther}
use Rattle.distance.proofs.Rows.{zeros, linked-none}

-- a bond from distance e + 1 to distance e
pub record Leads (n : ℕ) (adj : Adjacency) (t e a b : ℕ) : Type 0 where
  pub bond : adj a b ≡ true
  pub from : Atom n a
  pub to : Atom n b
  pub from_far : Far n adj t (suc e) a
  pub to_far : Far n adj t e b

-- the rows after d rounds
pub record Kept (n : ℕ) (adj : Adjacency) (t d : ℕ) (rows : List ℕ) : Type 0 where
  pub size : length rows ≡ 256
  pub only : (a b : ℕ) → linked_by rows a b ≡ true → (e : ℕ) × (e < d) × Leads n adj t e a b
  pub every : (a b e : ℕ) → e < d → Leads n adj t e a b → linked_by rows a b ≡ true

-- the rounds of a search for the bonds that lead nearer to t
pub record Rounds
    (n : ℕ) (adj : Adjacency) (t : ℕ) (rows : List ℕ) (front unseen : ℕ → Bool) : Type 0 where
  pub d : ℕ
  pub layers : Layers n adj t d front unseen
  pub kept : Kept n adj t d rows

module _ {n : ℕ} {adj : Adjacency} {t : ℕ} where
  pub kept-none : Kept n adj t 0 zeros
  kept-none = record {
    size = length-replicate {A = ℕ} 256 0;
    only = λ a b e. absurd (clash (linked_by zeros a b) e (linked-none a b));
    every = λ a b e within leads. absurd (omega arith);
  }

  module _
      {d : ℕ} {front unseen found : ℕ → Bool} {rows new : List ℕ} (both_ways : Symmetric adj)
      (l : Layers n adj t d front unseen) (next : NextLayer adj front unseen found)
      (stored : RowsKept adj front found rows new) where
    -- the row of an atom of the next layer, and of another
    row-found : {a : ℕ} → found a ≡ true → (b : ℕ) → linked_by new a b ≡ (adj a b && front b)
    row-found {a} e b = rw (stored.bonds a b, e)

    row_other : {a : ℕ} → found a ≡ false → (b : ℕ) → linked_by new a b ≡ linked_by rows a b
    row_other {a} e b = rw (stored.bonds a b, e)

    leads-found : {a b : ℕ} → found a ≡ true → linked_by new a b ≡ true → Leads n adj t d a b
    leads-found {a} {b} e linked =
        let (bond, here) = and_parts (adj a b) (front b) (sym (row-found e b) ∙ linked) in
        record {
          bond = bond;
          from = l.unseen_atom a (next.fresh a e);
          to = l.front_atom b here;
          from_far = found-far l both_ways next a e;
          to_far = l.front_far b here;
        }

    pub kept_more : Kept n adj t d rows → Kept n adj t (suc d) new
    kept_more kept =
        record { size = stored.size; only = only; every = λ a b e within leads. every leads within (ℕ_discrete e d) }
      where
        only : (a b : ℕ) → linked_by new a b ≡ true → (e : ℕ) × (e < suc d) × Leads n adj t e a b
        only a b linked = elim (either (found a)) [
          | inl is_found ↦ (d, omega arith, leads-found is_found linked)
          | inr other ↦
              let (e, within, leads) = kept.only a b (sym (row_other other b) ∙ linked) in
              (e, omega arith, leads)
        ]

        every : {a b e : ℕ} → Leads n adj t e a b → e < suc d → Dec (e ≡ d) → linked_by new a b ≡ true
        every {a} {b} leads within (yes q) =
            let is_found = found-every l both_ways next a leads.from (rw q at leads.from_far) in
            let here = l.front_every b leads.to (rw q at leads.to_far) in
            row-found is_found b ∙ and_both (adj a b) (front b) leads.bond here
        every {a} {b} {e} leads within (no q) =
            let not_found : found a ≡ false =
            false_of (found a) (λ is_found.
            let same = far-same leads.from_far (found-far l both_ways next a is_found) in
            q (omega arith)) in
            row_other not_found b ∙ kept.every a b e (omega arith) leads

  pub rounds-start : {front unseen : ℕ → Bool} → Layers n adj t 0 front unseen → Rounds n adj t zeros front unseen
  rounds-start l = record { d = 0; layers = l; kept = kept-none }

  pub rounds-more :
      {front unseen found further : ℕ → Bool} {rows new : List ℕ} → Symmetric adj →
      Rounds n adj t rows front unseen → NextLayer adj front unseen found →
      RowsKept adj front found rows new → ((a : ℕ) → further a ≡ (unseen a && not (found a))) →
      Rounds n adj t new found further
  rounds-more both_ways r next stored further-is = record {
    d = suc r.d;
    layers = layers-next r.layers both_ways next further-is;
    kept = kept_more both_ways r.layers next stored r.kept;
  }

  pub rounds-end :
      {front unseen : ℕ → Bool} {rows : List ℕ} → Rounds n adj t rows front unseen →
      ((a : ℕ) → front a ≡ false) → Nearing n adj t (linked_by rows)
  rounds-end {rows = rows} r empty = record {
    bond = λ a b linked. let (e, within, leads) = r.kept.only a b linked in leads.bond;
    from = λ a b linked. let (e, within, leads) = r.kept.only a b linked in leads.from;
    to = λ a b linked. let (e, within, leads) = r.kept.only a b linked in leads.to;
    nearer = λ a b linked.
        let (e, within, leads) = r.kept.only a b linked in (e, leads.from_far, leads.to_far);
    every = every;
  }
    where
      every :
          (a b d : ℕ) → Atom n a → Atom n b → adj a b ≡ true → Far n adj t (suc d) a → Far n adj t d b →
          linked_by rows a b ≡ true
      every a b d from to bond from_far to_far = elim (dec_lt d r.d) [
        | yes below ↦
            r.kept.every a b d below
            record { bond = bond; from = from; to = to; from_far = from_far; to_far = to_far }
        | no above ↦ absurd (none-farther r.layers empty d b (omega arith) to to_far)
      ]
