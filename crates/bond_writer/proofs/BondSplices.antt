-- Bond lines put over a list cell by cell, byte by byte and row by row: each loop puts those of some further cells.
-- Where the bonds of the first cells are put, those of the next are put where they end.
use Prim.Native.Nat.{ℕ, ◌+◌, ◌-◌, ◌*◌, ◌/◌, ◌≤◌}
use native.Mathlib.Omega.{arith}
use mathlib.Core.Path.{◌≡◌, refl, ap, sym, ◌∙◌}
use mathlib.Core.List.{List, [], ◌∷◌, ◌++◌, append_assoc, append-nil}
use lib.ListN.{length, length-append}
use Rattle.fields.specs.Field.{field_text}
use Rattle.fields.proofs.Laws.{field-length}
use Rattle.molecule.specs.BondList.{Bond, bond_list}
use Rattle.search.specs.Mark.{bond_lines, fields_text, line_feed}
use Rattle.search.proofs.BondLines.{bond-lines-length}
use Rattle.bond_writer.specs.Parts.{spliced, bonds_between, row_bonds, LinesPut, RowFits, BondsFit}
use Rattle.bond_writer.proofs.Splices.{splice-none, splice-next}
use Rattle.bond_writer.proofs.CellBonds.{between_split, between-grows, no_cells, low-cells}
use Rattle.bond_writer.proofs.CellBonds.{columns-beyond, rows-beyond}

-- ---- lines

pub lines-append : (xs ys : List Bond) → bond_lines (xs ++ ys) ≡ bond_lines xs ++ bond_lines ys
unfolding bond_lines
lines-append [] ys = refl
lines-append (x ∷ xs) ys = rw (lines-append xs ys, ← append_assoc)

-- two fields and a line feed, each put where the one before it ends, are a line
pub line-put :
    (l : List ℕ) {l1 l2 l3 : List ℕ} (at a b : ℕ) → at + 9 ≤ length l → l1 ≡ spliced at (field_text 4 a) l →
    l2 ≡ spliced (at + 4) (field_text 4 b) l1 → l3 ≡ spliced (at + 8) line_feed l2 →
    l3 ≡ spliced at (bond_lines ((a, b) ∷ [])) l
unfolding bond_lines fields_text
line-put l {l1} {l2} at a b room e1 e2 e3 =
    let left = field-length 4 a in
    let right = field-length 4 b in
    let two = e2 ∙ splice-next l (field_text 4 a) (field_text 4 b) l1 at (at + 4) e1 (omega arith) (omega arith) in
    let atoms = field_text 4 a ++ field_text 4 b in
    let size : length atoms ≡ 8 = length-append (field_text 4 a) (field_text 4 b) ∙ omega arith in
    simp append-nil (e3 ∙ splice-next l atoms line_feed l2 at (at + 8) two (omega arith) (omega arith))

-- no bond has no line, and the line of one bond has 9 bytes
pub put-none : {bonds : List Bond} {place : ℕ} {l : List ℕ} → bonds ≡ [] → LinesPut bonds place l l place
unfolding bond_lines
put-none {place = place} {l = l} none =
    record { ends = rw none (omega arith); put = rw none (sym (splice-none l place)) }

pub one-fits :
    {bonds : List Bond} {x : Bond} (place room : ℕ) → bonds ≡ x ∷ [] → place + 9 * length bonds ≤ room →
    place + 9 ≤ room
one-fits place room one fits = rw one at fits

pub put_one :
    {bonds : List Bond} {x : Bond} {place : ℕ} {l l' : List ℕ} → bonds ≡ x ∷ [] →
    l' ≡ spliced place (bond_lines (x ∷ [])) l → LinesPut bonds place l l' (place + 9)
put_one one put = record { ends = rw one; put = rw one put }

-- ---- the lines of bonds, put one after another

-- the bonds of the first i of k cells from cell p on are put over l from `at` on, and `place` is where they end
pub record Lined (rows l : List ℕ) (at p k : ℕ) (out : List ℕ) (i place : ℕ) : Type 0 where
  pub room : at + 9 * length (bonds_between rows p k) ≤ length l
  pub within : i ≤ k
  pub ends : place ≡ at + 9 * length (bonds_between rows p i)
  pub size : length out ≡ length l
  pub put : out ≡ spliced at (bond_lines (bonds_between rows p i)) l

-- none of the first i cells has a bond
pub lined-none :
    {rows l : List ℕ} {at p k i : ℕ} → at + 9 * length (bonds_between rows p k) ≤ length l → i ≤ k →
    bonds_between rows p i ≡ [] → Lined rows l at p k l i at
lined-none {l = l} {at = at} room most none =
    let put : LinesPut _ at l l at = put-none none in
    record { room = room; within = most; ends = put.ends; size = refl; put = put.put }

module _ {rows l : List ℕ} {at p k : ℕ} {out : List ℕ} {i place : ℕ} (f : Lined rows l at p k out i place) where
  -- the j cells from cell q on are the next
  module _ {q : ℕ} (j : ℕ) (from : q ≡ p + i) where
    both : bonds_between rows p (i + j) ≡ bonds_between rows p i ++ bonds_between rows q j
    both = rw from (between_split rows p i j)

    -- their lines have room
    pub lined-fits : i + j ≤ k → place + 9 * length (bonds_between rows q j) ≤ length out
    lined-fits most =
        let size = ap length both ∙ length-append (bonds_between rows p i) (bonds_between rows q j) in
        omega (arith, f.room, f.ends, f.size, between-grows rows p (i + j) k most)

    module _ {next : ℕ} (to : next ≡ i + j) (most : next ≤ k) where
      -- their lines are put at the place
      pub lined-more :
          {out' : List ℕ} {end : ℕ} → LinesPut (bonds_between rows q j) place out out' end →
          length out' ≡ length out → Lined rows l at p k out' next end
      lined-more {out'} put same =
          let first = bonds_between rows p i in
          let more = bonds_between rows q j in
          let here : place ≡ at + length (bond_lines first) = rw (bond-lines-length first) f.ends in
          let fits = lined-fits (omega arith) in
          let room : place + length (bond_lines more) ≤ length l = rw (bond-lines-length more, ← f.size) fits in
          let on = splice-next l (bond_lines first) (bond_lines more) out at place f.put here room in
          record {
            room = f.room;
            within = most;
            ends = rw (to, both, length-append) (omega (arith, f.ends, put.ends));
            size = same ∙ f.size;
            put = rw (to, both, lines-append) (put.put ∙ on);
          }

      -- they have no bond
      pub lined-skip : bonds_between rows q j ≡ [] → Lined rows l at p k out next place
      lined-skip none =
          let same : bonds_between rows p next ≡ bonds_between rows p i = rw (to, both, none) (append-nil _) in
          record { room = f.room; within = most; ends = rw same f.ends; size = f.size; put = rw same f.put }

  pub lined-all : k ≤ i → LinesPut (bonds_between rows p k) at l out place
  lined-all h =
      let same : i ≡ k = omega (arith, f.within) in
      record { ends = rw same at f.ends; put = rw same at f.put }

-- a row of n atoms: its bytes before the diagonal have no bond, and those past n have none
module _ {rows l : List ℕ} {n row place : ℕ} (fits : RowFits rows n row l place) where
  pub row-start : Lined rows l place (128 * row) 128 l (8 * (row / 8)) place
  row-start =
      let most = fits.few in
      let one = fits.one in
      lined-none fits.room (omega arith) (low-cells rows row (8 * (row / 8)) (omega arith) (omega arith))

  pub row_put :
      {out : List ℕ} {end : ℕ} (i : ℕ) → n ≤ 8 * i → Lined rows l place (128 * row) 128 out (8 * i) end →
      LinesPut (row_bonds rows row) place l out end
  row_put i past f =
      let rest = 128 - 8 * i in
      let whole : 8 * i + rest ≡ 128 = omega (arith, f.within) in
      let none = columns-beyond rows n fits.sound row (8 * i) rest fits.one fits.few past whole in
      lined-all (lined-skip f rest refl (sym whole) (omega arith) none) (omega arith)

-- the rows of n atoms: those past n have no bond
module _ {rows l : List ℕ} {n at : ℕ} (fits : BondsFit rows n l at) where
  all-bonds : bonds_between rows 0 (128 * n) ≡ bond_list rows
  all-bonds = rows-beyond rows n fits.sound fits.few

  pub bonds-start : Lined rows l at 0 (128 * n) l 0 at
  bonds-start = lined-none (rw all-bonds fits.room) (omega arith) (no_cells rows 0)

  pub bonds-put :
      {out : List ℕ} {place : ℕ} (row : ℕ) → n ≤ row → Lined rows l at 0 (128 * n) out (128 * row) place →
      out ≡ spliced at (bond_lines (bond_list rows)) l
  bonds-put row past f = rw all-bonds at (lined-all f (omega arith)).put
