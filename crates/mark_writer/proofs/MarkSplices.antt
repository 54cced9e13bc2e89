-- The parts of a mark put over a list, each where the one before it ends, are its text put over the front.
-- The bond lines are made, or copied from a mark of the same molecule, which has the same ones.
use Rattle.std.specs.Prelude.{Ok}
use Prim.Native.Nat.{ℕ, ◌+◌, ◌*◌, ◌≤◌, ◌<◌}
use native.Mathlib.Numerals.{add-one}
use native.Mathlib.Omega.{arith}
use mathlib.Core.Path.{◌≡◌, refl, ap, sym, ◌∙◌}
use mathlib.Core.List.{List, [], ◌∷◌, ◌++◌}
use lib.ListN.{length, get_or, take, drop, set, length-append, length-drop, length-set}
use lib.Seq.{take-suc, take-suc-set}
use Rattle.molecule.specs.declared.Molecule.{Molecule}
use Rattle.molecule.specs.BondList.{bond_list}
use Rattle.molecule.proofs.Bonds.{rule9}
use Rattle.molecule.proofs.BondCount.{bonds-count}
use Rattle.search.specs.declared.Search.{Search}
use Rattle.search.specs.Place.{beginning}
use Rattle.search.specs.Mark.{fields_text, line_feed, three_lines, bond_lines, bonds_from, mark_text, restore_mark}
use Rattle.search.proofs.Text.{fields-length}
use Rattle.search.proofs.Views.{beginning-length}
use Rattle.search.proofs.Restores.{head_of, counts_of, three-length}
use Rattle.search.proofs.MarkLaws.{bonds-size, restored-bonds}
use Rattle.bond_writer.specs.Parts.{spliced, BondsFit}
use Rattle.mark_writer.specs.Parts.{CopyFits, OwnLines, LinesFit, MarkFits}
use Rattle.bond_writer.proofs.Splices.{splice-next}

-- ---- the atoms of a beginning, one after another

-- of the first `len` places of the beginning's array i are in `atoms`
pub record Widened (prefix : List ℕ) (len : ℕ) (atoms : List ℕ) (i : ℕ) : Type 0 where
  pub within : i ≤ len
  pub size : length atoms ≡ 128
  pub same : take i atoms ≡ take i prefix

module _ {prefix atoms : List ℕ} {len i : ℕ} (w : Widened prefix len atoms i) where
  pub widened-more :
      length prefix ≡ 128 → len ≤ 127 → i < len → Widened prefix len (set atoms i (get_or prefix i 0)) (i + 1)
  widened-more full short more = record {
    within = omega arith;
    size = length-set atoms i (get_or prefix i 0) ∙ w.size;
    same =
        rw (add-one i, take-suc prefix i 0 (omega arith))
        (take-suc-set atoms i (get_or prefix i 0) (omega (arith, w.size)) ∙
        ap (λ (l : List ℕ). l ++ get_or prefix i 0 ∷ []) w.same);
  }

  pub widened-all : len ≤ i → take len atoms ≡ take len prefix
  widened-all last = let same : i ≡ len = omega (arith, w.within) in rw same at w.same

-- ---- the lines of a mark

-- a text of n bytes is put over the front of l
record Front (l text out : List ℕ) (n : ℕ) : Type 0 where
  size : length text ≡ n
  put : out ≡ spliced 0 text l

front-more :
    {l text out out' : List ℕ} {n : ℕ} → Front l text out n → (more : List ℕ) (k : ℕ) → length more ≡ k →
    n + k ≤ length l → out' ≡ spliced n more out → Front l (text ++ more) out' (n + k)
front-more {l} {text} {out} f more k size room e =
    record {
      size = rw (length-append, f.size, size);
      put = e ∙ splice-next l text more out 0 _ f.put (omega (arith, f.size)) (omega arith);
    }

module _ {q : Search} {l : List ℕ} (fits : LinesFit q l) where
  pub fits-length : length (beginning q) ≡ q.len
  fits-length = beginning-length q fits.full fits.short

  -- six texts, each put where the one before it ends
  pub lines-put :
      (mol : Molecule) {l1 l2 l3 l4 l5 l6 : List ℕ} → l1 ≡ spliced 0 (fields_text 4 (head_of mol q)) l →
      l2 ≡ spliced 28 line_feed l1 → l3 ≡ spliced 29 (fields_text 20 (counts_of q)) l2 → l4 ≡ spliced 89 line_feed l3 →
      l5 ≡ spliced 90 (fields_text 4 (beginning q)) l4 → l6 ≡ spliced (90 + 4 * q.len) line_feed l5 →
      l6 ≡ spliced 0 (three_lines mol q) l
  unfolding three_lines
  lines-put mol e1 e2 e3 e4 e5 e6 =
      let room = fits.room in
      let size = fields-length 4 (beginning q) ∙ ap (λ k. 4 * k) fits-length in
      let head : Front l _ _ 28 = record { size = fields-length 4 (head_of mol q); put = e1 } in
      let first = front-more head line_feed 1 refl (omega arith) e2 in
      let counts =
      front-more first (fields_text 20 (counts_of q)) 60 (fields-length 20 (counts_of q)) (omega arith) e3 in
      let second = front-more counts line_feed 1 refl (omega arith) e4 in
      let atoms = front-more second (fields_text 4 (beginning q)) (4 * q.len) size (omega arith) e5 in
      (front-more atoms line_feed 1 refl (omega arith) e6).put

-- ---- a mark

-- of no bytes nothing is copied
pub own-lines-none : (mol : Molecule) (mark : List ℕ) → length mark ≡ 0 → OwnLines mol mark
own-lines-none mol mark none = record { whole = λ h. absurd (omega arith); lines = λ h. absurd (omega arith) }

-- an accepted mark has the bond lines of its molecule
pub own-lines-restored :
    (mol : Molecule) (mark : List ℕ) (q : Search) → restore_mark mol mark ≡ Ok q → OwnLines mol mark
own-lines-restored mol mark q e =
    let (whole, lines) = restored-bonds mol mark q e in
    record { whole = λ h. whole; lines = λ h. lines }

module _ {mol : Molecule} {q : Search} {l : List ℕ} (fits : MarkFits mol q l) where
  abbrev lines : List ℕ
  lines = bond_lines (bond_list mol.rows)

  -- past the three lines there is room for the bond lines, made or copied
  module _ (out : List ℕ) (same : length out ≡ length l) where
    pub fits-bonds : BondsFit mol.rows mol.atoms out (91 + 4 * q.len)
    fits-bonds =
        let rule = rule9 mol fits.formed in
        let room = fits.room in
        let count = bonds-count mol fits.formed in
        record { few = rule.atoms_high; sound = rule.rows-sound; room = omega arith }

    pub fits-copy : {mark : List ℕ} → OwnLines mol mark → 1 ≤ length mark → CopyFits mark out (91 + 4 * q.len)
    fits-copy {mark} own some =
        let given = own.lines some in
        let size = sym (length-drop (bonds_from mark) mark) ∙ ap length given ∙ bonds-size mol fits.formed in
        let room = fits.room in
        record { whole = own.whole some; room = omega arith }

  -- they are put where the three lines end
  pub mark-put :
      {l1 l2 : List ℕ} → l1 ≡ spliced 0 (three_lines mol q) l → l2 ≡ spliced (91 + 4 * q.len) lines l1 →
      l2 ≡ spliced 0 (mark_text mol q) l
  unfolding mark_text
  mark-put {l1} e1 e2 =
      let len = fits-length fits.lines in
      let three = three-length mol q in
      let size = bonds-size mol fits.formed in
      let room = fits.room in
      e2 ∙ splice-next l (three_lines mol q) lines l1 0 (91 + 4 * q.len) e1 (omega arith) (omega arith)

  pub mark-copied :
      {mark l1 l2 : List ℕ} → OwnLines mol mark → 1 ≤ length mark → l1 ≡ spliced 0 (three_lines mol q) l →
      l2 ≡ spliced (91 + 4 * q.len) (drop (bonds_from mark) mark) l1 → l2 ≡ spliced 0 (mark_text mol q) l
  mark-copied {l1 = l1} own some e1 e2 =
      mark-put e1 (e2 ∙ ap (λ text. spliced (91 + 4 * q.len) text l1) (own.lines some))
