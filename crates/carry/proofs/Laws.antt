-- The laws of carrying a mark: its numbers, what a refusal and a carried mark leave, and that there and back gives the
-- first bytes. By the ways through it, and the laws of marks in either form.
use Rattle.std.specs.Prelude.{Err, Ok, Result}
use Prim.Native.Nat.{ℕ, ◌≤◌, ◌<◌}
use native.Mathlib.Omega.{arith}
use mathlib.Core.Path.{◌≡◌, refl, ap, sym, ◌∙◌}
use mathlib.Core.Bool.{true}
use mathlib.Core.List.{List, ◌++◌}
use mathlib.Core.Logic.{◌⊎◌, inl, inr}
use lib.ListN.{length, take, drop}
use lib.Seq.{take_at, drop_at}
use Rattle.refusal.specs.declared.Refusal.{Refusal}
use Rattle.refusal.specs.declared.Refusal.TheVariants as refusal
use Rattle.refusal.specs.Number.{number_of}
use Rattle.refusal.proofs.Ranges.{within-refused}
use Rattle.molecule.specs.declared.Molecule.{Molecule}
use Rattle.molecule.specs.BondList.{bond_list}
use Rattle.sheet.specs.Read.{read_sheet}
use Rattle.sheet.proofs.Accepted.{accepted-well-formed}
use Rattle.sheet.proofs.Numbers.{sheet-numbers}
use Rattle.search.specs.declared.Search.{Search}
use Rattle.search.specs.declared.Form.{Form}
use Rattle.search.specs.declared.Form.TheVariants.{Old, New}
use Rattle.search.specs.Place.{restorable}
use Rattle.search.specs.Mark.{bond_lines, write_answer, answer_with, output_with}
use Rattle.search.specs.Forms.{mark_in, restore_in}
use Rattle.search.proofs.FormLaws.{form-restores, form-saves, form-restorable, form-rules}
use Rattle.search.proofs.FormLaws.{form-lines, longest, form-most, write-fits, write-short, write-ways}
use Rattle.search.proofs.FormLaws.{written-refused, written_same}
use Rattle.carry.specs.Carry as carry
use Rattle.carry.specs.Carry.{carry_answer, carry_output}
use Rattle.carry.proofs.Answers.{sheet-refuses, mark-refuses, saves}

-- ---- answers

-- Rules 1 to 8, rule 13, or rules 14 to 17
abbrev pub CarryNumber : ℕ → Type 0
CarryNumber k = ((1 ≤ k) × (k ≤ 8)) ⊎ ((13 ≤ k) × (k ≤ 17))

-- a text that is refused, or has no room, leaves every byte
refused-leaves :
    (text : Result (List ℕ) Refusal) (out : List ℕ) (r : Refusal) → answer_with text out ≡ Err r →
    output_with text out ≡ out
refused-leaves (Ok t) out r e = rw e
refused-leaves (Err x) out r e = refl

module _ (from to : Form) (sheet mark out : List ℕ) where
  -- what is returned, and the output then
  abbrev pub answered : Result ℕ Refusal
  answered = carry_answer from to sheet mark out

  abbrev pub left : List ℕ
  left = carry_output from to sheet mark out

  -- The sheet or the mark is refused
  record Turned : Type 0 where
    rule : Refusal
    is : answered ≡ Err rule
    ranged : CarryNumber (number_of rule)

  -- The sheet is accepted and the mark restores a search; then rule 13 decides
  record Taken : Type 0 where
    mol : Molecule
    search : Search
    read : read_sheet sheet ≡ Ok mol
    restored : restore_in from mol mark ≡ Ok search
    is : answered ≡ write_answer (mark_in to mol search) out

  module _ (mol : Molecule) (read : read_sheet sheet ≡ Ok mol) where
    taken : (q : Search) → restore_in from mol mark ≡ Ok q → Taken
    taken q e =
        record {
          mol = mol;
          search = q;
          read = read;
          restored = e;
          is = sym (saves from to sheet mark out read e (refl, refl)).0;
        }

    mark-way : (x : Result Search Refusal) → restore_in from mol mark ≡ x → Turned ⊎ Taken
    mark-way (Ok q) e = inr (taken q e)
    mark-way (Err r) e =
        let formed = accepted-well-formed sheet mol read in
        let (low, high) = within-refused 14 17 _ r e (form-rules from mol mark formed) in
        inl (record {
          rule = r;
          is = sym (mark-refuses from to sheet mark out read e).0;
          ranged = inr (omega arith, high);
        })

  sheet-way : (x : Result Molecule Refusal) → read_sheet sheet ≡ x → Turned ⊎ Taken
  sheet-way (Ok mol) e = mark-way mol e (restore_in from mol mark) refl
  sheet-way (Err r) e =
      inl (record {
        rule = r;
        is = sym (sheet-refuses from to sheet mark out e).0;
        ranged = inl (sheet-numbers sheet r e);
      })

  either : Turned ⊎ Taken
  either = sheet-way (read_sheet sheet) refl

  -- A refusal leaves every byte
  pub carry-refused : (r : Refusal) → answered ≡ Err r → left ≡ out
  unfolding carry_answer carry_output
  carry-refused r e = refused-leaves (carry.carried from to sheet mark) out r e

  -- It is by rules 1 to 8, 14 to 17 or 13
  pub carry-numbers : (r : Refusal) → answered ≡ Err r → CarryNumber (number_of r)
  carry-numbers r e = go either
    where
      same : {x : Refusal} → ◌≡◌ {A = Result ℕ Refusal} (Err x) (Err r) → x ≡ r
      same e = cc

      go : Turned ⊎ Taken → CarryNumber (number_of r)
      go (inl t) = rw (same (sym t.is ∙ e)) at t.ranged
      go (inr w) = elim (write-ways (mark_in to w.mol w.search) out) [
        | inl (room, is) ↦ absurd (written-refused (sym is ∙ sym w.is ∙ e))
        | inr (short, is) ↦ rw (← same (sym is ∙ sym w.is ∙ e)) (inr (omega arith, omega arith))
      ]

  -- ---- a mark that is carried

  -- k bytes are written: the mark, in the other form, of the search that the mark handed restores
  pub record CarriedFacts (k : ℕ) : Type 0 where
    pub mol : Molecule
    pub search : Search
    pub read : read_sheet sheet ≡ Ok mol
    pub restored : restore_in from mol mark ≡ Ok search
    pub size : k ≡ length (mark_in to mol search)
    pub fits : k ≤ length out
    pub written : take k left ≡ mark_in to mol search
    pub rest : drop k left ≡ drop k out
    -- the mark written restores the same search
    pub restores : restore_in to mol (take k left) ≡ Ok search

  -- its bytes, and then those that were there
  bytes_left : (w : Taken) (k : ℕ) → answered ≡ Ok k → left ≡ mark_in to w.mol w.search ++ drop k out
  unfolding carry_output
  bytes_left w k e = rw (w.read, w.restored, sym w.is ∙ e)

  carried :
      (w : Taken) (k : ℕ) → answered ≡ Ok k → k ≡ length (mark_in to w.mol w.search) → k ≤ length out →
      CarriedFacts k
  carried w k e size room =
      let (mol, q) : Molecule × Search = (w.mol, w.search) in
      let text = mark_in to mol q in
      let put = bytes_left w k e in
      let written = ap (take k) put ∙ take_at text (drop k out) k (sym size) in
      let (formed, kept, full) = form-restorable from mol mark q w.restored in
      record {
        mol = mol;
        search = q;
        read = w.read;
        restored = w.restored;
        size = size;
        fits = room;
        written = written;
        rest = ap (drop k) put ∙ drop_at text (drop k out) k (sym size);
        restores = ap (restore_in to mol) written ∙ form-restores to mol q formed kept full;
      }

  pub carried-facts : (k : ℕ) → answered ≡ Ok k → CarriedFacts k
  carried-facts k e = go either
    where
      go : Turned ⊎ Taken → CarriedFacts k
      go (inl t) = absurd (written-refused (sym e ∙ t.is))
      go (inr w) = elim (write-ways (mark_in to w.mol w.search) out) [
        | inl (room, is) ↦
            let size = written_same (sym e ∙ w.is ∙ is) in
            carried w k e size (omega arith)
        | inr (short, is) ↦ absurd (written-refused (sym e ∙ w.is ∙ is))
      ]

  -- ---- which marks are carried

  module _ (mol : Molecule) (read : read_sheet sheet ≡ Ok mol) (q : Search)
      (restored : restore_in from mol mark ≡ Ok q) where
    -- A mark that is accepted is carried, where the output has the bytes of the mark to be written
    pub carry-accepts :
        length (mark_in to mol q) ≤ length out →
        (answered ≡ Ok (length (mark_in to mol q))) ×
        (left ≡ mark_in to mol q ++ drop (length (mark_in to mol q)) out)
    unfolding taken
    carry-accepts room =
        let w = taken mol read q restored in
        let is = w.is ∙ write-fits (mark_in to mol q) out room in
        (is, bytes_left w (length (mark_in to mol q)) is)

    -- In a shorter output it falls under rule 13
    pub carry-short : length out < length (mark_in to mol q) → answered ≡ Err refusal.MarkRoom
    unfolding taken
    carry-short short = (taken mol read q restored).is ∙ write-short (mark_in to mol q) out short

    -- An output of 599 bytes has room for every old mark, and one of 9,815 for every new one
    pub carry-roomy : longest to ≤ length out → length (mark_in to mol q) ≤ length out
    carry-roomy room =
        let (formed, kept, full) = form-restorable from mol mark q restored in
        omega (arith, form-most to mol q formed kept)

-- The mark of a search, in one form, gives the mark of the same search in the other; of every kind that rule 12 allows
pub carry-mark :
    (from to : Form) (sheet out : List ℕ) (q : Search) (mol : Molecule) → read_sheet sheet ≡ Ok mol →
    restorable mol q ≡ true → length q.prefix ≡ 128 → length (mark_in to mol q) ≤ length out →
    (carry_answer from to sheet (mark_in from mol q) out ≡ Ok (length (mark_in to mol q))) ×
    (carry_output from to sheet (mark_in from mol q) out ≡ mark_in to mol q ++ drop (length (mark_in to mol q)) out)
carry-mark from to sheet out q mol read kept full =
    let restores = form-restores from mol q (accepted-well-formed sheet mol read) kept full in
    carry-accepts from to sheet (mark_in from mol q) out mol read q restores

-- ---- what the marks have in common

module _ (sheet mark out : List ℕ) (k : ℕ) where
  -- the bond lines of the sheet's molecule stand past a mark's other bytes
  pub record PastLines (other whole : List ℕ) : Type 0 where
    pub mol : Molecule
    pub read : read_sheet sheet ≡ Ok mol
    pub lines : whole ≡ other ++ bond_lines (bond_list mol.rows)

  -- Carried over: the old mark, and then the bond lines
  pub over-lines :
      carry_answer Old New sheet mark out ≡ Ok k → PastLines mark (take k (carry_output Old New sheet mark out))
  over-lines e =
      let c = carried-facts Old New sheet mark out k e in
      record {
        mol = c.mol;
        read = c.read;
        lines =
            c.written
            ∙ form-lines c.mol c.search
            ∙ ap (λ l. l ++ bond_lines (bond_list c.mol.rows)) (form-saves Old c.mol mark c.search c.restored);
      }

  -- Carried back: what stands before the bond lines
  pub back-lines :
      carry_answer New Old sheet mark out ≡ Ok k → PastLines (take k (carry_output New Old sheet mark out)) mark
  back-lines e =
      let c = carried-facts New Old sheet mark out k e in
      record {
        mol = c.mol;
        read = c.read;
        lines =
            sym (form-saves New c.mol mark c.search c.restored)
            ∙ form-lines c.mol c.search
            ∙ ap (λ l. l ++ bond_lines (bond_list c.mol.rows)) (sym c.written);
      }

-- ---- there and back with one sheet

-- The mark that is written, carried back, gives the first bytes, where the second output is long enough; in a shorter
-- one it falls under rule 13
abbrev pub ThereAndBack : Form → Form → Type 0
ThereAndBack from to =
    (sheet mark out second : List ℕ) (k : ℕ) → carry_answer from to sheet mark out ≡ Ok k →
    let there = take k (carry_output from to sheet mark out) in
    (length mark ≤ length second →
    (carry_answer to from sheet there second ≡ Ok (length mark)) ×
    (carry_output to from sheet there second ≡ mark ++ drop (length mark) second)) ×
    (length second < length mark → carry_answer to from sheet there second ≡ Err refusal.MarkRoom)

pub there_and_back : (from to : Form) → ThereAndBack from to
there_and_back from to sheet mark out second k e =
    let c = carried-facts from to sheet mark out k e in
    let there = take k (carry_output from to sheet mark out) in
    let same = form-saves from c.mol mark c.search c.restored in
    let accepts = carry-accepts to from sheet there second c.mol c.read c.search c.restores in
    let short = carry-short to from sheet there second c.mol c.read c.search c.restores in
    (rw same at accepts, rw same at short)

-- An old mark, carried over and back
pub over-and-back : ThereAndBack Old New
over-and-back = there_and_back Old New

-- A mark, carried back and over
pub back-and-over : ThereAndBack New Old
back-and-over = there_and_back New Old
