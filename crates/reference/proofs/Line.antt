-- A line of the table holds when what it names computes: on the record of an accepted sheet no entry turns it back.
-- Rule 9 is a law of accepted sheets, rule 12 one of fresh searches and of runs; the mark of such a search restores it.
use Rattle.std.specs.Prelude.{Ok, Err, Result, is_ok}
use Prim.Native.Nat.{ℕ, ◌*◌, ◌≤◌}
use mathlib.Core.Path.{◌≡◌, refl, sym, ap, ap₂, subst, ◌∙◌}
use mathlib.Core.Bool.{true, false}
use mathlib.Core.List.{List, [], ◌∷◌, ◌++◌}
use lib.ListN.{length, drop}
use Rattle.enumeration.specs.Words.{members}
use Rattle.enumeration.specs.Run.{Outcome}
use Rattle.enumeration.specs.Trials.{Valid}
use Rattle.enumeration.proofs.Theorems.{run-keeps-valid}
use Rattle.graph.proofs.Below.{clash}
use Rattle.refusal.specs.declared.Refusal.{Refusal}
use Rattle.refusal.specs.Answers.{unless_refused}
use Rattle.molecule.specs.declared.Molecule.{Molecule}
use Rattle.molecule.specs.Record.{fresh_molecule, well_formed}
use Rattle.molecule.specs.BondList.{Bond, bonds_to}
use Rattle.molecule.proofs.Rules.{sound-of-rules}
use Rattle.molecule.proofs.Bonds.{rule9}
use Rattle.molecule.proofs.BondLaws.{bonds-within}
use Rattle.sheet.specs.Read.{read_sheet}
use Rattle.sheet.proofs.Accepted.{accepted-well-formed}
use Rattle.search.specs.declared.Search.{Search}
use Rattle.search.specs.declared.Ran.{Ran}
use Rattle.search.specs.Place.{family_of, family, state_of, search_at, kind_kept, restorable}
use Rattle.search.specs.Entries.{outcome, ran, run_search, run_output}
use Rattle.search.specs.Mark.{three_lines, bond_lines, mark_text, save_output, restore_mark}
use Rattle.search.proofs.Readings.{family-lawful}
use Rattle.search.proofs.Views.{restorable-valid, valid-full, fresh-restorable, run-restorable}
use Rattle.search.proofs.MarkLaws.{saved-restores, save_writes}
use Rattle.search.proofs.Accepts.{kept-starts}
use Rattle.reference.specs.Table.{Line, molecule_of, fresh_of, Saves, Holds, AllHold}

-- ---- what entries answer where rules 9 and 12 are kept

module _ (R : Molecule) (good : well_formed R ≡ true) where
  module _ (q : Search) (kept : restorable R q ≡ true) (budget : ℕ) (out : List ℕ) where
    run-answers : run_search R q budget out ≡ Ok (ran q (outcome R q budget out))
    unfolding run_search
    run-answers = rw (good, kept)

    run-leaves :
        let bytes = (outcome R q budget out).bytes in
        run_output R q budget out ≡ bytes ++ drop (length bytes) out
    unfolding run_output
    run-leaves = rw (good, kept)

    run-kept : restorable R (ran q (outcome R q budget out)).search ≡ true
    run-kept = run-restorable R q good kept budget (length out)

    -- the mark of the search that it returns restores that search
    run-restores :
        let after = (ran q (outcome R q budget out)).search in
        restore_mark R (mark_text R after) ≡ Ok after
    run-restores =
        let F = family R q in
        let lawful = family-lawful R q.kind q.s q.t in
        let end = (outcome R q budget out).state in
        let start = restorable-valid R q kept in
        let valid : Valid F end = run-keeps-valid F lawful budget (length out) (state_of q) start in
        saved-restores R (search_at q.kind q.s q.t end) good run-kept
        (valid-full R q.kind q.s q.t good end valid)

  -- a save into a buffer with room for the mark
  save-leaves :
      (q : Search) (buffer : List ℕ) → restorable R q ≡ true → length (mark_text R q) ≤ length buffer →
      save_output R q buffer ≡ mark_text R q ++ drop (length (mark_text R q)) buffer
  unfolding save_output
  save-leaves q buffer kept room = rw (save_writes R q buffer good kept room)

-- ---- a line

-- what a run answers and leaves in the output
abbrev pub entered : Line → Outcome → Ran × List ℕ
entered l o = (ran (fresh_of l) o, o.bytes ++ drop (length o.bytes) l.output)

-- the mark of a search by the cells of the first n rows, past which there is no bond
unfoldable pub mark_in : Molecule → Search → List ℕ
mark_in R q = three_lines R q ++ bond_lines (bonds_to R.rows (128 * R.atoms))

mark-within : (R : Molecule) (q : Search) → well_formed R ≡ true → mark_text R q ≡ mark_in R q
unfolding mark_text mark_in
mark-within R q good =
    let rule = rule9 R good in
    let sound = sound-of-rules R.rows R.atoms rule.rows-sound in
    ap (λ (xs : List Bond). three_lines R q ++ bond_lines xs)
    (sym (bonds-within R.rows R.atoms rule.atoms_high sound))

-- an accepted sheet is read as the record of its line
read-as :
    (answer : Result Molecule Refusal) → is_ok answer ≡ true →
    answer ≡ Ok (unless_refused answer (λ r. fresh_molecule) (λ mol. mol))
read-as (Ok mol) e = refl
read-as (Err r) e = absurd (clash false e refl)

-- What a line says where nothing is turned back: both sides of every equation compute
pub record Computed (l : Line) : Type 0 where
  pub reads : is_ok (read_sheet l.sheet) ≡ true
  pub kinds : kind_kept (molecule_of l).atoms l.kind l.s l.t ≡ true
  pub lists : members (family_of (molecule_of l) l.kind l.s l.t) ≡ l.list
  pub runs : entered l (outcome (molecule_of l) (fresh_of l) l.budget l.output) ≡ (l.returned, l.written)
  pub marks : mark_in (molecule_of l) l.returned.search ≡ l.mark
  pub measures : length l.mark ≡ l.size

module _ (l : Line) (c : Computed l) where
  -- the record, the fresh search, the run's outcome and the search that it returns
  abbrev R : Molecule
  R = molecule_of l

  abbrev q : Search
  q = fresh_of l

  abbrev o : Outcome
  o = outcome R q l.budget l.output

  abbrev after : Search
  after = l.returned.search

  reads-as : read_sheet l.sheet ≡ Ok R
  reads-as = read-as (read_sheet l.sheet) c.reads

  good : well_formed R ≡ true
  good = accepted-well-formed l.sheet R reads-as

  fresh_kept : restorable R q ≡ true
  fresh_kept = fresh-restorable R l.kind l.s l.t good c.kinds

  returned-is : ran q o ≡ l.returned
  returned-is = ap (λ (x : Ran × List ℕ). x.0) c.runs

  written_is : o.bytes ++ drop (length o.bytes) l.output ≡ l.written
  written_is = ap (λ (x : Ran × List ℕ). x.1) c.runs

  returned-kept : restorable R after ≡ true
  returned-kept =
      subst (λ (r : Ran). restorable R r.search ≡ true) returned-is
      (run-kept R good q fresh_kept l.budget l.output)

  returned-restores : restore_mark R (mark_text R after) ≡ Ok after
  returned-restores =
      subst (λ (r : Ran). restore_mark R (mark_text R r.search) ≡ Ok r.search) returned-is
      (run-restores R good q fresh_kept l.budget l.output)

  mark_is : mark_text R after ≡ l.mark
  mark_is = mark-within R after good ∙ c.marks

  mark-size : length (mark_text R after) ≡ l.size
  mark-size = ap length mark_is ∙ c.measures

  line-saves : (buffer : List ℕ) → l.size ≤ length buffer → Saves l buffer
  line-saves buffer room =
      let fits : length (mark_text R after) ≤ length buffer = rw mark-size room in
      let stays = ap₂ (λ (m : List ℕ) (k : ℕ). m ++ drop k buffer) mark_is mark-size in
      record {
        answers = save_writes R after buffer good returned-kept fits ∙ ap Ok mark-size;
        leaves = save-leaves R good after buffer returned-kept fits ∙ stays;
      }

  line-holds : Holds l
  line-holds =
      record {
        reads = reads-as;
        starts = kept-starts R l.kind l.s l.t good c.kinds;
        lists = c.lists;
        returns = run-answers R good q fresh_kept l.budget l.output ∙ ap Ok returned-is;
        writes = run-leaves R good q fresh_kept l.budget l.output ∙ written_is;
        marks = mark_is;
        measures = c.measures;
        saves = line-saves;
        restores = ap (restore_mark R) (sym mark_is) ∙ returned-restores;
      }

abbrev pub AllComputed : List Line → Type 0
AllComputed [] = Unit
AllComputed (l ∷ rest) = Computed l × AllComputed rest

pub all_hold : (ls : List Line) → AllComputed ls → AllHold ls
all_hold [] c = tt
all_hold (l ∷ rest) c = (line-holds l c.0, all_hold rest c.1)
