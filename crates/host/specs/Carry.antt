-- Carrying a mark from C (include/ringlist.h; document 02, F-6): what the two entries return and leave in their
-- outputs, and what is listed after an old mark is carried over.
use Rattle.std.specs.Prelude.{ℕ, ◌≡◌, true, List, ◌++◌, take}
use Rattle.enumeration.specs.Trials.{records}
use Rattle.molecule.specs.declared.Molecule.{Molecule}
use Rattle.search.specs.declared.Form.{Form}
use Rattle.history.specs.Calls.{Call, start, standing}
use Rattle.history.specs.Demand.{Demand}
use Rattle.carry.specs.Carry.{carry_answer, carry_output}
use Rattle.host.specs.Written.{WrittenOut, written_out}
use Rattle.host.specs.Resume.{listed_in}
use Rattle.host.specs.Calls.{HostCall, Kept, all_calls_in, returned_done, list_of}

-- An entry that carries a mark from one form to the other: rules 1 to 8, 14 to 17, 13
abbrev pub carry_sheet : Form → Form → List ℕ → List ℕ → List ℕ → ℕ → WrittenOut
carry_sheet from to sheet mark out before =
    written_out (carry_answer from to sheet mark out) (carry_output from to sheet mark out) before

-- ---- what is listed after an old mark is carried over

-- The calls `past` on the record R began with the fresh search of a kind, s and t; the old mark of the search as it
-- then stood was carried over. After calls from C that began with the mark written, the host keeps k. (A save, or a
-- restore of the old mark of the search as it stood, leaves what stands: such calls need not be among `past`.)
pub record GoesOnWith
    (R : Molecule) (kind s t : ℕ) (past : List Call) (calls : List HostCall) (k : Kept) : Type 0 where
  -- the past and what the calls did are one history, of which demand 3 speaks
  pub demand :
      Demand R kind s t (past ++ all_calls_in calls) (standing (start kind s t) (past ++ all_calls_in calls))
  -- its ring sheet is that of the past, and then the records kept since
  pub sheet_joined :
      (standing (start kind s t) (past ++ all_calls_in calls)).sheet ≡ (standing (start kind s t) past).sheet ++ k.rings
  -- the first of the one list, as many as the mark's listed count says
  pub records_first :
      (standing (start kind s t) past).sheet ++ k.rings ≡ records (take (listed_in k.mark) (list_of R kind s t))
  -- after a call that returned 101 all of it
  pub done_whole :
      returned_done calls ≡ true → (standing (start kind s t) past).sheet ++ k.rings ≡ records (list_of R kind s t)
