-- What starting and running return and leave in the output (document 01, "The search, trial by trial" and "Turned back
-- by number"; rule 21 and kind 2: document 02, F-4; kind 3: F-14).
use Rattle.std.specs.Prelude.{ℕ, ◌&&◌, cond, List, ◌++◌, length, drop, eqb, Err, Ok, Result}
use Rattle.refusal.specs.declared.Refusal.{Refusal}
use Rattle.refusal.specs.declared.Refusal.TheVariants as refusal
use Rattle.refusal.specs.Number.{number_of}
use Rattle.enumeration.specs.declared.Stop.{Stop}
use Rattle.enumeration.specs.Run.{Outcome, run, stop_number}
use Rattle.molecule.specs.declared.Molecule.{Molecule}
use Rattle.molecule.specs.Record.{well_formed}
use Rattle.molecule.specs.Ends.{with_ends}
use Rattle.search.specs.declared.Search.{Search}
use Rattle.search.specs.declared.Ran.{Ran}
use Rattle.search.specs.Place.{lists_paths, family, state_of, search_at, fresh_search, bound_kept, restorable}

-- A fresh search of a kind that lists paths from s to t among n atoms: rule 10, rule 11
unfoldable pub fresh_paths : ℕ → ℕ → ℕ → ℕ → Result Search Refusal
fresh_paths n kind s t = with_ends n s t Err (Ok (fresh_search kind s t))

-- A fresh search for the rings of at most k atoms: rule 21
unfoldable pub fresh_rings_up_to : ℕ → Result Search Refusal
fresh_rings_up_to k = cond (bound_kept k) (Ok (fresh_search 2 k 0)) (Err refusal.RingSize)

-- A fresh search of a kind, s and t among n atoms: rule 16 where there is no such kind, or where s or t is not 0 and
-- the kind has none; otherwise rules 10 and 11 of paths, and 21 of rings up to a size
unfoldable pub fresh_of_kind : ℕ → ℕ → ℕ → ℕ → Result Search Refusal
fresh_of_kind n kind s t =
    cond (eqb kind 0 && eqb s 0 && eqb t 0) (Ok (fresh_search 0 0 0))
    (cond (lists_paths kind) (fresh_paths n kind s t)
    (cond (eqb kind 2 && eqb t 0) (fresh_rings_up_to s)
    (Err refusal.MarkKind)))

-- Every start tries rule 9 first
abbrev pub on_record : Molecule → Result Search Refusal → Result Search Refusal
on_record mol made = cond (well_formed mol) made (Err refusal.Record)

-- A fresh ring search: rule 9
unfoldable pub start_rings : Molecule → Result Search Refusal
start_rings mol = on_record mol (Ok (fresh_search 0 0 0))

-- A fresh search for the paths from s to t: rule 9, rule 10, rule 11
unfoldable pub start_paths : Molecule → ℕ → ℕ → Result Search Refusal
start_paths mol s t = on_record mol (fresh_paths mol.atoms 1 s t)

-- A fresh search for the shortest paths from s to t: rule 9, rule 10, rule 11
unfoldable pub start_shortest : Molecule → ℕ → ℕ → Result Search Refusal
start_shortest mol s t = on_record mol (fresh_paths mol.atoms 3 s t)

-- A fresh search for the rings of at most k atoms: rule 9, rule 21
unfoldable pub start_rings_up_to : Molecule → ℕ → Result Search Refusal
start_rings_up_to mol k = on_record mol (fresh_rings_up_to k)

-- A fresh search of any kind: rule 9, and then those of the kind, s and t
unfoldable pub start_search : Molecule → ℕ → ℕ → ℕ → Result Search Refusal
start_search mol kind s t = on_record mol (fresh_of_kind mol.atoms kind s t)

-- The run of a search by the definition
abbrev pub outcome : Molecule → Search → ℕ → List ℕ → Outcome
outcome mol q budget out = run (family mol q) budget (length out) (state_of q)

-- What a run of q returns that came to an outcome
abbrev pub ran : Search → Outcome → Ran
ran q o = record {
  stop = o.stop;
  search = search_at q.kind q.s q.t o.state;
  used = length o.bytes;
  made = o.made;
}

-- A run: rule 9, then 12
unfoldable pub run_search : Molecule → Search → ℕ → List ℕ → Result Ran Refusal
run_search mol q budget out =
    cond (well_formed mol)
    (cond (restorable mol q) (Ok (ran q (outcome mol q budget out))) (Err refusal.Search))
    (Err refusal.Record)

-- The search after a run of q: a refused one leaves it as it was
abbrev pub search_after : Search → Result Ran Refusal → Search
search_after q (Ok ran) = ran.search
search_after q (Err r) = q

-- Its output: the records, and then the bytes that were there
unfoldable pub run_output : Molecule → Search → ℕ → List ℕ → List ℕ
run_output mol q budget out =
    cond (well_formed mol && restorable mol q)
    ((outcome mol q budget out).bytes ++ drop (length (outcome mol q budget out).bytes) out)
    out

-- How a run ended: with its stop, or refused
abbrev pub ended : Result Ran Refusal → Result Stop Refusal
ended (Ok ran) = Ok ran.stop
ended (Err r) = Err r

-- The number of how a run ended: of its stop or of its refusal
abbrev pub ended_number : Result Stop Refusal → ℕ
ended_number (Ok stop) = stop_number stop
ended_number (Err r) = number_of r
