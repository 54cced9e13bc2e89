-- What a run in place returns; the search that it leaves is `search_after` of `search`.
use Rattle.std.specs.Prelude.{Err, Ok, Result}
use Rattle.refusal.specs.declared.Refusal.{Refusal}
use Rattle.search.specs.declared.Ran.{Ran}
use Rattle.inplace.specs.declared.Advanced.{Advanced}

-- a run's answer without its search
abbrev pub answer_of : Result Ran Refusal → Result Advanced Refusal
answer_of (Ok r) = Ok (record { stop = r.stop; used = r.used; made = r.made })
answer_of (Err r) = Err r
