-- A made search is written where it was accepted.
-- By its answer.
use mathlib.Core.Path.{refl}
use Rattle.flat.specs.Searches.{made_numbers, made_prefix}
use Rattle.flat.proofs.store_made.Goals as goal

pub returns-in-Ok : goal.returns-in-Ok
unfolding made_numbers made_prefix
returns-in-Ok c =
    rw c.in-Ok.is
    (record { code_is = refl; numbers_are = c.pack.ensures.words_are; prefix_is = c.pack.ensures.array_is })

pub returns-in-Err : goal.returns-in-Err
unfolding made_numbers made_prefix
returns-in-Err c = rw c.in-Err.is (record { code_is = c.number.ensures; numbers_are = refl; prefix_is = refl })
