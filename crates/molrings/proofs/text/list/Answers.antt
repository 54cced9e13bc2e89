-- `text::list` prints the text of the bytes that it has read: of all that decide it, or of some where a read fails; and
-- a beginning of it where a write fails.
use Rattle.std.proofs.Common.{◌≡◌, of_calls, rules}
use Rattle.molrings.specs.Text.{molrings_listing}
use Rattle.molrings.proofs.Laws.{opened-sound, lists-part, lists-all}
use Rattle.molrings.proofs.text.list.Goals as goal

pub list-requires-clause-sound : goal.list-requires-clause-sound
list-requires-clause-sound g c bytes l x =
    let is : l ≡ molrings_listing bytes = search (of_calls, rules) in
    rw is (opened-sound bytes)

pub returns-clause-some : goal.returns-clause-some
returns-clause-some g c =
    lists-part (λ bytes l x. search (of_calls, rules)) _ _ _ _ (rw c.buffer-input.ensures at c.list.ensures.some)

pub returns-clause-all : goal.returns-clause-all
returns-clause-all g c =
    lists-all (λ bytes l x. search (of_calls, rules)) _ _ _ _ c.list.result
    (rw c.buffer-input.ensures at c.list.ensures.all)
