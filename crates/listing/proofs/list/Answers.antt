-- `list` prints the text of the listing that the bytes have which it has read, or a beginning of it.
use Rattle.std.proofs.Common.{refl, rules}
use Rattle.std.proofs.lemmas.Result.{on_ok_weaker}
use Rattle.listing.proofs.Printing.{listed-part, listed-whole}
use Rattle.listing.proofs.list.Goals as goal

pub print-requires : goal.print-requires
print-requires g c = c.requires.sound _ _ (_, c.«open».ensures, refl)

pub returns-in_err-print-clause-some : goal.returns-in_err-print-clause-some
returns-in_err-print-clause-some g c =
    let full = c.read_full-size in
    listed-part full.result.0 full.new.input full.ensures.within (search rules) full.ensures.bytes
    (_, c.«open».ensures, refl) c.in_err-print.ensures.some

pub returns-clause-some : goal.returns-clause-some
returns-clause-some g c =
    let full = c.read_full-size in
    listed-part full.result.0 full.new.input full.ensures.within (search rules) full.ensures.bytes
    (_, c.«open».ensures, refl) c.in_ok-print.ensures.some

pub returns-clause-all : goal.returns-clause-all
returns-clause-all g c =
    let full = c.read_full-size in
    on_ok_weaker full.result.1
    (listed-whole full.result.0 full.new.input full.ensures.within (search rules) full.ensures.bytes
    (_, c.«open».ensures, refl) c.in_ok-print.ensures.all)
    full.ensures.end
