-- `atomset::without_lowest` meets its contract: the lowest bit of the first word that is not 0 goes.
-- By `left-first` and `left_second`.
use mathlib.Core.Path.{◌≡◌}
use native.Mathlib.Omega.{arith}
use Rattle.atomset.proofs.Members.{left-first, left_second, second_word}
use lib.ListN.{get_or}
use mir.Val.{Fits}
use mir.Syntax.{w64}
use borrow.Author.Rules.{rules}
use Rattle.atomset.proofs.without_lowest.Goals as goal

pub returns-then-x-ne0 : goal.returns-then-x-ne0
returns-then-x-ne0 c =
    let small : Fits w64 (get_or c.args.x 0 0) = search rules in
    left-first c.args.x c.if-x-ne0.true small.fits

pub overflow_sub-result-2 : goal.overflow_sub-result-2
overflow_sub-result-2 c =
    let some : get_or c.args.x 1 0 ≡ 0 → ⊥ = second_word c.args.x c.requires c.if-x-ne0.false in
    omega (arith, some)

pub returns : goal.returns
returns c =
    let small : Fits w64 (get_or c.args.x 1 0) = search rules in
    let some = second_word c.args.x c.requires c.if-x-ne0.false in
    left_second c.args.x c.if-x-ne0.false some small.fits
