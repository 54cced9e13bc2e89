-- `print` writes the text of each turn once and in order: the whole text of the listing, or a beginning of it.
use Rattle.std.proofs.Common.{rules, sym, length-take-le, arith}
use Rattle.listing.proofs.Contracts.{turned-within}
use Rattle.listing.proofs.Joined.{turned-goes-on}
use Rattle.listing.proofs.Printing.{printing-begins, printing-ends, printing-goes-on, printing-part}
use Rattle.listing.proofs.print.Goals as goal

pub loop-next-init : goal.loop-next-init
loop-next-init g c = record {
  size = search rules;
  sound = c.requires;
  printing = rw c.piece-piece.ensures (printing-begins c.args.begun _);
}

pub slice_bounds-piece-end : goal.slice_bounds-piece-end
slice_bounds-piece-end g c = turned-within c.loop-next.listing c.loop-next.piece c.take_turn-turn.ensures

pub slice_bounds-write_all-end : goal.slice_bounds-write_all-end
slice_bounds-write_all-end g c =
    sym (length-take-le _ _ (turned-within c.loop-next.listing c.loop-next.piece c.take_turn-turn.ensures))

pub returns-in_err-write_all-clause-some : goal.returns-in_err-write_all-clause-some
returns-in_err-write_all-clause-some g c =
    let inv = c.loop-next.invariant in
    printing-part _ inv.printing c.take_turn-turn.ensures (omega arith) inv.sound c.in_err-write_all.ensures.some

pub returns-in_default-clause-all : goal.returns-in_default-clause-all
returns-in_default-clause-all g c =
    let inv = c.loop-next.invariant in
    printing-ends _ inv.printing c.take_turn-turn.ensures (search rules) c.in_ok-write_all.ensures.all

pub returns-in_default-clause-some : goal.returns-in_default-clause-some
returns-in_default-clause-some g c =
    let inv = c.loop-next.invariant in
    printing-part _ inv.printing c.take_turn-turn.ensures (omega arith) inv.sound c.in_ok-write_all.ensures.some

pub loop-next-smaller : goal.loop-next-smaller
loop-next-smaller g c =
    let loop = c.loop-next in
    (turned-goes-on loop.listing loop.piece c.take_turn-turn.ensures.0 loop.invariant.sound c.in-Some.is).1

pub loop-next-preserved : goal.loop-next-preserved
loop-next-preserved g c =
    let loop = c.loop-next in
    let turn = c.take_turn-turn.ensures in
    record {
      size = search rules;
      sound = (turned-goes-on loop.listing loop.piece turn.0 loop.invariant.sound c.in-Some.is).0;
      printing = printing-goes-on _ loop.invariant.printing turn c.in-Some.is c.in_ok-write_all.ensures.all;
    }
