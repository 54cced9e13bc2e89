-- A record as bytes.
-- The head, and the rows copied behind it.
use native.Mathlib.Omega.{arith}
use mathlib.Core.Path.{◌≡◌, refl}
use lib.ListN.{length, drop, length-drop}
use borrow.Author.Rules.{rules}
use Rattle.flat.specs.Codes.{head_bytes, flat_bytes}
use Rattle.flat.proofs.Buffers.{behind-copied}
use Rattle.flat.proofs.flatten.Goals as goal

pub returns : goal.returns
unfolding flat_bytes head_bytes
returns c =
    let m = c.args.m in
    let rows-full : length m.rows ≡ 2048 = search rules in
    let rest : length (drop 4 c.args.out.now) ≡ length m.rows = simp length-drop (omega arith) in
    behind-copied (head_bytes m.atoms m.bonds) _ _ _ _ refl rest c.head.ensures c.copy_from_slice.ensures.after
