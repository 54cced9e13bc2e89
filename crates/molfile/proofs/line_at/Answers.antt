-- The line that begins at a place.
-- Each return by what stands before the first line feed.
use Rattle.molfile.proofs.Feeds.{line-missing, line-empty, line_plain, line-returned}
use Rattle.molfile.proofs.line_at.Goals.{else-from-feed-via-then-from-feed+else-s-feed-eq-RETURN, else-from-feed-via-else-from-feed}
use Rattle.molfile.proofs.line_at.Goals as goal

pub returns-in_err-feed : goal.returns-in_err-feed
returns-in_err-feed c = rw c.from_residual.ensures (line-missing c.in_err-feed.ensures)

pub returns-then-s-feed-eq-RETURN : goal.returns-then-s-feed-eq-RETURN
returns-then-s-feed-eq-RETURN c =
    line-returned c.in_ok-feed.ensures c.if-from-feed.true c.if-s-feed-eq-RETURN.true

pub returns : goal.returns
returns c = elim c.else-from-feed.branch [
  | else-from-feed-via-then-from-feed+else-s-feed-eq-RETURN w ↦
      line_plain c.in_ok-feed.ensures w.if-from-feed.true w.if-s-feed-eq-RETURN.false
  | else-from-feed-via-else-from-feed w ↦ line-empty c.in_ok-feed.ensures w.if-from-feed.false
]
