-- What a write takes is appended to what is done: a beginning of the text, and at the end all of it.
use Rattle.std.proofs.Common.{rules, subst, take_all}
use Rattle.std.specs.Io.KnownBytes.{Appends}
use Rattle.std.proofs.KnownBytes.{Appends-kept}
use Rattle.listing.proofs.Bytes.{taken-part, taken-more}
use Rattle.listing.proofs.write_all.Goals as goal

pub returns : goal.returns
returns g c =
    let text = c.args.text.now in
    let done = c.loop-done.invariant.appended in
    record {
      all = subst (Appends _ _) (take_all c.loop-done.done text c.loop-done-test.false) done;
      some = taken-part _ _ text c.loop-done.done done;
    }

pub returns-in-Ok-eq0-clause-some : goal.returns-in-Ok-eq0-clause-some
returns-in-Ok-eq0-clause-some g c =
    let text = c.args.text.now in
    let done = c.loop-done.invariant.appended in
    taken-part _ _ text _ (taken-more _ _ _ text c.loop-done.done _ done c.in-Ok-eq0.ensures.bytes)

pub loop-done-preserved : goal.loop-done-preserved
loop-done-preserved g c =
    let text = c.args.text.now in
    let done = c.loop-done.invariant.appended in
    record {
      within = search rules;
      appended = taken-more _ _ _ text c.loop-done.done c.in-Ok.n done c.in-Ok.ensures.bytes;
    }

pub returns-in-Err-clause-some : goal.returns-in-Err-clause-some
returns-in-Err-clause-some g c =
    let done = c.loop-done.invariant.appended in
    taken-part _ _ c.args.text.now c.loop-done.done (Appends-kept _ _ _ _ done c.in-Err.ensures.bytes)
