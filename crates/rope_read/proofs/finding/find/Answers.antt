use Rattle.std.proofs.Common.{◌+◌, ◌≤◌, length, ◌∙◌, arith}
use Rattle.rope_read.specs.Text.{text}
use Rattle.rope_read.proofs.Finds.{absent_up_to, absent_join, chunk_long, absent_read, first_read, first_later}
use Rattle.rope_read.proofs.finding.find.Goals as goal

pub returns-in-Some-clause-value : goal.returns-in-Some-clause-value
returns-in-Some-clause-value g c =
    let t = text (g.W.Words.row c.args.words.now) c.args.p.0 in
    let inv = c.loop-at.invariant in
    let at = c.loop-at.at in
    let n = c.chunk_len.result in
    let before = absent_up_to t _ _ _ at (omega (arith, c.loop-at-test.true)) inv.absent in
    let here = first_read t _ at n _ _ (omega (arith, c.chunk_len.ensures, c.chunk_len.array_long)) c.read.auto.into (rw inv.same at c.read.ensures.value) _ c.in-Some.ensures in
    first_later t _ c.args.from at (at + n) _ _ inv.from (omega (arith, c.chunk_len.ensures, c.loop-at-test.true)) before here

pub loop-at-preserved : goal.loop-at-preserved
loop-at-preserved g c =
    let t = text (g.W.Words.row c.args.words.now) c.args.p.0 in
    let inv = c.loop-at.invariant in
    let at = c.loop-at.at in
    let n = c.chunk_len.result in
    let le = c.chunk_len.ensures in
    let less = c.loop-at-test.true in
    let is = rw inv.same at c.read.ensures.value in
    let fits : n ≤ length c.loop-at.chunk = omega (arith, c.chunk_len.array_long) in
    let before = absent_up_to t _ _ _ at (omega arith) inv.absent in
    let so_far = absent_join t _ c.args.from at (at + n) before (absent_read t _ at n _ _ fits c.read.auto.into is c.in_default.ensures) in
    let cost = inv.cost less in
    let long = chunk_long t c.args.byte at n _ _ fits c.read.auto.into is in
    let touches = c.read.ensures.touches in
    record {
      same = c.read.ensures.same ∙ inv.same;
      from = omega (arith, inv.from);
      absent = absent_up_to t _ _ _ _ (omega arith) so_far;
      cost = λ h. omega (arith, c.read.auto.into);
      total = omega (arith, c.read.auto.into);
    }

pub returns-in_default-clause-value : goal.returns-in_default-clause-value
returns-in_default-clause-value g c =
    let t = text (g.W.Words.row c.args.words.now) c.args.p.0 in
    let inv = c.loop-at.invariant in
    let at = c.loop-at.at in
    let n = c.chunk_len.result in
    let le = c.chunk_len.ensures in
    let less = c.loop-at-test.true in
    let before = absent_up_to t _ _ _ at (omega arith) inv.absent in
    let here = absent_read t _ at n _ _ (omega (arith, c.chunk_len.array_long)) c.read.auto.into (rw inv.same at c.read.ensures.value) c.in_default.ensures in
    absent_up_to t _ _ _ _ (omega arith) (absent_join t _ c.args.from at (at + n) before here)
