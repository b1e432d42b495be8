use Rattle.std.proofs.Common.{◌≡◌, ◌+◌, ◌-◌, ◌≤◌, max, length, ◌∙◌, subst, arith}
use Rattle.rope_read.specs.Text.{text}
use Rattle.rope_read.specs.Finding.{Absent, Last}
use Rattle.rope_read.proofs.Finds.{absent_join, chunk_long, absent_read, last_read, last_earlier}
use Rattle.rope_read.proofs.finding.find_back.Goals as goal

pub returns-in-Some-clause-value : goal.returns-in-Some-clause-value
returns-in-Some-clause-value g c =
    let t = text (g.W.Words.row c.args.words.now) c.args.p.0 in
    let inv = c.loop-behind.invariant in
    let n = c.chunk_len-len.result in
    let le = c.chunk_len-len.ensures in
    let less = c.loop-behind-test.true in
    let end = c.args.to - c.loop-behind.behind in
    let at = end - n in
    let here = last_read t _ at n _ _ (omega (arith, c.chunk_len-len.array_long)) c.read.auto.into (rw inv.same at c.read.ensures.value) _ c.in-Some.ensures in
    let e : at + n ≡ end = omega arith in
    let from_end : max c.args.from end ≡ end = omega arith in
    let later = subst (λ z. Absent t z c.args.to c.args.byte) from_end inv.absent in
    last_earlier t _ c.args.from at _ _ _ (omega arith) later (subst (λ z. Last t at z c.args.byte (at + c.in-Some.k)) e here) (omega arith)

pub loop-behind-preserved : goal.loop-behind-preserved
loop-behind-preserved g c =
    let t = text (g.W.Words.row c.args.words.now) c.args.p.0 in
    let inv = c.loop-behind.invariant in
    let n = c.chunk_len-len.result in
    let le = c.chunk_len-len.ensures in
    let less = c.loop-behind-test.true in
    let end = c.args.to - c.loop-behind.behind in
    let at = end - n in
    let is = rw inv.same at c.read.ensures.value in
    let fits : n ≤ length c.loop-behind.chunk = omega (arith, c.chunk_len-len.array_long) in
    let e : at + n ≡ end = omega arith in
    let from_end : max c.args.from end ≡ end = omega arith in
    let here = absent_read t _ at n _ _ fits c.read.auto.into is c.in_default.ensures in
    let later = subst (λ z. Absent t z c.args.to c.args.byte) from_end inv.absent in
    let so_far = absent_join t _ at _ _ (subst (λ z. Absent t at z c.args.byte) e here) later in
    let cost = inv.cost (omega (arith, c.saturating_sub-behind-end.ensures)) in
    let long = chunk_long t c.args.byte at n _ _ fits c.read.auto.into is in
    let touches = c.read.ensures.touches in
    record {
      same = c.read.ensures.same ∙ inv.same;
      absent = subst (λ z. Absent t z c.args.to c.args.byte) (omega arith) so_far;
      cost = λ h. omega (arith, c.read.auto.into);
      total = omega (arith, c.read.auto.into);
    }

pub returns-in_default-clause-value : goal.returns-in_default-clause-value
returns-in_default-clause-value g c =
    let t = text (g.W.Words.row c.args.words.now) c.args.p.0 in
    let inv = c.loop-behind.invariant in
    let n = c.chunk_len-len.result in
    let le = c.chunk_len-len.ensures in
    let less = c.loop-behind-test.true in
    let end = c.args.to - c.loop-behind.behind in
    let at = end - n in
    let e : at + n ≡ end = omega arith in
    let from_end : max c.args.from end ≡ end = omega arith in
    let here = absent_read t _ at n _ _ (omega (arith, c.chunk_len-len.array_long)) c.read.auto.into (rw inv.same at c.read.ensures.value) c.in_default.ensures in
    let later = subst (λ z. Absent t z c.args.to c.args.byte) from_end inv.absent in
    let so_far = absent_join t _ at _ _ (subst (λ z. Absent t at z c.args.byte) e here) later in
    subst (λ z. Absent t z c.args.to c.args.byte) (omega arith) so_far
