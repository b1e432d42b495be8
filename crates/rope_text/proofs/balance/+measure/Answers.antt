use Rattle.std.proofs.Common.{◌≡◌, length, ap, ◌∙◌, arith}
use Rattle.cells.specs.Steps.{LeftRead, RightRead}
use Rattle.rope_read.specs.Text.{text}
use Rattle.rope_read.proofs.Descents.{lends_leaf}
use Rattle.rope_text.proofs.Balances.{inner_lends_some, measured, counted, read_as, none_some, some_is, leaf_read, leaf_judged, node_judged, more_of, one_of, forked, left_inner, right_inner, left_less, right_less, left_high, right_high, both_few}
use Rattle.rope_text.proofs.balance.+measure.Goals as goal

pub told-told-requires : goal.told-told-requires
told-told-requires g t c = inner_lends_some c.requires

pub read_leaf-requires : goal.read_leaf-requires
read_leaf-requires g t c =
    let told = c.told-told.ensures in
    rw told.same (lends_leaf _ _ c.requires.lends (one_of c.requires told.value c.if-told-eq1.true))

pub returns-then-told-eq1-clause-value : goal.returns-then-told-eq1-clause-value
returns-then-told-eq1-clause-value g t c x =
    let told = c.told-told.ensures in
    let one = one_of x told.value c.if-told-eq1.true in
    let leaf = lends_leaf _ _ x.lends one in
    let is = read_as told.same c.read_leaf.ensures.value leaf in
    leaf_judged x one (told.value (inner_lends_some x)) (c.len-bytes.ensures.value ∙ ap length (is ∙ leaf_read x.lends leaf)) c.is_leaf_of.ensures c.then_some.ensures

pub left_sum-before-requires : goal.left_sum-before-requires
left_sum-before-requires g t c =
    let told = c.told-told.ensures in
    rw told.same (forked c.requires (more_of c.requires told.value c.if-told-eq1.false))

pub measure-requires : goal.measure-requires
measure-requires g t c κs within =
    let told = c.told-told.ensures in
    let row = g.W.Words.row in
    let m = row c.args.words.now in
    let same : row c.left_sum-before.new.words ≡ m = c.left_sum-before.ensures.same ∙ told.same in
    let read : LeftRead m c.args.p.0 c.left-l.result.0 = rw same at c.left-l.ensures.lent in
    let here : row c.left-l.new.words ≡ m = c.left-l.ensures.same ∙ same in
    let more = more_of c.requires told.value c.if-told-eq1.false in (
      omega (arith, c.decreases, ap (λ z. length (text z c.left-l.result.0)) here, left_less c.requires more _ read),
      (within, rw here (left_inner c.requires more _ read)),
    )

pub returns-in_err-a-clause-value : goal.returns-in_err-a-clause-value
returns-in_err-a-clause-value g t c x =
    let told = c.told-told.ensures in
    let row = g.W.Words.row in
    let m = row c.args.words.now in
    let same : row c.left_sum-before.new.words ≡ m = c.left_sum-before.ensures.same ∙ told.same in
    let read : LeftRead m c.args.p.0 c.left-l.result.0 = rw same at c.left-l.ensures.lent in
    let here : row c.left-l.new.words ≡ m = c.left-l.ensures.same ∙ same in
    let more = more_of x told.value c.if-told-eq1.false in
    absurd (none_some (measured here c.in_err-a.ensures.value (left_inner x more _ read)))

pub measure-requires-2 : goal.measure-requires-2
measure-requires-2 g t c κs within =
    let told = c.told-told.ensures in
    let row = g.W.Words.row in
    let m = row c.args.words.now in
    let same : row c.left_sum-before.new.words ≡ m = c.left_sum-before.ensures.same ∙ told.same in
    let read : LeftRead m c.args.p.0 c.left-l.result.0 = rw same at c.left-l.ensures.lent in
    let here : row c.left-l.new.words ≡ m = c.left-l.ensures.same ∙ same in
    let there : row c.measure.new.words ≡ m = c.measure.ensures.same ∙ here in
    let reads : RightRead m c.args.p.0 c.right-r.result.0 = rw there at c.right-r.ensures.lent in
    let now : row c.right-r.new.words ≡ m = c.right-r.ensures.same ∙ there in
    let more = more_of c.requires told.value c.if-told-eq1.false in (
      omega (arith, c.decreases, ap (λ z. length (text z c.right-r.result.0)) now, right_less c.requires more _ reads),
      (within, rw now (right_inner c.requires more _ reads)),
    )

pub returns-in_err-b-clause-value : goal.returns-in_err-b-clause-value
returns-in_err-b-clause-value g t c x =
    let told = c.told-told.ensures in
    let row = g.W.Words.row in
    let m = row c.args.words.now in
    let same : row c.left_sum-before.new.words ≡ m = c.left_sum-before.ensures.same ∙ told.same in
    let read : LeftRead m c.args.p.0 c.left-l.result.0 = rw same at c.left-l.ensures.lent in
    let here : row c.left-l.new.words ≡ m = c.left-l.ensures.same ∙ same in
    let there : row c.measure.new.words ≡ m = c.measure.ensures.same ∙ here in
    let reads : RightRead m c.args.p.0 c.right-r.result.0 = rw there at c.right-r.ensures.lent in
    let now : row c.right-r.new.words ≡ m = c.right-r.ensures.same ∙ there in
    let more = more_of x told.value c.if-told-eq1.false in
    absurd (none_some (measured now c.in_err-b.ensures.value (right_inner x more _ reads)))

pub is_node_of-requires-clause-first : goal.is_node_of-requires-clause-first
is_node_of-requires-clause-first g t c =
    let told = c.told-told.ensures in
    let row = g.W.Words.row in
    let m = row c.args.words.now in
    let same : row c.left_sum-before.new.words ≡ m = c.left_sum-before.ensures.same ∙ told.same in
    let read : LeftRead m c.args.p.0 c.left-l.result.0 = rw same at c.left-l.ensures.lent in
    let here : row c.left-l.new.words ≡ m = c.left-l.ensures.same ∙ same in
    let more = more_of c.requires told.value c.if-told-eq1.false in
    let a = some_is (measured here c.in_ok-a.ensures.value (left_inner c.requires more _ read)) in
    rw a (left_high c.requires more)

pub is_node_of-requires-clause-second : goal.is_node_of-requires-clause-second
is_node_of-requires-clause-second g t c =
    let told = c.told-told.ensures in
    let row = g.W.Words.row in
    let m = row c.args.words.now in
    let same : row c.left_sum-before.new.words ≡ m = c.left_sum-before.ensures.same ∙ told.same in
    let read : LeftRead m c.args.p.0 c.left-l.result.0 = rw same at c.left-l.ensures.lent in
    let here : row c.left-l.new.words ≡ m = c.left-l.ensures.same ∙ same in
    let there : row c.measure.new.words ≡ m = c.measure.ensures.same ∙ here in
    let reads : RightRead m c.args.p.0 c.right-r.result.0 = rw there at c.right-r.ensures.lent in
    let now : row c.right-r.new.words ≡ m = c.right-r.ensures.same ∙ there in
    let more = more_of c.requires told.value c.if-told-eq1.false in
    let b = some_is (measured now c.in_ok-b.ensures.value (right_inner c.requires more _ reads)) in
    rw b (right_high c.requires more)

pub is_node_of-requires-clause-few : goal.is_node_of-requires-clause-few
is_node_of-requires-clause-few g t c =
    let told = c.told-told.ensures in
    let row = g.W.Words.row in
    let m = row c.args.words.now in
    let same : row c.left_sum-before.new.words ≡ m = c.left_sum-before.ensures.same ∙ told.same in
    let read : LeftRead m c.args.p.0 c.left-l.result.0 = rw same at c.left-l.ensures.lent in
    let here : row c.left-l.new.words ≡ m = c.left-l.ensures.same ∙ same in
    let there : row c.measure.new.words ≡ m = c.measure.ensures.same ∙ here in
    let reads : RightRead m c.args.p.0 c.right-r.result.0 = rw there at c.right-r.ensures.lent in
    let now : row c.right-r.new.words ≡ m = c.right-r.ensures.same ∙ there in
    let more = more_of c.requires told.value c.if-told-eq1.false in
    let a = some_is (measured here c.in_ok-a.ensures.value (left_inner c.requires more _ read)) in
    let b = some_is (measured now c.in_ok-b.ensures.value (right_inner c.requires more _ reads)) in
    rw (a, b) (both_few c.requires more)

pub returns-clause-value : goal.returns-clause-value
returns-clause-value g t c x =
    let told = c.told-told.ensures in
    let row = g.W.Words.row in
    let m = row c.args.words.now in
    let same : row c.left_sum-before.new.words ≡ m = c.left_sum-before.ensures.same ∙ told.same in
    let read : LeftRead m c.args.p.0 c.left-l.result.0 = rw same at c.left-l.ensures.lent in
    let here : row c.left-l.new.words ≡ m = c.left-l.ensures.same ∙ same in
    let there : row c.measure.new.words ≡ m = c.measure.ensures.same ∙ here in
    let reads : RightRead m c.args.p.0 c.right-r.result.0 = rw there at c.right-r.ensures.lent in
    let now : row c.right-r.new.words ≡ m = c.right-r.ensures.same ∙ there in
    let more = more_of x told.value c.if-told-eq1.false in
    let a = some_is (measured here c.in_ok-a.ensures.value (left_inner x more _ read)) in
    let b = some_is (measured now c.in_ok-b.ensures.value (right_inner x more _ reads)) in
    let before = counted told.same c.left_sum-before.ensures.value (forked x more) in
    node_judged x more (told.value (inner_lends_some x)) before a b c.is_node_of.ensures c.then_some-2.ensures
