use Rattle.std.proofs.Common.{◌≡◌, ◌+◌, ◌<◌, [], ◌∷◌, ◌++◌, length, get_or, take, drop, sym, ap, ◌∙◌, arith, rules}
use Rattle.std.proofs.lemmas.List.{take_all, take_more, take_more_set, length-drop}
use Rattle.cells.specs.Layout.{at, cell}
use Rattle.cells.proofs.Rows.{at_data, length_cell}
use Rattle.cells.proofs.content.load.Goals as goal

pub loop-k-preserved : goal.loop-k-preserved
loop-k-preserved g c =
    let m = g.W.Words.row c.args.words.now in
    let p = c.args.p.0 in
    let k = c.loop-k.k in
    let w = drop 3 (cell m p) in
    let short : k < length c.loop-k.x-items = search rules in
    let long : k < length w = omega (arith, length-drop 3 (cell m p), length_cell m p c.requires.within) in
    let x : c.load_word.result ≡ get_or w k 0 = c.load_word.ensures.value ∙ ap (λ z. at z p (3 + k)) c.loop-k.invariant.same ∙ at_data m p k in
    record {
      same = c.load_word.ensures.same ∙ c.loop-k.invariant.same;
      read =
          take_more_set c.loop-k.x-items k _ short
          ∙ ap (λ z. z ++ c.load_word.result ∷ []) c.loop-k.invariant.read
          ∙ ap (λ z. take k w ++ z ∷ []) x
          ∙ sym (take_more w k 0 long);
      touches = omega (arith, c.load_word.ensures.touches, c.loop-k.invariant.touches);
    }

pub returns-clause-value : goal.returns-clause-value
returns-clause-value g c =
    let m = g.W.Words.row c.args.words.now in
    let w = drop 3 (cell m c.args.p.0) in
    let k = c.loop-k.k in
    sym (take_all k c.loop-k.x-items (omega (arith, c.loop-k-test.array_long)))
    ∙ c.loop-k.invariant.read
    ∙ take_all k w (omega (arith, length-drop 3 (cell m c.args.p.0), length_cell m c.args.p.0 c.requires.within))
