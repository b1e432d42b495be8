use Rattle.std.proofs.Common.{◌≡◌, set, ap, ◌∙◌, rules}
use Rattle.cells.specs.Layout.{fresh}
use Rattle.cells.proofs.Headers.{begun}
use Rattle.cells.proofs.header.new.Goals as goal

pub returns : goal.returns
returns g c =
    let row = g.W.Words.row in
    let m = row c.args.words.now in
    let is : row c.take_header.new.words ≡ fresh m = c.take_header.ensures.same ∙ ap (λ z. set z 0 8) c.clear.ensures.same in
    record { begun = rw is (begun m c.requires); touches = search rules }
