use Rattle.std.proofs.Common.{rules}
use Rattle.cells.specs.Steps.{Kept, Parted}
use Rattle.cells.proofs.Openings.{open_within, opened}
use Rattle.cells.proofs.making.open.Goals as goal

pub load-data-requires : goal.load-data-requires
load-data-requires g c = record { within = open_within _ _ c.requires }

pub returns : goal.returns
returns g c =
    let row = g.W.Words.row in
    let m = row c.args.words.now in
    let same = c.load-data.ensures.same in
    let gone : Parted m (row c.part.new.words) c.args.p.0 c.part.result.left.0 c.part.result.right.0 = rw same at c.part.ensures.parted in
    let kept : Kept m (row c.part.new.words) = rw same at c.part.ensures.kept in
    record {
      opened = opened m _ _ _ _ _ c.load-data.ensures.value gone;
      kept = kept;
      touches = search rules;
    }
