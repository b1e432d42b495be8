use Rattle.std.proofs.Common.{◌≡◌, length, arith, rules}
use Rattle.cells.specs.Layout.{at, put, filled}
use Rattle.cells.proofs.Makings.{reuse_inside, after_drop, reuse_made, reuse_kept}
use Rattle.cells.proofs.making.reuse.Goals as goal

pub pop_dead-requires : goal.pop_dead-requires
pop_dead-requires g c = record { within = (reuse_inside _ _ _ _ c.requires).1 }

pub children_of-old-requires : goal.children_of-old-requires
children_of-old-requires g c =
    let h = (reuse_inside _ _ _ _ c.requires).1 in
    record { within = omega (arith, h, c.pop_dead.ensures.long) }

pub fill-requires : goal.fill-requires
fill-requires g c =
    let h = (reuse_inside _ _ _ _ c.requires).1 in
    search rules

pub release_both-requires : goal.release_both-requires
release_both-requires g c =
    let row = g.W.Words.row in
    let m = row c.args.words.now in
    let d = c.args.d.0 in
    let w = c.args.node.data in
    let m1 = put m 0 1 (at m d 3) in
    let thirteen : length w ≡ 13 = search rules in
    let is : row c.fill.new.words ≡ filled m1 d c.args.node.left.0 c.args.node.right.0 w = cc in
    let a : c.children_of-old.result.left.0 ≡ at m1 d 1 = cc in
    let b : c.children_of-old.result.right.0 ≡ at m1 d 2 = cc in
    after_drop m _ d _ _ _ _ w c.requires thirteen is a b

pub returns : goal.returns
returns g c =
    let row = g.W.Words.row in
    let m = row c.args.words.now in
    let d = c.args.d.0 in
    let w = c.args.node.data in
    let m1 = put m 0 1 (at m d 3) in
    let thirteen : length w ≡ 13 = search rules in
    let is : row c.fill.new.words ≡ filled m1 d c.args.node.left.0 c.args.node.right.0 w = cc in
    let a : c.children_of-old.result.left.0 ≡ at m1 d 1 = cc in
    let b : c.children_of-old.result.right.0 ≡ at m1 d 2 = cc in
    record {
      made = reuse_made m _ d _ _ _ _ w c.requires thirteen is a b _ c.release_both.ensures.dropped;
      kept = reuse_kept m _ d _ _ _ _ w c.requires thirteen is a b _ c.release_both.ensures.kept;
      touches = search rules;
    }
