use Rattle.std.proofs.Common.{◌≡◌, ◌+◌, ◌*◌, ◌≤◌, length, arith, rules}
use Rattle.cells.specs.Layout.{put, filled}
use Rattle.cells.proofs.Sharings.{kept_same}
use Rattle.cells.proofs.Extends.{extended, kept_extend}
use Rattle.cells.proofs.Reaches.{counting}
use Rattle.cells.proofs.making.extend.Goals as goal

pub returns-then-taken-count : goal.returns-then-taken-count
returns-then-taken-count g c =
    let row = g.W.Words.row in
    let m = row c.args.words.now in
    let d = c.word-taken.result in
    let l = c.args.node.left.0 in
    let r = c.args.node.right.0 in
    let w = c.args.node.data in
    let thirteen : length w ≡ 13 = search rules in
    let is : row c.raise_taken.new.words ≡ put (filled m d l r w) 0 0 (d + 1) = cc in
    let room : 16 * d + 16 ≤ length m = search rules in
    let s = c.requires.making.have.sound in
    let lo : 8 ≤ d = omega (arith, c.word-taken.ensures.value, s.counted.top) in
    record {
      made = rw is (extended m d l r w thirteen c.word-taken.ensures.value lo c.if-taken-lt-MOST_CELLS.true room);
      kept = rw is (kept_extend m d l r w thirteen c.word-taken.ensures.value lo c.if-taken-lt-MOST_CELLS.true room);
      touches = search rules;
    }

pub returns-else-taken-lt-MOST_CELLS : goal.returns-else-taken-lt-MOST_CELLS
returns-else-taken-lt-MOST_CELLS g c =
    record {
      made = record {
        same = search rules;
        full = record {
          no_dead = c.requires.none_dead;
          no_room = search rules;
          few = λ items h. counting _ items h c.requires.none_dead;
        };
      };
      kept = rw c.word-taken.ensures.same (kept_same _);
      touches = search rules;
    }
