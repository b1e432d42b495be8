use Rattle.std.proofs.Common.{◌≡◌, length, take, drop, sym, ap, ◌∙◌}
use Rattle.ropes.specs.Rope.{bytes}
use Rattle.rope_cells.specs.LeafBytes.{items}
use Rattle.rope_read.specs.Text.{text}
use Rattle.rope_read.proofs.Texts.{text_is}
use Rattle.rope_read.proofs.ranges.read_in_leaf.Goals as goal

pub copy_part-requires : goal.copy_part-requires
copy_part-requires g c =
    let x = c.requires.rope in
    let is : text (g.W.Words.row c.args.words.now) c.args.p.0 ≡ items c.read_leaf-leaf.result = text_is _ _ x.lends ∙ (ap bytes x.is ∙ sym (c.read_leaf-leaf.ensures.value x)) in
    rw (← is) c.requires.inside

pub returns-clause-value : goal.returns-clause-value
returns-clause-value g c =
    let x = c.requires.rope in
    let is : items c.read_leaf-leaf.result ≡ text (g.W.Words.row c.args.words.now) c.args.p.0 = c.read_leaf-leaf.ensures.value x ∙ sym (text_is _ _ x.lends ∙ ap bytes x.is) in
    c.copy_part.ensures ∙ ap (λ z. take (length c.args.into.now) (drop c.args.from z)) is
