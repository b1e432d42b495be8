use Rattle.std.proofs.Common.{get_or, vec_items, sym, ap, ◌∙◌}
use Rattle.words.proofs.Padding.{padded_get}
use Rattle.words.proofs.heap_words.HeapWordsWords.get.Goals as goal

pub returns-clause-value : goal.returns-clause-value
returns-clause-value c =
    let s = c.self.inside in
    let i = c.args.i in
    c.item.ensures ∙ sym (padded_get (vec_items s.items) s.size i) ∙ ap (λ v. get_or v.row i 0) c.self.view_is
