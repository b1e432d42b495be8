use Rattle.std.proofs.Common.{length, vec_items, sym, ap, ◌∙◌}
use Rattle.words.proofs.Padding.{padded_length}
use Rattle.words.proofs.heap_words.HeapWordsWords.count.Goals as goal

pub returns-clause-value : goal.returns-clause-value
returns-clause-value c =
    let s = c.self.inside in
    sym (padded_length (vec_items s.items) s.size c.self.invariant.0) ∙ ap (λ v. length v.row) c.self.view_is
