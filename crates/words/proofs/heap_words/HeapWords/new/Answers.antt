use Rattle.std.proofs.Common.{◌≡◌, ◌-◌, refl, ap, ◌∙◌, arith, length, vec_items}
use Rattle.words.specs.Padded.{padded, zeros}
use Rattle.words.proofs.Padding.{length_zeros}
use Rattle.words.proofs.heap_words.HeapWords.new.Goals as goal

pub returns-clause-begun : goal.returns-clause-begun
returns-clause-begun c =
    let n = c.args.size in
    let all : n - 0 ≡ n = omega arith in
    let row : padded (vec_items c.in_ok-items.items) n ≡ zeros n = ap (λ xs. padded xs n) c.in_ok-items.ensures.items ∙ ap zeros all in
    (row, ap length row ∙ length_zeros n, refl)
