use Rattle.std.proofs.Common.{rules, ◌≡◌, ℕ, ◌+◌, ◌*◌, ◌<◌, get_or, [], ◌∷◌, ap, ◌∙◌, refl}
use Rattle.rope_cells.proofs.Packings.{both_written, node_data_is}
use Rattle.rope_cells.proofs.packed.node_data_at.Goals as goal

pub returns : goal.returns
returns c = λ u v top is_u is_v.
    let both = c.from_fn-both.result in
    let left = c.args.left in
    let each : (j : ℕ) → j < 6 → get_or both j 0 ≡ get_or left j 0 + get_or c.args.right j 0 = search rules in
    let long = c.from_fn-both.ensures.items.long in
    let written = both_written 6 both left (0 ∷ 0 ∷ 0 ∷ 0 ∷ 0 ∷ 0 ∷ []) long refl in
    rw c.copy_from_slice-2.ensures.after
    (rw c.copy_from_slice.ensures.after (ap (λ z. (63 + 64 * c.args.height) ∷ z) written ∙ node_data_is u v c.args.height left c.args.right both top is_u is_v long each))
