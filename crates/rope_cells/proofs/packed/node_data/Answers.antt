use Rattle.rope_cells.proofs.Packings.{node_high}
use Rattle.rope_cells.proofs.packed.node_data.Goals as goal

pub returns : goal.returns
returns c = λ u v is_u is_v. c.node_data_at.ensures u v (node_high u v c.args.left c.args.right c.max.result is_u is_v c.max.ensures) is_u.sums is_v.sums
