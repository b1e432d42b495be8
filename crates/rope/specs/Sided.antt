-- Joining on either side. Of a node's two children the second is the one on the side in question.
use Rattle.std.specs.Prelude.{ℕ}
use Rattle.cells.specs.declared.cell.Ref.{Ref}
use Rattle.ropes.specs.Rope.{Rope, node}
use Rattle.ropes.specs.Costs.{rotations}
use Rattle.ropes.specs.Join.{rotate_double, rotate_left, rotate_right, balance, append, prepend}
use Rattle.rope.specs.declared.sided.Side.{Side}
use Rattle.rope.specs.declared.sided.Side.TheVariants.{Left, Right}

-- of the left and the right of two, where the second is on this side
abbrev pub on_side : {A B : Type 0} → Side → (A → A → B) → A → A → B
on_side Right f a b = f a b
on_side Left f a b = f b a

-- the first and the second from left to right; and the left and the right as first and second
abbrev pub ordered : Side → Ref → Ref → Ref × Ref
ordered s a b = on_side s (λ l r. (l, r)) a b

abbrev pub node_on : Side → Rope → Rope → Rope
node_on s a b = on_side s node a b

abbrev pub rotate_on : Side → Rope → Rope → Rope
rotate_on Right a b = rotate_left a b
rotate_on Left a b = rotate_right b a

abbrev pub double_on : Side → Rope → Rope → Rope → Rope
double_on Right a b c = rotate_double a b c
double_on Left a b c = rotate_double c b a

abbrev pub balance_on : Side → Rope → Rope → Rope
balance_on s a b = on_side s balance a b

-- the guest, which is not higher, on a side of the host
abbrev pub attach : Side → Rope → Rope → Rope
attach Right host guest = append host guest
attach Left host guest = prepend guest host

-- 1 where a balance rotates
abbrev pub rotations_on : Side → Rope → Rope → ℕ
rotations_on s a b = on_side s rotations a b
