-- How many nodes are opened and rotated: what the costs of the calls are counted in.
use Rattle.std.specs.Prelude.{ℕ, ◌+◌, ◌-◌, cond, ◌||◌, nat_le, nat_lt}
use Rattle.ropes.specs.Rope.{Rope, height, is_small}

-- how much two heights differ
abbrev pub gap : ℕ → ℕ → ℕ
gap a b = (a - b) + (b - a)

-- 1 where a balance of the two rotates, else 0
unfoldable pub rotations : Rope → Rope → ℕ
rotations l r = cond (nat_lt (height r + 1) (height l) || nat_lt (height l + 1) (height r)) 1 0

-- how many nodes of a rope of height h are opened to take in the rope t, which is not higher
unfoldable pub steps : ℕ → Rope → ℕ
steps h t = h - (height t + cond (is_small t) 0 1)

-- how many nodes a concat opens
unfoldable pub concat_steps : Rope → Rope → ℕ
concat_steps l r = cond (nat_le (height r) (height l)) (steps (height l) r) (steps (height r) l)
