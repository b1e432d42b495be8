-- Two leaves that are to become one or two others.
use Rattle.std.specs.Prelude.{ℕ, ◌+◌, Bool, ◌&&◌, nat_le, nat_lt}
use Rattle.ropes.specs.Rope.{leaf_min, leaf_max}

-- whether two leaves of so many bytes stay as they are
abbrev pub stays : ℕ → ℕ → Bool
stays a b = nat_lt leaf_max (a + b) && (nat_le leaf_min a && nat_le leaf_min b)
