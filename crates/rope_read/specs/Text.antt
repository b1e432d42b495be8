-- The bytes of a rope, read off the row in which it lies.
use Rattle.std.specs.Prelude.{ℕ, zero, suc, ◌+◌, ◌/◌, ◌%◌, cond, List, [], ◌∷◌, ◌++◌, ◌==◌}
use Rattle.cells.specs.Layout.{at}
use Rattle.ropes.specs.Layout.{byte_of}

-- n bytes of the leaf p, from byte i on
unfoldable pub leaf_bytes : List ℕ → ℕ → ℕ → ℕ → List ℕ
leaf_bytes m p i zero = []
leaf_bytes m p i (suc n) = byte_of (at m p (4 + i / 4)) (i % 4) ∷ leaf_bytes m p (suc i) n

-- the bytes of the rope p, which is not higher than so many levels
unfoldable pub text_within : ℕ → List ℕ → ℕ → List ℕ
text_within zero m p = []
text_within (suc levels) m p =
    cond (p == 0) []
    (cond (at m p 3 % 64 == 63) (text_within levels m (at m p 1) ++ text_within levels m (at m p 2))
    (leaf_bytes m p 0 (at m p 3 % 64)))

-- the bytes of the rope p; no rope of fewer than 2 ^ 29 bytes has 36 levels
unfoldable pub text : List ℕ → ℕ → List ℕ
text m p = text_within 36 m p
