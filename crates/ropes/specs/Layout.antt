-- How ropes are written into the 13 data words of cells. A leaf has its sums as the digits of one word, and 12 words of four bytes each.
-- A node has its height in one word, six words for sums of all its bytes, and six for those of its left child.
use Rattle.std.specs.Prelude.{ℕ, zero, suc, ◌+◌, ◌*◌, ◌/◌, ◌%◌, ◌^◌, max, List, [], ◌∷◌, ◌++◌, length, slice_index}
use Rattle.spec.specs.Text.{newlines}
use Rattle.ropes.specs.Rope.{Rope, bytes, height}

-- four bytes as a word, the first lowest
unfoldable pub word : ℕ → ℕ → ℕ → ℕ → ℕ
word a b c d = a + 256 * b + 65536 * c + 16777216 * d

-- byte j of a word
unfoldable pub byte_of : ℕ → ℕ → ℕ
byte_of w j = (w / 256 ^ j) % 256

-- word k of bytes with zeros behind them
unfoldable pub word_at : List ℕ → ℕ → ℕ
word_at xs k = word (slice_index xs (4 * k)) (slice_index xs (4 * k + 1)) (slice_index xs (4 * k + 2)) (slice_index xs (4 * k + 3))

-- n words of bytes, from word k on
unfoldable pub words_from : List ℕ → ℕ → ℕ → List ℕ
words_from xs k zero = []
words_from xs k (suc n) = word_at xs k ∷ words_from xs (suc k) n

-- What is summed, each at its place of six. A new sum takes the place of a 0.
unfoldable pub sums_of : List ℕ → List ℕ
sums_of xs = length xs ∷ newlines xs ∷ 0 ∷ 0 ∷ 0 ∷ 0 ∷ []

-- the sum at a place
abbrev pub sum_at : List ℕ → ℕ → ℕ
sum_at xs k = slice_index (sums_of xs) k

-- numbers below 64 as the digits of one, the first lowest, and digit k
unfoldable pub pack : List ℕ → ℕ
pack [] = 0
pack (x ∷ xs) = x + 64 * pack xs

unfoldable pub digit : ℕ → ℕ → ℕ
digit w k = (w / 64 ^ k) % 64

-- The first word tells a node, whose lowest digit is 63, from a leaf, whose lowest digit is its length.
unfoldable pub node_tag : ℕ → ℕ
node_tag h = 63 + 64 * h

unfoldable pub leaf_data : List ℕ → List ℕ
leaf_data b = pack (sums_of b) ∷ words_from b 0 12

unfoldable pub node_data : Rope → Rope → List ℕ
node_data l r = node_tag (max (height l) (height r) + 1) ∷ (sums_of (bytes l ++ bytes r) ++ sums_of (bytes l))
