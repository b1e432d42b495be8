-- How cells lie in a row of words. Cell p has the words 16 * p up to 16 * p + 15: 0 its count, 1 and 2 its
-- children, 3 to 15 its data. Cells 0 to 7 are the header: word 0 is the number of cells that were ever
-- taken, the header's among them, word 1 the first dead cell, words 2 to 15 are 0, and words 16 to 127
-- are the state of whoever uses the heap: 16 references and then 96 numbers.
use Rattle.std.specs.Prelude.{ℕ, ◌+◌, ◌*◌, List, ◌∷◌, ◌++◌, length, take, drop, replicate, slice_index, slice_set}

-- the words of cell p
unfoldable pub cell : List ℕ → ℕ → List ℕ
cell m p = take 16 (drop (16 * p) m)

-- word k of cell p
unfoldable pub at : List ℕ → ℕ → ℕ → ℕ
at m p k = slice_index (cell m p) k

-- how many cells were taken, and the first dead one
abbrev pub taken : List ℕ → ℕ
taken m = at m 0 0

abbrev pub first_dead : List ℕ → ℕ
first_dead m = at m 0 1

-- x in word k of cell p
unfoldable pub put : List ℕ → ℕ → ℕ → ℕ → List ℕ
put m p k x = slice_set m (16 * p + k) x

-- xs from i on
unfoldable pub over : List ℕ → ℕ → List ℕ → List ℕ
over m i xs = take i m ++ (xs ++ drop (i + length xs) m)

-- cell p with this count, these children and these data
abbrev pub filled : List ℕ → ℕ → ℕ → ℕ → List ℕ → List ℕ
filled m p l r w = over (put (put (put m p 0 1) p 1 l) p 2 r) (16 * p + 3) w

-- cell p before the dead ones
abbrev pub with_dead : List ℕ → ℕ → List ℕ
with_dead m p = put (put m p 3 (first_dead m)) 0 1 p

-- the words of the state, and its references
unfoldable pub state : List ℕ → List ℕ
state m = take 112 (drop 16 m)

abbrev pub roots : List ℕ → List ℕ
roots m = take 16 (state m)

-- the first n words are 0
abbrev pub cleared : List ℕ → ℕ → List ℕ
cleared m n = replicate n 0 ++ drop n m

-- a header of no cells but its own, and a state of zeros
abbrev pub fresh : List ℕ → List ℕ
fresh m = 8 ∷ (replicate 127 0 ++ drop 128 m)
