-- Where a byte stands in a range of a text.
use Rattle.std.specs.Prelude.{◌≡◌, ℕ, ◌<◌, ◌≤◌, ◌≢◌, List, slice_index, slice_index_or}

-- nowhere from a up to b
pub record Absent (t : List ℕ) (a b c : ℕ) : Type 0 where
  pub nowhere : (i : ℕ) → a ≤ i → i < b → slice_index t i ≢ c

-- at k first
pub record First (t : List ℕ) (a b c k : ℕ) : Type 0 where
  pub from : a ≤ k
  pub inside : k < b
  pub here : slice_index_or t k 0 ≡ c
  pub before : (i : ℕ) → a ≤ i → i < k → slice_index t i ≢ c

-- at k last
pub record Last (t : List ℕ) (a b c k : ℕ) : Type 0 where
  pub from : a ≤ k
  pub inside : k < b
  pub here : slice_index_or t k 0 ≡ c
  pub behind : (i : ℕ) → k < i → i < b → slice_index t i ≢ c
