-- Scans over a text by a test on each byte and the byte before it.
use Rattle.std.specs.Prelude.{◌≡◌, ℕ, zero, suc, ◌-◌, ◌<◌, ◌≤◌, Bool, true, false, not, ◌&&◌, ◌||◌, length, ◌==◌, slice_index}
use Rattle.spec.specs.Bytes.{Class, newline, is_newline, is_white, class, same_class}
use Rattle.spec.specs.Text.{Text, byte}

-- the byte before a place; before the text, a line end
abbrev pub before : Text → ℕ → ℕ
before t zero = newline
before t (suc a) = byte t a

-- a test on the byte before and the byte itself
abbrev pub Test : Type 0
Test = ℕ → ℕ → Bool

-- of the byte alone
abbrev pub alone : (ℕ → Bool) → Test
alone f p c = f c

-- bytes of a class
abbrev pub of_class : Class → Test
of_class k p c = same_class (class c) k

-- white, but for the line ends of empty lines
abbrev pub white_between : Test
white_between p c = is_white c && not (is_newline p && is_newline c)

-- neither a byte to look for nor a line end
abbrev pub until : ℕ → Test
until x p c = not (c == x || is_newline c)

-- b is where a scan from a on stops: at the first byte that fails the test, or at the text's end
pub record Forward (f : Test) (t : Text) (a b : ℕ) : Type 0 where
  pub from : a ≤ b
  pub within : b ≤ length t
  pub passes : (i : ℕ) → a ≤ i → i < b → f (before t i) (byte t i) ≡ true
  pub stops : b < length t → f (before t b) (byte t b) ≡ false

-- b is where a scan from a back stops: behind the first byte that fails the test, or at the text's beginning
pub record Backward (f : Test) (t : Text) (a b : ℕ) : Type 0 where
  pub from : b ≤ a
  pub passes : (i : ℕ) → b ≤ i → i < a → f (before t i) (byte t i) ≡ true
  pub stops : 0 < b → f (before t (b - 1)) (byte t (b - 1)) ≡ false

-- the byte before index i of some bytes, p before the first
abbrev pub prior : ℕ → Text → ℕ → ℕ
prior p xs zero = p
prior p xs (suc i) = slice_index xs i

-- so many of these bytes, from the first on, pass the test; p stands before them
pub record Front (f : Test) (p : ℕ) (xs : Text) (k : ℕ) : Type 0 where
  pub within : k ≤ length xs
  pub passes : (i : ℕ) → i < k → f (prior p xs i) (slice_index xs i) ≡ true
  pub stops : k < length xs → f (prior p xs k) (slice_index xs k) ≡ false

-- from index k on these bytes pass the test, and not the one before
pub record Back (f : Test) (p : ℕ) (xs : Text) (k : ℕ) : Type 0 where
  pub within : k ≤ length xs
  pub passes : (i : ℕ) → k ≤ i → i < length xs → f (prior p xs i) (slice_index xs i) ≡ true
  pub stops : 0 < k → f (prior p xs (k - 1)) (slice_index xs (k - 1)) ≡ false
