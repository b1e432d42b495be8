-- What a terminal makes of the bytes that it gets.
use Rattle.std.specs.Prelude.{ℕ, ◌+◌, ◌-◌, ◌*◌, min, cond, List, [], ◌∷◌, ◌++◌, length, take, replicate, ◌==◌, nat_lt, slice_index_or, slice_set}
use Rattle.spec.specs.Bytes.{ascii, escape, is_digit, is_printable}
use Rattle.spec.specs.Screen.{Row, blank}

-- how far the terminal is in an escape sequence: outside; behind ESC; behind ESC [ in the first number, or in the second
pub data Phase : Type 0 where
  ground : Phase
  escaped : Phase
  first_number : ℕ → Phase
  second_number : ℕ → ℕ → Phase

-- its cells, and its cursor, which may stand behind a row
pub record Terminal : Type 0 where
  pub grid : List Row
  pub row : ℕ
  pub column : ℕ
  pub phase : Phase

abbrev pub with_phase : Terminal → Phase → Terminal
with_phase t p = record { grid = t.grid; row = t.row; column = t.column; phase = p }

abbrev pub with_position : Terminal → ℕ → ℕ → Terminal
with_position t r c = record { grid = t.grid; row = r; column = c; phase = t.phase }

-- the row of the cursor; behind the last row there is none
abbrev pub row_at : Terminal → ℕ → Row
row_at t r = slice_index_or t.grid r []

abbrev pub with_row : Terminal → Row → Terminal
with_row t cs = record { grid = slice_set t.grid t.row cs; row = t.row; column = t.column; phase = t.phase }

-- a printable byte is written at the cursor, which moves on; behind the row it is lost
unfoldable pub written : Terminal → ℕ → Terminal
written t c =
    cond (nat_lt t.column (length (row_at t t.row)))
    (with_position (with_row t (slice_set (row_at t t.row) t.column c)) t.row (t.column + 1))
    t

-- the rest of the cursor's row made blank
unfoldable pub cleared_right : Terminal → Terminal
cleared_right t = on (row_at t t.row)
  where
    on : Row → Terminal
    on cs = with_row t (take (length cs) (take t.column cs ++ replicate (length cs) blank))

-- the cursor at a row and a column counted from 1, at most the last; 0 is taken for 1
unfoldable pub moved : Terminal → ℕ → ℕ → Terminal
moved t r c = with_position t (min (r - 1) (length t.grid - 1)) (min (c - 1) (length (row_at t 0) - 1))

-- what an escape sequence asks for
pub data Request : Type 0 where
  move_cursor : ℕ → ℕ → Request
  clear_right : Request
  no_request : Request

-- the request of a sequence with these numbers that ends with a byte
abbrev pub request_of : ℕ → ℕ → ℕ → Request
request_of n m c = cond (c == (ascii "H")) (move_cursor n m) (cond (c == (ascii "K")) clear_right no_request)

unfoldable pub granted : Terminal → Request → Terminal
granted t (move_cursor n m) = moved t n m
granted t clear_right = cleared_right t
granted t no_request = t

abbrev pub largest_number : ℕ
largest_number = 9999

abbrev pub more_number : ℕ → ℕ → ℕ
more_number n c = min largest_number (10 * n + (c - ascii "0"))

-- a byte that ends a sequence does nothing else, but for the request
unfoldable pub end_sequence : Terminal → ℕ → ℕ → ℕ → Terminal
end_sequence t n m c = granted (with_phase t ground) (request_of n m c)

unfoldable pub feed_byte : Terminal → ℕ → Terminal
feed_byte t c = by t.phase
  where
    by : Phase → Terminal
    by ground = cond (c == escape) (with_phase t escaped) (cond (is_printable c) (written t c) t)
    by escaped = with_phase t (cond (c == (ascii "[")) (first_number 0) ground)
    by (first_number n) =
        cond (is_digit c) (with_phase t (first_number (more_number n c)))
        (cond (c == (ascii ";")) (with_phase t (second_number n 0)) (end_sequence t n 0 c))
    by (second_number n m) =
        cond (is_digit c) (with_phase t (second_number n (more_number m c)))
        (end_sequence t n m c)

unfoldable pub feed : Terminal → List ℕ → Terminal
feed t [] = t
feed t (c ∷ cs) = feed (feed_byte t c) cs
