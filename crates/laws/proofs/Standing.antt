-- Places at which the cursor may stand outside of inserting.
use Rattle.std.proofs.Common.{◌≡◌, ℕ, ◌+◌, ◌<◌, ◌≤◌, min, true, length, arith}
use Rattle.spec.specs.Bytes.{is_blank}
use Rattle.spec.specs.Text.{Text, byte, skip_forward, is_in_line, line_end, line_start, last_in_line, at_column, first_nonblank, clamp}
use Rattle.laws.proofs.TextLines.{line_start_down, line_end_within, last_in_line_within_line, last_in_line_from, last_in_line_to, last_in_line_last, skip_forward_up, in_text, before_line_end}

-- a place on a byte that is no line end, or in an empty line
pub record StandsAt (t : Text) (a : ℕ) : Type 0 where
  pub within : a ≤ length t
  pub on_byte : a ≤ last_in_line t a

-- from a line's beginning to its last place
pub in_line_stands : (t : Text) (a b : ℕ) → a ≤ length t → line_start t a ≤ b → b ≤ last_in_line t a → StandsAt t b
in_line_stands t a b h l m =
    let k : b ≤ line_end t a = omega (arith, last_in_line_to t a) in
    record { within = omega (arith, line_end_within t a h); on_byte = omega (arith, last_in_line_within_line t a b h l k) }

pub line_start_stands : (t : Text) (a : ℕ) → a ≤ length t → StandsAt t (line_start t a)
line_start_stands t a h = in_line_stands t a (line_start t a) h (omega arith) (last_in_line_from t a)

pub last_in_line_stands : (t : Text) (a : ℕ) → a ≤ length t → StandsAt t (last_in_line t a)
last_in_line_stands t a h = in_line_stands t a (last_in_line t a) h (last_in_line_from t a) (omega arith)

pub at_column_stands : (t : Text) (a c : ℕ) → a ≤ length t → StandsAt t (at_column t a c)
unfolding at_column
at_column_stands t a c h = in_line_stands t a (min (line_start t a + c) (last_in_line t a)) h (omega (arith, last_in_line_from t a)) (omega arith)

pub first_nonblank_stands : (t : Text) (a : ℕ) → a ≤ length t → StandsAt t (first_nonblank t a)
unfolding first_nonblank
first_nonblank_stands t a h =
    in_line_stands t a (min (skip_forward is_blank t (line_start t a)) (last_in_line t a)) h (omega (arith, last_in_line_from t a, skip_forward_up is_blank t (line_start t a))) (omega arith)

pub clamp_stands : (t : Text) (a : ℕ) → StandsAt t (clamp t a)
unfolding clamp
clamp_stands t a =
    in_line_stands t (min a (length t)) (min a (last_in_line t (min a (length t)))) (omega arith) (omega (arith, line_start_down t (min a (length t)), last_in_line_from t (min a (length t)))) (omega arith)

-- and it leaves such a place
pub clamp_same : (t : Text) (a : ℕ) → StandsAt t a → clamp t a ≡ a
unfolding clamp
clamp_same t a s = let e : min a (length t) ≡ a = omega arith in rw e (omega arith)

-- before a line's end
pub before_line_end_stands : (t : Text) (a b : ℕ) → a ≤ length t → line_start t a ≤ b → b < line_end t a → StandsAt t b
before_line_end_stands t a b h l m = in_line_stands t a b h l (last_in_line_last t a b m)

-- on a byte that is no line end
pub byte_stands : (t : Text) (a : ℕ) → is_in_line (byte t a) ≡ true → StandsAt t a
byte_stands t a e =
    let h : a < length t = in_text t a e in
    before_line_end_stands t a a (omega arith) (line_start_down t a) (before_line_end t a e)
