-- Bytes by name, and what sorts of them there are.
use Rattle.std.specs.Prelude.{ℕ, Bool, true, false, cond, not, ◌&&◌, ◌||◌, codes, ◌==◌, nat_le, slice_index}
use Prim.Native.String.{String}

-- the byte of a text of one ASCII character
abbrev pub ascii : String → ℕ
ascii s = slice_index (codes s) 0

abbrev pub backspace : ℕ
backspace = 8

abbrev pub tab : ℕ
tab = 9

-- the line end
abbrev pub newline : ℕ
newline = 10

abbrev pub return : ℕ
return = 13

abbrev pub control_r : ℕ
control_r = 18

-- CAN, which ends an escape sequence and does nothing else
abbrev pub cancel_sequence : ℕ
cancel_sequence = 24

abbrev pub escape : ℕ
escape = 27

abbrev pub space : ℕ
space = 32

abbrev pub rubout : ℕ
rubout = 127

abbrev pub is_digit : ℕ → Bool
is_digit c = nat_le (ascii "0") c && nat_le c (ascii "9")

abbrev pub is_newline : ℕ → Bool
is_newline c = c == newline

-- a blank within a line
abbrev pub is_blank : ℕ → Bool
is_blank c = c == space || c == tab

-- what a terminal shows as it is
abbrev pub is_printable : ℕ → Bool
is_printable c = nat_le space c && nat_le c (ascii "~")

-- what r can write; inserting takes tabs as well
abbrev pub is_typeable : ℕ → Bool
is_typeable c = nat_le space c && not (c == rubout)

-- A word is a longest run of bytes of one class, the class `white` aside.
pub data Class : Type 0 where
  white : Class
  alphanumeric : Class
  punctuation : Class

abbrev pub same_class : Class → Class → Bool
same_class white white = true
same_class white alphanumeric = false
same_class white punctuation = false
same_class alphanumeric white = false
same_class alphanumeric alphanumeric = true
same_class alphanumeric punctuation = false
same_class punctuation white = false
same_class punctuation alphanumeric = false
same_class punctuation punctuation = true

abbrev pub is_letter : ℕ → Bool
is_letter c = (nat_le (ascii "a") c && nat_le c (ascii "z")) || (nat_le (ascii "A") c && nat_le c (ascii "Z"))

-- bytes above 127, of which characters outside ASCII are made, count as letters
unfoldable pub class : ℕ → Class
class c =
    cond (is_blank c || is_newline c) white
    (cond (is_letter c || (is_digit c || (c == (ascii "_") || nat_le 128 c))) alphanumeric
    punctuation)

abbrev pub is_white : ℕ → Bool
is_white c = same_class (class c) white
