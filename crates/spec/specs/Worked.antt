-- Worked keys: what some keys do to an example text, as statements. Each is named by its keys.
use Rattle.std.specs.Prelude.{◌≡◌, ℕ, List, [], ◌∷◌, ◌++◌, codes}
use Prim.Native.String.{String}
use Rattle.spec.specs.Bytes.{newline, escape, control_r}
use Rattle.spec.specs.Text.{Text}
use Rattle.spec.specs.Editor.{Ed, initial}
use Rattle.spec.specs.Dispatch.{key}
use Rattle.spec.specs.Screen.{picture}

-- keys one after another
unfoldable pub after : Ed → List ℕ → Ed
after e [] = e
after e (k ∷ ks) = after (key e k) ks

-- a text of lines, each with a line end behind it
abbrev pub lines : List String → Text
lines [] = []
lines (s ∷ ss) = codes s ++ (newline ∷ lines ss)

-- five lines, the third and the fifth of them empty
abbrev pub example : Text
example = lines ("the quick brown fox" ∷ "  jumps over" ∷ "" ∷ "the lazy dog_1, 42" ∷ [])

-- the example on 8 rows and 12 columns after keys
abbrev pub example_after : List ℕ → Ed
example_after ks = after (initial example 8 12) ks

pub record WorkedMotions : Type 0 where
  pub keys_3w : (example_after (codes "3w")).cursor ≡ 16
  pub keys_G : (example_after (codes "G")).cursor ≡ 53
  pub keys_2G : (example_after (codes "2G")).cursor ≡ 22
  pub keys_jj0b : (example_after (codes "jj0b")).cursor ≡ 28
  pub keys_$b : (example_after (codes "$b")).cursor ≡ 16
  pub keys_je : (example_after (codes "je")).cursor ≡ 26

-- what is compared after a change: the text, the cursor and the register's bytes
pub record Outcome : Type 0 where
  pub text : Text
  pub cursor : ℕ
  pub register : Text

abbrev pub outcome : Ed → Outcome
outcome e = record { text = e.text; cursor = e.cursor; register = e.register.bytes }

abbrev pub results : List ℕ → Text → ℕ → Text → Type 0
results ks t a r = outcome (example_after ks) ≡ record { text = t; cursor = a; register = r }

pub record WorkedLines : Type 0 where
  pub keys_ddp : results (codes "ddp") (lines ("  jumps over" ∷ "the quick brown fox" ∷ "" ∷ "the lazy dog_1, 42" ∷ [])) 13 (codes "the quick brown fox")
  pub keys_5dd : results (codes "5dd") [] 0 example
  pub keys_Gdd : results (codes "Gdd") (lines ("the quick brown fox" ∷ "  jumps over" ∷ "" ∷ []) ++ codes "the lazy dog_1, 42") 34 []
  pub keys_dk : results (codes "dk") example 0 []
  pub keys_3J : results (codes "3J") (lines ("the quick brown fox jumps over " ∷ "the lazy dog_1, 42" ∷ [])) 30 []

-- cw takes the blank behind the word, so what is typed stands right before the next word
abbrev pub slow_twice : List ℕ
slow_twice = codes "cwslow" ++ (escape ∷ codes "w.")

abbrev pub slow_line : String → Text
slow_line s = lines (s ∷ "  jumps over" ∷ "" ∷ "the lazy dog_1, 42" ∷ [])

pub record WorkedChanges : Type 0 where
  pub keys_cwslow_escape_w_repeat : results slow_twice (slow_line "slowquick slowfox") 13 (codes "brown ")
  pub keys_cwslow_escape_w_repeat_u : results (slow_twice ++ codes "u") (slow_line "slowquick brown fox") 10 (codes "brown ")
  pub keys_cwslow_escape_w_repeat_uu : results (slow_twice ++ codes "uu") example 0 (codes "brown ")
  pub keys_dwjj_repeat : results (codes "dwjj.") (lines ("quick brown fox" ∷ "  jumps over" ∷ "the lazy dog_1, 42" ∷ [])) 29 (newline ∷ [])
  pub keys_2jdw : results (codes "2jdw") (lines ("the quick brown fox" ∷ "  jumps over" ∷ "the lazy dog_1, 42" ∷ [])) 33 (newline ∷ [])
  pub keys_25rZ : results (codes "25rZ") example 0 []
  pub keys_3rZ : results (codes "3rZ") (lines ("ZZZ quick brown fox" ∷ "  jumps over" ∷ "" ∷ "the lazy dog_1, 42" ∷ [])) 2 []

abbrev pub hello_redone : List ℕ
hello_redone = codes "ohello" ++ (escape ∷ codes "u" ++ (control_r ∷ []))

pub record WorkedHistory : Type 0 where
  pub keys_ohello_escape_u_control_R : results hello_redone (lines ("the quick brown fox" ∷ "hello" ∷ "  jumps over" ∷ "" ∷ "the lazy dog_1, 42" ∷ [])) 24 []
  pub keys_xxuux : results (codes "xxuux") (slow_line "he quick brown fox") 0 (codes "t")
  -- nothing to go forth to
  pub keys_xxuux_redo : (example_after (codes "xxuux")).redo ≡ []

-- On 5 rows and 12 columns the fourth line's end is seen only from column 6 on.
pub record WorkedScreen : Type 0 where
  pub keys_jjj$ : picture (after (initial example 5 12) (codes "jjj$")) ≡ record { rows = codes "ick brown fo" ∷ codes "s over      " ∷ codes "            " ∷ codes "zy dog_1, 42" ∷ codes "N 4,18      " ∷ []; cursor_row = 3; cursor_column = 11 }

pub record WorkedKeys : Type 0 where
  pub motions : WorkedMotions
  pub lines : WorkedLines
  pub changes : WorkedChanges
  pub history : WorkedHistory
  pub screen : WorkedScreen
