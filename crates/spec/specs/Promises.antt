-- The theorems on keys, and what the calls of the editor promise.
use Rattle.std.specs.Prelude.{◌≡◌, ℕ, ◌+◌, ◌-◌, ◌*◌, ◌<◌, ◌≤◌, Bool, true, false, cond, ◌&&◌, ◌||◌, ◌⊎◌, List, [], ◌∷◌, length, take, Some, None, Option, ◌==◌}
use Rattle.std.specs.List.{AllByRecursion}
use Rattle.spec.specs.Bytes.{ascii}
use Rattle.spec.specs.Text.{Text, column, line_of, last_in_line}
use Rattle.spec.specs.Motions.{times}
use Rattle.spec.specs.Editor.{Change, UndoUnit, Ed, initial}
use Rattle.spec.specs.History.{undo_once, redo_once}
use Rattle.spec.specs.Dispatch.{key}
use Rattle.spec.specs.Screen.{Row, Picture, picture}
use Rattle.spec.specs.Terminal.{Terminal, ground, feed}

-- the editors to which keys can lead, from any text and screen, and from one
pub data Reachable : Ed → Type 0 where
  first : (t : Text) (r c : ℕ) → Reachable (initial t r c)
  next : {e : Ed} {k : ℕ} → Reachable e → k < 256 → Reachable (key e k)

pub data ReachableFrom (t : Text) (r c : ℕ) : Ed → Type 0 where
  first : ReachableFrom t r c (initial t r c)
  next : {e : Ed} {k : ℕ} → ReachableFrom t r c e → k < 256 → ReachableFrom t r c (key e k)

-- The cursor is within the text; outside of inserting it is on a byte that is no line end, or in an empty line.
pub record Stands (e : Ed) : Type 0 where
  pub within : e.cursor ≤ length e.text
  pub on_byte : e.inserting ≡ false → e.cursor ≤ last_in_line e.text e.cursor

abbrev pub AlwaysStands : Type 0
AlwaysStands = (e : Ed) → Reachable e → Stands e

-- What was undone and redone is as it was.
abbrev pub BackAndForth : Type 0
BackAndForth = (e : Ed) (u : UndoUnit) (us : List UndoUnit) → Reachable e → e.inserting ≡ false → e.undo ≡ u ∷ us → (redo_once (undo_once e)).text ≡ e.text

-- Everything can be undone to the first text.
abbrev pub all_undone : Ed → Ed
all_undone e = times (length e.undo) undo_once e

abbrev pub AllBack : Type 0
AllBack = (t : Text) (r c : ℕ) (e : Ed) → ReachableFrom t r c e → e.inserting ≡ false → (all_undone e).text ≡ t

-- And redone again.
abbrev pub AllForth : Type 0
AllForth = (e : Ed) → Reachable e → e.inserting ≡ false → (times (length e.undo) redo_once (all_undone e)).text ≡ e.text

-- The cursor is seen: its line is one of the text rows, its column one of the columns.
pub record Sees (e : Ed) : Type 0 where
  pub below_top : e.view.top ≤ line_of e.text e.cursor
  pub above_status : line_of e.text e.cursor < e.view.top + (e.view.rows - 1)
  pub right_of_left : e.view.left ≤ column e.text e.cursor
  pub within_width : column e.text e.cursor < e.view.left + e.view.columns

abbrev pub InSight : Type 0
InSight = (e : Ed) → Reachable e → 2 ≤ e.view.rows → 1 ≤ e.view.columns → Sees e

-- a terminal shows a picture
pub record Shows (t : Terminal) (p : Picture) : Type 0 where
  pub grid : t.grid ≡ p.rows
  pub row : t.row ≡ p.cursor_row
  pub column : t.column ≡ p.cursor_column
  pub still : t.phase ≡ ground

-- bytes that lead every terminal from showing one picture to showing another
abbrev pub Draws : Picture → Picture → List ℕ → Type 0
Draws p q bs = (t : Terminal) → Shows t p → Shows (feed t bs) q

-- a terminal of a size, with any cells, its cursor anywhere, in or outside of a sequence
pub record Sized (t : Terminal) (rows columns : ℕ) : Type 0 where
  pub height : length t.grid ≡ rows
  pub width : AllByRecursion (λ (r : Row). length r ≡ columns) t.grid

-- bytes that make every terminal of a size show a picture
abbrev pub Paints : ℕ → ℕ → Picture → List ℕ → Type 0
Paints rows columns p bs = (t : Terminal) → Sized t rows columns → Shows (feed t bs) p

-- No more bytes are sent than 32 and, for each row that changes, 16 and the width.
abbrev pub same_row : Row → Row → Bool
same_row [] [] = true
same_row [] (y ∷ ys) = false
same_row (x ∷ xs) [] = false
same_row (x ∷ xs) (y ∷ ys) = x == y && same_row xs ys

abbrev pub rows_cost : ℕ → List Row → List Row → ℕ
rows_cost c [] vs = 0
rows_cost c (u ∷ us) [] = 0
rows_cost c (u ∷ us) (v ∷ vs) = cond (same_row u v) 0 (16 + c) + rows_cost c us vs

abbrev pub cost : ℕ → Picture → Picture → ℕ
cost columns p q = 32 + rows_cost columns p.rows q.rows

-- a screen as a whole
abbrev pub paint_cost : ℕ → ℕ → ℕ
paint_cost rows columns = 32 + rows * (16 + columns)

-- What an editor weighs: its text, register and keys; for each change 16 and what stood and what stands there; for each command that can be undone or redone 16.
abbrev pub change_weight : Change → ℕ
change_weight c = 16 + (length c.old + length c.new)

abbrev pub changes_weight : List Change → ℕ
changes_weight [] = 0
changes_weight (c ∷ cs) = change_weight c + changes_weight cs

abbrev pub units_weight : List UndoUnit → ℕ
units_weight [] = 0
units_weight (u ∷ us) = (16 + changes_weight u.changes) + units_weight us

abbrev pub weight : Ed → ℕ
weight e = length e.text + (length e.register.bytes + (length e.command.keys + (length e.last_keys + (changes_weight e.command.changes + (units_weight e.undo + units_weight e.redo)))))

-- the words that an editor needs to have
abbrev pub room : Ed → ℕ
room e = 65536 + 8 * weight e

-- keys that touch few words, however long the text: all while inserting, and h j k l x as a command's first
abbrev pub quick_command : ℕ → Bool
quick_command k = k == (ascii "h") || (k == (ascii "j") || (k == (ascii "k") || (k == (ascii "l") || k == (ascii "x"))))

abbrev pub quick : Ed → ℕ → Bool
quick e k = e.inserting || (length e.command.keys == 0 && quick_command k)

abbrev pub quick_bound : Ed → ℕ
quick_bound e = 1024 * (64 + e.view.rows * e.view.columns)

-- What `press` promises of the editors u before and v after key k, the words touched c before and d after,
-- the w words that the editor has, and the output lent, of o bytes, which then begins with bs.
-- Done: n bytes are to be sent.
pub record PressDone (u v : Ed) (k c d w o : ℕ) (bs : List ℕ) (n : ℕ) : Type 0 where
  pub is_key : v ≡ key u k
  pub draws : Draws (picture u) (picture v) (take n bs)
  pub fits : n ≤ o
  pub cheap : n ≤ cost u.view.columns (picture u) (picture v)
  pub had_room : room v ≤ w
  pub touches : quick u k ≡ true → d ≤ c + quick_bound u

-- refused, and nothing changed: too few words for the editor that the key would make, or too little output
pub record PressRefused (u v : Ed) (k c d w o : ℕ) : Type 0 where
  pub same : v ≡ u
  pub reason : (w < room (key u k)) ⊎ (o < cost u.view.columns (picture u) (picture (key u k)))
  pub touches : quick u k ≡ true → d ≤ c + quick_bound u

abbrev pub PressSays : Ed → Ed → ℕ → ℕ → ℕ → ℕ → ℕ → List ℕ → Option ℕ → Type 0
PressSays u v k c d w o bs (Some n) = PressDone u v k c d w o bs n
PressSays u v k c d w o bs None = PressRefused u v k c d w o

-- What `paint` promises of an editor and the output lent, of o bytes, which then begins with bs.
pub record PaintDone (e : Ed) (o : ℕ) (bs : List ℕ) (n : ℕ) : Type 0 where
  pub paints : Paints e.view.rows e.view.columns (picture e) (take n bs)
  pub fits : n ≤ o
  pub cheap : n ≤ paint_cost e.view.rows e.view.columns

abbrev pub PaintSays : Ed → ℕ → List ℕ → Option ℕ → Type 0
PaintSays e o bs (Some n) = PaintDone e o bs n
PaintSays e o bs None = o < paint_cost e.view.rows e.view.columns

-- What `begin` promises: v is the editor that the words stand for then, w how many there are.
pub record BeginDone (v : Ed) (t : Text) (rows columns w : ℕ) : Type 0 where
  pub is_initial : v ≡ initial t rows columns
  pub had_room : room v ≤ w

pub record BeginRefused (before after : List ℕ) (t : Text) : Type 0 where
  pub same : after ≡ before
  pub reason : (length before < 65536 + 8 * length t) ⊎ (4294967296 ≤ length before)

abbrev pub BeginSays : List ℕ → List ℕ → Ed → Text → ℕ → ℕ → Bool → Type 0
BeginSays before after v t rows columns true = BeginDone v t rows columns (length after)
BeginSays before after v t rows columns false = BeginRefused before after t

-- What `text` promises: the text's length, and where the output lent is long enough, its bytes at the output's front.
pub record TextSays (e : Ed) (o : ℕ) (bs : List ℕ) (n : ℕ) : Type 0 where
  pub count : n ≡ length e.text
  pub bytes : n ≤ o → take n bs ≡ e.text
