-- What each command does to the editor.
use Rattle.std.specs.Prelude.{ℕ, suc, ◌+◌, ◌-◌, ◌*◌, min, max, true, false, cond, ◌&&◌, ◌||◌, [], ◌∷◌, ◌++◌, length, replicate, ◌==◌, nat_le, nat_lt}
use Rattle.std.proofs.Math.Option.{Option, some, none}
use Rattle.spec.specs.Bytes.{newline, space, tab, return, backspace, rubout, escape, is_blank, is_typeable}
use Rattle.spec.specs.Text.{part, copies, skip_forward, line_end, line_start, column, first_nonblank, clamp}
use Rattle.spec.specs.Motions.{Motion, Target, Region, times, or_one, motion_target, keeps_column, region, lines_region}
use Rattle.spec.specs.Keys.{Operator, delete, yank, change, Action, delete_chars, join_lines, put_after, put_before, insert_before, insert_after, insert_at_first_nonblank, insert_at_line_end, insert_line_below, insert_line_above, go_back, go_forth, Prefix, counting, operating, no_prefix, total_count, is_operating}
use Rattle.spec.specs.Editor.{Ed, with_cursor, with_inserting, with_register, with_pending}
use Rattle.spec.specs.History.{edit, finish, finish_in_column, cancel, undo_once, redo_once}

-- the cursor where it may stand outside of inserting
unfoldable pub clamp_cursor : Ed → Ed
clamp_cursor e = with_cursor e (clamp e.text e.cursor)

unfoldable pub start_insert : Ed → Ed
start_insert e = with_pending (with_inserting e true) no_prefix

-- Operators.

-- a region's bytes in the register
unfoldable pub yanked : Ed → Region → Ed
yanked e r = with_register e (record { bytes = part e.text r.from r.to; linewise = r.linewise })

-- whole lines go with the line end behind them, or, of the text's last line, with the one before them
unfoldable pub delete_lines : Ed → Region → Ed
delete_lines e r = at_nonblank (lines_cut r.from r.to)
  where
    lines_cut : ℕ → ℕ → Ed
    lines_cut a b =
        cond (nat_lt b (length e.text)) (edit e a (suc b) [] a)
        (cond (nat_lt 0 a) (edit e (a - 1) b [] (a - 1)) (edit e a b [] a))

    at_nonblank : Ed → Ed
    at_nonblank f = with_cursor f (first_nonblank f.text (min f.cursor (length f.text)))

unfoldable pub delete_bytes : Ed → Region → Ed
delete_bytes e r = clamp_cursor (edit e r.from r.to [] r.from)

unfoldable pub delete_region : Ed → Region → Ed
delete_region e r =
    cond r.linewise (finish (delete_lines (yanked e r) r))
    (cond (nat_le r.to r.from) (cancel e) (finish (delete_bytes (yanked e r) r)))

unfoldable pub yank_region : Ed → Region → Ed
yank_region e r =
    cond r.linewise (finish_in_column (yanked e r))
    (cond (nat_le r.to r.from) (cancel e) (finish (with_cursor (yanked e r) r.from)))

-- where there is nothing to take away it just inserts
unfoldable pub change_region : Ed → Region → Ed
change_region e r = start_insert (cond (nat_le r.to r.from) e (edit (yanked e r) r.from r.to [] r.from))

unfoldable pub operate : Operator → Ed → Region → Ed
operate delete e r = delete_region e r
operate yank e r = yank_region e r
operate change e r = change_region e r

-- Motions, alone or behind an operator.

unfoldable pub move_to : Ed → Motion → Target → Ed
move_to e m g = cond (keeps_column m) (finish_in_column (with_cursor e g.place)) (finish (with_cursor e g.place))

unfoldable pub run_motion : Ed → Prefix → Motion → Ed
run_motion e p m = to p (motion_target (is_operating p) e.text e.cursor e.kept_column (total_count p) m)
  where
    to : Prefix → Option Target → Ed
    to q none = cancel e
    to (counting n) (some g) = move_to e m g
    to (operating o a b) (some g) = operate o e (region e.text e.cursor g)

-- dd yy cc: whole lines from the cursor's on
unfoldable pub operate_lines : Operator → Ed → ℕ → Ed
operate_lines o e n = on (lines_region e.text e.cursor n)
  where
    on : Option Region → Ed
    on none = cancel e
    on (some r) = operate o e r

-- Commands of one key, with a count of at least 1.

-- x: at most to the line's end
unfoldable pub delete_chars_by : Ed → ℕ → Ed
delete_chars_by e n =
    cond (nat_le (line_end e.text e.cursor) e.cursor) (cancel e)
    (delete_region e (record { from = e.cursor; to = min (e.cursor + n) (line_end e.text e.cursor); linewise = false }))

-- r: the cursor goes to the last byte written
unfoldable pub write_over : Ed → ℕ → ℕ → Ed
write_over e n c =
    cond (is_typeable c && nat_le (e.cursor + n) (line_end e.text e.cursor))
    (finish (edit e e.cursor (e.cursor + n) (replicate n c) (e.cursor + (n - 1))))
    (cancel e)

-- the line end, with the blanks that begin the next line, becomes one blank, to which the cursor goes
unfoldable pub join_once : Ed → Ed
join_once e = at (line_end e.text e.cursor)
  where
    at : ℕ → Ed
    at b = cond (nat_lt b (length e.text)) (edit e b (skip_forward is_blank e.text (suc b)) (space ∷ []) b) e

-- J: n lines become one, at least two do
unfoldable pub join_by : Ed → ℕ → Ed
join_by e n =
    cond (nat_lt (line_end e.text e.cursor) (length e.text))
    (finish (times (max 1 (n - 1)) join_once e))
    (cancel e)

-- p and P of whole lines: the cursor goes to the first nonblank of the first of them
unfoldable pub put_lines_below : Ed → ℕ → Ed
put_lines_below e n = at (line_end e.text e.cursor)
  where
    first_at : ℕ → Ed → Ed
    first_at a f = finish (with_cursor f (first_nonblank f.text a))

    at : ℕ → Ed
    at b = first_at (suc b) (edit e b b (copies n (newline ∷ e.register.bytes)) e.cursor)

unfoldable pub put_lines_above : Ed → ℕ → Ed
put_lines_above e n = at (line_start e.text e.cursor)
  where
    first_at : ℕ → Ed → Ed
    first_at a f = finish (with_cursor f (first_nonblank f.text a))

    at : ℕ → Ed
    at a = first_at a (edit e a a (copies n (e.register.bytes ++ (newline ∷ []))) e.cursor)

-- p and P of bytes, at a place: the cursor goes to the last of them, where it may stand there
unfoldable pub put_bytes : Ed → ℕ → ℕ → Ed
put_bytes e n a =
    cond (length e.register.bytes == 0) (cancel e)
    (finish (clamp_cursor (edit e a a (copies n e.register.bytes) (a + (n * length e.register.bytes - 1)))))

unfoldable pub put_after_by : Ed → ℕ → Ed
put_after_by e n =
    cond e.register.linewise (put_lines_below e n)
    (put_bytes e n (min (suc e.cursor) (line_end e.text e.cursor)))

unfoldable pub put_before_by : Ed → ℕ → Ed
put_before_by e n = cond e.register.linewise (put_lines_above e n) (put_bytes e n e.cursor)

-- i a I A: inserting at a place
unfoldable pub insert_at : Ed → ℕ → Ed
insert_at e a = start_insert (with_cursor e a)

-- o O: a new line whose line end is put in at a place, and inserting at another
unfoldable pub insert_line : Ed → ℕ → ℕ → Ed
insert_line e a to = start_insert (edit e a a (newline ∷ []) to)

unfoldable pub undo_by : Ed → ℕ → Ed
undo_by e n = cond (length e.undo == 0) (cancel e) (finish (times n undo_once e))

unfoldable pub redo_by : Ed → ℕ → Ed
redo_by e n = cond (length e.redo == 0) (cancel e) (finish (times n redo_once e))

-- n: the count, 0 for none; inserting takes no account of it
unfoldable pub run_action : Ed → ℕ → Action → Ed
run_action e n delete_chars = delete_chars_by e (or_one n)
run_action e n join_lines = join_by e (or_one n)
run_action e n put_after = put_after_by e (or_one n)
run_action e n put_before = put_before_by e (or_one n)
run_action e n insert_before = insert_at e e.cursor
run_action e n insert_after = insert_at e (min (suc e.cursor) (line_end e.text e.cursor))
run_action e n insert_at_first_nonblank = insert_at e (first_nonblank e.text e.cursor)
run_action e n insert_at_line_end = insert_at e (line_end e.text e.cursor)
run_action e n insert_line_below = insert_line e (line_end e.text e.cursor) (suc (line_end e.text e.cursor))
run_action e n insert_line_above = insert_line e (line_start e.text e.cursor) (line_start e.text e.cursor)
run_action e n go_back = undo_by e (or_one n)
run_action e n go_forth = redo_by e (or_one n)

-- Inserting.

-- a byte put in before the cursor
unfoldable pub type_byte : Ed → ℕ → Ed
type_byte e c = edit e e.cursor e.cursor (c ∷ []) (suc e.cursor)

-- the byte before the cursor is taken away, a line end too
unfoldable pub erase_byte : Ed → Ed
erase_byte e = cond (e.cursor == 0) e (edit e (e.cursor - 1) e.cursor [] (e.cursor - 1))

-- the cursor goes left by one within its line
unfoldable pub leave_insert : Ed → Ed
leave_insert e = finish (with_cursor e (cond (column e.text e.cursor == 0) e.cursor (e.cursor - 1)))

unfoldable pub insert_key : Ed → ℕ → Ed
insert_key e k =
    cond (k == escape) (leave_insert e)
    (cond (k == return || k == newline) (type_byte e newline)
    (cond (k == backspace || k == rubout) (erase_byte e)
    (cond (is_typeable k || k == tab) (type_byte e k)
    e)))
