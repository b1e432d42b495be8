-- What is sent as steps from one picture to another.
use Rattle.std.proofs.Common.{◌≡◌, ℕ, ◌+◌, ◌-◌, List, [], ◌++◌, length, get_or, take, set, replicate, sym, refl, ap, ◌∙◌, subst}
use Rattle.spec.specs.Screen.{Row, Picture, blank}
use Rattle.spec.specs.Terminal.{Phase, Terminal, ground, feed}
use Rattle.spec.specs.Promises.{Shows, Draws}
use Rattle.terminals.specs.Sequences.{move_bytes, clear_bytes, overwritten}
use Rattle.terminals.specs.Drawing.{showing, Moves, Runs, Clears, InSequence, NothingToSend}
use Rattle.terminals.proofs.Feeds.{terminal, resting, feed_append, feed_move, feed_run, feed_clear}

-- the one terminal that shows a picture
abbrev pub of_picture : Picture → Terminal
of_picture p = resting p.rows p.cursor_row p.cursor_column

same_terminal : (g g' : List Row) (r r' c c' : ℕ) (p p' : Phase) → g ≡ g' → r ≡ r' → c ≡ c' → p ≡ p' → terminal g r c p ≡ terminal g' r' c' p'
same_terminal g g' r r' c c' p p' a b d e = rw (a, b, d, e)

pub only_one : {t : Terminal} {p : Picture} → Shows t p → t ≡ of_picture p
only_one {t} {p} s = same_terminal t.grid p.rows t.row p.cursor_row t.column p.cursor_column t.phase ground s.grid s.row s.column s.still

pub shows_itself : (p : Picture) → Shows (of_picture p) p
shows_itself p = record { grid = refl; row = refl; column = refl; still = refl }

-- what the one terminal becomes, every terminal that shows the picture becomes
pub draws_by : (p q : Picture) (bs : List ℕ) → feed (of_picture p) bs ≡ of_picture q → Draws p q bs
draws_by p q bs e t s = subst (λ (x : Terminal). Shows x q) (sym (ap (λ (x : Terminal). feed x bs) (only_one s) ∙ e)) (shows_itself q)

pub draws_append : InSequence
draws_append p q r a b h k t s = rw (feed_append t a b) (k (feed t a) (h t s))

pub draws_none : (p : Picture) → Draws p p []
unfolding feed
draws_none p t s = s

pub draws_move : Moves
draws_move g r₀ c₀ r c r9 c9 h k = draws_by (showing g r₀ c₀) (showing g r c) (move_bytes r c) (feed_move g r₀ c₀ r c r9 c9 h k)

pub draws_run : Runs
draws_run g r c s i h k = draws_by (showing g r c) (showing (set g r (overwritten (get_or g r []) c s)) r (c + length s)) s (feed_run g r c (get_or g r []) s i h refl k)

pub draws_clear : Clears
draws_clear g r c h = draws_by (showing g r c) (showing (set g r (take c (get_or g r []) ++ replicate (length (get_or g r []) - c) blank)) r c) clear_bytes (feed_clear g r c (get_or g r []) refl h)

same_picture : (g g' : List Row) (r r' c c' : ℕ) → g ≡ g' → r ≡ r' → c ≡ c' → showing g r c ≡ showing g' r' c'
same_picture g g' r r' c c' a b d = rw (a, b, d)

pub draws_nothing : NothingToSend
unfolding feed
draws_nothing p q = (forth, λ e. subst (λ (x : Picture). Draws p x []) e (draws_none p))
  where
    forth : Draws p q [] → p ≡ q
    forth d =
        let s : Shows (of_picture p) q = d (of_picture p) (shows_itself p) in
        same_picture p.rows q.rows p.cursor_row q.cursor_row p.cursor_column q.cursor_column s.grid s.row s.column
