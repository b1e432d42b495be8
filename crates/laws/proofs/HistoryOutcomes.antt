-- What becomes of the editor at one key: a lemma for each command.
use Rattle.std.proofs.Common.{◌≡◌, ℕ, suc, ◌-◌, ◌≤◌, Bool, true, false, cond, ltb, leb, [], length, refl, arith}
use mathlib.Core.Option.{Option, some, none}
use Rattle.std.proofs.lemmas.Bool.{cond_both}
use Rattle.spec.specs.Motions.{Motion, Target, Region, times, keeps_column, region}
use Rattle.spec.specs.Keys.{Operator, delete, yank, change, Prefix, counting, operating, Pending}
use Rattle.spec.specs.Editor.{Ed, with_cursor, with_kept_column, with_pending}
use Rattle.spec.specs.History.{edit, finish, finish_in_column, cancel, undo_once, redo_once}
use Rattle.spec.specs.Commands.{clamp_cursor, start_insert, yanked, delete_lines, delete_bytes, delete_region, yank_region, change_region, operate, move_to, run_motion, operate_lines}
use Rattle.spec.specs.Promises.{Stands}
use Rattle.laws.proofs.Standing.{first_nonblank_stands, clamp_stands}
use Rattle.laws.proofs.TextMotions.{Each}
use Rattle.laws.proofs.Targets.{Leads, motion_leads, Takes, region_takes, lines_region_takes}
use Rattle.laws.proofs.Edits.{edit_within}
use Rattle.laws.proofs.Cursors.{Rests, stands_rests}
use Rattle.laws.proofs.HistoryEdits.{Edits, no_edit, edits_then, moved_edits, start_insert_edits, yanked_edits, edit_edits}
use Rattle.laws.proofs.Phases.{typing, waiting, Next, goes_on, over, back, forth, behind_operator, behind_motion}

abbrev pub Within : Ed → Type 0
Within e = e.cursor ≤ length e.text

-- outside of inserting, where commands begin
pub record Idle (e : Ed) : Type 0 where
  pub within : Within e
  pub idle : e.inserting ≡ false

-- where the cursor is behind a command that began in e
pub record Lands (e f : Ed) : Type 0 where
  pub within : Within f
  pub rests : Stands e → Rests f

pub lands : (e f : Ed) → Rests f → Lands e f
lands e f h = record { within = h.within; rests = λ _. h }

-- a command that is over, with a column for j and k to keep to
abbrev pub closed : Ed → ℕ → Ed
closed e c = with_kept_column (finish e) c

-- from the editor that has noted the key, what was said of the key, and the editor behind it
pub data Outcome (e : Ed) : Next → Ed → Type 0 where
  waits : (q : Pending) → Idle e → Outcome e (goes_on (waiting q)) (with_pending e q)
  types : {f : Ed} → Edits e f → Within f → f.inserting ≡ true → Outcome e (goes_on typing) f
  refuses : {x : Next} (c : ℕ) → Idle e → Outcome e x (closed e c)
  ends : {f : Ed} (c : ℕ) → Edits e f → Lands e f → Outcome e over (closed f c)
  undoes : (n : ℕ) → Idle e → Outcome e back (finish (times n undo_once e))
  redoes : (n : ℕ) → Idle e → Outcome e forth (finish (times n redo_once e))

pub cancels : (e : Ed) (x : Next) → Idle e → Outcome e x (cancel e)
unfolding cancel finish_in_column
cancels e x w = refuses e.kept_column w

pub finishes : (e f : Ed) → Edits e f → Lands e f → Outcome e over (finish f)
unfolding finish
finishes e f x w = ends (finish f).kept_column x w

pub finishes_in_column : (e f : Ed) → Edits e f → Lands e f → Outcome e over (finish_in_column f)
unfolding finish_in_column
finishes_in_column e f x w = ends f.kept_column x w

pub starts_insert : (e f : Ed) → Edits e f → Within f → Outcome e (goes_on typing) (start_insert f)
unfolding start_insert
starts_insert e f x w = types (start_insert_edits e f x) w refl

pub either : (e : Ed) (x : Next) (b : Bool) (f g : Ed) → (b ≡ true → Outcome e x f) → (b ≡ false → Outcome e x g) → Outcome e x (cond b f g)
either e x b f g p q = cond_both b f g (Outcome e x) p q

pub by_test : (e : Ed) (b : Bool) (x y : Next) (f g : Ed) → Outcome e x f → Outcome e y g → Outcome e (cond b x y) (cond b f g)
by_test e true x y f g p q = p
by_test e false x y f g p q = q

-- Operators.

-- the edit with which whole lines go
abbrev lines_cut : Ed → ℕ → ℕ → Ed
lines_cut e a b =
    cond (ltb b (length e.text)) (edit e a (suc b) [] a)
    (cond (ltb 0 a) (edit e (a - 1) b [] (a - 1)) (edit e a b [] a))

lines_cut_edits : (e : Ed) (a b : ℕ) → a ≤ length e.text → a ≤ b → Edits e (lines_cut e a b)
lines_cut_edits e a b h k =
    cond_both (ltb b (length e.text)) _ _ (Edits e) (λ _. edit_edits e a (suc b) [] a (omega arith) h) (λ _. cond_both (ltb 0 a) _ _ (Edits e) (λ _. edit_edits e (a - 1) b [] (a - 1) (omega arith) (omega arith)) (λ _. edit_edits e a b [] a k h))

delete_lines_edits : (e : Ed) (r : Region) → r.from ≤ length e.text → r.from ≤ r.to → Edits e (delete_lines e r)
unfolding delete_lines
delete_lines_edits e r h k = moved_edits e (lines_cut e r.from r.to) _ (lines_cut_edits e r.from r.to h k)

delete_lines_rests : (e : Ed) (r : Region) → Rests (delete_lines e r)
unfolding delete_lines
delete_lines_rests e r = first_nonblank_stands _ _ (omega arith)

delete_bytes_edits : (e : Ed) (r : Region) → r.from ≤ length e.text → r.from ≤ r.to → Edits e (delete_bytes e r)
unfolding delete_bytes clamp_cursor
delete_bytes_edits e r h k = moved_edits e (edit e r.from r.to [] r.from) _ (edit_edits e r.from r.to [] r.from k h)

delete_bytes_rests : (e : Ed) (r : Region) → Rests (delete_bytes e r)
unfolding delete_bytes clamp_cursor
delete_bytes_rests e r = clamp_stands _ _

module _ (e : Ed) (r : Region) (takes : Takes e.text e.cursor r) (w : Idle e) where
  yanked_fits : r.from ≤ length (yanked e r).text
  unfolding yanked
  yanked_fits = takes.from_within

  yanked_lands : Lands e (yanked e r)
  unfolding yanked
  yanked_lands = record { within = w.within; rests = stands_rests e w.idle }

  yanked_from_lands : r.linewise ≡ false → Lands e (with_cursor (yanked e r) r.from)
  unfolding yanked
  yanked_from_lands q = record { within = takes.from_within; rests = λ s. takes.from_stands q (stands_rests e w.idle s) }

  behind_yanked : (f : Ed) → Edits (yanked e r) f → Edits e f
  behind_yanked f x = edits_then e (yanked e r) f (yanked_edits e r) x

  pub deletes : Outcome e over (delete_region e r)
  unfolding delete_region
  deletes =
      either e over r.linewise _ _ (λ _. finishes e _ (behind_yanked _ (delete_lines_edits (yanked e r) r yanked_fits takes.ordered)) (lands e _ (delete_lines_rests (yanked e r) r))) (λ _. either e over (leb r.to r.from) _ _ (λ _. cancels e over w) (λ _. finishes e _ (behind_yanked _ (delete_bytes_edits (yanked e r) r yanked_fits takes.ordered)) (lands e _ (delete_bytes_rests (yanked e r) r))))

  yanks : Outcome e over (yank_region e r)
  unfolding yank_region
  yanks =
      either e over r.linewise _ _ (λ _. finishes_in_column e _ (yanked_edits e r) yanked_lands) (λ q. either e over (leb r.to r.from) _ _ (λ _. cancels e over w) (λ _. finishes e _ (moved_edits e (yanked e r) r.from (yanked_edits e r)) (yanked_from_lands q)))

  changes : Outcome e (goes_on typing) (change_region e r)
  unfolding change_region
  changes =
      starts_insert e _ (cond_both (leb r.to r.from) e _ (Edits e) (λ _. no_edit e) (λ _. behind_yanked _ (edit_edits (yanked e r) r.from r.to [] r.from takes.ordered yanked_fits))) (cond_both (leb r.to r.from) e _ Within (λ _. w.within) (λ _. edit_within (yanked e r) r.from r.to [] r.from yanked_fits (omega arith)))

pub operates : (o : Operator) (e : Ed) (r : Region) → Takes e.text e.cursor r → Idle e → Outcome e (behind_operator o) (operate o e r)
unfolding operate
operates delete e r f w = deletes e r f w
operates yank e r f w = yanks e r f w
operates change e r f w = changes e r f w

-- Motions, alone or behind an operator.

moves_to : (e : Ed) (m : Motion) (g : Target) → Lands e (with_cursor e g.place) → Outcome e over (move_to e m g)
unfolding move_to
moves_to e m g h =
    either e over (keeps_column m) _ _ (λ _. finishes_in_column e _ (moved_edits e e g.place (no_edit e)) h) (λ _. finishes e _ (moved_edits e e g.place (no_edit e)) h)

-- what is done with a target or a region, where there is one
if_any : {A : Type 0} (e : Ed) → Idle e → (x : Next) (f : A → Ed) (P : A → Type 0) (o : Option A) → Each P o → ((g : A) → P g → Outcome e x (f g)) → Outcome e x (elim o [ none ↦ cancel e | some g ↦ f g ])
if_any e w x f P none l p = cancels e x w
if_any e w x f P (some g) l p = p g l

pub runs_motion : (e : Ed) (p : Prefix) (m : Motion) → Idle e → Outcome e (behind_motion p) (run_motion e p m)
unfolding run_motion
runs_motion e (counting n) m w =
    if_any e w over (move_to e m) (Leads false e.text e.cursor) _ (motion_leads false e.text e.cursor e.kept_column _ m w.within) (λ g l. moves_to e m g (record { within = l.within; rests = λ s. l.alone refl (stands_rests e w.idle s) }))
runs_motion e (operating o a b) m w =
    if_any e w (behind_operator o) (λ g. operate o e (region e.text e.cursor g)) (Leads true e.text e.cursor) _ (motion_leads true e.text e.cursor e.kept_column _ m w.within) (λ g l. operates o e _ (region_takes true e.text e.cursor g w.within l) w)

-- dd yy cc
pub operates_lines : (o : Operator) (e : Ed) (n : ℕ) → Idle e → Outcome e (behind_operator o) (operate_lines o e n)
unfolding operate_lines
operates_lines o e n w =
    if_any e w (behind_operator o) (operate o e) (Takes e.text e.cursor) _ (lines_region_takes e.text e.cursor n w.within) (λ r k. operates o e r k w)
