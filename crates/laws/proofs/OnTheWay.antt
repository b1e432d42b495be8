-- The editors on the way of a repeat and of a key that joins lines, and what they weigh.
use Rattle.std.proofs.Common.{◌≡◌, ℕ, zero, suc, ◌+◌, ◌-◌, ◌≤◌, max, false, ltb, length, sym, ap, ◌∙◌, suc-add, zero-add, arith}
use Rattle.std.proofs.lemmas.Bool.{cond_both, cond-false, ne_eqb}
use Rattle.spec.specs.Bytes.{ascii}
use Rattle.spec.specs.Text.{line_end}
use Rattle.spec.specs.Motions.{times, or_one}
use Rattle.spec.specs.Keys.{repeat, action, Action, join_lines, key_of, counting}
use Rattle.spec.specs.Editor.{Ed}
use Rattle.spec.specs.History.{finish}
use Rattle.spec.specs.Commands.{join_once, join_by, run_action}
use Rattle.spec.specs.Dispatch.{command_key, noted, typed_key, key, scrolled}
use Rattle.spec.specs.HistoryLaws.{Runs, Between}
use Rattle.laws.proofs.TextMotions.{times_same}
use Rattle.laws.proofs.HistoryEdits.{Edits}
use Rattle.laws.proofs.HistoryOutcomes.{Within}
use Rattle.laws.proofs.KeyOutcomes.{noted_within}
use Rattle.laws.proofs.Actions.{joins_edits, joins_within}
use Rattle.laws.proofs.UndoKeys.{typed_first, key_first}
use Rattle.laws.proofs.Progress.{Progress, progress_then, edits_progress, closed_progress, cancel_progress, noted_progress}

-- A key that is a command of one key.

acts_not_repeat : (k : ℕ) (a : Action) → key_of k ≡ action a → k ≡ ascii "." → ⊥
unfolding key_of
acts_not_repeat k a n e =
    let dot : key_of k ≡ repeat = ap key_of e in
    let z : ◌≡◌ {A = ℕ} 0 1 = cc in
    omega arith

module _ (e : Ed) (k n : ℕ) (a : Action) (r : Runs e k n a) where
  pub runs_typed : typed_key e k ≡ run_action (noted e k) n a
  unfolding command_key
  runs_typed = typed_first e k n r.not_inserting r.counted ∙ ap (command_key (noted e k) (counting n)) r.acts

  pub runs_key : key e k ≡ scrolled (typed_key e k)
  runs_key = key_first e k n r.not_inserting r.counted (ne_eqb k (ascii ".") (acts_not_repeat k a r.acts))

-- Lines joined.

pub times_more : (j m : ℕ) (f : Ed → Ed) (e : Ed) → times (j + m) f e ≡ times m f (times j f e)
times_more zero m f e = rw (zero-add m)
times_more (suc j) m f e = rw (suc-add j m) (times_more j m f (f e))

-- so often out of n times
pub times_split : (j n : ℕ) (f : Ed → Ed) (e : Ed) → j ≤ n → times n f e ≡ times (n - j) f (times j f e)
times_split j n f e h = let s : j + (n - j) ≡ n = omega arith in ap (λ m. times m f e) (sym s) ∙ times_more j (n - j) f e

join_nothing : (e : Ed) → ltb (line_end e.text e.cursor) (length e.text) ≡ false → join_once e ≡ e
unfolding join_once
join_nothing e n = cond-false _ _ e n

finish_progress : (e : Ed) → Progress e (finish e)
unfolding finish
finish_progress e = closed_progress e (finish e).kept_column

joining_progress : (e : Ed) (j n : ℕ) → Within e → j ≤ n → Progress (times j join_once e) (finish (times n join_once e))
joining_progress e j n w h =
    let f : Ed = times j join_once e in
    let x : Edits f (times (n - j) join_once f) = joins_edits (n - j) f (joins_within j e w) in
    rw (times_split j n join_once e h) (progress_then f _ _ (edits_progress f _ x) (finish_progress _))

joined_progress : (e : Ed) (j n : ℕ) → Within e → j ≤ max 1 (n - 1) → Progress (times j join_once e) (join_by e n)
unfolding join_by
joined_progress e j n w h =
    cond_both (ltb (line_end e.text e.cursor) (length e.text)) _ _ (Progress (times j join_once e)) (λ _. joining_progress e j (max 1 (n - 1)) w h) (λ q. rw (times_same join_once e (join_nothing e q) j) (cancel_progress e))

-- An editor on the way, between two others.

pub record OnWay (e f g : Ed) : Type 0 where
  pub before : Progress e f
  pub after : Progress f g

pub on_way_within : (d e f g h : Ed) → Progress d e → OnWay e f g → Progress g h → OnWay d f h
on_way_within d e f g h x w y = record { before = progress_then d e f x w.before; after = progress_then f g h w.after y }

-- with what is in hand of the keys
pub between : (e f g : Ed) → OnWay e f g → length f.command.keys + length f.last_keys ≤ suc (length e.command.keys + (length e.last_keys + length g.last_keys)) → Between e f g
between e f g w k =
    record { from = w.before.grows; to = w.after.grows; bound = omega (arith, w.before.register, w.before.redo, w.after.grows) }

module _ (e : Ed) (k n j : ℕ) (r : Runs e k n join_lines) (w : Within e) (h : j ≤ max 1 (or_one n - 1)) where
  pub joined_edits : Edits (noted e k) (times j join_once (noted e k))
  joined_edits = joins_edits j (noted e k) (noted_within e k w)

  pub joining_on_way : OnWay e (times j join_once (noted e k)) (typed_key e k)
  unfolding run_action
  joining_on_way =
      record { before = progress_then e (noted e k) _ (noted_progress e k) (edits_progress _ _ joined_edits); after = rw (runs_typed e k n join_lines r) (joined_progress (noted e k) j (or_one n) (noted_within e k w) h) }
