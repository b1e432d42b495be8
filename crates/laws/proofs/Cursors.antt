-- An editor of which the cursor stands where it may outside of inserting.
use Rattle.std.proofs.Common.{◌≡◌, false, List, [], ◌∷◌, sym, refl, subst₂}
use Rattle.spec.specs.Editor.{Ed, UndoUnit}
use Rattle.spec.specs.History.{finish, undo_once, redo_once}
use Rattle.spec.specs.Promises.{Stands}
use Rattle.laws.proofs.Standing.{StandsAt, clamp_stands}
use Rattle.laws.proofs.Edits.{finish_text, finish_cursor}

abbrev pub Rests : Ed → Type 0
Rests e = StandsAt e.text e.cursor

pub rests_stands : (e : Ed) → Rests e → Stands e
rests_stands e h = record { within = h.within; on_byte = λ _. h.on_byte }

pub stands_rests : (e : Ed) → e.inserting ≡ false → Stands e → Rests e
stands_rests e q h = record { within = h.within; on_byte = h.on_byte q }

pub finish_stands : (e : Ed) → Rests e → Stands (finish e)
finish_stands e h = rests_stands (finish e) (subst₂ StandsAt (sym (finish_text e)) (sym (finish_cursor e)) h)

pub undo_once_rests : (e : Ed) → Rests e → Rests (undo_once e)
unfolding undo_once
undo_once_rests e h = by e.undo refl
  where
    by : (us : List UndoUnit) → e.undo ≡ us → Rests (undo_once e)
    by [] q = rw q h
    by (u ∷ us) q = rw q (clamp_stands _ _)

pub redo_once_rests : (e : Ed) → Rests e → Rests (redo_once e)
unfolding redo_once
redo_once_rests e h = by e.redo refl
  where
    by : (us : List UndoUnit) → e.redo ≡ us → Rests (redo_once e)
    by [] q = rw q h
    by (u ∷ us) q = rw q (clamp_stands _ _)
