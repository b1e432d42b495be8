-- Everything undone, and redone again.
use Rattle.std.proofs.Common.{◌≡◌, ℕ, zero, suc, false, List, [], ◌∷◌, length, sym, refl, ap, ◌∙◌, subst}
use Rattle.spec.specs.Text.{Text}
use Rattle.spec.specs.Motions.{times}
use Rattle.spec.specs.Editor.{UndoUnit, Ed}
use Rattle.spec.specs.History.{unmade, remade, undo_once, redo_once}
use Rattle.spec.specs.Promises.{BackAndForth, AllBack, AllForth}
use Rattle.laws.proofs.Replacements.{unmade_applies, remade_applies}
use Rattle.laws.proofs.Histories.{UndoChain, RedoChain, Settled, settled_history, with_undone, with_redone, undo_none, undo_some, redo_none, redo_some, undo_settled}
use Rattle.laws.proofs.Sound.{Sound}
use Rattle.laws.proofs.KeysSound.{reachable_sound, some_sound}

-- what undo and redo are about
pub record Same (e f : Ed) : Type 0 where
  pub text : e.text ≡ f.text
  pub undo : e.undo ≡ f.undo
  pub redo : e.redo ≡ f.redo

pub same_back : (e f : Ed) → Same e f → Same f e
same_back e f x = record { text = sym x.text; undo = sym x.undo; redo = sym x.redo }

pub same_then : (e f g : Ed) → Same e f → Same f g → Same e g
same_then e f g x y = record { text = x.text ∙ y.text; undo = x.undo ∙ y.undo; redo = x.redo ∙ y.redo }

pub undo_same : (e f : Ed) → Same e f → Same (undo_once e) (undo_once f)
undo_same e f x = at f.undo refl
  where
    at : (us : List UndoUnit) → f.undo ≡ us → Same (undo_once e) (undo_once f)
    at [] n = rw (undo_none e (x.undo ∙ n), undo_none f n) x
    at (u ∷ us) n = rw (undo_some e u us (x.undo ∙ n), undo_some f u us n) (record { text = ap (unmade u.changes) x.text; undo = refl; redo = ap {B = List UndoUnit} (λ vs. u ∷ vs) x.redo })

pub redo_same : (e f : Ed) → Same e f → Same (redo_once e) (redo_once f)
redo_same e f x = at f.redo refl
  where
    at : (us : List UndoUnit) → f.redo ≡ us → Same (redo_once e) (redo_once f)
    at [] n = rw (redo_none e (x.redo ∙ n), redo_none f n) x
    at (u ∷ us) n = rw (redo_some e u us (x.redo ∙ n), redo_some f u us n) (record { text = ap (remade u.changes) x.text; undo = ap {B = List UndoUnit} (λ vs. u ∷ vs) x.undo; redo = refl })

with_undone_redone : (s : Text) (e : Ed) (u : UndoUnit) (us : List UndoUnit) → UndoChain s (u ∷ us) e.text → e.undo ≡ u ∷ us → Same (with_redone (with_undone e u us) u e.redo) e
with_undone_redone s e u us (m, c, a) n =
    record { text = ap (remade u.changes) (unmade_applies u.changes m e.text a) ∙ remade_applies u.changes m e.text a; undo = sym n; redo = refl }

pub undone_redone : (s : Text) (e : Ed) (u : UndoUnit) (us : List UndoUnit) → Settled s e → e.undo ≡ u ∷ us → Same (redo_once (undo_once e)) e
undone_redone s e u us h n =
    rw (undo_some e u us n, redo_some (with_undone e u us) u e.redo refl) (with_undone_redone s e u us (subst (λ vs. UndoChain s vs e.text) n h.undo) n)

with_redone_undone : (e : Ed) (u : UndoUnit) (us : List UndoUnit) → RedoChain e.text (u ∷ us) → e.redo ≡ u ∷ us → Same (with_undone (with_redone e u us) u e.undo) e
with_redone_undone e u us (m, a, c) n =
    record { text = ap (unmade u.changes) (remade_applies u.changes e.text m a) ∙ unmade_applies u.changes e.text m a; undo = refl; redo = sym n }

pub redone_undone : (s : Text) (e : Ed) (u : UndoUnit) (us : List UndoUnit) → Settled s e → e.redo ≡ u ∷ us → Same (undo_once (redo_once e)) e
redone_undone s e u us h n =
    rw (redo_some e u us n, undo_some (with_redone e u us) u e.undo refl) (with_redone_undone e u us (subst (RedoChain e.text) n h.redo) n)

-- All of it.

pub times_last : (n : ℕ) (f : Ed → Ed) (e : Ed) → times (suc n) f e ≡ f (times n f e)
times_last zero f e = refl
times_last (suc n) f e = times_last n f (f e)

undone_left : (e : Ed) (u : UndoUnit) (us : List UndoUnit) → e.undo ≡ u ∷ us → (undo_once e).undo ≡ us
undone_left e u us n = ap (λ f. f.undo) (undo_some e u us n)

undo_to_first : (s : Text) (us : List UndoUnit) (e : Ed) → e.undo ≡ us → Settled s e → (times (length us) undo_once e).text ≡ s
undo_to_first s [] e n h = sym (subst (λ vs. UndoChain s vs e.text) n h.undo)
undo_to_first s (u ∷ us) e n h = undo_to_first s us (undo_once e) (undone_left e u us n) (undo_settled s e h)

redo_to_last : (s : Text) (us : List UndoUnit) (e : Ed) → e.undo ≡ us → Settled s e → Same (times (length us) redo_once (times (length us) undo_once e)) e
redo_to_last s [] e n h = record { text = refl; undo = refl; redo = refl }
redo_to_last s (u ∷ us) e n h =
    let rest : Same (times (length us) redo_once (times (length us) undo_once (undo_once e))) (undo_once e) = redo_to_last s us (undo_once e) (undone_left e u us n) (undo_settled s e h) in
    rw (times_last (length us) redo_once (times (length us) undo_once (undo_once e))) (same_then _ _ e (redo_same _ (undo_once e) rest) (undone_redone s e u us h n))

-- The theorems.

pub sound_settled : (s : Text) (e : Ed) → Sound s e → e.inserting ≡ false → Settled s e
sound_settled s e h i = settled_history s e (h.quiet i) h.history

pub back_and_forth : BackAndForth
back_and_forth e u us w i n = let h = some_sound w in (undone_redone h.0 e u us (sound_settled h.0 e h.1 i) n).text

pub all_back : AllBack
all_back t r c e w i = undo_to_first t e.undo e refl (sound_settled t e (reachable_sound t r c w) i)

pub all_forth : AllForth
all_forth e w i = let h = some_sound w in (redo_to_last h.0 e.undo e refl (sound_settled h.0 e h.1 i)).text
