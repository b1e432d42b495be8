-- u and control R as keys: each takes back what the other did.
use Rattle.std.proofs.Common.{◌≡◌, ℕ, ◌<◌, false, cond, eqb, List, [], ◌∷◌, length, sym, refl, ap, ◌∙◌, subst, arith}
use Rattle.std.proofs.lemmas.Bool.{cond-false, ne_eqb}
use Rattle.spec.specs.Bytes.{ascii, control_r, escape}
use Rattle.spec.specs.Text.{Text}
use Rattle.spec.specs.Keys.{Pending, ready, awaiting, no_prefix, counting, key_of}
use Rattle.spec.specs.Editor.{Change, UndoUnit, Ed}
use Rattle.spec.specs.History.{recorded, finish, cancel, undo_once, redo_once}
use Rattle.spec.specs.Commands.{undo_by, redo_by, run_action}
use Rattle.spec.specs.Dispatch.{argument_key, command_key, normal_key, noted, typed_key, repeats, scrolled, key}
use Rattle.spec.specs.HistoryLaws.{Restored, Ready, UndoKeyRedoKey}
use Rattle.laws.proofs.Dispatching.{key_typed, typed_outside}
use Rattle.laws.proofs.KeyOutcomes.{noted_within, noted_idle}
use Rattle.laws.proofs.Histories.{undo_some, redo_some}
use Rattle.laws.proofs.Sound.{Sound, Stays, undo_stays, redo_stays, noted_quiet}
use Rattle.laws.proofs.KeysSound.{key_sound, some_sound}
use Rattle.laws.proofs.UndoAll.{Same, same_then, redo_same, undo_same, undone_redone, redone_undone, sound_settled}

-- a key where a command may begin, perhaps behind a count
module _ (e : Ed) (k n : ℕ) (i : e.inserting ≡ false) (p : e.command.pending ≡ ready (counting n)) where
  normal_first : normal_key (noted e k) k ≡ command_key (noted e k) (counting n) (key_of k)
  unfolding normal_key noted
  normal_first =
      ap (λ (q : Pending). elim q [ ready r ↦ command_key (noted e k) r (key_of k) | awaiting a r ↦ cond (eqb k escape) (cancel (noted e k)) (argument_key (noted e k) a r k) ]) p

  pub typed_first : typed_key e k ≡ command_key (noted e k) (counting n) (key_of k)
  typed_first = typed_outside e k i ∙ normal_first

  no_repeat : eqb k (ascii ".") ≡ false → repeats e k ≡ false
  unfolding repeats
  no_repeat q = rw (i, q) refl

  pub key_first : eqb k (ascii ".") ≡ false → key e k ≡ scrolled (typed_key e k)
  key_first q = key_typed e k (no_repeat q)

some_left : (us : List UndoUnit) → 0 < length us → eqb (length us) 0 ≡ false
some_left us h = ne_eqb (length us) 0 (λ n. omega arith)

key_back : (e : Ed) → e.inserting ≡ false → e.command.pending ≡ no_prefix → 0 < length e.undo → key e (ascii "u") ≡ scrolled (finish (undo_once (noted e (ascii "u"))))
unfolding command_key key_of run_action undo_by noted
key_back e i p h = key_first e (ascii "u") 0 i p refl ∙ ap scrolled (typed_first e (ascii "u") 0 i p ∙ cond-false (eqb (length e.undo) 0) _ _ (some_left e.undo h))

key_forth : (e : Ed) → e.inserting ≡ false → e.command.pending ≡ no_prefix → 0 < length e.redo → key e control_r ≡ scrolled (finish (redo_once (noted e control_r)))
unfolding command_key key_of run_action redo_by noted
key_forth e i p h = key_first e control_r 0 i p refl ∙ ap scrolled (typed_first e control_r 0 i p ∙ cond-false (eqb (length e.redo) 0) _ _ (some_left e.redo h))

recorded_none : (e : Ed) (cs : List Change) → cs ≡ [] → recorded e cs ≡ e
unfolding recorded
recorded_none e cs n = ap (recorded e) n

pub finished_same : (e : Ed) → e.command.changes ≡ [] → Same (scrolled (finish e)) e
unfolding scrolled finish
finished_same e n =
    let r : recorded e e.command.changes ≡ e = recorded_none e e.command.changes n in
    record { text = ap (λ f. f.text) r; undo = ap (λ f. f.undo) r; redo = ap (λ f. f.redo) r }

pub noted_same : (e : Ed) (k : ℕ) → Same (noted e k) e
unfolding noted
noted_same e k = record { text = refl; undo = refl; redo = refl }

-- a sound editor where a command may begin
record Begins (s : Text) (e : Ed) : Type 0 where
  sound : Sound s e
  idle : e.inserting ≡ false
  none : e.command.pending ≡ no_prefix

-- behind u or control R, with the editor that undoing or redoing once alone leads to
record Behind (s : Text) (e f : Ed) : Type 0 where
  same : Same f e
  begins : Begins s f

behind_finish : (s : Text) (e f : Ed) → Stays e f → Sound s (scrolled (finish f)) → Behind s f (scrolled (finish f))
unfolding scrolled finish
behind_finish s e f x h = record { same = finished_same f x.changes; begins = record { sound = h; idle = refl; none = refl } }

module _ (s : Text) (e : Ed) (b : Begins s e) where
  behind_back : 0 < length e.undo → Behind s (undo_once e) (key e (ascii "u"))
  behind_back l =
      let n : Ed = noted e (ascii "u") in
      let is : key e (ascii "u") ≡ scrolled (finish (undo_once n)) = key_back e b.idle b.none l in
      let f : Behind s (undo_once n) (scrolled (finish (undo_once n))) = behind_finish s n (undo_once n) (undo_stays n (noted_within e (ascii "u") b.sound.within) (noted_quiet s e (ascii "u") b.sound (noted_idle e (ascii "u") b.idle))) (rw is at (key_sound s e (ascii "u") b.sound)) in
      rw is (record { same = same_then _ _ _ f.same (undo_same n e (noted_same e (ascii "u"))); begins = f.begins })

  behind_forth : 0 < length e.redo → Behind s (redo_once e) (key e control_r)
  behind_forth l =
      let n : Ed = noted e control_r in
      let is : key e control_r ≡ scrolled (finish (redo_once n)) = key_forth e b.idle b.none l in
      let f : Behind s (redo_once n) (scrolled (finish (redo_once n))) = behind_finish s n (redo_once n) (redo_stays n (noted_within e control_r b.sound.within) (noted_quiet s e control_r b.sound (noted_idle e control_r b.idle))) (rw is at (key_sound s e control_r b.sound)) in
      rw is (record { same = same_then _ _ _ f.same (redo_same n e (noted_same e control_r)); begins = f.begins })

restored : (e f : Ed) → Same f e → Restored e f
restored e f x = record { text = x.text; undo = x.undo; redo = x.redo }

back_forth : (s : Text) (e : Ed) → Begins s e → (us : List UndoUnit) → e.undo ≡ us → 0 < length us → Restored e (key (key e (ascii "u")) control_r)
back_forth s e b [] n l = absurd (omega arith)
back_forth s e b (u ∷ us) n l =
    let f : Behind s (undo_once e) (key e (ascii "u")) = behind_back s e b (subst (λ vs. 0 < length vs) (sym n) l) in
    let left : (key e (ascii "u")).redo ≡ u ∷ e.redo = f.same.redo ∙ ap (λ g. g.redo) (undo_some e u us n) in
    let g : Behind s (redo_once (key e (ascii "u"))) (key (key e (ascii "u")) control_r) = behind_forth s (key e (ascii "u")) f.begins (subst (λ vs. 0 < length vs) (sym left) (omega arith)) in
    restored e _ (same_then _ _ e g.same (same_then _ _ e (redo_same _ (undo_once e) f.same) (undone_redone s e u us (sound_settled s e b.sound b.idle) n)))

forth_back : (s : Text) (e : Ed) → Begins s e → (us : List UndoUnit) → e.redo ≡ us → 0 < length us → Restored e (key (key e control_r) (ascii "u"))
forth_back s e b [] n l = absurd (omega arith)
forth_back s e b (u ∷ us) n l =
    let f : Behind s (redo_once e) (key e control_r) = behind_forth s e b (subst (λ vs. 0 < length vs) (sym n) l) in
    let left : (key e control_r).undo ≡ u ∷ e.undo = f.same.undo ∙ ap (λ g. g.undo) (redo_some e u us n) in
    let g : Behind s (undo_once (key e control_r)) (key (key e control_r) (ascii "u")) = behind_back s (key e control_r) f.begins (subst (λ vs. 0 < length vs) (sym left) (omega arith)) in
    restored e _ (same_then _ _ e g.same (same_then _ _ e (undo_same _ (redo_once e) f.same) (redone_undone s e u us (sound_settled s e b.sound b.idle) n)))

begins_ready : (e : Ed) → Ready e → (s : Text) × Begins s e
begins_ready e r = let h = some_sound r.reachable in (h.0, record { sound = h.1; idle = r.not_inserting; none = r.nothing_pending })

pub undo_key_redo_key : UndoKeyRedoKey
undo_key_redo_key =
    record { back_and_forth = λ e r l. let b = begins_ready e r in back_forth b.0 e b.1 e.undo refl l; forth_and_back = λ e r l. let b = begins_ready e r in forth_back b.0 e b.1 e.redo refl l }
