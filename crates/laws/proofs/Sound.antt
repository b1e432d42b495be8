-- What holds of every editor that keys lead to, relative to the first text: one key that isn't a repeat keeps it.
use Rattle.std.proofs.Common.{◌≡◌, ℕ, true, false, List, [], ◌∷◌, ◌++◌, sym, refl, ap, ◌∙◌, subst}
use Rattle.std.proofs.lemmas.Bool.{true≢false}
use Rattle.spec.specs.Text.{Text}
use Rattle.spec.specs.Motions.{times}
use Rattle.spec.specs.Keys.{Pending, no_prefix}
use Rattle.spec.specs.Editor.{Change, UndoUnit, Ed, with_pending}
use Rattle.spec.specs.History.{recorded, finish, undo_once, redo_once}
use Rattle.spec.specs.Dispatch.{noted, typed_key}
use Rattle.laws.proofs.Standing.{clamp_stands}
use Rattle.laws.proofs.TextMotions.{times_keeps}
use Rattle.laws.proofs.Edits.{finish_text, finish_cursor}
use Rattle.laws.proofs.HistoryEdits.{Edits}
use Rattle.laws.proofs.Phases.{Phase, typing, waiting, phase, Next, goes_on, over, back, forth, next}
use Rattle.laws.proofs.HistoryOutcomes.{Within, Idle, closed, Outcome, waits, types, refuses, ends, undoes, redoes}
use Rattle.laws.proofs.KeyOutcomes.{typed_keys}
use Rattle.laws.proofs.Histories.{History, Settled, edits_history, settled_history, history_settled, finish_settled, undo_none, undo_some, redo_none, redo_some, undo_settled, redo_settled}

abbrev pub start : Phase
start = waiting no_prefix

-- keys that lead from one phase of a command to another
abbrev pub Leads : Phase → List ℕ → Phase → Type 0
Leads p [] q = p ≡ q
Leads p (k ∷ ks) q = (r : Phase) × (next p k ≡ goes_on r) × Leads r ks q

abbrev pub IfGoesOn : Next → (Phase → Type 0) → Type 0 → Type 0
IfGoesOn (goes_on p) P Q = P p
IfGoesOn over P Q = Q
IfGoesOn back P Q = ⊥
IfGoesOn forth P Q = ⊥

-- keys of which the last ends a command, none before it does, and none undoes or redoes
abbrev pub Complete : Phase → List ℕ → Type 0
Complete p [] = ⊥
Complete p (k ∷ ks) = IfGoesOn (next p k) (λ q. Complete q ks) (ks ≡ [])

-- keys for . to type, or none
abbrev pub Repeatable : List ℕ → Type 0
Repeatable [] = Unit {0}
Repeatable (k ∷ ks) = Complete start (k ∷ ks)

leads_more : (p q r : Phase) (ks : List ℕ) (k : ℕ) → Leads p ks q → next q k ≡ goes_on r → Leads p (ks ++ (k ∷ [])) r
leads_more p q r [] k l n = (r, ap (λ x. next x k) l ∙ n, refl)
leads_more p q r (j ∷ ks) k (m, a, l) n = (m, a, leads_more m q r ks k l n)

leads_over : (p q : Phase) (ks : List ℕ) (k : ℕ) → Leads p ks q → next q k ≡ over → Complete p (ks ++ (k ∷ []))
leads_over p q [] k l n = rw (ap (λ x. next x k) l ∙ n) refl
leads_over p q (j ∷ ks) k (m, a, l) n = rw a (leads_over m q ks k l n)

repeatable : (ks : List ℕ) → Complete start ks → Repeatable ks
repeatable [] c = tt
repeatable (k ∷ ks) c = c

pub record Sound (s : Text) (e : Ed) : Type 0 where
  pub within : Within e
  pub quiet : e.inserting ≡ false → e.command.changes ≡ []
  pub history : History s e
  pub keys : Leads start e.command.keys (phase e)
  pub last_keys : Repeatable e.last_keys

-- The end of a command.

-- the keys that . types behind it
abbrev pub kept_keys : Ed → List Change → List ℕ
kept_keys e [] = e.last_keys
kept_keys e (c ∷ cs) = e.command.keys

recorded_keys : (e : Ed) (cs : List Change) → (recorded e cs).last_keys ≡ kept_keys e cs
unfolding recorded
recorded_keys e [] = refl
recorded_keys e (c ∷ cs) = refl

pub finish_keys : (e : Ed) (cs : List Change) → e.command.changes ≡ cs → (finish e).last_keys ≡ kept_keys e cs
unfolding finish
finish_keys e cs n = ap (λ ds. (recorded e ds).last_keys) n ∙ recorded_keys e cs

finish_within : (e : Ed) → Within e → Within (finish e)
finish_within e w = rw (finish_cursor e, finish_text e) w

pub closed_sound : (s : Text) (e : Ed) (c : ℕ) → Within e → History s e → Repeatable (finish e).last_keys → Sound s (closed e c)
unfolding finish
closed_sound s e c w h r =
    let t : Settled s (finish e) = finish_settled s e h in
    record { within = finish_within e w; quiet = λ _. refl; history = history_settled s (closed e c) refl (record { undo = t.undo; redo = t.redo }); keys = refl; last_keys = r }

-- Undo and redo.

-- what they leave as it is, and that the cursor stays in the text
pub record Stays (e f : Ed) : Type 0 where
  pub within : Within f
  pub changes : f.command.changes ≡ []
  pub keys : f.command.keys ≡ e.command.keys
  pub last_keys : f.last_keys ≡ e.last_keys
  pub register : f.register ≡ e.register

stays_same : (e : Ed) → Within e → e.command.changes ≡ [] → Stays e e
stays_same e w q = record { within = w; changes = q; keys = refl; last_keys = refl; register = refl }

stays_then : (e f g : Ed) → Stays e f → Stays f g → Stays e g
stays_then e f g x y = record { within = y.within; changes = y.changes; keys = y.keys ∙ x.keys; last_keys = y.last_keys ∙ x.last_keys; register = y.register ∙ x.register }

pub undo_stays : (e : Ed) → Within e → e.command.changes ≡ [] → Stays e (undo_once e)
undo_stays e w q = at e.undo refl
  where
    at : (us : List UndoUnit) → e.undo ≡ us → Stays e (undo_once e)
    at [] n = rw (undo_none e n) (stays_same e w q)
    at (u ∷ us) n = rw (undo_some e u us n) (record { within = (clamp_stands _ _).within; changes = refl; keys = refl; last_keys = refl; register = refl })

pub redo_stays : (e : Ed) → Within e → e.command.changes ≡ [] → Stays e (redo_once e)
redo_stays e w q = at e.redo refl
  where
    at : (us : List UndoUnit) → e.redo ≡ us → Stays e (redo_once e)
    at [] n = rw (redo_none e n) (stays_same e w q)
    at (u ∷ us) n = rw (redo_some e u us n) (record { within = (clamp_stands _ _).within; changes = refl; keys = refl; last_keys = refl; register = refl })

module _ (f : Ed → Ed) (stays : (e : Ed) → Within e → e.command.changes ≡ [] → Stays e (f e)) where
  pub times_stays : (n : ℕ) (e : Ed) → Within e → e.command.changes ≡ [] → Stays e (times n f e)
  times_stays n e w q = times_keeps (Stays e) f (λ g x. stays_then e g (f g) x (stays g x.within x.changes)) n e (stays_same e w q)

  pub finished_times_sound : (s : Text) → ((e : Ed) → Settled s e → Settled s (f e)) → (n : ℕ) (e : Ed) → Within e → e.command.changes ≡ [] → History s e → Repeatable e.last_keys → Sound s (finish (times n f e))
  unfolding finish
  finished_times_sound s p n e w q h r =
      let g : Ed = times n f e in
      let x : Stays e g = times_stays n e w q in
      closed_sound s g (finish g).kept_column x.within (history_settled s g x.changes (times_keeps (Settled s) f p n e (settled_history s e q h))) (subst Repeatable (sym (finish_keys g [] x.changes ∙ x.last_keys)) r)

-- One key.

module _ (s : Text) (e : Ed) (k : ℕ) (sound : Sound s e) where
  pub noted_history : History s (noted e k)
  unfolding noted
  noted_history = record { start = sound.history.start; undo = sound.history.undo; changes = sound.history.changes; redo = sound.history.redo }

  pub noted_quiet : (noted e k).inserting ≡ false → (noted e k).command.changes ≡ []
  unfolding noted
  noted_quiet i = sound.quiet i

  pub noted_settled : (noted e k).inserting ≡ false → Settled s (noted e k)
  noted_settled i = settled_history s (noted e k) (noted_quiet i) noted_history

  noted_repeatable : Repeatable (noted e k).last_keys
  unfolding noted
  noted_repeatable = sound.last_keys

  pub noted_keys : (noted e k).command.keys ≡ e.command.keys ++ (k ∷ [])
  unfolding noted
  noted_keys = refl

  leads_on : (p : Phase) → goes_on p ≡ next (phase e) k → Leads start (noted e k).command.keys p
  leads_on p n = subst (λ ks. Leads start ks p) (sym noted_keys) (leads_more start (phase e) p e.command.keys k sound.keys (sym n))

  waits_sound : (q : Pending) → goes_on (waiting q) ≡ next (phase e) k → Idle (noted e k) → Sound s (with_pending (noted e k) q)
  waits_sound q n w =
      let h : History s (noted e k) = noted_history in
      record {
        within = w.within;
        quiet = noted_quiet;
        history = record { start = h.start; undo = h.undo; changes = h.changes; redo = h.redo };
        keys = rw w.idle (leads_on (waiting q) n);
        last_keys = noted_repeatable;
      }

  types_sound : (f : Ed) → goes_on typing ≡ next (phase e) k → Edits (noted e k) f → Within f → f.inserting ≡ true → Sound s f
  types_sound f n x w i =
      record {
        within = w;
        quiet = λ j. absurd (true≢false (sym i ∙ j));
        history = edits_history s (noted e k) f x noted_history;
        keys = rw (x.keys, i) (leads_on typing n);
        last_keys = rw x.last_keys noted_repeatable;
      }

  refuses_sound : (c : ℕ) → Idle (noted e k) → Sound s (closed (noted e k) c)
  refuses_sound c w =
      closed_sound s (noted e k) c w.within noted_history (rw (finish_keys (noted e k) [] (noted_quiet w.idle)) noted_repeatable)

  ends_sound : (f : Ed) (c : ℕ) → over ≡ next (phase e) k → Edits (noted e k) f → Within f → Sound s (closed f c)
  ends_sound f c n x w =
      closed_sound s f c w (edits_history s (noted e k) f x noted_history) (subst Repeatable (sym (finish_keys f f.command.changes refl)) (kept f.command.changes))
    where
      kept : (cs : List Change) → Repeatable (kept_keys f cs)
      kept [] = rw x.last_keys noted_repeatable
      kept (d ∷ ds) = rw (x.keys, noted_keys) (repeatable (e.command.keys ++ (k ∷ [])) (leads_over start (phase e) e.command.keys k sound.keys (sym n)))

  outcome_sound : {x : Next} {f : Ed} → x ≡ next (phase e) k → Outcome (noted e k) x f → Sound s f
  outcome_sound n (waits q w) = waits_sound q n w
  outcome_sound n (types x w i) = types_sound _ n x w i
  outcome_sound n (refuses c w) = refuses_sound c w
  outcome_sound n (ends c x w) = ends_sound _ c n x w.within
  outcome_sound n (undoes m w) =
      finished_times_sound undo_once undo_stays s (undo_settled s) m (noted e k) w.within (noted_quiet w.idle) noted_history noted_repeatable
  outcome_sound n (redoes m w) =
      finished_times_sound redo_once redo_stays s (redo_settled s) m (noted e k) w.within (noted_quiet w.idle) noted_history noted_repeatable

  pub typed_sound : Sound s (typed_key e k)
  typed_sound = outcome_sound refl (typed_keys e k sound.within)
