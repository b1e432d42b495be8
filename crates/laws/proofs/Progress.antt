-- What commands other than u and control R do: changes are made, and what is recorded doesn't become less.
use Rattle.std.proofs.Common.{◌≡◌, ℕ, ◌+◌, ◌≤◌, max, List, [], ◌∷◌, ◌++◌, length, sym, refl, ap, ◌∙◌, inl, arith}
use Rattle.spec.specs.Editor.{Change, Ed}
use Rattle.spec.specs.History.{recorded, finish, finish_in_column, cancel, unmade, remade}
use Rattle.spec.specs.Dispatch.{noted, typed_key, scrolled}
use Rattle.spec.specs.Promises.{changes_weight, units_weight}
use Rattle.spec.specs.HistoryLaws.{unit_changes, recorded_weight, Made}
use Rattle.laws.proofs.Edits.{finish_text}
use Rattle.laws.proofs.HistoryEdits.{Edits, edits_grow}
use Rattle.laws.proofs.Phases.{phase, Next, next}
use Rattle.laws.proofs.HistoryOutcomes.{Within, closed, Outcome, waits, types, refuses, ends, undoes, redoes}
use Rattle.laws.proofs.KeyOutcomes.{typed_keys}
use Rattle.laws.proofs.UndoBytes.{Onward}
use Rattle.laws.proofs.Accounts.{made_none, made_then, edits_made, closed_made}

pub record Progress (e f : Ed) : Type 0 where
  pub made : Made e f
  pub grows : recorded_weight e ≤ recorded_weight f
  pub register : length f.register.bytes ≤ max (length e.register.bytes) (recorded_weight f)
  pub redo : units_weight f.redo ≤ units_weight e.redo

pub progress_none : (e : Ed) → Progress e e
progress_none e = record { made = made_none e; grows = omega arith; register = omega arith; redo = omega arith }

pub progress_then : (e f g : Ed) → Progress e f → Progress f g → Progress e g
progress_then e f g x y =
    record { made = made_then e f g x.made y.made; grows = omega (arith, x.grows, y.grows); register = omega (arith, x.register, y.register, y.grows); redo = omega (arith, x.redo, y.redo) }

pub edits_progress : (e f : Ed) → Edits e f → Progress e f
edits_progress e f x =
    record { made = edits_made e f x; grows = edits_grow e f x; register = x.register; redo = omega (arith, ap units_weight x.redo) }

-- The end of a command.

recorded_grows : (e : Ed) (cs : List Change) → changes_weight cs + units_weight e.undo ≤ units_weight (recorded e cs).undo
unfolding recorded
recorded_grows e [] = omega arith
recorded_grows e (c ∷ cs) = omega arith

-- the rest of what it leaves
recorded_rest : (e : Ed) (cs : List Change) → ((recorded e cs).register ≡ e.register) × (units_weight (recorded e cs).redo ≤ units_weight e.redo)
unfolding recorded
recorded_rest e [] = (refl, omega arith)
recorded_rest e (c ∷ cs) = (refl, omega arith)

pub closed_progress : (e : Ed) (c : ℕ) → Progress e (closed e c)
unfolding finish
closed_progress e c =
    let g = recorded_grows e e.command.changes in
    let r = recorded_rest e e.command.changes in
    record { made = closed_made e c; grows = omega (arith, g, ap length (finish_text e)); register = omega (arith, ap (λ x. length x.bytes) r.0); redo = r.1 }

pub cancel_progress : (e : Ed) → Progress e (cancel e)
unfolding cancel finish_in_column
cancel_progress e = closed_progress e e.kept_column

-- One key.

-- the text, its history and the register stay
stays_progress : (e f : Ed) → f.text ≡ e.text → f.command.changes ≡ e.command.changes → f.undo ≡ e.undo → f.redo ≡ e.redo → f.register ≡ e.register → Progress e f
unfolding remade unmade
stays_progress e f t c u r x =
    let same : recorded_weight f ≡ recorded_weight e = omega (arith, ap length t, ap changes_weight c, ap units_weight u) in
    record {
      made = record { recent = []; known = ap {B = List Change} (λ cs. cs ++ unit_changes f.undo) c ∙ ap {B = List Change} (λ us. e.command.changes ++ unit_changes us) u; made = t; back = sym t; redo = inl r };
      grows = omega arith;
      register = omega (arith, ap (λ y. length y.bytes) x);
      redo = omega (arith, ap units_weight r);
    }

pub noted_progress : (e : Ed) (k : ℕ) → Progress e (noted e k)
unfolding noted
noted_progress e k = stays_progress e _ refl refl refl refl refl

pub scrolled_progress : (e : Ed) → Progress e (scrolled e)
unfolding scrolled
scrolled_progress e = stays_progress e _ refl refl refl refl refl

pub outcome_progress : (e : Ed) {x : Next} {f : Ed} → Onward x → Outcome e x f → Progress e f
outcome_progress e o (waits q w) = stays_progress e _ refl refl refl refl refl
outcome_progress e o (types x w i) = edits_progress e _ x
outcome_progress e o (refuses c w) = closed_progress e c
outcome_progress e o (ends c x w) = progress_then e _ _ (edits_progress e _ x) (closed_progress _ c)
outcome_progress e o (undoes n w) = elim o [ ]
outcome_progress e o (redoes n w) = elim o [ ]

pub typed_progress : (e : Ed) (k : ℕ) → Within e → Onward (next (phase e) k) → Progress e (typed_key e k)
typed_progress e k w o = progress_then e (noted e k) _ (noted_progress e k) (outcome_progress (noted e k) o (typed_keys e k w))
