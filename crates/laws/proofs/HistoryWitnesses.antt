-- The editors to which the theorems on history apply, found by computing.
use Rattle.std.proofs.Common.{◌≡◌, ℕ, Bool, true, ◌&&◌, ltb, List, [], ◌∷◌, ◌++◌, codes, refl, arith}
use Rattle.std.proofs.lemmas.Bool.{and_parts, ltb-true}
use Rattle.spec.specs.Bytes.{escape}
use Rattle.spec.specs.Text.{Text}
use Rattle.spec.specs.Editor.{Ed}
use Rattle.spec.specs.Promises.{ReachableFrom}
use Rattle.spec.specs.HistoryLaws.{joined, joining, behind, further, replayed, replaying, undoing, redoing}
use Rattle.spec.specs.Worked.{after}
use Rattle.spec.specs.HistoryWitnesses.{short, typed, TwoUnits, OneEach, OpenInsert, Repeated, TypedAgain, Joined, MovedTwice, HistoryWitnesses}
use Rattle.spec.proofs.Computing.{computing}

abbrev bytes : List ℕ → Bool
bytes [] = true
bytes (k ∷ ks) = ltb k 256 && bytes ks

after_reachable : (t : Text) (r c : ℕ) (ks : List ℕ) (e : Ed) → bytes ks ≡ true → ReachableFrom t r c e → ReachableFrom t r c (after e ks)
unfolding after
after_reachable t r c [] e b w = w
after_reachable t r c (k ∷ ks) e b w =
    let p = and_parts (ltb k 256) (bytes ks) b in
    after_reachable t r c ks _ p.1 (ReachableFrom.next w (ltb-true k 256 p.0))

typed_reachable : (ks : List ℕ) → bytes ks ≡ true → ReachableFrom short 8 12 (typed ks)
typed_reachable ks b = after_reachable short 8 12 ks _ b ReachableFrom.first

two_units : TwoUnits
unfolding computing
two_units = record { reachable = typed_reachable (codes "xJ") refl; not_inserting = refl; units = refl; text = refl; one_undone = refl; all_undone_text = refl }

one_each : OneEach
unfolding computing
one_each =
    record { reachable = typed_reachable (codes "xJu") refl; not_inserting = refl; nothing_pending = refl; undo = refl; redo = refl; undone = refl; redone = refl }

open_insert : OpenInsert
unfolding computing
open_insert =
    record { reachable = typed_reachable (codes "xiZ") refl; inserting = refl; changes = refl; undo = refl; known = refl; text = refl }

repeated : Repeated
unfolding computing
repeated =
    record { reachable = typed_reachable (codes "x2") refl; units = refl; between = replayed 1 refl (omega arith); between_text = refl }

typed_again : TypedAgain
unfolding computing
typed_again =
    record {
      reachable = typed_reachable (codes "iZ" ++ (escape ∷ [])) refl;
      text = refl;
      between = replaying 0 refl (omega arith) (further (omega arith) behind);
      inserting = refl;
      changes = refl;
    }

lines_joined : Joined
unfolding computing
lines_joined =
    record { reachable = typed_reachable (codes "3") refl; text = refl; between = joining (joined 3 1 (record { not_inserting = refl; counted = refl; acts = refl }) (omega arith)); between_text = refl }

moved_twice : MovedTwice
unfolding computing
moved_twice =
    record {
      undo_reachable = typed_reachable (codes "xJ2") refl;
      undone = refl;
      undone_between = undoing 2 1 (record { not_inserting = refl; counted = refl; acts = refl }) (omega arith);
      redo_reachable = typed_reachable (codes "xJ2u2") refl;
      redone = refl;
      redone_between = redoing 2 1 (record { not_inserting = refl; counted = refl; acts = refl }) (omega arith);
    }

pub history_witnesses : HistoryWitnesses
history_witnesses = record { two_units = two_units; one_each = one_each; open_insert = open_insert; repeated = repeated; typed_again = typed_again; joined = lines_joined; moved_twice = moved_twice }
