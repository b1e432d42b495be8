-- Editors to which the theorems on the cursor apply with something to say.
use Rattle.std.proofs.Common.{◌≡◌, ℕ, Bool, true, ◌&&◌, ltb, List, [], ◌∷◌, codes, refl}
use Rattle.std.proofs.lemmas.Bool.{and_parts, ltb-true}
use Rattle.spec.specs.Editor.{Ed, initial}
use Rattle.spec.specs.Dispatch.{key}
use Rattle.spec.specs.Promises.{Reachable, first, next}
use Rattle.spec.specs.Worked.{after, example}
use Rattle.spec.specs.Laws.{cannot_move, cannot_command, can_not, small_after, StandsWitness, SeesWitness, PendingWitness, CursorWitnesses}
use Rattle.spec.proofs.Computing.{computing}

abbrev pub are_bytes : List ℕ → Bool
are_bytes [] = true
are_bytes (k ∷ ks) = ltb k 256 && are_bytes ks

pub after_reachable : (e : Ed) (ks : List ℕ) → Reachable e → are_bytes ks ≡ true → Reachable (after e ks)
unfolding after
after_reachable e [] w h = w
after_reachable e (k ∷ ks) w h =
    let b : (ltb k 256 ≡ true) × (are_bytes ks ≡ true) = and_parts (ltb k 256) (are_bytes ks) h in
    after_reachable (key e k) ks (next w (ltb-true k 256 b.0)) b.1

small_reachable : (ks : List ℕ) → are_bytes ks ≡ true → Reachable (small_after ks)
small_reachable ks h = after_reachable (initial example 3 12) ks (first example 3 12) h

stands : StandsWitness (small_after (codes "$x"))
unfolding computing
stands = record { reachable = small_reachable (codes "$x") refl; outside = refl; cursor = refl; last = refl }

sees : SeesWitness (small_after (codes "jjj$"))
unfolding computing
sees = record { reachable = small_reachable (codes "jjj$") refl; top = refl; left = refl }

pending : PendingWitness (small_after (codes "$j2d3"))
unfolding computing can_not cannot_command cannot_move
pending = record { reachable = small_reachable (codes "$j2d3") refl; outside = refl; kept_column = refl; column = refl; pending = refl; goes_on = refl; cannot = refl; can = refl }

pub cursor_witnesses : CursorWitnesses
cursor_witnesses = record { stands = stands; sees = sees; pending = pending }
