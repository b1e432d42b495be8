-- The screen follows the cursor.
use Rattle.std.proofs.Common.{ℕ, ◌+◌, ◌-◌, ◌<◌, ◌≤◌, arith}
use Rattle.std.proofs.lemmas.Bool.Decides.{nat_tests}
use Rattle.spec.specs.Text.{column, line_of, line_start, skip_back, newlines}
use Rattle.spec.specs.Editor.{Ed, initial}
use Rattle.spec.specs.Dispatch.{follow, scrolled, key}
use Rattle.spec.specs.Promises.{first, next, Sees, InSight}

-- from its beginning on, many are seen, one of them a
pub follow_from : (a begin many : ℕ) → 1 ≤ many → follow a begin many ≤ a
unfolding follow
follow_from a begin many h = grind (arith, nat_tests)

pub follow_to : (a begin many : ℕ) → 1 ≤ many → a < follow a begin many + many
unfolding follow
follow_to a begin many h = grind (arith, nat_tests)

pub scrolled_sees : (e : Ed) → 2 ≤ e.view.rows → 1 ≤ e.view.columns → Sees (scrolled e)
unfolding scrolled
scrolled_sees e r c =
    let rows : 1 ≤ e.view.rows - 1 = omega arith in
    record { below_top = follow_from _ _ _ rows; above_status = follow_to _ _ _ rows; right_of_left = follow_from _ _ _ c; within_width = follow_to _ _ _ c }

pub in_sight : InSight
unfolding initial key scrolled column line_of line_start skip_back newlines
in_sight e (first t r c) h k = record { below_top = omega arith; above_status = omega arith; right_of_left = omega arith; within_width = omega arith }
in_sight e (next {e = u} {k = b} w l) h k = scrolled_sees _ h k
