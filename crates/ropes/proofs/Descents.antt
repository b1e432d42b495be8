-- How many nodes a concat opens. What the concats of a cut open falls short of how much the parts gain in height.
use Rattle.std.proofs.Common.{◌≡◌, ℕ, ◌+◌, ◌-◌, ◌<◌, ◌≤◌, true, false, cond, leb, refl, ⊎_elim, arith}
use Rattle.std.proofs.lemmas.Bool.{le-ltb, leb-true, leb-false, cond_both, cond-true, cond-false, and_cases, not-false}
use Rattle.ropes.specs.Rope.{Rope, empty, leaf, node, height, is_small, Inner, Whole}
use Rattle.ropes.specs.Join.{fits_beside, concat}
use Rattle.ropes.specs.Cut.{front, back}
use Rattle.ropes.specs.Costs.{gap, steps, concat_steps}
use Rattle.ropes.proofs.Balance.{inner_some}
use Rattle.ropes.proofs.Joins.{concat_ok, inner_whole, small_low}
use Rattle.ropes.proofs.Cuts.{front_ok, back_ok}

pub inner_not_small : (t : Rope) → Inner t → is_small t ≡ false
inner_not_small empty i = absurd i
inner_not_small (leaf b) i = le-ltb _ _ i.0
inner_not_small (node l r) i = refl

pub steps_few : (h : ℕ) (t : Rope) → steps h t ≤ h - height t
unfolding steps
steps_few h t = cond_both (is_small t) 0 1 (λ n. h - (height t + n) ≤ h - height t) (λ _. omega arith) (λ _. omega arith)

steps_inner : (h : ℕ) (t : Rope) → Inner t → h ≤ height t + 1 → steps h t ≡ 0
unfolding steps
steps_inner h t i k = let e : ◌≡◌ {A = ℕ} (cond (is_small t) 0 1) 1 = cond-false _ _ _ (inner_not_small t i) in omega (arith, e)

pub concat_steps_few : (l r : Rope) → concat_steps l r ≤ gap (height l) (height r)
unfolding concat_steps
concat_steps_few l r =
    cond_both (leb (height r) (height l)) _ _ (λ z. z ≤ gap (height l) (height r))
    (λ _. omega (arith, steps_few (height l) r)) (λ _. omega (arith, steps_few (height r) l))

-- a node that does not fit beside t is opened, and its child has one step fewer
pub steps_down : (a b c t : Rope) → Inner (node a b) → height c < height (node a b) → fits_beside (height (node a b)) t ≡ false → steps (height c) t + 1 ≤ steps (height (node a b)) t
unfolding steps
steps_down a b c t i lower e =
    let some_a = inner_some a i.0 in
    ⊎_elim
    (λ p. let far : height t + 1 < height (node a b) = leb-false _ _ p in
    cond_both (is_small t) 0 1 (λ n. (height c - (height t + n)) + 1 ≤ height (node a b) - (height t + n)) (λ _. omega arith) (λ _. omega arith))
    (λ p. let s : is_small t ≡ true = not-false _ p in
    let k = small_low t s in
    let z : ◌≡◌ {A = ℕ} (cond (is_small t) 0 1) 0 = cond-true _ _ _ s in
    omega (arith, z))
    (and_cases _ _ e)

-- a part b of a cut before the rope r that stood beside it
pub steps_right : (b r : Rope) → Whole b → Inner r → height b ≤ height r + 1 → concat_steps b r + height b ≤ height (concat b r)
unfolding concat_steps
steps_right b r wb ir h =
    let c = concat_ok b r wb (inner_whole r ir) in
    cond_both (leb (height r) (height b)) _ _ (λ z. z + height b ≤ height (concat b r))
    (λ _. omega (arith, c.low, steps_inner (height b) r ir h))
    (λ e. omega (arith, c.low, steps_few (height r) b, leb-false _ _ e))

pub steps_left : (l f : Rope) → Inner l → Whole f → height f ≤ height l + 1 → concat_steps l f + height f ≤ height (concat l f)
unfolding concat_steps
steps_left l f il wf h =
    let c = concat_ok l f (inner_whole l il) wf in
    cond_both (leb (height f) (height l)) _ _ (λ z. z + height f ≤ height (concat l f))
    (λ e. omega (arith, c.low, steps_few (height l) f, leb-true _ _ e))
    (λ e. omega (arith, c.low, steps_inner (height f) l il h))

pub cut_left : (l r : Rope) (i : ℕ) → Inner (node l r) → concat_steps (back l i) r + height (back l i) ≤ height (concat (back l i) r)
cut_left l r i w = let b = back_ok l i (inner_whole l w.0) in steps_right (back l i) r b.whole w.1 (omega (arith, b.high, w.2))

pub cut_right : (l r : Rope) (i : ℕ) → Inner (node l r) → concat_steps l (front r i) + height (front r i) ≤ height (concat l (front r i))
cut_right l r i w = let f = front_ok r i (inner_whole r w.1) in steps_left l (front r i) w.0 f.whole (omega (arith, f.high, w.3))
