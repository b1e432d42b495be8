-- What holds of ropes joined on either side: each by what holds on the left and on the right.
use Rattle.std.proofs.Common.{◌≡◌, ℕ, ◌+◌, ◌-◌, ◌<◌, ◌≤◌, max, true, false, List, refl, ◌∙◌, arith}
use Rattle.std.proofs.lemmas.Bool.{le-leb, lt-leb, le-ltb, lt-ltb, cond-true, cond-false, or_left, or_right}
use Rattle.ropes.specs.Rope.{Rope, empty, leaf, node, size, height, cells, Inner, Whole}
use Rattle.ropes.specs.Join.{rotate_double, rotate_left, rotate_right, balance, fits_beside, merge, append, prepend}
use Rattle.ropes.specs.Costs.{rotations, steps}
use Rattle.ropes.proofs.Balance.{Fits}
use Rattle.ropes.proofs.Joins.{append_inner, prepend_inner, not_beside}
use Rattle.ropes.proofs.Rotations.{append_rotations, prepend_rotations, rotations_none}
use Rattle.ropes.proofs.Descents.{steps_down}
use Rattle.ropes.proofs.Counts.{cells_append, cells_prepend}
use Rattle.ropes.proofs.Cuts.{size_append, size_prepend}
use Rattle.rope.specs.declared.sided.Side.{Side}
use Rattle.rope.specs.declared.sided.Side.TheVariants.{Left, Right}
use Rattle.rope.specs.Sided.{node_on, on_side, rotate_on, double_on, balance_on, rotations_on, attach}

pub height_on : (s : Side) (a b : Rope) → height (node_on s a b) ≡ max (height a) (height b) + 1
height_on Right a b = refl
height_on Left a b = omega arith

pub size_on : (s : Side) (a b : Rope) → size (node_on s a b) ≡ size a + size b
size_on Right a b = refl
size_on Left a b = omega arith

pub cells_on : (s : Side) (a b : Rope) → cells (node_on s a b) ≡ cells a + cells b + 1
cells_on Right a b = refl
cells_on Left a b = omega arith

-- the children of a node in balance
pub record Level (a b : Rope) : Type 0 where
  pub first : Inner a
  pub second : Inner b
  pub low : height a ≤ height b + 1
  pub high : height b ≤ height a + 1

pub inner_level : (s : Side) (a b : Rope) → Inner (node_on s a b) → Level a b
inner_level Right a b i = record { first = i.0; second = i.1; low = i.2; high = i.3 }
inner_level Left a b i = record { first = i.1; second = i.0; low = i.3; high = i.2 }

pub level_inner : (s : Side) (a b : Rope) → Level a b → Inner (node_on s a b)
level_inner Right a b l = (l.first, l.second, l.low, l.high)
level_inner Left a b l = (l.second, l.first, l.high, l.low)

pub level_whole : (s : Side) (a b : Rope) → Level a b → Whole (node_on s a b)
level_whole Right a b l = (l.first, l.second, l.low, l.high)
level_whole Left a b l = (l.second, l.first, l.high, l.low)

-- whatever is higher than a leaf is a node, seen from either side
pub record View (s : Side) (t : Rope) : Type 0 where
  pub first : Rope
  pub second : Rope
  pub is : t ≡ node_on s first second
  pub high : height t ≡ max (height first) (height second) + 1
  pub long : size t ≡ size first + size second
  pub count : cells t ≡ cells first + cells second + 1
  pub inner : Whole t → Inner t
  pub level : Whole t → Level first second

pub view : (s : Side) (t : Rope) → 2 ≤ height t → View s t
view s empty h = absurd (omega arith)
view s (leaf b) h = absurd (omega arith)
view Right (node l r) h =
    record {
      first = l;
      second = r;
      is = refl;
      high = refl;
      long = refl;
      count = refl;
      inner = λ w. w;
      level = λ w. record { first = w.0; second = w.1; low = w.2; high = w.3 };
    }
view Left (node l r) h =
    record {
      first = r;
      second = l;
      is = refl;
      high = omega arith;
      long = omega arith;
      count = omega arith;
      inner = λ w. w;
      level = λ w. record { first = w.1; second = w.0; low = w.3; high = w.2 };
    }

pub double_node : (s : Side) (a x y c : Rope) → double_on s a (node_on s x y) c ≡ node_on s (node_on s a x) (node_on s y c)
unfolding rotate_double
double_node Right a x y c = refl
double_node Left a x y c = refl

pub rotate_single : (s : Side) (a x y : Rope) → height x ≤ height y → rotate_on s a (node_on s x y) ≡ node_on s (node_on s a x) y
unfolding rotate_left rotate_right
rotate_single Right a x y h = cond-true _ _ _ (le-leb _ _ h)
rotate_single Left a x y h = cond-true _ _ _ (le-leb _ _ h)

pub rotate_twice : (s : Side) (a x y : Rope) → height y < height x → rotate_on s a (node_on s x y) ≡ double_on s a x y
unfolding rotate_left rotate_right
rotate_twice Right a x y h = cond-false _ _ _ (lt-leb _ _ h)
rotate_twice Left a x y h = cond-false _ _ _ (lt-leb _ _ h)

pub balance_rotated : (s : Side) (a b : Rope) → height a + 1 < height b → balance_on s a b ≡ rotate_on s a b
unfolding balance
balance_rotated Right a b h = let l : height a ≤ height b + 1 = omega arith in cond-false _ _ _ (le-ltb _ _ l) ∙ cond-true _ _ _ (lt-ltb _ _ h)
balance_rotated Left a b h = cond-true _ _ _ (lt-ltb _ _ h)

pub balance_node : (s : Side) (a b : Rope) → height a ≤ height b + 1 → height b ≤ height a + 1 → balance_on s a b ≡ node_on s a b
unfolding balance
balance_node Right a b l h = cond-false _ _ _ (le-ltb _ _ l) ∙ cond-false _ _ _ (le-ltb _ _ h)
balance_node Left a b l h = cond-false _ _ _ (le-ltb _ _ h) ∙ cond-false _ _ _ (le-ltb _ _ l)

pub attach_leaf : (s : Side) (b : List ℕ) (t : Rope) → attach s (leaf b) t ≡ on_side s merge (leaf b) t
unfolding append prepend
attach_leaf Right b t = refl
attach_leaf Left b t = refl

pub attach_beside : (s : Side) {h : Rope} (o : View s h) (t : Rope) → fits_beside (height h) t ≡ true → attach s h t ≡ node_on s h t
unfolding append prepend
attach_beside Right o t e = let e = rw o.is at e in rw o.is (cond-true _ _ _ e)
attach_beside Left o t e = let e = rw o.is at e in rw o.is (cond-true _ _ _ e)

pub attach_inside : (s : Side) {h : Rope} (o : View s h) (t : Rope) → fits_beside (height h) t ≡ false → attach s h t ≡ balance_on s o.first (attach s o.second t)
unfolding append prepend
attach_inside Right o t e = let e = rw o.is at e in rw o.is (cond-false _ _ _ e)
attach_inside Left o t e = let e = rw o.is at e in rw o.is (cond-false _ _ _ e)

pub attach_fits : (s : Side) (t x : Rope) → Inner t → Whole x → 1 ≤ height x → height x ≤ height t → Fits (attach s t x) (height t)
attach_fits Right t x i w some le = append_inner t x i w some le
attach_fits Left t x i w some le = prepend_inner x t w i some le

pub cells_attach : (s : Side) (t x : Rope) → cells (attach s t x) ≤ cells t + cells x + 1
cells_attach Right t x = cells_append t x
cells_attach Left t x = omega (arith, cells_prepend x t)

pub size_attach : (s : Side) (t x : Rope) → size (attach s t x) ≡ size t + size x
size_attach Right t x = size_append t x
size_attach Left t x = omega (arith, size_prepend x t)

pub attach_rotations : (s : Side) {h : Rope} (o : View s h) (x : Rope) → Inner h → Whole x → 1 ≤ height x → height x ≤ height o.second → fits_beside (height h) x ≡ false
    → rotations_on s o.first (attach s o.second x) + (height (balance_on s o.first (attach s o.second x)) - height h) ≤ height (attach s o.second x) - height o.second
attach_rotations Right o x i w some le e = rw o.is (append_rotations o.first o.second x (rw o.is at i) w some le (not_beside _ x (rw o.is at e)))
attach_rotations Left o x i w some le e = rw o.is (prepend_rotations x o.second o.first w (rw o.is at i) some le (not_beside _ x (rw o.is at e)))

pub attach_steps : (s : Side) {h : Rope} (o : View s h) (x : Rope) → Inner h → fits_beside (height h) x ≡ false → steps (height o.second) x + 1 ≤ steps (height h) x
attach_steps Right o x i e = rw o.is (steps_down o.first o.second o.second x (rw o.is at i) (omega arith) (rw o.is at e))
attach_steps Left o x i e = rw o.is (steps_down o.second o.first o.second x (rw o.is at i) (omega arith) (rw o.is at e))

pub rotations_on_one : (s : Side) (a b : Rope) → height a + 1 < height b → rotations_on s a b ≡ 1
unfolding rotations
rotations_on_one Right a b h = cond-true _ _ _ (or_right _ _ (lt-ltb _ _ h))
rotations_on_one Left a b h = cond-true _ _ _ (or_left _ _ (lt-ltb _ _ h))

pub rotations_on_none : (s : Side) (a b : Rope) → height a ≤ height b + 1 → height b ≤ height a + 1 → rotations_on s a b ≡ 0
rotations_on_none Right a b l h = rotations_none a b l h
rotations_on_none Left a b l h = rotations_none b a h l
