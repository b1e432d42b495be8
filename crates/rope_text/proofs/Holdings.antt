-- What is known of the one rope that is held, and of one that is made beside it.
use Rattle.std.proofs.Common.{◌≡◌, ℕ, ◌+◌, ◌-◌, ◌*◌, ◌^◌, ◌<◌, ◌≤◌, List, [], ◌∷◌, ◌++◌, length, take, drop, Some, None, Option, sym, refl, ap, ◌∙◌, subst, arith}
use Rattle.std.proofs.lemmas.List.{length-take, length-drop, take_all}
use Rattle.cells.specs.declared.cell.Ref.{Ref}
use Rattle.cells.specs.Have.{item, Have}
use Rattle.cells.specs.Steps.{Begun, Sharing, Shared, Holding, Released}
use Rattle.cells.proofs.Held.{lend, have_none}
use Rattle.spec.specs.Text.{replaced, copies, part}
use Rattle.ropes.specs.Rope.{empty, bytes, size}
use Rattle.ropes.specs.Join.{concat}
use Rattle.ropes.specs.Cut.{front, back}
use Rattle.ropes.proofs.Cuts.{size_bytes, bytes_front, bytes_back}
use Rattle.ropes.proofs.Joins.{bytes_concat}
use Rattle.rope_cells.specs.Coded.{code}
use Rattle.rope_cells.specs.Lending.{Lends}
use Rattle.rope.specs.Building.{Two, Joins, Any, Free, concat_price}
use Rattle.rope.specs.declared.cutting.Cut.{Cut}
use Rattle.rope.specs.Cutting.{One, Short, Splits}
use Rattle.rope.proofs.Holds.{swap_have, lends}
use Rattle.rope_edit.specs.Editing.{Lend, Builds, Replaces, Times, Repeated, Slices}
use Rattle.rope_edit.proofs.Slices.{front_short, back_short, short_low}
use Rattle.rope_edit.proofs.Follows.{concat_short}
use Rattle.rope_edit.proofs.Replaces.{cut_size}
use Rattle.rope_read.specs.Text.{text}
use Rattle.rope_read.proofs.Texts.{text_is}
use Rattle.rope_text.specs.Holding.{Stands, Holds, Beside, Offered}

module _ {m : List ℕ} {p : ℕ} {xs : List ℕ} (s : Stands m p xs) where
  abbrev pub stands_lends : Lends m p
  stands_lends = lends m p s.rope [] s.fit.whole s.fit.few s.have

  pub stands_text : text m p ≡ xs
  stands_text = text_is m p stands_lends ∙ s.is

  pub stands_holds : Holds m p
  stands_holds = record { rope = s.rope; fit = s.fit; have = s.have; is = sym (text_is m p stands_lends) }

  pub stands_size : size s.rope ≡ length xs
  stands_size = size_bytes s.rope ∙ ap length s.is

  pub stands_few : length xs < 536870912
  stands_few = omega (arith, stands_size, s.fit.few)

  pub stands_sharing : Sharing m p
  stands_sharing = record { rest = item p (code s.rope) ∷ []; tree = code s.rope; have = s.have; lent = lend m p (code s.rope) [] s.have; few = omega arith }

  pub stands_shared : {m1 : List ℕ} → Shared m m1 p → Have m1 (item p (code s.rope) ∷ (item p (code s.rope) ∷ []))
  stands_shared shared = shared.have (code s.rope) _ (lend m p (code s.rope) [] s.have) s.have

-- a heap that was begun has the rope of no bytes
pub begun_stands : {m m' : List ℕ} → Begun m m' → Stands m' 0 []
begun_stands {m' = m'} b = record { rope = empty; fit = record { whole = tt; few = omega arith }; have = have_none m' [] b.have; is = refl }

-- the one or the other of two is let go
module _ {m : List ℕ} {p d : ℕ} {xs ys : List ℕ} (b : Beside m p xs d ys) where
  pub beside_holding : Holding m p
  beside_holding = record { tree = code b.rope; rest = item d (code b.new) ∷ []; have = swap_have m _ _ _ b.have }

  pub beside_new : {m' : List ℕ} → Released m m' p → Stands m' d ys
  beside_new gone = record { rope = b.new; fit = b.fit_new; have = gone.have (code b.rope) _ (swap_have m _ _ _ b.have); is = b.is_new }

-- what was offered
pub offered_some : {m : List ℕ} {p : ℕ} {xs ys : List ℕ} {made : Option Ref} {d : Ref} → made ≡ Some d → Offered m p xs made ys → Beside m p xs d.0 ys
offered_some {m} {p} {xs} {ys} is o = subst (λ z. Offered m p xs z ys) is o

pub offered_none : {m : List ℕ} {p : ℕ} {xs : List ℕ} {made : Option Ref} (ys : List ℕ) → made ≡ None → Offered m p xs made ys → Stands m p xs
offered_none {m} {p} {xs} ys is o = subst (λ z. Offered m p xs z ys) is o

-- replacing
module _ {m : List ℕ} {p : ℕ} {xs : List ℕ} (s : Stands m p xs) where
  abbrev pub stands_free : (n : ℕ) → n < 536870912 → Free m n
  stands_free n few = record { rest = item p (code s.rope) ∷ []; have = s.have; few = omega (arith, few) }

  module _ {m1 : List ℕ} {b : List ℕ} {n n1 : ℕ} (few : length xs + length b < 536870912) where
    pub unbuilt : Builds m m1 b None n n1 → Stands m1 p xs
    unbuilt made = record { rope = s.rope; fit = s.fit; have = (made.runs (stands_free (length b) (omega (arith, few)))).have; is = s.is }

    module _ {d : Ref} (made : Builds m m1 b (Some d) n n1) where
      pub built : Beside m1 p xs d.0 b
      built = record {
        rope = s.rope;
        new = _;
        fit = s.fit;
        fit_new = made.short;
        have = (made.runs (stands_free (length b) (omega (arith, few)))).have;
        is = s.is;
        is_new = made.text;
      }

pub beside_sharing : {m : List ℕ} {p d : ℕ} {xs ys : List ℕ} → Beside m p xs d ys → Sharing m p
beside_sharing {m} {p} {d} b =
    let h = swap_have m _ _ _ b.have in
    record { rest = item p (code b.rope) ∷ (item d (code b.new) ∷ []); tree = code b.rope; have = h; lent = lend m p (code b.rope) _ h; few = omega arith }

module _ {m m1 : List ℕ} {p d : ℕ} {xs ys : List ℕ} (b : Beside m p xs d ys) (few : length xs + length ys < 536870912) (shared : Shared m m1 p) where
  abbrev pub replacing : Two Any m1 p d 200
  replacing =
      let h = swap_have m _ _ _ b.have in
      record {
        u = b.rope;
        v = b.new;
        rest = item p (code b.rope) ∷ [];
        fit = record { left = b.fit.whole; right = b.fit_new.whole; few = omega (arith, size_bytes b.rope, ap length b.is, size_bytes b.new, ap length b.is_new, few) };
        have = shared.have (code b.rope) _ (lend m p (code b.rope) _ h) b.have;
        few = omega arith;
      }

  pub replaced_offered : {m2 : List ℕ} {i j n n2 : ℕ} → i ≤ j → (e : Option Ref) → Replaces i j m1 m2 p d e n n2 → Offered m2 p xs e (replaced xs i j ys)
  replaced_offered le None r = record { rope = b.rope; fit = b.fit; have = (r.runs replacing).have; is = b.is }
  replaced_offered {i = i} {j = j} le (Some e) r =
      record {
        rope = b.rope;
        new = _;
        fit = b.fit;
        fit_new = r.short replacing;
        have = (r.runs replacing).have;
        is = b.is;
        is_new = r.text replacing le ∙ (ap (λ z. replaced z i j (bytes b.new)) b.is ∙ ap (λ z. replaced xs i j z) b.is_new);
      }

-- repeating
module _ {m m1 : List ℕ} {p : ℕ} {xs : List ℕ} (s : Stands m p xs) (shared : Shared m m1 p) where
  module _ (n : ℕ) (few : n * length xs < 536870912) where
    abbrev pub repeating : One (Times n) m1 p 200
    repeating =
        record {
          t = s.rope;
          rest = item p (code s.rope) ∷ [];
          fit = record { whole = s.fit.whole; few = subst (λ z. n * z < 536870912) (sym (stands_size s)) few };
          have = stands_shared s shared;
          few = omega (arith, short_low s.rope s.fit);
        }

    pub repeated_offered : {m2 : List ℕ} {i j : ℕ} → n < 2 ^ 32 → (e : Option Ref) → Repeated n m1 m2 p e i j → Offered m2 p xs e (copies n xs)
    repeated_offered fits None r = record { rope = s.rope; fit = s.fit; have = (r.runs repeating 32 fits).have; is = s.is }
    repeated_offered fits (Some e) r =
        record {
          rope = s.rope;
          new = _;
          fit = s.fit;
          fit_new = r.short repeating 32 fits;
          have = (r.runs repeating 32 fits).have;
          is = s.is;
          is_new = r.text repeating 32 fits ∙ ap (copies n) s.is;
        }

  -- rotating
  abbrev pub cutting : One Short m1 p 160
  cutting = record { t = s.rope; rest = item p (code s.rope) ∷ []; fit = s.fit; have = stands_shared s shared; few = omega (arith, short_low s.rope s.fit) }

  module _ {at : ℕ} {m2 : List ℕ} {i j : ℕ} where
    pub uncut : Splits at m1 m2 p None i j → Stands m2 p xs
    uncut cut = record { rope = s.rope; fit = s.fit; have = (cut.runs cutting).have; is = s.is }

    module _ {c : Cut} (cut : Splits at m1 m2 p (Some c) i j) where
      pub rotated_any : Any (back s.rope at) (front s.rope at)
      rotated_any =
          record {
            left = (back_short s.rope at s.fit).whole;
            right = (front_short s.rope at s.fit).whole;
            few = omega (arith, cut_size s.rope at, s.fit.few);
          }

      abbrev pub rotating : Two Any m2 c.back.0 c.front.0 128
      rotating =
          record {
            u = back s.rope at;
            v = front s.rope at;
            rest = item p (code s.rope) ∷ [];
            fit = rotated_any;
            have = swap_have m2 _ _ _ (cut.runs cutting).have;
            few = omega arith;
          }

      pub rotated_offered : {m3 : List ℕ} {k l : ℕ} → (e : Option Ref) → Joins Any concat concat_price 1 m2 m3 c.back.0 c.front.0 128 e k l → Offered m3 p xs e (drop at xs ++ take at xs)
      rotated_offered None r = record { rope = s.rope; fit = s.fit; have = (r.runs rotating).have; is = s.is }
      rotated_offered (Some e) r =
          record {
            rope = s.rope;
            new = concat (back s.rope at) (front s.rope at);
            fit = s.fit;
            fit_new = concat_short (back s.rope at) (front s.rope at) rotated_any;
            have = (r.runs rotating).have;
            is = s.is;
            is_new =
                bytes_concat (back s.rope at) (front s.rope at)
                ∙ (ap (λ z. z ++ bytes (front s.rope at)) (bytes_back s.rope at)
                ∙ (ap (λ z. drop at (bytes s.rope) ++ z) (bytes_front s.rope at) ∙ ap (λ z. drop at z ++ take at z) s.is));
          }

-- a part beside the whole
abbrev pub lending : {m : List ℕ} {p : ℕ} {xs : List ℕ} → Stands m p xs → Lend m p
lending {m} {p} s =
    record { t = s.rope; rest = item p (code s.rope) ∷ []; fit = s.fit; have = s.have; lent = lend m p (code s.rope) [] s.have; few = omega arith }

module _ {m m1 : List ℕ} {p a b : ℕ} {xs : List ℕ} (s : Stands m p xs) {i j : ℕ} where
  pub unsliced : Slices a b m m1 p None i j → Stands m1 p xs
  unsliced cut = record { rope = s.rope; fit = s.fit; have = (cut.runs (lending s)).have; is = s.is }

  module _ {d : Ref} (cut : Slices a b m m1 p (Some d) i j) where
    abbrev pub sliced_beside : Beside m1 p xs d.0 (part xs a b)
    sliced_beside =
        record {
          rope = s.rope;
          new = _;
          fit = s.fit;
          fit_new = cut.short (lending s);
          have = (cut.runs (lending s)).have;
          is = s.is;
          is_new = cut.text (lending s) ∙ ap (λ z. part z a b) s.is;
        }

module _ {m : List ℕ} {p d : ℕ} {xs ys : List ℕ} (b : Beside m p xs d ys) where
  pub new_lends : Lends m d
  new_lends = lends m d b.new _ b.fit_new.whole b.fit_new.few b.have

  pub new_text : text m d ≡ ys
  unfolding new_lends
  new_text = text_is m d new_lends ∙ b.is_new

  pub new_holding : Holding m d
  new_holding = record { tree = code b.new; rest = item p (code b.rope) ∷ []; have = b.have }

  pub beside_old : {m' : List ℕ} → Released m m' d → Stands m' p xs
  beside_old gone = record { rope = b.rope; fit = b.fit; have = gone.have (code b.new) _ b.have; is = b.is }

pub length_part : (xs : List ℕ) (a n : ℕ) → a + n ≤ length xs → length (part xs a (a + n)) ≡ n
length_part xs a n h = omega (arith, length-take (a + n - a) (drop a xs), length-drop a xs)

pub take_part : (xs : List ℕ) (a n : ℕ) → a + n ≤ length xs → take n (part xs a (a + n)) ≡ part xs a (a + n)
take_part xs a n h = take_all n (part xs a (a + n)) (omega (arith, length_part xs a n h))

-- a part of a rope that is held is read
pub read_part : (xs : List ℕ) (a n : ℕ) {ys into : List ℕ} → a + n ≤ length xs → ys ≡ part xs a (a + n) → into ≡ take n (drop 0 ys) → into ≡ part xs a (a + n)
read_part xs a n h is read = read ∙ (ap (take n) is ∙ take_part xs a n h)
