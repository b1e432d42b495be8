-- What the leaf in which a sum is reached tells of the whole text.
use Rattle.std.proofs.Common.{◌≡◌, ℕ, zero, suc, ◌+◌, ◌-◌, ◌<◌, ◌≤◌, min, List, [], ◌++◌, length, take, drop, sym, ap, ◌∙◌, ⊎_elim, arith, length-append, take-append-drop, take_all}
use lib.Seq.{take-append-le, take-append-add}
use Rattle.std.proofs.lemmas.Bool.{cases_lt}
use Rattle.rope_cells.specs.LeafBytes.{items}
use Rattle.rope_read.specs.Reading.{Reached}
use Rattle.rope_read.specs.Locating.{Located}
use Rattle.rope_read.specs.declared.locating.Spot.{Spot}

module _ {by of : List ℕ → ℕ} {t : List ℕ} {n : ℕ} {r : Spot} (y : Located by of t n r) where
  pub whole_length : length t ≡ length y.before + (length (items r.leaf) + length y.behind)
  whole_length = ap length y.whole ∙ (length-append y.before (items r.leaf ++ y.behind) ∙ omega (arith, length-append (items r.leaf) y.behind))

  -- the sum before the leaf is not larger than what is looked for
  pub by_within : ((a : List ℕ) → by a ≤ length a) → r.by ≤ n
  by_within small = ⊎_elim (λ (k : 0 < length y.before). omega (arith, y.late k, y.by_is)) (λ (k : length y.before ≤ 0). omega (arith, y.by_is, small y.before)) (cases_lt 0 (length y.before))

  -- the front of the text up to a place in the leaf
  pub front_is : (k : ℕ) → k ≤ length (items r.leaf) → take (length y.before + k) t ≡ y.before ++ take k (items r.leaf)
  front_is k le = ap (take (length y.before + k)) y.whole ∙ (take-append-add y.before (items r.leaf ++ y.behind) k ∙ ap (λ z. y.before ++ z) (take-append-le k (items r.leaf) y.behind le))

-- found by the number of bytes
module _ {of : List ℕ → ℕ} {t : List ℕ} {n : ℕ} {r : Spot} (y : Located (λ a. length a) of t n r) where
  pub place_within : r.by ≤ n
  place_within = by_within y (λ a. omega arith)

  pub place_inside : n - r.by ≤ length (items r.leaf)
  place_inside = omega (arith, y.reach, y.by_is)

  pub front_of_text : take n t ≡ y.before ++ take (n - r.by) (items r.leaf)
  front_of_text =
      let e : n ≡ length y.before + (n - r.by) = omega (arith, y.by_is, place_within) in
      ap (λ k. take k t) e ∙ front_is y (n - r.by) place_inside

  -- the sum before a place, from that before the leaf
  pub prefix_is : ((x z : List ℕ) → of (x ++ z) ≡ of x + of z) → r.of + of (take (n - r.by) (items r.leaf)) ≡ of (take n t)
  prefix_is add = omega (arith, y.of_is, ap of front_of_text, add y.before (take (n - r.by) (items r.leaf)))

-- found by any sum, with the number of bytes before it
module _ (sums : List ℕ → ℕ) (add : (x z : List ℕ) → sums (x ++ z) ≡ sums x + sums z) (small : (x : List ℕ) → sums x ≤ length x) {t : List ℕ} {n : ℕ} {r : Spot} (y : Located sums (λ a. length a) t n r) where
  sums_front : (x : List ℕ) (k : ℕ) → sums (take k x) ≤ sums x
  sums_front x k = omega (arith, ap sums (take-append-drop k x), add (take k x) (drop k x))

  -- the place at which the sum is reached, from that in the leaf
  pub reached_is : (k : ℕ) → Reached sums (items r.leaf) (n - r.by) k → Reached sums t n (r.of + k)
  reached_is k x =
      let in_leaf = x.within in
      let within = by_within y small in
      let front : (j : ℕ) → j ≤ length (items r.leaf) → sums (take (length y.before + j) t) ≡ sums y.before + sums (take j (items r.leaf)) = λ j le. ap sums (front_is y j le) ∙ add y.before (take j (items r.leaf)) in
      let e : r.of + k ≡ length y.before + k = omega (arith, y.of_is) in
      record {
        within = omega (arith, whole_length y);
        reaches = ap (λ z. sums (take z t)) e ∙ (front k in_leaf ∙ omega (arith, x.reaches, y.by_is));
        least = λ q l. ⊎_elim
            (λ (a : q < length y.before).
            let f : take q t ≡ take q y.before = ap (take q) y.whole ∙ take-append-le q y.before (items r.leaf ++ y.behind) (omega arith) in
            omega (arith, ap sums f, sums_front y.before q, y.late (omega arith)))
            (λ (a : length y.before ≤ q).
            let j : length y.before + (q - length y.before) ≡ q = omega arith in
            omega (arith, ap (λ z. sums (take z t)) j, front (q - length y.before) (omega arith), x.least (q - length y.before) (omega arith), y.by_is))
            (cases_lt q (length y.before));
      }

-- of no bytes
module _ (sums : List ℕ → ℕ) (whole : (x z : List ℕ) → sums (x ++ z) ≡ sums x + sums z) where
  pub sums_none : sums [] ≡ 0
  sums_none = omega (arith, whole [] [])

  pub front_sum_none : (t : List ℕ) (k : ℕ) → t ≡ [] → 0 ≡ sums (take k t)
  front_sum_none t zero e = sym sums_none
  front_sum_none t (suc k) e = sym sums_none ∙ ap (λ z. sums (take (suc k) z)) (sym e)

-- up to the end
pub front_min : (t : List ℕ) (k : ℕ) → take (min k (length t)) t ≡ take k t
front_min t k = ⊎_elim (λ (h : k < length t). let e : min k (length t) ≡ k = omega arith in ap (λ z. take z t) e) (λ (h : length t ≤ k). let e : min k (length t) ≡ length t = omega arith in ap (λ z. take z t) e ∙ (take_all (length t) t (omega arith) ∙ sym (take_all k t h))) (cases_lt k (length t))
