-- What a rope of given bytes is: empty, a leaf, or a node of what its shares make.
use Rattle.std.proofs.Common.{◌≡◌, ℕ, zero, suc, ◌+◌, ◌-◌, ◌*◌, ◌/◌, ◌^◌, ◌<◌, ◌≤◌, ltb, List, length, take, drop, sym, ap, ◌∙◌, ⊎_elim, pow-suc, arith, length-drop, length-take}
use Rattle.std.proofs.lemmas.Bool.{eq-eqb, ne_eqb, lt-leb, ltb-true, ltb-false, cond_both, cond-true, cond-false, cases_lt}
use Rattle.ropes.specs.Rope.{empty, leaf, node}
use Rattle.ropes.specs.Build.{left_share, build, from_bytes}
use Rattle.ropes.proofs.Builds.{build_leaf}

-- how many leaves n bytes fill
abbrev pub fills : ℕ → ℕ
fills n = (n + 47) / 48

-- the left share of more bytes than a leaf has
pub record Share (n k : ℕ) : Type 0 where
  pub some : 24 ≤ k
  pub rest : 24 + k ≤ n
  pub left : fills k ≡ fills n / 2
  pub right : fills (n - k) ≡ fills n - fills n / 2

pub share_ok : (n : ℕ) → 48 < n → Share n (left_share n)
unfolding left_share
share_ok n h =
    cond_both (ltb n 72) _ _ (Share n)
    (λ e. let k : n < 72 = ltb-true _ _ e in
    let all : fills n ≡ 2 = omega arith in
    let one : fills (n / 2) ≡ 1 = omega arith in
    let other : fills (n - n / 2) ≡ 1 = omega arith in
    record { some = omega arith; rest = omega arith; left = omega (arith, all, one); right = omega (arith, all, other) })
    (λ e. let k : 72 ≤ n = ltb-false _ _ e in record { some = omega arith; rest = omega arith; left = omega arith; right = omega arith })

-- it is the number that is computed
pub share_is : (n k : ℕ) → (n < 72 → k ≡ n / 2) → (72 ≤ n → k ≡ 48 * ((n + 47) / 96)) → k ≡ left_share n
unfolding left_share
share_is n k few many = cond_both (ltb n 72) _ _ (λ z. k ≡ z) (λ e. few (ltb-true _ _ e)) (λ e. many (ltb-false _ _ e))

build_node : (f : ℕ) (xs : List ℕ) → 48 < length xs → build (suc f) xs ≡ node (build f (take (left_share (length xs)) xs)) (build f (drop (left_share (length xs)) xs))
unfolding build
build_node f xs more = cond-false _ _ _ (lt-leb _ _ more)

-- levels beyond those that are needed change nothing
build_more : (f : ℕ) (xs : List ℕ) → fills (length xs) ≤ 2 ^ f → build f xs ≡ build (suc f) xs
build_more zero xs fits = build_leaf zero xs (omega arith) ∙ sym (build_leaf 1 xs (omega arith))
build_more (suc f) xs fits =
    let n = length xs in
    let k = left_share n in
    ⊎_elim
    (λ (q : n < 49). build_leaf (suc f) xs (omega arith) ∙ sym (build_leaf (suc (suc f)) xs (omega arith)))
    (λ (q : 49 ≤ n).
    let s = share_ok n q in
    let p : 2 ^ suc f ≡ 2 ^ f * 2 = pow-suc 2 f in
    let lt : length (take k xs) ≡ k = omega (arith, length-take k xs, s.rest) in
    let ld : length (drop k xs) ≡ n - k = length-drop k xs in
    let a : build f (take k xs) ≡ build (suc f) (take k xs) = build_more f (take k xs) (omega (arith, ap fills lt, s.left)) in
    let b : build f (drop k xs) ≡ build (suc f) (drop k xs) = build_more f (drop k xs) (omega (arith, ap fills ld, s.right)) in
    build_node f xs q ∙ (ap (λ z. node z (build f (drop k xs))) a ∙ (ap (node (build (suc f) (take k xs))) b ∙ sym (build_node (suc f) xs q))))
    (cases_lt n 49)

pub from_none : (xs : List ℕ) → length xs ≡ 0 → from_bytes xs ≡ empty
unfolding from_bytes
from_none xs e = cond-true _ _ _ (eq-eqb _ _ e)

pub from_some : (xs : List ℕ) → 1 ≤ length xs → from_bytes xs ≡ build 24 xs
unfolding from_bytes
from_some xs some = cond-false _ _ _ (ne_eqb _ _ (λ (e : length xs ≡ 0). omega arith))

pub from_leaf : (xs : List ℕ) → 1 ≤ length xs → length xs ≤ 48 → from_bytes xs ≡ leaf xs
from_leaf xs some few = from_some xs some ∙ build_leaf 24 xs few

pub from_node : (xs f b : List ℕ) → f ≡ take (left_share (length xs)) xs → b ≡ drop (left_share (length xs)) xs → 48 < length xs → length xs < 536870912 → from_bytes xs ≡ node (from_bytes f) (from_bytes b)
from_node xs f b is_f is_b more few =
    let n = length xs in
    let s = share_ok n more in
    let lf : length f ≡ left_share n = omega (arith, ap length is_f, length-take (left_share n) xs, s.rest) in
    let lb : length b ≡ n - left_share n = ap length is_b ∙ length-drop (left_share n) xs in
    let l : from_bytes f ≡ build 23 f = from_some f (omega (arith, s.some)) ∙ sym (build_more 23 f (omega (arith, ap fills lf, s.left))) in
    let r : from_bytes b ≡ build 23 b = from_some b (omega (arith, s.rest)) ∙ sym (build_more 23 b (omega (arith, ap fills lb, s.right))) in
    from_some xs (omega arith) ∙ (build_node 23 xs more ∙ (ap (λ z. node (build 23 z) (build 23 (drop (left_share n) xs))) (sym is_f) ∙ (ap (λ z. node (build 23 f) (build 23 z)) (sym is_b) ∙ cc)))
