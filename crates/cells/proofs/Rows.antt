-- Laws of `cell`, `at`, `put`, `over` and `state`.
use Rattle.std.proofs.Common.{◌≡◌, ℕ, ◌+◌, ◌-◌, ◌*◌, ◌<◌, ◌≤◌, ◌≢◌, List, [], ◌∷◌, ◌++◌, length, get_or, take, drop, set, replicate, sym, refl, ap, ◌∙◌, inl, inr, arith}
use Rattle.std.proofs.lemmas.Bool.{cases_lt}
use Rattle.std.proofs.Math.Seq.{take-set-lt}
use Rattle.std.proofs.lemmas.List.{length-set, length-take, length-take-le, length-drop, get_or-set_same, get_or-set_other, drop-set-add, ext_get_or, length-append, get_or_append_left, get_or-append_right, get_or-take, get_or-drop, drop_more, set_at, replicate_more, length-replicate, append_assoc, drop-append-le, take-append-le}
use Rattle.cells.specs.Layout.{cell, at, put, over, filled, state, cleared}
use Rattle.cells.proofs.Lists.{part_same, get_or_part, length_over, get_or_over_below, get_or_over, get_or_over_past, over_more}

pub length_put : (m : List ℕ) (p k x : ℕ) → length (put m p k x) ≡ length m
unfolding put
length_put m p k x = length-set m (16 * p + k) x

pub length_cell : (m : List ℕ) (p : ℕ) → 16 * p + 16 ≤ length m → length (cell m p) ≡ 16
unfolding cell
length_cell m p h = simp (length-take, length-drop) (omega arith)

-- the words of a cell in the row
pub at_word : (m : List ℕ) (p k : ℕ) → k < 16 → at m p k ≡ get_or m (16 * p + k) 0
unfolding at cell
at_word m p k h = get_or_part m (16 * p) 16 k h

pub at_cell : (m m' : List ℕ) (p : ℕ) → cell m' p ≡ cell m p → (k : ℕ) → at m' p k ≡ at m p k
unfolding at
at_cell m m' p e k = ap (λ c. get_or c k 0) e

pub cell_same : (m m' : List ℕ) (p : ℕ) → length m' ≡ length m → ((k : ℕ) → k < 16 → get_or m' (16 * p + k) 0 ≡ get_or m (16 * p + k) 0) → cell m' p ≡ cell m p
unfolding cell
cell_same m m' p long same = part_same m m' (16 * p) 16 long same

pub cell_put : (m : List ℕ) (p k x : ℕ) → k < 16 → cell (put m p k x) p ≡ set (cell m p) k x
unfolding cell put
cell_put m p k x h = ap (take 16) (drop-set-add (16 * p) m k x) ∙ take-set-lt 16 (drop (16 * p) m) k x h

pub cell_other : (m : List ℕ) (p k x q : ℕ) → k < 16 → q ≢ p → cell (put m p k x) q ≡ cell m q
unfolding put
cell_other m p k x q h ne =
    cell_same m (put m p k x) q (length_put m p k x) (λ j lt. get_or-set_other m (16 * p + k) (16 * q + j) x 0 (omega arith))

pub at_put : (m : List ℕ) (p k x : ℕ) → k < 16 → 16 * p + 16 ≤ length m → at (put m p k x) p k ≡ x
unfolding at
at_put m p k x h long = ap (λ c. get_or c k 0) (cell_put m p k x h) ∙ get_or-set_same (cell m p) k x 0 (omega (arith, length_cell m p long))

-- another word
pub at_other : (m : List ℕ) (p k x q j : ℕ) → k < 16 → j < 16 → j ≢ k → at (put m p k x) q j ≡ at m q j
unfolding put
at_other m p k x q j hk hj ne =
    at_word (put m p k x) q j hj ∙ get_or-set_other m (16 * p + k) (16 * q + j) x 0 (omega arith) ∙ sym (at_word m q j hj)

pub state_put : (m : List ℕ) (p k x : ℕ) → k < 16 → (1 ≤ p → 8 ≤ p) → state (put m p k x) ≡ state m
unfolding state put
state_put m p k x h far =
    part_same m (put m p k x) 16 112 (length_put m p k x)
    (λ j lt. get_or-set_other m (16 * p + k) (16 + j) x 0 (λ e. omega (arith, far (omega arith))))

-- data are written to cell p
module _ (m w : List ℕ) (p : ℕ) (thirteen : length w ≡ 13) (long : 16 * p + 16 ≤ length m) where
  pub length_data : length (over m (16 * p + 3) w) ≡ length m
  length_data = length_over m (16 * p + 3) w (omega arith)

  pub cell_data_other : (q : ℕ) → q ≢ p → cell (over m (16 * p + 3) w) q ≡ cell m q
  cell_data_other q ne =
      cell_same m (over m (16 * p + 3) w) q length_data (λ k lt.
      elim (cases_lt q p) [
        | inl h ↦ get_or_over_below m (16 * p + 3) (16 * q + k) w (omega arith) (omega arith)
        | inr h ↦ get_or_over_past m (16 * p + 3) (16 * q + k) w (omega arith) (omega arith)
      ])

  pub state_data : 8 ≤ p → state (over m (16 * p + 3) w) ≡ state m
  unfolding state
  state_data far =
      part_same m (over m (16 * p + 3) w) 16 112 length_data (λ k lt. get_or_over_below m (16 * p + 3) (16 + k) w (omega arith) (omega arith))

  pub cell_data : cell (over m (16 * p + 3) w) p ≡ take 3 (cell m p) ++ w
  unfolding cell
  cell_data =
      let c = cell m p in
      let c' = cell (over m (16 * p + 3) w) p in
      let three : length (take 3 c) ≡ 3 = length-take-le 3 c (omega (arith, length_cell m p long)) in
      let sixteen : length c' ≡ 16 = length_cell (over m (16 * p + 3) w) p (omega (arith, length_data)) in
      ext_get_or 0 c' (take 3 c ++ w) (sixteen ∙ sym (simp length-append (omega arith))) (λ k h.
      let lt : k < 16 = omega arith in
      get_or_part (over m (16 * p + 3) w) (16 * p) 16 k lt ∙
      elim (cases_lt k 3) [
        | inl a ↦
            get_or_over_below m (16 * p + 3) (16 * p + k) w (omega arith) (omega arith)
            ∙ sym (get_or_part m (16 * p) 16 k lt) ∙ sym (get_or-take 3 c k 0 a) ∙ sym (get_or_append_left (take 3 c) w 0 k (omega arith))
        | inr a ↦
            let e : 16 * p + k ≡ 16 * p + 3 + (k - 3) = omega arith in
            ap (λ z. get_or (over m (16 * p + 3) w) z 0) e ∙ get_or_over m (16 * p + 3) (k - 3) w (omega arith) (omega arith)
            ∙ sym (get_or-append_right (take 3 c) w 3 k 0 three a)
      ])

-- one more data word of cell p
pub data_more : (m w : List ℕ) (p k : ℕ) → k < length w → 16 * p + 3 + length w ≤ length m → put (over m (16 * p + 3) (take k w)) p (3 + k) (get_or w k 0) ≡ over m (16 * p + 3) (take (k + 1) w)
unfolding put
data_more m w p k lt long =
    let e : 16 * p + (3 + k) ≡ 16 * p + 3 + k = omega arith in
    ap (λ i. set (over m (16 * p + 3) (take k w)) i (get_or w k 0)) e ∙ over_more m (16 * p + 3) k w lt long

-- a data word, by its place among them
pub at_data : (m : List ℕ) (p k : ℕ) → at m p (3 + k) ≡ get_or (drop 3 (cell m p)) k 0
unfolding at
at_data m p k = sym (get_or-drop 3 (cell m p) k 0)

three_set : (c : List ℕ) (x y z : ℕ) → 3 ≤ length c → take 3 (set (set (set c 0 x) 1 y) 2 z) ≡ x ∷ (y ∷ (z ∷ []))
three_set [] x y z h = absurd (omega arith)
three_set (a ∷ []) x y z h = absurd (omega arith)
three_set (a ∷ (b ∷ [])) x y z h = absurd (omega arith)
three_set (a ∷ (b ∷ (c ∷ cs))) x y z h = refl

-- a cell is written
module _ (m w : List ℕ) (p l r : ℕ) (thirteen : length w ≡ 13) (long : 16 * p + 16 ≤ length m) where
  long_two : 16 * p + 16 ≤ length (put (put (put m p 0 1) p 1 l) p 2 r)
  long_two = omega (arith, length_put m p 0 1, length_put (put m p 0 1) p 1 l, length_put (put (put m p 0 1) p 1 l) p 2 r)

  pub length_filled : length (filled m p l r w) ≡ length m
  length_filled =
      length_data (put (put (put m p 0 1) p 1 l) p 2 r) w p thirteen long_two
      ∙ length_put (put (put m p 0 1) p 1 l) p 2 r ∙ length_put (put m p 0 1) p 1 l ∙ length_put m p 0 1

  pub cell_filled_other : (q : ℕ) → q ≢ p → cell (filled m p l r w) q ≡ cell m q
  cell_filled_other q ne =
      cell_data_other (put (put (put m p 0 1) p 1 l) p 2 r) w p thirteen long_two q ne
      ∙ cell_other (put (put m p 0 1) p 1 l) p 2 r q (omega arith) ne ∙ cell_other (put m p 0 1) p 1 l q (omega arith) ne ∙ cell_other m p 0 1 q (omega arith) ne

  pub state_filled : 8 ≤ p → state (filled m p l r w) ≡ state m
  state_filled far =
      state_data (put (put (put m p 0 1) p 1 l) p 2 r) w p thirteen long_two far
      ∙ state_put (put (put m p 0 1) p 1 l) p 2 r (omega arith) (λ _. far) ∙ state_put (put m p 0 1) p 1 l (omega arith) (λ _. far) ∙ state_put m p 0 1 (omega arith) (λ _. far)

  pub cell_filled : cell (filled m p l r w) p ≡ 1 ∷ (l ∷ (r ∷ w))
  cell_filled =
      cell_data (put (put (put m p 0 1) p 1 l) p 2 r) w p thirteen long_two
      ∙ ap (λ c. take 3 c ++ w)
      (cell_put (put (put m p 0 1) p 1 l) p 2 r (omega arith)
      ∙ ap (λ c. set c 2 r) (cell_put (put m p 0 1) p 1 l (omega arith) ∙ ap (λ c. set c 1 l) (cell_put m p 0 1 (omega arith))))
      ∙ ap (λ c. c ++ w) (three_set (cell m p) 1 l r (omega (arith, length_cell m p long)))

-- zeros from the front on
pub clear_more : (m : List ℕ) (i : ℕ) → i < length m → set (cleared m i) i 0 ≡ cleared m (i + 1)
clear_more m i lt =
    let zs : List ℕ = replicate i 0 in
    ap (λ ys. set (zs ++ ys) i 0) (drop_more m i 0 lt)
    ∙ set_at zs (get_or m i 0) (drop (i + 1) m) 0 i (length-replicate i 0)
    ∙ sym (append_assoc zs (0 ∷ []) (drop (i + 1) m))
    ∙ ap (λ ys. ys ++ drop (i + 1) m) (replicate_more i 0)

pub length_cleared : (m : List ℕ) (i : ℕ) → i ≤ length m → length (cleared m i) ≡ length m
length_cleared m i h = simp (length-append, length-replicate, length-drop) (omega arith)

-- a write to the state
module _ (m : List ℕ) (i x : ℕ) (lt : i < 112) where
  pub state_set : state (set m (16 + i) x) ≡ set (state m) i x
  unfolding state
  state_set = ap (take 112) (drop-set-add 16 m i x) ∙ take-set-lt 112 (drop 16 m) i x lt

  pub cell_state : (q : ℕ) → (1 ≤ q → 8 ≤ q) → cell (set m (16 + i) x) q ≡ cell m q
  cell_state q far =
      cell_same m (set m (16 + i) x) q (length-set m (16 + i) x)
      (λ k h. get_or-set_other m (16 + i) (16 * q + k) x 0 (λ e. omega (arith, far (omega arith))))

pub length_state : (m : List ℕ) → 128 ≤ length m → length (state m) ≡ 112
unfolding state
length_state m h = simp (length-take, length-drop) (omega arith)

pub state_word : (m : List ℕ) (i : ℕ) → i < 112 → get_or m (16 + i) 0 ≡ get_or (state m) i 0
unfolding state
state_word m i lt = sym (get_or_part m 16 112 i lt)

-- zeros behind the row
module _ (m : List ℕ) (zs : List ℕ) where
  pub cell_longer : (q : ℕ) → 16 * q + 16 ≤ length m → cell (m ++ zs) q ≡ cell m q
  unfolding cell
  cell_longer q h =
      ap (take 16) (drop-append-le (16 * q) m zs (omega arith)) ∙ take-append-le 16 (drop (16 * q) m) zs (simp length-drop (omega arith))

  pub state_longer : 128 ≤ length m → state (m ++ zs) ≡ state m
  unfolding state
  state_longer h = ap (take 112) (drop-append-le 16 m zs (omega arith)) ∙ take-append-le 112 (drop 16 m) zs (simp length-drop (omega arith))
