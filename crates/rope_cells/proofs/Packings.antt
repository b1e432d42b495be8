-- What is packed and unpacked, as lists.
use Rattle.std.proofs.Common.{◌≡◌, ℕ, zero, suc, ◌+◌, ◌-◌, ◌*◌, ◌/◌, ◌%◌, ◌^◌, ◌<◌, ◌≤◌, max, min, List, [], ◌∷◌, ◌++◌, length, get_or, take, drop, reverse, sym, refl, ap, ◌∙◌, ⊎_elim, arith, length-append, length-take, length-drop, take_all}
use borrow.Rule.Slice.PartMut.{put_mid}
use Rattle.std.proofs.lemmas.Bool.{cases_lt}
use Rattle.std.proofs.lemmas.List.{ext_get_or, get_or_append_left, get_or-append_right, get_or-take, take-append-le, drop_all, append-nil, length-reverse, get_or-reverse}
use Rattle.std.proofs.lemmas.Grind.{get_or_default_zero}
use Rattle.std.specs.Int.{w32, to_le_bytes, from_le_bytes}
use Rattle.ropes.specs.Rope.{Rope, bytes, height, leaf_max, Octets}
use Rattle.ropes.specs.Layout.{sums_of, sum_at, word, pack, digit, byte_of, word_at, node_tag, leaf_data, node_data}
use Rattle.ropes.proofs.Packs.{digit_pack, pack_more, pack_drop, byte_of_word_at, length_words_from, get_or_words_from}
use Rattle.ropes.proofs.Sums.{length_sums, sum_first, sums_digits, sum_append, pack_small}
use Rattle.rope_cells.specs.LeafBytes.{items, LeafIs}
use Rattle.rope_cells.specs.Lending.{SummaryIs}
use Rattle.rope_cells.specs.declared.leaf_bytes.Leaf.{Leaf}
use Rattle.rope_cells.specs.declared.reading.Summary.{Summary}

pub zeros : (j : ℕ) → ◌≡◌ {A = ℕ} (get_or (0 ∷ 0 ∷ 0 ∷ 0 ∷ 0 ∷ 0 ∷ []) j 0) 0
zeros zero = refl
zeros (suc zero) = refl
zeros (suc (suc zero)) = refl
zeros (suc (suc (suc zero))) = refl
zeros (suc (suc (suc (suc zero)))) = refl
zeros (suc (suc (suc (suc (suc zero))))) = refl
zeros (suc (suc (suc (suc (suc (suc j)))))) = refl

-- the digits of a leaf's tag, the highest first
pub no_digit : (xs : List ℕ) → 0 ≡ pack (drop 6 (sums_of xs))
unfolding pack
no_digit xs = sym (ap pack (drop_all 6 (sums_of xs) (omega (arith, length_sums xs))))

pub one_digit_more : (xs : List ℕ) (n x tag : ℕ) → (n < length (reverse (sums_of xs))) × (x ≡ get_or (reverse (sums_of xs)) n x)
    → tag ≡ pack (drop (6 - n) (sums_of xs)) → 64 * tag + x ≡ pack (drop (6 - (n + 1)) (sums_of xs))
one_digit_more xs n x tag turn so_far =
    let s = sums_of xs in
    let long = length_sums xs in
    let lt : n < length s = omega (arith, turn.0, length-reverse s) in
    let k = 6 - (n + 1) in
    let above : k + 1 ≡ 6 - n = omega (arith, long) in
    let place : length s - 1 - n ≡ k = omega (arith, long) in
    let is : x ≡ get_or s k 0 = turn.1 ∙ (get_or-reverse s n x lt ∙ (ap (λ z. get_or s z x) place ∙ get_or_default_zero s k x (omega (arith, long)))) in
    let more = pack_more s k (omega (arith, long)) in
    let e : tag ≡ pack (drop (k + 1) s) = so_far ∙ sym (ap (λ z. pack (drop z s)) above) in
    omega (arith, more, e, is)

pub digits_fit : (xs : List ℕ) (k : ℕ) → length xs ≤ 48 → pack (drop k (sums_of xs)) < 2 ^ 24
digits_fit xs k few = omega (arith, pack_drop (sums_of xs) k, pack_small xs (omega arith))

-- a digit of a leaf's tag is the sum at its place
pub digit_sum : (tag : ℕ) (xs : List ℕ) → length xs ≤ leaf_max → tag ≡ pack (sums_of xs) → (i : ℕ) → digit tag i ≡ sum_at xs i
digit_sum tag xs few is i = ap (λ z. digit z i) is ∙ digit_pack (sums_of xs) i (sums_digits xs (omega arith))

-- the lowest digit of a leaf's tag is its length
pub leaf_tag_low : (b : List ℕ) → length b ≤ 48 → pack (sums_of b) % 64 ≡ length b
unfolding digit
leaf_tag_low b h =
    let e : digit (pack (sums_of b)) 0 ≡ length b = digit_pack (sums_of b) 0 (sums_digits b (omega arith)) ∙ sum_first b in
    omega (arith, e)

-- a word of four bytes that are read one by one
pub word_read : (xs r : List ℕ) (k w : ℕ) → ((j : ℕ) → j < 4 → get_or r j 0 ≡ get_or xs (4 * k + j) 0) → w ≡ from_le_bytes w32 r → w ≡ word_at xs k
unfolding word word_at
word_read xs r k w each is =
    let e : 4 * k + 0 ≡ 4 * k = omega arith in
    let first : get_or r 0 0 ≡ get_or xs (4 * k) 0 = each 0 (omega arith) ∙ ap (λ z. get_or xs z 0) e in
    omega (arith, is, first, each 1 (omega arith), each 2 (omega arith), each 3 (omega arith))

-- word j of a leaf's bytes, among its data
pub leaf_word : (xs : List ℕ) (j : ℕ) → j < 12 → get_or (leaf_data xs) (1 + j) 0 ≡ word_at xs j
unfolding leaf_data
leaf_word xs j h =
    let e : 1 + j ≡ suc j = omega arith in
    let f : 0 + j ≡ j = omega arith in
    rw e (get_or_words_from xs 0 12 j h ∙ ap (word_at xs) f)

pub leaf_first : (xs : List ℕ) → get_or (leaf_data xs) 0 0 ≡ pack (sums_of xs)
unfolding leaf_data
leaf_first xs = refl

pub leaf_data_is : (xs : List ℕ) (tag : ℕ) (words : List ℕ) → tag ≡ pack (sums_of xs) → length words ≡ 12 → ((j : ℕ) → j < 12 → get_or words j 0 ≡ word_at xs j)
    → tag ∷ (words ++ []) ≡ leaf_data xs
unfolding leaf_data
leaf_data_is xs tag words first long each =
    ap (λ z. z ∷ (words ++ [])) first
    ∙ ap (λ z. pack (sums_of xs) ∷ z) (append-nil words ∙ ext_get_or 0 words _ (long ∙ sym (length_words_from xs 0 12)) (λ i h.
    let e : 0 + i ≡ i = omega arith in
    each i (omega arith) ∙ sym (get_or_words_from xs 0 12 i (omega arith) ∙ ap (word_at xs) e)))

-- byte i of a word, as `to_le_bytes` gives it
pub le_byte : (n i : ℕ) → i < 4 → get_or (to_le_bytes w32 n) i 0 ≡ byte_of n i
unfolding byte_of
le_byte n zero h = omega arith
le_byte n (suc zero) h = refl
le_byte n (suc (suc zero)) h = refl
le_byte n (suc (suc (suc zero))) h = refl
le_byte n (suc (suc (suc (suc i)))) h = absurd (omega arith)

-- four bytes more, the bytes of word k
pub four_more : (w old ys : List ℕ) (k : ℕ) → length old ≡ 48 → k < 12 → ys ≡ to_le_bytes w32 (get_or w (1 + k) 0)
    → ((j : ℕ) → j < 4 * k → get_or old j 0 ≡ byte_of (get_or w (1 + j / 4) 0) (j % 4))
    → (length (put_mid (4 * k) 4 old ys) ≡ 48) × ((j : ℕ) → j < 4 * (k + 1) → get_or (put_mid (4 * k) 4 old ys) j 0 ≡ byte_of (get_or w (1 + j / 4) 0) (j % 4))
four_more w old ys k long lt is before =
    let at = 4 * k in
    let front = take at old in
    let rest = drop 4 (drop at old) in
    let few : length ys ≡ 4 = ap length is in
    let n : length front ≡ at = omega (arith, length-take at old) in (
      omega (arith, length-append front (ys ++ rest), length-append ys rest, length-drop 4 (drop at old), length-drop at old),
      λ j h.
          ⊎_elim
          (λ (q : j < at). get_or_append_left front (ys ++ rest) 0 j (omega arith) ∙ (get_or-take at old j 0 q ∙ before j q))
          (λ (q : at ≤ j).
          let i : j - at < 4 = omega arith in
          let a : 1 + k ≡ 1 + j / 4 = omega arith in
          let b : j - at ≡ j % 4 = omega arith in
          get_or-append_right front (ys ++ rest) at j 0 n q
          ∙ (get_or_append_left ys rest 0 (j - at) (omega arith)
          ∙ (ap (λ z. get_or z (j - at) 0) is ∙ (le_byte (get_or w (1 + k) 0) (j - at) i ∙ (ap (λ z. byte_of (get_or w z 0) (j - at)) a ∙ ap (byte_of (get_or w (1 + j / 4) 0)) b)))))
          (cases_lt j at),
    )

-- the bytes of a leaf's words, as many as its tag says
pub bytes_back : (w xs : List ℕ) (s : Leaf) → length s.bytes ≡ 48 → ((j : ℕ) → j < 48 → get_or s.bytes j 0 ≡ byte_of (get_or w (1 + j / 4) 0) (j % 4)) → s.len ≡ min (get_or w 0 0 % 64) 48
    → length xs ≤ leaf_max → Octets xs → w ≡ leaf_data xs → LeafIs s xs
bytes_back w xs s long each len few o is =
    let tag : get_or w 0 0 % 64 ≡ length xs = ap (λ z. get_or z 0 0 % 64) is ∙ (ap (λ z. z % 64) (leaf_first xs) ∙ leaf_tag_low xs few) in
    record {
      long = omega (arith, len, tag);
      few = few;
      room = long;
      each = λ i h.
          let at : 4 * (i / 4) + i % 4 ≡ i = omega arith in
          each i h
          ∙ (ap (λ z. byte_of z (i % 4)) (ap (λ z. get_or z (1 + i / 4) 0) is ∙ leaf_word xs (i / 4) (omega arith))
          ∙ (byte_of_word_at xs o (i / 4) (i % 4) (omega arith) ∙ ap (λ z. get_or xs z 0) at));
    }

pub items_are : (s : Leaf) → items s ≡ take s.len s.bytes
unfolding items
items_are s = refl

-- the bytes of a leaf as a list
pub leaf_items : (s : Leaf) (xs : List ℕ) → LeafIs s xs → items s ≡ xs
unfolding items
leaf_items s xs is =
    let long = is.long in
    let few = is.few in
    let room = is.room in
    let n = length-take s.len s.bytes in
    ext_get_or 0 (take s.len s.bytes) xs (omega arith)
    (λ i h. let lt : i < s.len = omega arith in get_or-take s.len s.bytes i 0 lt ∙ is.each i (omega arith))

pub items_few : (s : Leaf) → length (items s) ≤ 48
unfolding items
items_few s = let few = s.few in omega (arith, length-take s.len s.bytes)

pub node_first : (u v : Rope) → get_or (node_data u v) 0 0 ≡ node_tag (max (height u) (height v) + 1)
unfolding node_data
node_first u v = refl

-- the sums of a node, among its data
pub node_sum : (u v : Rope) (k : ℕ) → k < 6 → get_or (node_data u v) (1 + k) 0 ≡ sum_at (bytes u ++ bytes v) k
unfolding node_data
node_sum u v k h =
    let e : 1 + k ≡ suc k = omega arith in
    let long = length_sums (bytes u ++ bytes v) in
    rw e (get_or_append_left (sums_of (bytes u ++ bytes v)) (sums_of (bytes u)) 0 k (omega arith))

-- the sums of a node's left child, among its data
pub left_sum : (u v : Rope) (k : ℕ) → get_or (node_data u v) (7 + k) 0 ≡ sum_at (bytes u) k
unfolding node_data
left_sum u v k =
    let e : 7 + k ≡ suc (6 + k) = omega arith in
    let f : (6 + k) - 6 ≡ k = omega arith in
    rw e (get_or-append_right (sums_of (bytes u ++ bytes v)) (sums_of (bytes u)) 6 (6 + k) 0 (length_sums (bytes u ++ bytes v)) (omega arith) ∙ ap (λ z. get_or (sums_of (bytes u)) z 0) f)

-- the data of a node of two ropes, by its height and the sums of each
pub node_data_is : (u v : Rope) (h : ℕ) (a b both : List ℕ) → h ≡ max (height u) (height v) + 1 → a ≡ sums_of (bytes u) → b ≡ sums_of (bytes v) → length both ≡ 6
    → ((j : ℕ) → j < 6 → get_or both j 0 ≡ get_or a j 0 + get_or b j 0) → (63 + 64 * h) ∷ (both ++ a) ≡ node_data u v
unfolding node_data node_tag
node_data_is u v h a b both top is_u is_v long each =
    let e : both ≡ sums_of (bytes u ++ bytes v) = ext_get_or 0 both _ (long ∙ sym (length_sums (bytes u ++ bytes v)))
    (λ j lt.
    let p : get_or a j 0 ≡ sum_at (bytes u) j = ap (λ z. get_or z j 0) is_u in
    let q : get_or b j 0 ≡ sum_at (bytes v) j = ap (λ z. get_or z j 0) is_v in
    omega (arith, p, q, each j (omega arith), sum_append (bytes u) (bytes v) j)) in
    ap (λ z. (63 + 64 * z) ∷ (both ++ a)) top
    ∙ (ap (λ z. (63 + 64 * (max (height u) (height v) + 1)) ∷ (z ++ a)) e
    ∙ ap (λ z. (63 + 64 * (max (height u) (height v) + 1)) ∷ (sums_of (bytes u ++ bytes v) ++ z)) is_u)

-- the height of a node of two ropes, by what is said of each
pub node_high : (u v : Rope) (a b : Summary) (m : ℕ) → SummaryIs u a → SummaryIs v b → m ≡ max a.height b.height → m + 1 ≡ max (height u) (height v) + 1
node_high u v a b m is_u is_v top = ap (λ z. z + 1) (top ∙ (ap (λ z. max z b.height) is_u.high ∙ ap (max (height u)) is_v.high))

-- two lists written over the two halves of a list behind its first element
pub both_written : (n : ℕ) (a b rest : List ℕ) → length a ≡ n → length rest ≡ n → take n (a ++ rest) ++ (b ++ drop n (drop n (a ++ rest))) ≡ a ++ b
both_written n a b rest long fits =
    let front : take n (a ++ rest) ≡ a = take-append-le n a rest (omega arith) ∙ take_all n a (omega arith) in
    let behind : drop n (drop n (a ++ rest)) ≡ [] = drop_all n (drop n (a ++ rest)) (omega (arith, length-drop n (a ++ rest), length-append a rest)) in
    ap (λ z. z ++ (b ++ drop n (drop n (a ++ rest)))) front ∙ (ap (λ z. a ++ (b ++ z)) behind ∙ ap (λ z. a ++ z) (append-nil b))
