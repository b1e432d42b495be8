-- What is read off the row are the bytes of the rope that is lent.
use Rattle.std.proofs.Common.{◌≡◌, ℕ, zero, suc, ◌+◌, ◌*◌, ◌/◌, ◌%◌, ◌<◌, ◌≤◌, List, [], ◌++◌, length, get_or, drop, sym, refl, ap, ◌∙◌, arith}
use Rattle.std.proofs.lemmas.List.{ext_get_or, get_or-drop}
use Rattle.std.proofs.lemmas.Bool.{eq-eqb, ne_eqb}
use Rattle.cells.specs.Layout.{at, cell}
use Rattle.cells.specs.Tree.{Val}
use Rattle.ropes.specs.Rope.{Rope, empty, leaf, node, bytes, height, Octets, Whole}
use Rattle.ropes.specs.Layout.{byte_of, leaf_data, node_data}
use Rattle.ropes.proofs.Packs.{byte_of_word_at}
use Rattle.ropes.proofs.Joins.{inner_whole}
use Rattle.ropes.proofs.Cuts.{size_bytes}
use Rattle.ropes.proofs.Depths.{height_low}
use Rattle.rope_cells.specs.Coded.{code}
use Rattle.rope_cells.specs.Lending.{Lends, LendsSome}
use Rattle.rope_cells.proofs.Packings.{leaf_first, leaf_word, node_first}
use Rattle.rope_cells.proofs.Codes.{leaf_tag_low, node_tag_low, lends_some, none_empty}
use Rattle.rope_read.specs.Text.{leaf_bytes, text_within, text}

-- data word k of a cell
pub data_at : (m w : List ℕ) (p k : ℕ) → drop 3 (cell m p) ≡ w → at m p (3 + k) ≡ get_or w k 0
unfolding at
data_at m w p k e = sym (get_or-drop 3 (cell m p) k 0) ∙ ap (λ z. get_or z k 0) e

-- Leaves.

length_leaf_bytes : (m : List ℕ) (p i n : ℕ) → length (leaf_bytes m p i n) ≡ n
unfolding leaf_bytes
length_leaf_bytes m p i zero = refl
length_leaf_bytes m p i (suc n) = ap suc (length_leaf_bytes m p (suc i) n)

leaf_bytes_at : (m : List ℕ) (p i n j : ℕ) → j < n → get_or (leaf_bytes m p i n) j 0 ≡ byte_of (at m p (4 + (i + j) / 4)) ((i + j) % 4)
unfolding leaf_bytes
leaf_bytes_at m p i zero j h = absurd (omega arith)
leaf_bytes_at m p i (suc n) zero h = let e : i ≡ i + 0 = omega arith in ap (λ z. byte_of (at m p (4 + z / 4)) (z % 4)) e
leaf_bytes_at m p i (suc n) (suc j) h =
    let e : suc i + j ≡ i + suc j = omega arith in
    leaf_bytes_at m p (suc i) n j (omega arith) ∙ ap (λ z. byte_of (at m p (4 + z / 4)) (z % 4)) e

module _ (m : List ℕ) (p : ℕ) (b : List ℕ) (is : drop 3 (cell m p) ≡ leaf_data b) (few : length b ≤ 48) (o : Octets b) where
  pub leaf_length : at m p 3 % 64 ≡ length b
  leaf_length = ap (λ z. z % 64) (data_at m (leaf_data b) p 0 is ∙ leaf_first b) ∙ leaf_tag_low b few

  leaf_byte : (i : ℕ) → i < length b → byte_of (at m p (4 + i / 4)) (i % 4) ≡ get_or b i 0
  leaf_byte i h =
      let k : 4 + i / 4 ≡ 3 + (1 + i / 4) = omega arith in
      let at_i : 4 * (i / 4) + i % 4 ≡ i = omega arith in
      ap (λ z. byte_of (at m p z) (i % 4)) k
      ∙ (ap (λ z. byte_of z (i % 4)) (data_at m (leaf_data b) p (1 + i / 4) is ∙ leaf_word b (i / 4) (omega arith))
      ∙ (byte_of_word_at b o (i / 4) (i % 4) (omega arith) ∙ ap (λ z. get_or b z 0) at_i))

  pub leaf_bytes_are : leaf_bytes m p 0 (length b) ≡ b
  leaf_bytes_are =
      ext_get_or 0 (leaf_bytes m p 0 (length b)) b (length_leaf_bytes m p 0 (length b))
      (λ i h.
      let l : i < length b = omega (arith, length_leaf_bytes m p 0 (length b)) in
      let e : 0 + i ≡ i = omega arith in
      leaf_bytes_at m p 0 (length b) i l ∙ (ap (λ z. byte_of (at m p (4 + z / 4)) (z % 4)) e ∙ leaf_byte i l))

-- Ropes.

within_none : (n : ℕ) (m : List ℕ) (p : ℕ) → p ≡ 0 → text_within n m p ≡ []
unfolding text_within
within_none zero m p e = refl
within_none (suc n) m p e = rw (eq-eqb p 0 e) refl

pub within_is : (n : ℕ) (m : List ℕ) (p : ℕ) (t : Rope) → height t ≤ n → Whole t → Val m p (code t) → text_within n m p ≡ bytes t
unfolding text_within
within_is n m p empty low ok v = within_none n m p v
within_is zero m p (leaf b) low ok v = absurd (omega arith)
within_is (suc n) m p (leaf b) low ok v =
    let long : at m p 3 % 64 ≡ length b = leaf_length m p b v.3 ok.1 ok.2 in
    rw (ne_eqb p 0 (λ e. omega (arith, v.0)), ne_eqb (at m p 3 % 64) 63 (λ e. omega (arith, ok.1)))
    (rw long (leaf_bytes_are m p b v.3 ok.1 ok.2))
within_is zero m p (node l r) low ok v = absurd (omega arith)
within_is (suc n) m p (node l r) low ok v =
    let tag : at m p 3 % 64 ≡ 63 = ap (λ z. z % 64) (data_at m (node_data l r) p 0 v.3 ∙ node_first l r) ∙ node_tag_low _ in
    rw (ne_eqb p 0 (λ e. omega (arith, v.0)), eq-eqb (at m p 3 % 64) 63 tag)
    (ap (λ z. z ++ text_within n m (at m p 2)) (within_is n m (at m p 1) l (omega arith) (inner_whole l ok.0) v.1)
    ∙ ap (λ z. bytes l ++ z) (within_is n m (at m p 2) r (omega arith) (inner_whole r ok.1) v.2))

pub text_is : (m : List ℕ) (p : ℕ) (x : Lends m p) → text m p ≡ bytes x.rope
unfolding text
text_is m p x = within_is 36 m p x.rope (omega (arith, height_low x.rope x.whole x.few)) x.whole x.lent.stands

-- a text of no reference is empty, and one that isn't empty has one
pub text_none : (m : List ℕ) (p : ℕ) → p ≡ 0 → Lends m p → text m p ≡ []
text_none m p e x = text_is m p x ∙ ap bytes (none_empty m p x.rope e x.lent.stands)

pub inside_some : (m : List ℕ) (p at : ℕ) → Lends m p → at < length (text m p) → LendsSome m p
inside_some m p at x h = lends_some m p (λ e. omega (arith, ap length (text_none m p e x))) x

pub text_few : (m : List ℕ) (p : ℕ) → Lends m p → length (text m p) < 536870912
text_few m p x = omega (arith, ap length (text_is m p x), size_bytes x.rope, x.few)
