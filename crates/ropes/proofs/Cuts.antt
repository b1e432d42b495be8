-- The two parts of a cut: their bytes, that they are ropes, and that they are no higher.
use Rattle.std.proofs.Common.{◌≡◌, ℕ, ◌+◌, ◌-◌, ◌≤◌, eqb, ltb, leb, List, [], ◌∷◌, ◌++◌, length, take, drop, sym, refl, ap, ◌∙◌, arith, length-append, length-drop, length-take}
use lib.Seq.{take-nil, drop-nil, take-append-add, drop-append-add}
use Rattle.std.proofs.lemmas.Bool.{eqb-true, leb-true, ltb-true, ltb-false, cond_both}
use Rattle.std.proofs.lemmas.List.{take-append-le, drop-append-le, take_all, drop_all}
use Rattle.ropes.specs.Rope.{Rope, empty, leaf, node, leaf_max, bytes, size, height, Octets, Whole}
use Rattle.ropes.specs.Join.{append, prepend, concat}
use Rattle.ropes.specs.Cut.{piece, front, back}
use Rattle.ropes.proofs.Bytes.{octets_take, octets_drop}
use Rattle.ropes.proofs.Joins.{bytes_append, bytes_prepend, bytes_concat, concat_ok, inner_whole}

pub size_bytes : (t : Rope) → size t ≡ length (bytes t)
size_bytes empty = refl
size_bytes (leaf b) = refl
size_bytes (node l r) = omega (arith, size_bytes l, size_bytes r, length-append (bytes l) (bytes r))

pub size_of : (t : Rope) (xs : List ℕ) → bytes t ≡ xs → size t ≡ length xs
size_of t xs e = size_bytes t ∙ ap length e

pub size_append : (l r : Rope) → size (append l r) ≡ size l + size r
size_append l r = omega (arith, size_of (append l r) _ (bytes_append l r), size_bytes l, size_bytes r, length-append (bytes l) (bytes r))

pub size_prepend : (l r : Rope) → size (prepend l r) ≡ size l + size r
size_prepend l r = omega (arith, size_of (prepend l r) _ (bytes_prepend l r), size_bytes l, size_bytes r, length-append (bytes l) (bytes r))

pub size_concat : (l r : Rope) → size (concat l r) ≡ size l + size r
size_concat l r = omega (arith, size_of (concat l r) _ (bytes_concat l r), size_bytes l, size_bytes r, length-append (bytes l) (bytes r))

pub bytes_piece : (b : List ℕ) → bytes (piece b) ≡ b
unfolding piece
bytes_piece [] = refl
bytes_piece (x ∷ xs) = refl

pub piece_whole : (b : List ℕ) → length b ≤ leaf_max → Octets b → Whole (piece b)
unfolding piece
piece_whole [] h o = tt
piece_whole (x ∷ xs) h o = (omega arith, h, o)

pub piece_low : (b : List ℕ) → height (piece b) ≤ 1
unfolding piece
piece_low [] = omega arith
piece_low (x ∷ xs) = omega arith

pub take_over : (n i : ℕ) (xs ys : List ℕ) → n ≡ length xs → n ≤ i → take i (xs ++ ys) ≡ xs ++ take (i - n) ys
take_over n i xs ys e h = let k : i ≡ length xs + (i - n) = omega arith in ap (λ z. take z (xs ++ ys)) k ∙ take-append-add xs ys (i - n)

pub drop_over : (n i : ℕ) (xs ys : List ℕ) → n ≡ length xs → n ≤ i → drop i (xs ++ ys) ≡ drop (i - n) ys
drop_over n i xs ys e h = let k : i ≡ length xs + (i - n) = omega arith in ap (λ z. drop z (xs ++ ys)) k ∙ drop-append-add xs ys (i - n)

pub bytes_front : (t : Rope) (i : ℕ) → bytes (front t i) ≡ take i (bytes t)
unfolding front
bytes_front empty i = sym (take-nil i)
bytes_front (leaf b) i = bytes_piece (take i b)
bytes_front (node l r) i =
    let P : Rope → Type 0 = λ z. bytes z ≡ take i (bytes l ++ bytes r) in
    cond_both (eqb i 0) _ _ P (λ e. ap (λ z. take z (bytes l ++ bytes r)) (sym (eqb-true _ _ e)))
    (λ _. cond_both (leb (size l + size r) i) _ _ P
    (λ e. sym (take_all i (bytes l ++ bytes r) (omega (arith, leb-true _ _ e, size_bytes (node l r)))))
    (λ _. cond_both (ltb i (size l)) _ _ P
    (λ e. bytes_front l i ∙ sym (take-append-le i (bytes l) (bytes r) (omega (arith, ltb-true _ _ e, size_bytes l))))
    (λ e. bytes_concat l (front r (i - size l)) ∙ (ap (λ z. bytes l ++ z) (bytes_front r (i - size l)) ∙ sym (take_over (size l) i (bytes l) (bytes r) (size_bytes l) (ltb-false _ _ e))))))

pub bytes_back : (t : Rope) (i : ℕ) → bytes (back t i) ≡ drop i (bytes t)
unfolding back
bytes_back empty i = sym (drop-nil i)
bytes_back (leaf b) i = bytes_piece (drop i b)
bytes_back (node l r) i =
    let P : Rope → Type 0 = λ z. bytes z ≡ drop i (bytes l ++ bytes r) in
    cond_both (eqb i 0) _ _ P (λ e. ap (λ z. drop z (bytes l ++ bytes r)) (sym (eqb-true _ _ e)))
    (λ _. cond_both (leb (size l + size r) i) _ _ P
    (λ e. sym (drop_all i (bytes l ++ bytes r) (omega (arith, leb-true _ _ e, size_bytes (node l r)))))
    (λ _. cond_both (ltb i (size l)) _ _ P
    (λ e. bytes_concat (back l i) r ∙ (ap (λ z. z ++ bytes r) (bytes_back l i) ∙ sym (drop-append-le i (bytes l) (bytes r) (omega (arith, ltb-true _ _ e, size_bytes l)))))
    (λ e. bytes_back r (i - size l) ∙ sym (drop_over (size l) i (bytes l) (bytes r) (size_bytes l) (ltb-false _ _ e)))))

-- a rope that is no higher than h
pub record Part (t : Rope) (h : ℕ) : Type 0 where
  pub whole : Whole t
  pub high : height t ≤ h

pub front_ok : (t : Rope) (i : ℕ) → Whole t → Part (front t i) (height t)
unfolding front
front_ok empty i w = record { whole = tt; high = omega arith }
front_ok (leaf b) i w = record { whole = piece_whole (take i b) (omega (arith, length-take i b, w.1)) (octets_take i b w.2); high = piece_low (take i b) }
front_ok (node l r) i w =
    let P : Rope → Type 0 = λ z. Part z (height (node l r)) in
    cond_both (eqb i 0) _ _ P (λ _. record { whole = tt; high = omega arith })
    (λ _. cond_both (leb (size l + size r) i) _ _ P (λ _. record { whole = w; high = omega arith })
    (λ _. cond_both (ltb i (size l)) _ _ P
    (λ _. let a = front_ok l i (inner_whole l w.0) in record { whole = a.whole; high = omega (arith, a.high) })
    (λ _. let a = front_ok r (i - size l) (inner_whole r w.1) in
    let c = concat_ok l (front r (i - size l)) (inner_whole l w.0) a.whole in
    record { whole = c.whole; high = omega (arith, a.high, c.high) })))

pub back_ok : (t : Rope) (i : ℕ) → Whole t → Part (back t i) (height t)
unfolding back
back_ok empty i w = record { whole = tt; high = omega arith }
back_ok (leaf b) i w = record { whole = piece_whole (drop i b) (omega (arith, length-drop i b, w.1)) (octets_drop i b w.2); high = piece_low (drop i b) }
back_ok (node l r) i w =
    let P : Rope → Type 0 = λ z. Part z (height (node l r)) in
    cond_both (eqb i 0) _ _ P (λ _. record { whole = w; high = omega arith })
    (λ _. cond_both (leb (size l + size r) i) _ _ P (λ _. record { whole = tt; high = omega arith })
    (λ _. cond_both (ltb i (size l)) _ _ P
    (λ _. let a = back_ok l i (inner_whole l w.0) in
    let c = concat_ok (back l i) r a.whole (inner_whole r w.1) in
    record { whole = c.whole; high = omega (arith, a.high, c.high) })
    (λ _. let a = back_ok r (i - size l) (inner_whole r w.1) in record { whole = a.whole; high = omega (arith, a.high) })))
