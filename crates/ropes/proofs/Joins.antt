-- A concat has the bytes of both ropes, filled leaves and balance.
use Rattle.std.proofs.Common.{◌≡◌, ℕ, ◌+◌, ◌/◌, ◌<◌, ◌≤◌, max, Bool, true, false, ◌&&◌, leb, ◌⊎◌, List, ◌++◌, length, take, drop, sym, refl, ap, ◌∙◌, inl, inr, ⊎_elim, append_assoc, append-nil, arith, length-append, length-drop, length-take}
use Rattle.std.proofs.lemmas.Bool.{ltb-false, leb-true, leb-false, cond_both, and_parts, and_cases, not-true, not-false, cases_lt}
use Rattle.std.proofs.lemmas.List.{take-append-drop}
use Rattle.ropes.specs.Rope.{Rope, empty, leaf, node, leaf_min, leaf_max, bytes, height, Inner, Whole, is_small}
use Rattle.ropes.specs.Join.{pair, merge, fits_beside, append, prepend, join, concat}
use Rattle.ropes.proofs.Bytes.{octets_append, octets_take, octets_drop}
use Rattle.ropes.proofs.Balance.{Fits, bytes_balance, grown_left, grown_right, inner_some}

pub bytes_pair : (a b : List ℕ) → bytes (pair a b) ≡ a ++ b
unfolding pair
bytes_pair a b =
    let P : Rope → Type 0 = λ z. bytes z ≡ a ++ b in
    cond_both (leb (length a + length b) leaf_max) _ _ P (λ e. refl)
    (λ e. cond_both (leb leaf_min (length a) && leb leaf_min (length b)) _ _ P (λ f. refl) (λ f. take-append-drop ((length a + length b) / 2) (a ++ b)))

pub bytes_append : (l r : Rope) → bytes (append l r) ≡ bytes l ++ bytes r
unfolding append merge
bytes_append empty r = refl
bytes_append (leaf a) empty = sym (append-nil a)
bytes_append (leaf a) (leaf b) = bytes_pair a b
bytes_append (leaf a) (node c d) = refl
bytes_append (node a b) r =
    cond_both (fits_beside (height (node a b)) r) _ _ (λ z. bytes z ≡ (bytes a ++ bytes b) ++ bytes r) (λ e. refl)
    (λ e. bytes_balance a (append b r) ∙ (ap (λ z. bytes a ++ z) (bytes_append b r) ∙ sym (append_assoc (bytes a) (bytes b) (bytes r))))

pub bytes_prepend : (l r : Rope) → bytes (prepend l r) ≡ bytes l ++ bytes r
unfolding prepend merge
bytes_prepend l empty = sym (append-nil (bytes l))
bytes_prepend empty (leaf b) = refl
bytes_prepend (leaf a) (leaf b) = bytes_pair a b
bytes_prepend (node c d) (leaf b) = refl
bytes_prepend l (node a b) =
    cond_both (fits_beside (height (node a b)) l) _ _ (λ z. bytes z ≡ bytes l ++ (bytes a ++ bytes b)) (λ e. refl)
    (λ e. bytes_balance (prepend l a) b ∙ (ap (λ z. z ++ bytes b) (bytes_prepend l a) ∙ append_assoc (bytes l) (bytes a) (bytes b)))

pub bytes_join : (l r : Rope) → bytes (join l r) ≡ bytes l ++ bytes r
unfolding join
bytes_join l r = cond_both (leb (height r) (height l)) _ _ (λ z. bytes z ≡ bytes l ++ bytes r) (λ e. bytes_append l r) (λ e. bytes_prepend l r)

pub bytes_concat : (l r : Rope) → bytes (concat l r) ≡ bytes l ++ bytes r
unfolding concat
bytes_concat empty r = refl
bytes_concat (leaf a) empty = sym (append-nil a)
bytes_concat (leaf a) (leaf b) = bytes_join (leaf a) (leaf b)
bytes_concat (leaf a) (node c d) = bytes_join (leaf a) (node c d)
bytes_concat (node a b) empty = sym (append-nil (bytes a ++ bytes b))
bytes_concat (node a b) (leaf c) = bytes_join (node a b) (leaf c)
bytes_concat (node a b) (node c d) = bytes_join (node a b) (node c d)

-- too many bytes for one leaf are enough for two
pub pair_halves : (a b : List ℕ) → Whole (leaf a) → Whole (leaf b) → leaf_max < length a + length b → Fits (node (leaf (take ((length a + length b) / 2) (a ++ b))) (leaf (drop ((length a + length b) / 2) (a ++ b)))) 1
pair_halves a b ha hb more =
    let n = length a + length b in
    let la : length (a ++ b) ≡ n = length-append a b in
    let lt = length-take (n / 2) (a ++ b) in
    let ld = length-drop (n / 2) (a ++ b) in
    let o = octets_append a b ha.2 hb.2 in
    let ma = ha.1 in
    let mb = hb.1 in
    record { inner = ((omega arith, omega arith, octets_take (n / 2) (a ++ b) o), (omega arith, omega arith, octets_drop (n / 2) (a ++ b) o), omega arith, omega arith); low = omega arith; high = omega arith }

pub pair_fits : (a b : List ℕ) → Whole (leaf a) → Whole (leaf b) → leaf_min ≤ length a + length b → Fits (pair a b) 1
unfolding pair
pair_fits a b ha hb some =
    let P : Rope → Type 0 = λ z. Fits z 1 in
    cond_both (leb (length a + length b) leaf_max) _ _ P
    (λ e. let k : length a + length b ≤ leaf_max = leb-true _ _ e in
    let la = length-append a b in
    record { inner = (omega arith, omega arith, octets_append a b ha.2 hb.2); low = omega arith; high = omega arith })
    (λ e. let k : leaf_max < length a + length b = leb-false _ _ e in
    cond_both (leb leaf_min (length a) && leb leaf_min (length b)) _ _ P
    (λ f. let p = and_parts _ _ f in
    record { inner = ((leb-true _ _ p.0, ha.1, ha.2), (leb-true _ _ p.1, hb.1, hb.2), omega arith, omega arith); low = omega arith; high = omega arith })
    (λ f. pair_halves a b ha hb k))

pub not_small : (t : Rope) → Whole t → is_small t ≡ false → Inner t
not_small empty w e = absurd (let z : ◌≡◌ {A = Bool} true false = e in let y : ◌≡◌ {A = ℕ} 0 1 = cc in omega arith)
not_small (leaf b) w e = (ltb-false _ _ e, w.1, w.2)
not_small (node l r) w e = w

pub small_low : (t : Rope) → is_small t ≡ true → height t ≤ 1
small_low empty e = omega arith
small_low (leaf b) e = omega arith
small_low (node l r) e = absurd (let y : ◌≡◌ {A = ℕ} 0 1 = cc in omega arith)

pub inner_whole : (t : Rope) → Inner t → Whole t
inner_whole empty i = absurd i
inner_whole (leaf b) i = (omega (arith, i.0), i.1, i.2)
inner_whole (node l r) i = i

-- what doesn't fit beside r is higher by two, or r is a leaf
pub not_beside : (h : ℕ) (r : Rope) → fits_beside h r ≡ false → (height r + 1 < h) ⊎ (height r ≤ 1)
not_beside h r e = ⊎_elim (λ p. inl (leb-false _ _ p)) (λ p. inr (small_low r (not-false _ p))) (and_cases _ _ e)

pub append_inner : (l r : Rope) → Inner l → Whole r → 1 ≤ height r → height r ≤ height l → Fits (append l r) (height l)
unfolding append merge
append_inner empty r il wr some le = absurd il
append_inner (leaf a) empty il wr some le = absurd (omega arith)
append_inner (leaf a) (leaf b) il wr some le = pair_fits a b (inner_whole (leaf a) il) wr (omega (arith, il.0))
append_inner (leaf a) (node c d) il wr some le = absurd (omega (arith, inner_some c wr.0))
append_inner (node a b) r il wr some le =
    cond_both (fits_beside (height (node a b)) r) _ _ (λ z. Fits z (height (node a b)))
    (λ e. let p = and_parts _ _ e in
    let k : height (node a b) ≤ height r + 1 = leb-true _ _ p.0 in
    record { inner = (il, not_small r wr (not-true _ p.1), omega arith, omega arith); low = omega arith; high = omega arith })
    (λ e. let some_b = inner_some b il.1 in
    let le_b : height r ≤ height b = ⊎_elim (λ (q : height r + 1 < height (node a b)). omega arith) (λ (q : height r ≤ 1). omega arith) (not_beside _ r e) in
    grown_right a b (append b r) il (append_inner b r il.1 wr some le_b))

pub prepend_inner : (l r : Rope) → Whole l → Inner r → 1 ≤ height l → height l ≤ height r → Fits (prepend l r) (height r)
unfolding prepend merge
prepend_inner l empty wl ir some le = absurd ir
prepend_inner empty (leaf b) wl ir some le = absurd (omega arith)
prepend_inner (leaf a) (leaf b) wl ir some le = pair_fits a b wl (inner_whole (leaf b) ir) (omega (arith, ir.0))
prepend_inner (node c d) (leaf b) wl ir some le = absurd (omega (arith, inner_some c wl.0))
prepend_inner l (node a b) wl ir some le =
    cond_both (fits_beside (height (node a b)) l) _ _ (λ z. Fits z (height (node a b)))
    (λ e. let p = and_parts _ _ e in
    let k : height (node a b) ≤ height l + 1 = leb-true _ _ p.0 in
    record { inner = (not_small l wl (not-true _ p.1), ir, omega arith, omega arith); low = omega arith; high = omega arith })
    (λ e. let some_a = inner_some a ir.0 in
    let le_a : height l ≤ height a = ⊎_elim (λ (q : height l + 1 < height (node a b)). omega arith) (λ (q : height l ≤ 1). omega arith) (not_beside _ l e) in
    grown_left a (prepend l a) b ir (prepend_inner l a wl ir.0 some le_a))

-- a rope whose height is h or one more
pub record Joined (t : Rope) (h : ℕ) : Type 0 where
  pub whole : Whole t
  pub low : h ≤ height t
  pub high : height t ≤ h + 1

pub fits_joined : (t : Rope) (h k : ℕ) → h ≡ k → Fits t h → Joined t k
fits_joined t h k e f = record { whole = inner_whole t f.inner; low = omega (arith, f.low); high = omega (arith, f.high) }

pub pair_joined : (a b : List ℕ) → Whole (leaf a) → Whole (leaf b) → Joined (pair a b) 1
unfolding pair
pair_joined a b wa wb =
    ⊎_elim
    (λ (q : length a + length b < leaf_min).
    cond_both (leb (length a + length b) leaf_max) _ _ (λ z. Joined z 1)
    (λ e. let la = length-append a b in record { whole = (omega (arith, wa.0), omega arith, octets_append a b wa.2 wb.2); low = omega arith; high = omega arith })
    (λ e. absurd (omega (arith, leb-false _ _ e))))
    (λ (q : leaf_min ≤ length a + length b). fits_joined (pair a b) 1 1 refl (pair_fits a b wa wb q))
    (cases_lt (length a + length b) leaf_min)

pub join_ok : (l r : Rope) → Whole l → Whole r → 1 ≤ height l → 1 ≤ height r → Joined (join l r) (max (height l) (height r))
unfolding join append merge
join_ok l r wl wr sl sr =
    cond_both (leb (height r) (height l)) _ _ (λ z. Joined z (max (height l) (height r)))
    (λ e. onto l r wl wr sr (leb-true _ _ e))
    (λ e. unto l r wl wr sl (leb-false _ _ e))
  where
    onto : (l r : Rope) → Whole l → Whole r → 1 ≤ height r → height r ≤ height l → Joined (append l r) (max (height l) (height r))
    onto empty r wl wr sr le = absurd (omega arith)
    onto (leaf a) empty wl wr sr le = absurd (omega arith)
    onto (leaf a) (leaf b) wl wr sr le = pair_joined a b wl wr
    onto (leaf a) (node c d) wl wr sr le = absurd (omega (arith, inner_some c wr.0))
    onto (node a b) r wl wr sr le = fits_joined _ (height (node a b)) _ (omega arith) (append_inner (node a b) r wl wr sr le)

    unto : (l r : Rope) → Whole l → Whole r → 1 ≤ height l → height l < height r → Joined (prepend l r) (max (height l) (height r))
    unto l empty wl wr sr le = absurd (omega arith)
    unto l (leaf b) wl wr sr le = absurd (omega arith)
    unto l (node a b) wl wr sr le = fits_joined _ (height (node a b)) _ (omega arith) (prepend_inner l (node a b) wl wr sr (omega arith))

pub concat_ok : (l r : Rope) → Whole l → Whole r → Joined (concat l r) (max (height l) (height r))
unfolding concat
concat_ok empty r wl wr = record { whole = wr; low = omega arith; high = omega arith }
concat_ok (leaf a) empty wl wr = record { whole = wl; low = omega arith; high = omega arith }
concat_ok (leaf a) (leaf b) wl wr = join_ok (leaf a) (leaf b) wl wr (omega arith) (omega arith)
concat_ok (leaf a) (node c d) wl wr = join_ok (leaf a) (node c d) wl wr (omega arith) (omega arith)
concat_ok (node a b) empty wl wr = record { whole = wl; low = omega arith; high = omega arith }
concat_ok (node a b) (leaf c) wl wr = join_ok (node a b) (leaf c) wl wr (omega arith) (omega arith)
concat_ok (node a b) (node c d) wl wr = join_ok (node a b) (node c d) wl wr (omega arith) (omega arith)
