-- Where a byte stands, from where it stands in chunks.
use Rattle.std.proofs.Common.{◌≡◌, ℕ, ◌+◌, ◌-◌, ◌<◌, ◌≤◌, ◌≢◌, List, length, get_or, take, drop, sym, ap, ◌∙◌, subst, ⊎_elim, arith, length-take}
use Rattle.std.proofs.lemmas.List.{get_or-take, get_or-drop}
use Rattle.std.proofs.lemmas.Bool.{cases_lt, cases_eq}
use Rattle.rope_read.specs.Finding.{Absent, First, Last}

module _ (t : List ℕ) (c : ℕ) where
  pub absent_none : (a b : ℕ) → b ≤ a → Absent t a b c
  absent_none a b h = record { nowhere = λ i l k. absurd (omega arith) }

  pub absent_on : (a k : ℕ) → Absent t a k c → get_or t k 0 ≢ c → Absent t a (k + 1) c
  absent_on a k x ne =
      record { nowhere = λ i l less e. ⊎_elim (λ (s : i ≡ k). ne (ap (λ z. get_or t z 0) (sym s) ∙ e)) (λ (s : i ≢ k). x.nowhere i l (omega arith) e) (cases_eq i k) }

  pub absent_back : (k b : ℕ) → Absent t (k + 1) b c → get_or t k 0 ≢ c → Absent t k b c
  absent_back k b x ne =
      record { nowhere = λ i l less e. ⊎_elim (λ (s : i ≡ k). ne (ap (λ z. get_or t z 0) (sym s) ∙ e)) (λ (s : i ≢ k). x.nowhere i (omega arith) less e) (cases_eq i k) }

  pub absent_join : (a k b : ℕ) → Absent t a k c → Absent t k b c → Absent t a b c
  absent_join a k b x y =
      record { nowhere = λ i l less. ⊎_elim (λ (s : i < k). x.nowhere i l s) (λ (s : k ≤ i). y.nowhere i s less) (cases_lt i k) }

  pub first_is : (a b k : ℕ) → a ≤ k → k < b → Absent t a k c → get_or t k 0 ≡ c → First t a b c k
  first_is a b k l h x e = record { from = l; inside = h; here = e; before = x.nowhere }

  pub last_is : (a b k : ℕ) → a ≤ k → k < b → Absent t (k + 1) b c → get_or t k 0 ≡ c → Last t a b c k
  last_is a b k l h x e = record { from = l; inside = h; here = e; behind = λ i less. x.nowhere i (omega arith) }

  -- of n bytes from a place on
  module _ (at n : ℕ) where
    chunk_byte : (i : ℕ) → at ≤ i → i < at + n → get_or (take n (drop at t)) (i - at) 0 ≡ get_or t i 0
    chunk_byte i l h =
        let e : at + (i - at) ≡ i = omega arith in
        get_or-take n (drop at t) (i - at) 0 (omega arith) ∙ (get_or-drop at t (i - at) 0 ∙ ap (λ z. get_or t z 0) e)

    pub absent_chunk : Absent (take n (drop at t)) 0 n c → Absent t at (at + n) c
    absent_chunk x = record { nowhere = λ i l h e. x.nowhere (i - at) (omega arith) (omega arith) (chunk_byte i l h ∙ e) }

    place_byte : (k : ℕ) → k < n → get_or (take n (drop at t)) k 0 ≡ get_or t (at + k) 0
    place_byte k h = get_or-take n (drop at t) k 0 h ∙ get_or-drop at t k 0

    pub first_chunk : (k : ℕ) → First (take n (drop at t)) 0 n c k → First t at (at + n) c (at + k)
    first_chunk k x =
        record {
          from = omega arith;
          inside = omega (arith, x.inside);
          here = sym (place_byte k x.inside) ∙ x.here;
          before = λ i l h e. x.before (i - at) (omega arith) (omega arith) (chunk_byte i l (omega (arith, x.inside)) ∙ e);
        }

    pub last_chunk : (k : ℕ) → Last (take n (drop at t)) 0 n c k → Last t at (at + n) c (at + k)
    last_chunk k x =
        record {
          from = omega arith;
          inside = omega (arith, x.inside);
          here = sym (place_byte k x.inside) ∙ x.here;
          behind = λ i l h e. x.behind (i - at) (omega arith) (omega arith) (chunk_byte i (omega arith) h ∙ e);
        }

pub absent_up_to : (t : List ℕ) (c a k b : ℕ) → b ≤ k → Absent t a k c → Absent t a b c
absent_up_to t c a k b h x = record { nowhere = λ i l less. x.nowhere i l (omega arith) }

pub absent_before : (t : List ℕ) (c k b a : ℕ) → k ≤ a → Absent t k b c → Absent t a b c
absent_before t c k b a h x = record { nowhere = λ i l less. x.nowhere i (omega arith) less }

-- of n bytes that were read into the front of a buffer
module _ (t : List ℕ) (c at n : ℕ) (buffer chunk : List ℕ) (le : n ≤ length buffer) (long : length chunk ≡ length (take n buffer)) (is : chunk ≡ take (length (take n buffer)) (drop at t)) where
  part_long : length (take n buffer) ≡ n
  part_long = omega (arith, length-take n buffer)

  chunk_is : chunk ≡ take n (drop at t)
  chunk_is = is ∙ ap (λ k. take k (drop at t)) part_long

  pub chunk_long : length chunk ≡ n
  chunk_long = long ∙ part_long

  pub absent_read : Absent chunk 0 (length chunk) c → Absent t at (at + n) c
  absent_read x = absent_chunk t c at n (subst (λ z. Absent z 0 n c) chunk_is (subst (λ k. Absent chunk 0 k c) chunk_long x))

  pub first_read : (k : ℕ) → First chunk 0 (length chunk) c k → First t at (at + n) c (at + k)
  first_read k x = first_chunk t c at n k (subst (λ z. First z 0 n c k) chunk_is (subst (λ j. First chunk 0 j c k) chunk_long x))

  pub last_read : (k : ℕ) → Last chunk 0 (length chunk) c k → Last t at (at + n) c (at + k)
  last_read k x = last_chunk t c at n k (subst (λ z. Last z 0 n c k) chunk_is (subst (λ j. Last chunk 0 j c k) chunk_long x))

-- behind a part in which it doesn't stand, and before one
module _ (t : List ℕ) (c a at b to : ℕ) where
  pub first_later : (k : ℕ) → a ≤ at → b ≤ to → Absent t a at c → First t at b c k → First t a to c k
  first_later k l h x y =
      record {
        from = omega (arith, y.from);
        inside = omega (arith, y.inside);
        here = y.here;
        before = λ i from less. ⊎_elim (λ (s : i < at). x.nowhere i from s) (λ (s : at ≤ i). y.before i s less) (cases_lt i at);
      }

  pub last_earlier : (k : ℕ) → a ≤ at → Absent t b to c → Last t at b c k → b ≤ to → Last t a to c k
  last_earlier k l x y le =
      record {
        from = omega (arith, y.from);
        inside = omega (arith, y.inside);
        here = y.here;
        behind = λ i more less. ⊎_elim (λ (s : i < b). y.behind i more s) (λ (s : b ≤ i). x.nowhere i s less) (cases_lt i b);
      }
