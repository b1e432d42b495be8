-- From cells that were compared to the shortest update.
use Rattle.std.proofs.Common.{◌≡◌, ℕ, ◌+◌, ◌-◌, ◌<◌, ◌≤◌, Bool, true, false, length, get_or, take, drop, replicate, MatchBool, ◌≢◌, sym, refl, ap, ◌∙◌, ⊎_elim, arith, length-take, length-drop}
use Rattle.std.proofs.lemmas.Grind.{same_number_lists}
use Rattle.std.proofs.lemmas.List.{get_or-take, get_or-drop, get_or-replicate, length-replicate, drop-drop, drop_all}
use Rattle.std.proofs.lemmas.Bool.{cases_lt}
use Rattle.spec.specs.Screen.{Row, blank}
use Rattle.terminals.proofs.Ends.{end_behind, end_past, blanks_behind}
use Rattle.term_rows.specs.Cells.{SameCells, BlankCells}
use Rattle.term_rows.specs.Shortest.{Shortest, ShortestWhole}

same_front : (old new : Row) (a : ℕ) → length old ≡ length new → SameCells old new 0 a → take a old ≡ take a new
same_front old new a l h =
    same_number_lists (take a old) (take a new) (omega (arith, length-take a old, length-take a new))
    (λ k i.
    let j : k < a = omega (arith, length-take a old) in
    get_or-take a old k 0 j ∙ h k (omega arith) j ∙ sym (get_or-take a new k 0 j))

same_end : (old new : Row) (e : ℕ) → length old ≡ length new → SameCells old new e (length old) → drop e old ≡ drop e new
same_end old new e l h =
    same_number_lists (drop e old) (drop e new) (omega (arith, length-drop e old, length-drop e new))
    (λ k i. get_or-drop e old k 0 ∙ h (e + k) (omega arith) (omega (arith, length-drop e old)) ∙ sym (get_or-drop e new k 0))

blank_end : (row : Row) (e : ℕ) → BlankCells row e → drop e row ≡ replicate (length row - e) blank
blank_end row e h =
    same_number_lists (drop e row) (replicate (length row - e) blank) (omega (arith, length-drop e row, length-replicate (length row - e) blank))
    (λ k i.
    let j : k < length row - e = omega (arith, length-drop e row) in
    get_or-drop e row k 0 ∙ h (e + k) (omega arith) (omega arith) ∙ sym (get_or-replicate (length row - e) k blank 0 j))

-- the same of the blanks of what lies from a cell on
blank_end_from : (row tail : Row) (a f : ℕ) → tail ≡ drop a row → BlankCells tail f → drop (a + f) row ≡ replicate (length row - (a + f)) blank
blank_end_from row tail a f t h =
    let e : length tail - f ≡ length row - (a + f) = omega (arith, ap length t, length-drop a row) in
    sym (drop-drop f a row) ∙ ap (drop f) (sym t) ∙ blank_end tail f h ∙ ap (λ (n : ℕ). replicate n blank) e

-- no end that is the same, and no blanks, begin before those that were found
first_end : (old new : Row) (e k : ℕ) → (0 < e → get_or old (e - 1) 0 ≢ get_or new (e - 1) 0) → drop k old ≡ drop k new → e ≤ k
first_end old new e k d h = ⊎_elim (λ (z : 0 < e). end_behind old new e k z (d z) h) (λ (z : e ≤ 0). omega arith) (cases_lt 0 e)

first_blank : (row : Row) (f k : ℕ) → f ≤ length row → (0 < f → get_or row (f - 1) 0 ≢ blank) → drop k row ≡ replicate (length row - k) blank → f ≤ k
first_blank row f k l d h = ⊎_elim (λ (z : 0 < f). blanks_behind row f k z l (d z) h) (λ (z : f ≤ 0). omega arith) (cases_lt 0 f)

first_blank_from : (row tail : Row) (a f k : ℕ) → tail ≡ drop a row → f ≤ length tail → (0 < f → get_or tail (f - 1) 0 ≢ blank) → a ≤ k → drop k row ≡ replicate (length row - k) blank → a + f ≤ k
first_blank_from row tail a f k t l d i h =
    let p : a + (k - a) ≡ k = omega arith in
    let e : length row - k ≡ length tail - (k - a) = omega (arith, ap length t, length-drop a row) in
    let s : drop (k - a) tail ≡ replicate (length tail - (k - a)) blank = ap (drop (k - a)) t ∙ drop-drop (k - a) a row ∙ ap (λ (n : ℕ). drop n row) p ∙ h ∙ ap (λ (n : ℕ). replicate n blank) e in
    let b : f ≤ k - a = first_blank tail f (k - a) l d s in
    omega arith

-- What was found of two rows: where they first differ, where their same ends begin, and how far behind the first difference
-- the blanks of the new one do.
pub record Found (old new tail : Row) (a e f : ℕ) : Type 0 where
  pub same_width : length old ≡ length new
  pub within : a < length old
  pub front : SameCells old new 0 a
  pub differs : get_or old a 0 ≢ get_or new a 0
  pub end_within : e ≤ length old
  pub same : SameCells old new e (length old)
  pub first : 0 < e → get_or old (e - 1) 0 ≢ get_or new (e - 1) 0
  pub from_difference : tail ≡ drop a new
  pub blanks_within : f ≤ length tail
  pub blanks : BlankCells tail f
  pub first_blank : 0 < f → get_or tail (f - 1) 0 ≢ blank

pub shortest : (old new tail : Row) (a e f n b : ℕ) (clear : Bool) → Found old new tail a e f → n ≡ a → MatchBool clear ((b ≡ a + f) × (a + f + 3 < e)) ((b ≡ e) × (e ≤ a + f + 3)) → Shortest old new n b clear
shortest old new tail a e f n b true h m k =
    rw m (record {
      updates = record {
        same_before = same_front old new a h.same_width h.front;
        from_within = omega arith;
        ordered = omega arith;
        to_within = omega (arith, ap length h.from_difference, length-drop a new);
        rest = rw k.0 (blank_end_from new tail a f h.from_difference h.blanks);
      };
      differs = h.differs;
      no_shorter_run = λ i s. omega (arith, first_end old new e i h.first s);
      no_shorter_clear = λ i l s. omega (arith, first_blank_from new tail a f i h.from_difference h.blanks_within h.first_blank l s);
    })
shortest old new tail a e f n b false h m k =
    let s : drop e old ≡ drop e new = same_end old new e h.same_width h.same in
    rw m (record {
      updates = record {
        same_before = same_front old new a h.same_width h.front;
        from_within = omega arith;
        ordered = omega (arith, end_past old new a e h.differs s);
        to_within = omega arith;
        rest = rw k.0 s;
      };
      differs = h.differs;
      no_shorter_run = λ i s. omega (arith, first_end old new e i h.first s);
      no_shorter_clear = λ i l s. omega (arith, first_blank_from new tail a f i h.from_difference h.blanks_within h.first_blank l s);
    })

pub shortest_whole : (new : Row) (f b : ℕ) (clear : Bool) → 0 < length new → f ≤ length new → BlankCells new f → (0 < f → get_or new (f - 1) 0 ≢ blank) → MatchBool clear ((b ≡ f) × (f + 3 < length new)) ((b ≡ length new) × (length new ≤ f + 3)) → ShortestWhole new b clear
shortest_whole new f b true z l h d k =
    record {
      updates = λ old w. record { same_before = refl; from_within = omega arith; ordered = omega arith; to_within = omega arith; rest = rw k.0 (blank_end new f h) };
      no_longer = omega arith;
      no_shorter_clear = λ i s. omega (arith, first_blank new f i l d s);
    }
shortest_whole new f b false z l h d k =
    record {
      updates = λ old w. record { same_before = refl; from_within = omega arith; ordered = omega arith; to_within = omega arith; rest = drop_all b old (omega arith) ∙ sym (drop_all b new (omega arith)) };
      no_longer = omega arith;
      no_shorter_clear = λ i s. omega (arith, first_blank new f i l d s);
    }
