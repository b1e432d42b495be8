-- What a picture over another may cost, row by row.
use Rattle.std.proofs.Common.{[], ◌∷◌, refl, Bool, true, false, cond, not, eqb, Bor, None, inl, inr, fold, rules, ◌≡◌, ℕ, suc, ◌+◌, ◌-◌, ◌*◌, ◌<◌, ◌≤◌, min, ◌⊎◌, List, ◌++◌, length, take, drop, ap, ◌∙◌, ⊎_elim, subst, arith, mul-le-mul_right, add-mul, one-mul, zero-mul}
use Rattle.std.proofs.Math.Seq.{take-append_seam, drop-append_seam}
use Rattle.std.proofs.lemmas.List.{length-append}
use Rattle.std.proofs.lemmas.Bool.{cases_lt}
use Rattle.std.specs.Iterator.{Yields}
use Rattle.std.specs.Iterator.Runs.{Run, YieldsRun}
use Rattle.std.specs.Iterator.Adapters.{zip_first, zip_second, zip_steps}
use Rattle.std.specs.Slice.Iter.{chunks_rest, chunks_size, chunks_steps}
use lib.Pointwise.{pointwise}
use Rattle.spec.specs.Promises.{rows_cost}
use Rattle.terminals.specs.Progress.{row_cost}
use Rattle.terminals.proofs.Mixed.{row_same, differs_cost}
use Rattle.pictures.specs.Rows.{rows_of}
use Rattle.pictures.proofs.Rows.{row_and_rest}

-- what two pictures may cost from some row on, with n rows to go
abbrev pub left_cost : (columns n : ℕ) (old new : List ℕ) → ℕ
left_cost columns n old new = rows_cost columns (rows_of n columns old) (rows_of n columns new)

front : (n : ℕ) (u us : List ℕ) → length u ≡ n → take n (u ++ us) ≡ u
front n u us h = subst (λ (k : ℕ). take k (u ++ us) ≡ u) h (take-append_seam u us)

back : (n : ℕ) (u us : List ℕ) → length u ≡ n → drop n (u ++ us) ≡ us
back n u us h = subst (λ (k : ℕ). drop k (u ++ us) ≡ us) h (drop-append_seam u us)

one_row : (columns n : ℕ) (u us v vs : List ℕ) → length u ≡ columns → length v ≡ columns → left_cost columns (suc n) (u ++ us) (v ++ vs) ≡ row_cost columns u v + left_cost columns n us vs
unfolding rows_of
one_row columns n u us v vs a b = rw (front columns u us a, front columns v vs b, back columns u us a, back columns v vs b)

-- what holds of the cells that are left of both, behind y rows of which k differ
pub record Counted (columns rows total y k : ℕ) (old new : List ℕ) : Type 0 where
  pub old_left : length old ≡ (rows - y) * columns
  pub new_left : length new ≡ (rows - y) * columns
  pub few : k ≤ y
  pub within : y ≤ rows
  pub counted : k * (16 + columns) + left_cost columns (rows - y) old new ≡ total

-- a whole row stands in front
whole : (columns rows y n m : ℕ) → n ≡ (rows - y) * columns → 0 < n → m ≡ min columns n → (y < rows) × (m ≡ columns) × (n - m ≡ (rows - (y + 1)) * columns)
whole columns rows y n m h z e =
    let below : y < rows = ⊎_elim (λ (l : y < rows). l) (λ (l : rows ≤ y). let q : rows - y ≡ 0 = omega arith in absurd (omega (arith, h ∙ ap (λ (x : ℕ). x * columns) q ∙ zero-mul columns))) (cases_lt y rows) in
    let q : rows - y ≡ suc (rows - (y + 1)) = omega arith in
    let w : n ≡ columns + (rows - (y + 1)) * columns = h ∙ ap (λ (x : ℕ). x * columns) q ∙ row_and_rest (rows - (y + 1)) columns in
    (below, omega arith, omega arith)

pub next_row : (columns rows total y k k' m n : ℕ) (old u us new v vs : List ℕ) → Counted columns rows total y k old new → m ≡ columns → n ≡ columns → old ≡ u ++ us → new ≡ v ++ vs → 0 < length old → 0 < length new → length u ≡ min m (length old) → length v ≡ min n (length new) → k' * (16 + columns) ≡ k * (16 + columns) + row_cost columns u v → k' ≤ y + 1 → Counted columns rows total (y + 1) k' us vs
next_row columns rows total y k k' m n old u us new v vs h i j p q z w a b e f =
    let s = whole columns rows y (length old) (length u) h.old_left z (a ∙ ap (λ (x : ℕ). min x (length old)) i) in
    let t = whole columns rows y (length new) (length v) h.new_left w (b ∙ ap (λ (x : ℕ). min x (length new)) j) in
    let d : rows - y ≡ suc (rows - (y + 1)) = omega (arith, s.0) in
    let o : left_cost columns (rows - y) old new ≡ row_cost columns u v + left_cost columns (rows - (y + 1)) us vs = rw (p, q, d) (one_row columns (rows - (y + 1)) u us v vs s.1 t.1) in
    record {
      old_left = omega (arith, s.2, ap length p, length-append u us);
      new_left = omega (arith, t.2, ap length q, length-append v vs);
      few = f;
      within = omega (arith, s.0);
      counted = omega (arith, h.counted, o, e);
    }

-- one more where the two differ
abbrev pub and_differing : ℕ → Bor (List ℕ) × Bor (List ℕ) → ℕ
and_differing n x = n + cond (not (pointwise eqb x.0.now x.1.now)) 1 0

more_if : (k m r : ℕ) (same : Bool) → (same ≡ true → r ≡ 0) → (same ≡ false → r ≡ m) → (k + cond (not same) 1 0) * m ≡ k * m + r
more_if k m r true f g = omega (arith, f refl)
more_if k m r false f g = add-mul k 1 m ∙ omega (arith, one-mul m, g refl)

costs : (columns k : ℕ) (u v : List ℕ) → (k + cond (not (pointwise eqb u v)) 1 0) * (16 + columns) ≡ k * (16 + columns) + row_cost columns u v
costs columns k u v =
    more_if k (16 + columns) (row_cost columns u v) (pointwise eqb u v)
    (λ (e : pointwise eqb u v ≡ true). let w : u ≡ v = search rules in rw (w, row_same v))
    (λ (e : pointwise eqb u v ≡ false). let d : u ≡ v → ⊥ = λ (w : u ≡ v). search rules in differs_cost columns u v d)

few_more : (y k : ℕ) (same : Bool) → k ≤ y → k + cond (not same) 1 0 ≤ y + 1
few_more y k true h = omega arith
few_more y k false h = omega arith

-- at the end
none_left : (columns rows y n : ℕ) → 0 < columns → n ≡ (rows - y) * columns → n ≡ 0 → rows - y ≡ 0
none_left columns rows y n c h z = ⊎_elim (λ (l : 0 < rows - y). absurd (omega (arith, mul-le-mul_right {m = 1} {n = rows - y} columns l, one-mul columns))) (λ (l : rows - y ≤ 0). omega arith) (cases_lt 0 (rows - y))

nothing_left : (columns n : ℕ) (old new : List ℕ) → n ≡ 0 → left_cost columns n old new ≡ 0
unfolding rows_of
nothing_left columns n old new e = rw e

pub all_counted : (columns rows total y k : ℕ) (old new : List ℕ) → 0 < columns → Counted columns rows total y k old new → (length old ≡ 0) ⊎ (length new ≡ 0) → k * (16 + columns) ≡ total
all_counted columns rows total y k old new c h e =
    let z : rows - y ≡ 0 = ⊎_elim (none_left columns rows y (length old) c h.old_left) (none_left columns rows y (length new) c h.new_left) e in
    omega (arith, h.counted, nothing_left columns (rows - y) old new z)

-- Along a run over the chunks of both.
module _ (columns rows total : ℕ) (c : 0 < columns) where
  pub counts : (xs : List (Bor (List ℕ) × Bor (List ℕ))) (s t u : _) (y k : ℕ) → Yields (zip_steps chunks_steps chunks_steps) s xs t → zip_steps chunks_steps chunks_steps t None u → chunks_size (zip_first s) ≡ columns → chunks_size (zip_second s) ≡ columns → Counted columns rows total y k (chunks_rest (zip_first s)) (chunks_rest (zip_second s)) → fold and_differing k xs * (16 + columns) ≡ total
  counts [] s t u y k e n i j h =
      let z = rw (← e) at n in
      all_counted columns rows total y k _ _ c h (elim z [ inl w ↦ inl w.1.1.0 | inr w ↦ inr w.1.1.0 ])
  counts (x ∷ xs) s t u y k e n i j h =
      let z = e.1 in
      counts xs e.0 t u (y + 1) (and_differing k x) e.2 n (z.0.0 ∙ i) (z.1.0 ∙ j) (
      next_row columns rows total y k (and_differing k x) _ _ _ x.0.now _ _ x.1.now _ h i j z.0.1.0 z.1.1.0 z.0.1.2 z.1.1.2 z.0.1.1 z.1.1.1 (costs columns k x.0.now x.1.now) (few_more y k (pointwise eqb x.0.now x.1.now) h.few))

-- and so along a run that went on to the end
pub counted_by_run : (columns rows total : ℕ) (q : Run (zip_steps chunks_steps chunks_steps)) → 0 < columns → q.whole ≡ true → chunks_size (zip_first q.from) ≡ columns → chunks_size (zip_second q.from) ≡ columns → Counted columns rows total 0 0 (chunks_rest (zip_first q.from)) (chunks_rest (zip_second q.from)) → fold and_differing 0 q.items * (16 + columns) ≡ total
unfolding YieldsRun
counted_by_run columns rows total q c w i j h = let d = q.gave.0 in counts columns rows total c q.items q.from d.0 (d.2 w).0 0 0 d.1 (d.2 w).1 i j h

pub begun : (columns rows : ℕ) (old new before after : List ℕ) → old ≡ before → new ≡ after → length before ≡ rows * columns → length after ≡ rows * columns → Counted columns rows (left_cost columns rows before after) 0 0 old new
begun columns rows old new before after p q a b =
    let z : rows - 0 ≡ rows = omega arith in
    record { old_left = rw (z, p) a; new_left = rw (z, q) b; few = omega arith; within = omega arith; counted = rw (z, p, q) (omega arith) }
