-- One row turned from what stood there to what shall stand there.
use Rattle.std.proofs.Common.{◌≡◌, ℕ, ◌+◌, ◌-◌, ◌<◌, ◌≤◌, Bool, true, false, cond, ◌&&◌, eqb, List, [], ◌++◌, length, get_or, take, drop, set, replicate, sym, ap, ◌∙◌, subst, ⊎_elim, append_assoc, arith, length-append, length-drop, take-add}
use Rattle.std.proofs.lemmas.List.{take-append-drop, take_at, length-take-le, get_or-set_same, set-set}
use Rattle.std.proofs.ByRecursion.{All-get_or, All-take, All-drop}
use Rattle.std.proofs.lemmas.Bool.{cases_Bool, and_parts, eqb-true}
use Rattle.spec.specs.Screen.{Row, Picture, blank}
use Rattle.spec.specs.Bytes.{is_printable}
use Rattle.spec.specs.Promises.{Draws}
use Rattle.terminals.specs.Sequences.{Printable, clear_bytes, overwritten}
use Rattle.terminals.specs.Drawing.{showing, Rectangle, TurnsRow, step_bytes, Updates, update_bytes}
use Rattle.terminals.proofs.Drawing.{draws_append, draws_none, draws_move, draws_run, draws_clear}

pub row_width : (rows columns i : ℕ) (g : List Row) → Rectangle rows columns g → i < rows → length (get_or g i []) ≡ columns
row_width rows columns i g q h = All-get_or (λ (r : Row). length r ≡ columns) g i [] (omega (arith, q.height)) q.width

-- a move that may be left out
pub draws_step : (g : List Row) (r₀ c₀ r c : ℕ) → r < 9999 → c < 9999 → r < length g → c < length (get_or g 0 []) → Draws (showing g r₀ c₀) (showing g r c) (step_bytes r₀ c₀ r c)
draws_step g r₀ c₀ r c r9 c9 h k =
    ⊎_elim
    (λ (e : (eqb r₀ r && eqb c₀ c) ≡ true).
    let p = and_parts (eqb r₀ r) (eqb c₀ c) e in
    rw (e, eqb-true r₀ r p.0, eqb-true c₀ c p.1) (draws_none (showing g r c)))
    (λ (e : (eqb r₀ r && eqb c₀ c) ≡ false). rw e (draws_move g r₀ c₀ r c r9 c9 h k))
    (cases_Bool (eqb r₀ r && eqb c₀ c))

-- cells from a to b of new, where old agrees before a
up_to : (old new : Row) (a b : ℕ) → a ≤ b → take a old ≡ take a new → take a old ++ take (b - a) (drop a new) ≡ take b new
up_to old new a b h e =
    let q : a + (b - a) ≡ b = omega arith in
    ap (λ (x : Row). x ++ take (b - a) (drop a new)) e ∙ rw (← take-add a (b - a) new, q)

run_length : (new : Row) (a b : ℕ) → a ≤ b → b ≤ length new → length (take (b - a) (drop a new)) ≡ b - a
run_length new a b h k = length-take-le (b - a) (drop a new) (rw length-drop (omega arith))

-- written over old: what stands there up to b is new, and old from there on
over_is : (old new : Row) (a b : ℕ) → a ≤ b → b ≤ length new → take a old ≡ take a new → overwritten old a (take (b - a) (drop a new)) ≡ take b new ++ drop b old
over_is old new a b h k e =
    let l = run_length new a b h k in
    let q : a + (b - a) ≡ b = omega arith in
    rw (l, q, ← append_assoc (take a old) (take (b - a) (drop a new)) (drop b old), up_to old new a b h e)

-- the last step: a clear, or nothing
module _ (g : List Row) (i a b : ℕ) (old new : Row) (h : i < length g) (same : length old ≡ length new) where
  last_step : (clear : Bool) → Updates old new a b clear → Draws (showing (set g i (take b new ++ drop b old)) i b) (showing (set g i new) i b) (cond clear clear_bytes [])
  last_step true u =
      let row : Row = take b new ++ drop b old in
      let z : get_or (set g i row) i [] ≡ row = get_or-set_same g i row [] h in
      let l : length (take b new) ≡ b = length-take-le b new u.to_within in
      let m : length row ≡ length new = length-append (take b new) (drop b old) ∙ rw (l, length-drop) (omega (arith, u.to_within)) in
      let t : take b row ≡ take b new = take_at (take b new) (drop b old) b l in
      let w : take b row ++ replicate (length row - b) blank ≡ new = rw (t, m, ← u.rest) (take-append-drop b new) in
      let d = draws_clear (set g i row) i b (rw (z, m) u.to_within) in
      let f : set (set g i row) i (take b (get_or (set g i row) i []) ++ replicate (length (get_or (set g i row) i []) - b) blank) ≡ set g i new = rw (z, w) (set-set g i row new) in
      subst (λ (x : List Row). Draws (showing (set g i row) i b) (showing x i b) clear_bytes) f d
  last_step false u =
      let w : take b new ++ drop b old ≡ new = rw u.rest (take-append-drop b new) in
      rw w (draws_none (showing (set g i new) i b))

-- a move, a run and perhaps a clear
pub turns_row : (rows columns i a b : ℕ) (clear : Bool) (old new : Row) (r c : ℕ) → i < rows → rows ≤ 9999 → columns ≤ 9999 → length new ≡ columns → Printable new → Updates old new a b clear → TurnsRow rows columns i old new r c i b (step_bytes r c i a ++ update_bytes new a b clear)
turns_row rows columns i a b clear old new r c h r9 c9 width ink u g q at =
    let run : Row = take (b - a) (drop a new) in
    let al : a < length new = u.from_within in
    let ab : a ≤ b = u.ordered in
    let bl : b ≤ length new = u.to_within in
    let gl : i < length g = omega (arith, q.height) in
    let ol : length old ≡ columns = ap length (sym at) ∙ row_width rows columns i g q h in
    let wl : length (get_or g 0 []) ≡ columns = row_width rows columns 0 g q (omega arith) in
    let rl : length run ≡ b - a = run_length new a b ab bl in
    let e : a + length run ≡ b = omega arith in
    let p : Printable run = All-take (λ (x : ℕ). is_printable x ≡ true) (b - a) (drop a new) (All-drop (λ (x : ℕ). is_printable x ≡ true) a new ink) in
    let move = draws_step g r c i a (omega arith) (omega arith) gl (omega arith) in
    let d = draws_run g i a run p gl (rw at (omega arith)) in
    let f : showing (set g i (overwritten (get_or g i []) a run)) i (a + length run) ≡ showing (set g i (take b new ++ drop b old)) i b = rw (at, over_is old new a b ab bl u.same_before, e) in
    let wrote : Draws (showing g i a) (showing (set g i (take b new ++ drop b old)) i b) run = subst (λ (x : Picture). Draws (showing g i a) x run) f d in
    draws_append (showing g r c) (showing g i a) (showing (set g i new) i b) (step_bytes r c i a) (update_bytes new a b clear) move
    (draws_append (showing g i a) (showing (set g i (take b new ++ drop b old)) i b) (showing (set g i new) i b) run (cond clear clear_bytes []) wrote (last_step g i a b old new gl (omega arith) clear u))
