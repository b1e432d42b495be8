use Rattle.std.proofs.Common.{◌≡◌, ℕ, List, ◌+◌, ◌<◌, ◌≤◌, length, set, vec_items, ap, ◌∙◌, arith}
use Rattle.std.proofs.lemmas.List.{length-set}
use Rattle.words.specs.Padded.{padded}
use Rattle.words.proofs.Bounds.{within_bounds}
use Rattle.words.proofs.Padding.{padded_set, padded_more, padded_within, padded_length}
use Rattle.words.proofs.heap_words.HeapWordsWords.put.Goals as goal

-- a word of the row
within : (xs r : List ℕ) (n i : ℕ) → length xs ≤ n → padded xs n ≡ r → i < length r → i < n
within xs r n i short is lt = omega (arith, padded_length xs n short, ap length is)

-- a row with words filled up to one of its own, and that one written, is no longer
few : (xs ys : List ℕ) (n i x : ℕ) → length xs ≤ n → i < n → ys ≡ padded xs (i + 1) → length (set ys i x) ≤ n
few xs ys n i x short lt is = omega (arith, length-set {A = ℕ}, ap length is, padded_within xs (i + 1) n short (omega arith))

pub overflow_add-i : goal.overflow_add-i
overflow_add-i c = let lt = within _ _ c.self.inside.size c.args.i c.self.invariant.0 (ap (λ w. w.row) c.self.view_is) c.requires in omega arith

pub fill_up-requires : goal.fill_up-requires
fill_up-requires c = let lt = within _ _ c.self.inside.size c.args.i c.self.invariant.0 (ap (λ w. w.row) c.self.view_is) c.requires in omega (arith, c.self.invariant.1)

pub invariant_of-self : goal.invariant_of-self
invariant_of-self c =
    let s = c.self.inside in
    let lt = within _ _ s.size c.args.i c.self.invariant.0 (ap (λ w. w.row) c.self.view_is) c.requires in (
      omega (arith, few _ _ s.size c.args.i c.args.x c.self.invariant.0 lt c.fill_up.ensures.items, ap length c.overwrite.ensures.items),
      omega (arith, c.self.invariant.1, c.fill_up.ensures.capacity, c.overwrite.ensures.capacity),
      omega (arith, c.touch.ensures),
    )

pub returns-clause-bounds : goal.returns-clause-bounds
returns-clause-bounds c =
    let s = c.self.inside in
    let v = c.overwrite.new.items in
    let lt = within _ _ s.size c.args.i c.self.invariant.0 (ap (λ w. w.row) c.self.view_is) c.requires in
    let short = few _ _ s.size c.args.i c.args.x c.self.invariant.0 lt c.fill_up.ensures.items in
    within_bounds (vec_items v) s.size _ _ (omega (arith, short, ap length c.overwrite.ensures.items)) (omega (arith, c.self.invariant.1, c.fill_up.ensures.capacity, c.overwrite.ensures.capacity)) (omega (arith, v.ok)) (omega (arith, c.touch.ensures))

pub returns-clause-written : goal.returns-clause-written
returns-clause-written c =
    let s = c.self.inside in
    let v = c.fill_up.new.items in
    let i = c.args.i in
    let x = c.args.x in
    let lt = within _ _ s.size i c.self.invariant.0 (ap (λ w. w.row) c.self.view_is) c.requires in
    ap (λ xs. padded xs s.size) c.overwrite.ensures.items
    ∙ padded_set (vec_items v) s.size i x (omega (arith, v.ok.0, c.fill_up.ensures.long))
    ∙ ap (λ xs. set (padded xs s.size) i x) c.fill_up.ensures.items
    ∙ ap (λ r. set r i x) (padded_more (vec_items s.items) (i + 1) s.size (omega arith) ∙ ap (λ w. w.row) c.self.view_is)
