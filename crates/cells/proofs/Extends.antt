-- What taking a cell past the others does to a row.
use Rattle.std.proofs.Common.{◌≡◌, ℕ, ◌+◌, ◌*◌, ◌<◌, ◌≤◌, ◌≢◌, List, ◌∷◌, length, sym, refl, ap, ◌∙◌, subst, inl, inr, arith}
use Rattle.std.proofs.lemmas.Bool.{cases_eq}
use Rattle.cells.specs.Layout.{cell, at, put, filled, taken, first_dead}
use Rattle.cells.specs.Tree.{Tree, node, Val}
use Rattle.cells.specs.Sound.{hit, occ, ins, Chain, Known, Counted, DeadList, Ranked, Sound}
use Rattle.cells.specs.Have.{item, refs, Have}
use Rattle.cells.specs.Steps.{Kept, Made}
use Rattle.cells.proofs.Rows.{length_put, at_cell, cell_other, at_put, at_other, length_filled, cell_filled, cell_filled_other, state_filled}
use Rattle.cells.proofs.Tallies.{hit_eq, hit_ne, ins_none, ins_more, ins_same, chain_move}
use Rattle.cells.proofs.Changes.{Apart, not_held, ranked_fill, val_apart}
use Rattle.cells.proofs.Held.{stand_on}
use Rattle.cells.proofs.Sharings.{kept_put, kept_on}
use Rattle.cells.proofs.Makings.{Written, written, child_val}

-- one more cell than n is known
more_known : (n p : ℕ) → Known n p → Known (n + 1) p
more_known n p k one = ((k one).0, omega (arith, (k one).1))

-- a cell past the others is no child
past_apart : (m xs : List ℕ) (n : ℕ) → Counted m xs n → Apart m n (8 + n)
past_apart m xs n c q lo hi = (λ e. omega (arith, (c.left q lo hi (omega arith)).1), λ e. omega (arith, (c.right q lo hi (omega arith)).1))

-- nor held
past_free : (m xs : List ℕ) (n : ℕ) → Counted m xs n → occ (8 + n) xs ≡ 0
past_free m xs n c = elim (cases_eq (occ (8 + n) xs) 0) [ inl e ↦ e | inr ne ↦ absurd (omega (arith, (c.holds (8 + n) (omega arith) (omega arith)).1)) ]

-- one more cell, written
module _ (m m' xs : List ℕ) (n l r : ℕ) (w : List ℕ) (c : Counted m (l ∷ (r ∷ xs)) n) (top : taken m' ≡ 9 + n) (long : length m' ≡ length m)
    (head : first_dead m' ≡ first_dead m) (others : (q : ℕ) → 8 ≤ q → q ≢ 8 + n → cell m' q ≡ cell m q) (is : Written m' (8 + n) l r w)
    (few : n + 1 ≤ 268435448) (room : 16 * n + 144 ≤ length m) where
  free : occ (8 + n) (l ∷ (r ∷ xs)) ≡ 0
  free = past_free m (l ∷ (r ∷ xs)) n c

  known_left : Known n l
  known_left = c.holds l (omega (arith, hit_eq l l refl))

  known_right : Known n r
  known_right = c.holds r (omega (arith, hit_eq r r refl))

  tally : (k q x : ℕ) → at m' (8 + n) k ≡ x → ins m' k q (n + 1) ≡ ins m k q n + hit x q
  tally k q x e =
      omega (
        arith,
        ins_more m' k q n,
        ins_same m m' k q n (λ p lo hi. at_cell m m' p (others p lo (omega arith)) k),
        ap (λ z. hit z q) e,
      )

  counted_more : Counted m' ((8 + n) ∷ xs) (n + 1)
  counted_more =
      let self = hit_eq (8 + n) (8 + n) refl in
      record {
        top = omega arith;
        few = few;
        fits = omega arith;
        holds = λ q h. elim (cases_eq (8 + n) q) [
          | inl e ↦ λ one. (omega arith, omega arith)
          | inr ne ↦ more_known n q (c.holds q (omega (arith, hit_ne (8 + n) q ne)))
        ];
        left = λ q lo hi. elim (cases_eq q (8 + n)) [
          | inl e ↦ subst (λ z. Known (n + 1) (at m' z 1)) (sym e) (subst (Known (n + 1)) (sym is.left) (more_known n l known_left))
          | inr ne ↦ subst (Known (n + 1)) (sym (at_cell m m' q (others q lo ne) 1)) (more_known n (at m q 1) (c.left q lo (omega arith)))
        ];
        right = λ q lo hi. elim (cases_eq q (8 + n)) [
          | inl e ↦ subst (λ z. Known (n + 1) (at m' z 2)) (sym e) (subst (Known (n + 1)) (sym is.right) (more_known n r known_right))
          | inr ne ↦ subst (Known (n + 1)) (sym (at_cell m m' q (others q lo ne) 2)) (more_known n (at m q 2) (c.right q lo (omega arith)))
        ];
        counts = λ q lo hi.
            let one = tally 1 q l is.left in
            let two = tally 2 q r is.right in
            elim (cases_eq q (8 + n)) [
              | inl e ↦
                  let no_left : ins m 1 q n ≡ 0 = ins_none m 1 q n (λ p lp hp y. (past_apart m (l ∷ (r ∷ xs)) n c p lp hp).0 (y ∙ e)) in
                  let no_right : ins m 2 q n ≡ 0 = ins_none m 2 q n (λ p lp hp y. (past_apart m (l ∷ (r ∷ xs)) n c p lp hp).1 (y ∙ e)) in
                  omega (arith, free, is.count, ap (λ z. at m' z 0) e, hit_eq (8 + n) q (sym e), ap (λ z. occ z (l ∷ (r ∷ xs))) e)
              | inr ne ↦ omega (arith, c.counts q lo (omega arith), at_cell m m' q (others q lo ne) 0, hit_ne (8 + n) q (λ y. ne (sym y)))
            ];
      }

  listed_past : (dead : List ℕ) → DeadList m n dead → DeadList m' (n + 1) dead
  listed_past dead b =
      let out : occ (8 + n) dead ≡ 0 = elim (cases_eq (occ (8 + n) dead) 0) [ inl e ↦ e | inr ne ↦ absurd (omega (arith, (b.inside (8 + n) (omega arith)).1)) ] in
      record {
        deads = λ q lo hi. elim (cases_eq q (8 + n)) [
          | inl e ↦ subst (λ z. occ z dead ≡ hit (at m' z 0) 0) (sym e) (omega (arith, hit_ne (at m' (8 + n) 0) 0 (omega (arith, is.count))))
          | inr ne ↦ b.deads q lo (omega arith) ∙ ap (λ z. hit z 0) (sym (at_cell m m' q (others q lo ne) 0))
        ];
        inside = λ q h. (let i = b.inside q h in (i.0, omega (arith, i.1)));
        chain =
            subst (λ z. Chain m' z dead) (sym head)
            (chain_move m m' (first_dead m) dead b.chain
            (λ q h. at_cell m m' q (others q (b.inside q h).0 (not_held (8 + n) dead out q h)) 3));
      }

  more_sound : (dead : List ℕ) → DeadList m n dead → Ranked m n → Sound m' ((8 + n) ∷ xs)
  more_sound dead b t =
      record {
        cells = n + 1;
        dead = dead;
        counted = counted_more;
        listed = listed_past dead b;
        ranked =
            ranked_fill m m' n (n + 1) (8 + n) t (past_apart m (l ∷ (r ∷ xs)) n c)
            (λ y. omega (arith, (known_left (omega (arith, is.left))).1, is.left)) (λ y. omega (arith, (known_right (omega (arith, is.right))).1, is.right))
            (λ q lo hi ne. omega arith) (λ q lo hi ne. others q lo ne);
      }

  keep : (p : ℕ) (v : Tree) → 0 < occ p (l ∷ (r ∷ xs)) → Val m p v → Val m' p v
  keep p v o =
      val_apart m m' (l ∷ (r ∷ xs)) n (8 + n) c (past_apart m (l ∷ (r ∷ xs)) n c) (λ q lo hi ne. others q lo ne) v p (c.holds p o) (not_held (8 + n) (l ∷ (r ∷ xs)) free p o)

-- the cell d past the others is written, and the number of cells is raised
module _ (m : List ℕ) (d l r : ℕ) (w : List ℕ) (thirteen : length w ≡ 13) (is : d ≡ taken m) (lo : 8 ≤ d) (few : d < 268435456) (room : 16 * d + 16 ≤ length m) where
  m1 : List ℕ
  m1 = filled m d l r w

  pub kept_extend : Kept m (put (filled m d l r w) 0 0 (d + 1))
  kept_extend =
      kept_on m (filled m d l r w) (put (filled m d l r w) 0 0 (d + 1))
      (record { long = length_filled m w d l r thirteen room; state = state_filled m w d l r thirteen room lo })
      (kept_put (filled m d l r w) 0 0 (d + 1) (λ one. absurd (omega arith)) (omega arith))

  pub extended : Made m (put (filled m d l r w) 0 0 (d + 1)) d l r w
  unfolding m1
  extended =
      record {
        have = λ u v rest h.
            let n = h.sound.cells in
            let c = h.sound.counted in
            let m' = put m1 0 0 (d + 1) in
            let at_d : d ≡ 8 + n = omega (arith, c.top) in
            let long = length_filled m w d l r thirteen room in
            let others : (q : ℕ) → 8 ≤ q → q ≢ 8 + n → cell m' q ≡ cell m q = λ q l0 ne.
            cell_other m1 0 0 (d + 1) q (omega arith) (omega arith) ∙ cell_filled_other m w d l r thirteen room q (omega arith) in
            let new : cell m' d ≡ 1 ∷ (l ∷ (r ∷ w)) = cell_other m1 0 0 (d + 1) d (omega arith) (omega arith) ∙ cell_filled m w d l r thirteen room in
            let wr : Written m' (8 + n) l r w = subst (λ z. Written m' z l r w) at_d (written m' d l r w new) in
            let top : taken m' ≡ 9 + n = omega (arith, at_put m1 0 0 (d + 1) (omega arith) (omega arith)) in
            let head : first_dead m' ≡ first_dead m =
            at_other m1 0 0 (d + 1) 0 1 (omega arith) (omega arith) (omega arith) ∙ at_cell m m1 0 (cell_filled_other m w d l r thirteen room 0 (omega arith)) 1 in
            let same : length m' ≡ length m = length_put m1 0 0 (d + 1) ∙ long in
            let stays = keep m m' (refs rest) n l r w c top same head others wr (omega arith) (omega arith) in
            subst (λ z. Have m' (item z (node u v w) ∷ rest)) (sym at_d)
            (record {
              sound = more_sound m m' (refs rest) n l r w c top same head others wr (omega arith) (omega arith) h.sound.dead h.sound.listed h.sound.ranked;
              stand = (
                (
                  omega arith,
                  child_val m' l (at m' (8 + n) 1) u wr.left (stays l u (omega (arith, hit_eq l l refl)) h.stand.0),
                  child_val m' r (at m' (8 + n) 2) v wr.right (stays r v (omega (arith, hit_eq r r refl)) h.stand.1.0),
                  wr.word,
                ),
                stand_on m m' rest (λ p x o. stays p x (omega arith)) h.stand.1.1,
              );
            });
      }
