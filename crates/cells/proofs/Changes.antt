-- What a change of one cell does to the parts of a sound heap.
use Rattle.std.proofs.Common.{◌≡◌, ℕ, ◌+◌, ◌<◌, ◌≤◌, cond, eqb, ◌≢◌, List, ◌∷◌, length, drop, sym, refl, ap, ◌∙◌, subst, inl, inr, arith}
use Rattle.std.proofs.lemmas.Bool.{cases_eq, cond-true, cond-false, eq-eqb, ne_eqb}
use Rattle.cells.specs.Layout.{cell, at, taken, first_dead}
use Rattle.cells.specs.Tree.{Tree, none, node, Val}
use Rattle.cells.specs.Sound.{hit, occ, ins, Chain, Known, Counted, DeadList, Ranked, Sound}
use Rattle.cells.proofs.Rows.{at_cell}
use Rattle.cells.proofs.Tallies.{hit_eq, hit_ne, hit_le, ins_change, ins_one, chain_move}

-- only cell d and the first dead one may differ
pub record Near (m m' : List ℕ) (d : ℕ) : Type 0 where
  pub long : length m' ≡ length m
  pub top : taken m' ≡ taken m
  pub others : (q : ℕ) → 8 ≤ q → q ≢ d → cell m' q ≡ cell m q

-- no cell has d as a child
abbrev pub Apart : List ℕ → ℕ → ℕ → Type 0
Apart m n d = (q : ℕ) → 8 ≤ q → q < 8 + n → (at m q 1 ≢ d) × (at m q 2 ≢ d)

pub apart : (m : List ℕ) (n d : ℕ) → ins m 1 d n + ins m 2 d n ≡ 0 → Apart m n d
apart m n d z q lo hi = (λ e. omega (arith, ins_one m 1 d q n lo hi e), λ e. omega (arith, ins_one m 2 d q n lo hi e))

-- a reference that is not held
pub not_held : (p : ℕ) (xs : List ℕ) → occ p xs ≡ 0 → (q : ℕ) → 0 < occ q xs → q ≢ p
not_held p xs z q h e = omega (arith, subst (λ y. 0 < occ y xs) e h)

-- only how often each reference but none is held matters
pub sound_same : (m xs ys : List ℕ) → ((p : ℕ) → 1 ≤ p → occ p xs ≡ occ p ys) → Sound m xs → Sound m ys
sound_same m xs ys same s =
    let a = s.counted in
    record {
      cells = s.cells;
      dead = s.dead;
      counted = record {
        top = a.top;
        few = a.few;
        fits = a.fits;
        holds = λ p h one. a.holds p (omega (arith, same p one)) one;
        left = a.left;
        right = a.right;
        counts = λ p lo hi. omega (arith, a.counts p lo hi, same p (omega arith));
      };
      listed = s.listed;
      ranked = s.ranked;
    }

module _ (m m' : List ℕ) (n d : ℕ) (near : Near m m' d) (lo : 8 ≤ d) (hi : d < 8 + n) where
  -- the count and the children of d, and what is held
  pub counted_change : (xs ys : List ℕ) → Counted m xs n → ((q : ℕ) → 0 < occ q ys → Known n q) → Known n (at m' d 1) → Known n (at m' d 2)
      → ((q : ℕ) → 8 ≤ q → q < 8 + n → at m' q 0 + (occ q xs + (hit (at m d 1) q + hit (at m d 2) q)) ≡ at m q 0 + (occ q ys + (hit (at m' d 1) q + hit (at m' d 2) q)))
      → Counted m' ys n
  counted_change xs ys s holds left right sum =
      record {
        top = near.top ∙ s.top;
        few = s.few;
        fits = omega (arith, near.long, s.fits);
        holds = holds;
        left = λ q l h. elim (cases_eq q d) [
          | inl e ↦ subst (λ z. Known n (at m' z 1)) (sym e) left
          | inr ne ↦ subst (Known n) (sym (at_cell m m' q (near.others q l ne) 1)) (s.left q l h)
        ];
        right = λ q l h. elim (cases_eq q d) [
          | inl e ↦ subst (λ z. Known n (at m' z 2)) (sym e) right
          | inr ne ↦ subst (Known n) (sym (at_cell m m' q (near.others q l ne) 2)) (s.right q l h)
        ];
        counts = λ q l h.
            omega (
              arith,
              sum q l h,
              s.counts q l h,
              ins_change m m' 1 d q n lo hi (λ p lp ne. at_cell m m' p (near.others p lp ne) 1),
              ins_change m m' 2 d q n lo hi (λ p lp ne. at_cell m m' p (near.others p lp ne) 2),
            );
      }

  links : (dead : List ℕ) → DeadList m n dead → occ d dead ≡ 0 → (q : ℕ) → 0 < occ q dead → at m' q 3 ≡ at m q 3
  links dead b out q h = at_cell m m' q (near.others q (b.inside q h).0 (not_held d dead out q h)) 3

  -- d was alive and is
  pub listed_live : (dead : List ℕ) → DeadList m n dead → first_dead m' ≡ first_dead m → 1 ≤ at m d 0 → 1 ≤ at m' d 0 → DeadList m' n dead
  listed_live dead b head was is =
      let out : occ d dead ≡ 0 = omega (arith, b.deads d lo hi, hit_ne (at m d 0) 0 (omega arith)) in
      record {
        deads = λ q l h. elim (cases_eq q d) [
          | inl e ↦ subst (λ z. occ z dead ≡ hit (at m' z 0) 0) (sym e) (omega (arith, hit_ne (at m' d 0) 0 (omega arith)))
          | inr ne ↦ b.deads q l h ∙ ap (λ z. hit z 0) (sym (at_cell m m' q (near.others q l ne) 0))
        ];
        inside = b.inside;
        chain = subst (λ z. Chain m' z dead) (sym head) (chain_move m m' (first_dead m) dead b.chain (links dead b out));
      }

  -- d was alive and goes before the dead
  pub listed_more : (dead : List ℕ) → DeadList m n dead → first_dead m' ≡ d → at m' d 3 ≡ first_dead m → 1 ≤ at m d 0 → at m' d 0 ≡ 0 → DeadList m' n (d ∷ dead)
  listed_more dead b head link was is =
      let out : occ d dead ≡ 0 = omega (arith, b.deads d lo hi, hit_ne (at m d 0) 0 (omega arith)) in
      record {
        deads = λ q l h. elim (cases_eq q d) [
          | inl e ↦ subst (λ z. hit d z + occ z dead ≡ hit (at m' z 0) 0) (sym e) (omega (arith, hit_eq d d refl, hit_eq (at m' d 0) 0 is))
          | inr ne ↦ omega (arith, b.deads q l h, ap (λ z. hit z 0) (at_cell m m' q (near.others q l ne) 0), hit_ne d q (λ e. ne (sym e)))
        ];
        inside = λ q h. elim (cases_eq q d) [
          | inl e ↦ (omega arith, omega arith)
          | inr ne ↦ b.inside q (omega (arith, hit_ne d q (λ e. ne (sym e))))
        ];
        chain = (head, subst (λ z. Chain m' z dead) (sym link) (chain_move m m' (first_dead m) dead b.chain (links dead b out)));
      }

  -- d was the first dead one and is alive
  pub listed_less : (dead : List ℕ) → DeadList m n (d ∷ dead) → first_dead m' ≡ at m d 3 → 1 ≤ at m' d 0 → DeadList m' n dead
  listed_less dead b head is =
      let self = hit_eq d d refl in
      let out : occ d dead ≡ 0 = omega (arith, b.deads d lo hi, hit_le (at m d 0) 0) in
      record {
        deads = λ q l h. elim (cases_eq q d) [
          | inl e ↦ subst (λ z. occ z dead ≡ hit (at m' z 0) 0) (sym e) (omega (arith, hit_ne (at m' d 0) 0 (omega arith)))
          | inr ne ↦ omega (arith, b.deads q l h, ap (λ z. hit z 0) (at_cell m m' q (near.others q l ne) 0), hit_ne d q (λ e. ne (sym e)))
        ];
        inside = λ q h. b.inside q (omega arith);
        chain =
            subst (λ z. Chain m' z dead) (sym head)
            (chain_move m m' (at m d 3) dead b.chain.1
            (λ q h. at_cell m m' q (near.others q (b.inside q (omega arith)).0 (not_held d dead out q h)) 3));
      }

  -- the children of d stay
  pub ranked_same : Ranked m n → at m' d 1 ≡ at m d 1 → at m' d 2 ≡ at m d 2 → Ranked m' n
  ranked_same r left right =
      let one : (q : ℕ) → 8 ≤ q → at m' q 1 ≡ at m q 1 = λ q l.
      elim (cases_eq q d) [ inl e ↦ subst (λ z. at m' z 1 ≡ at m z 1) (sym e) left | inr ne ↦ at_cell m m' q (near.others q l ne) 1 ] in
      let two : (q : ℕ) → 8 ≤ q → at m' q 2 ≡ at m q 2 = λ q l.
      elim (cases_eq q d) [ inl e ↦ subst (λ z. at m' z 2 ≡ at m z 2) (sym e) right | inr ne ↦ at_cell m m' q (near.others q l ne) 2 ] in
      record {
        rank = r.rank;
        left = λ q l h o. omega (arith, ap r.rank (one q l), r.left q l h (omega (arith, one q l)));
        right = λ q l h o. omega (arith, ap r.rank (two q l), r.right q l h (omega (arith, two q l)));
      }

-- d, which is no cell's child, gets other children; it may be one more cell
pub ranked_fill : (m m' : List ℕ) (n n' d : ℕ) → Ranked m n → Apart m n d → at m' d 1 ≢ d → at m' d 2 ≢ d
    → ((q : ℕ) → 8 ≤ q → q < 8 + n' → q ≢ d → q < 8 + n) → ((q : ℕ) → 8 ≤ q → q < 8 + n → q ≢ d → cell m' q ≡ cell m q) → Ranked m' n'
ranked_fill m m' n n' d a apart no_left no_right old same =
    let l = at m' d 1 in
    let r = at m' d 2 in
    let f : ℕ → ℕ = λ q. cond (eqb q d) (a.rank l + a.rank r + 1) (a.rank q) in
    let other : (q : ℕ) → q ≢ d → f q ≡ a.rank q = λ q ne. cond-false (eqb q d) _ _ (ne_eqb q d ne) in
    let self : (q : ℕ) → q ≡ d → f q ≡ a.rank l + a.rank r + 1 = λ q e. cond-true (eqb q d) _ _ (eq-eqb q d e) in
    record {
      rank = f;
      left = λ q lq h o. elim (cases_eq q d) [
        | inl e ↦ omega (arith, self q e, other l no_left, ap (λ z. f (at m' z 1)) e)
        | inr ne ↦
            let hq = old q lq h ne in
            let is = at_cell m m' q (same q lq hq ne) 1 in
            omega (arith, other q ne, ap f is, other (at m q 1) (apart q lq hq).0, a.left q lq hq (omega arith))
      ];
      right = λ q lq h o. elim (cases_eq q d) [
        | inl e ↦ omega (arith, self q e, other r no_right, ap (λ z. f (at m' z 2)) e)
        | inr ne ↦
            let hq = old q lq h ne in
            let is = at_cell m m' q (same q lq hq ne) 2 in
            omega (arith, other q ne, ap f is, other (at m q 2) (apart q lq hq).1, a.right q lq hq (omega arith))
      ];
    }

-- Where the cells but d are the same, and none has d as a child, each tree that does not begin at d stays.
pub val_apart : (m m' xs : List ℕ) (n d : ℕ) → Counted m xs n → Apart m n d → ((q : ℕ) → 8 ≤ q → q < 8 + n → q ≢ d → cell m' q ≡ cell m q)
    → (v : Tree) (p : ℕ) → Known n p → p ≢ d → Val m p v → Val m' p v
val_apart m m' xs n d s apart same none p known ne v = v
val_apart m m' xs n d s apart same (node l r w) p known ne v =
    let lo = v.0 in
    let hi = (known (omega arith)).1 in
    let e = same p lo hi ne in (
      lo,
      subst (λ z. Val m' z l) (sym (at_cell m m' p e 1)) (val_apart m m' xs n d s apart same l (at m p 1) (s.left p lo hi) (apart p lo hi).0 v.1),
      subst (λ z. Val m' z r) (sym (at_cell m m' p e 2)) (val_apart m m' xs n d s apart same r (at m p 2) (s.right p lo hi) (apart p lo hi).1 v.2),
      ap (drop 3) e ∙ v.3,
    )

-- the words of a cell but its count
pub record Body (m m' : List ℕ) (q : ℕ) : Type 0 where
  pub left : at m' q 1 ≡ at m q 1
  pub right : at m' q 2 ≡ at m q 2
  pub word : drop 3 (cell m' q) ≡ drop 3 (cell m q)

pub body : (m m' : List ℕ) (q : ℕ) → cell m' q ≡ cell m q → Body m m' q
body m m' q e = record { left = at_cell m m' q e 1; right = at_cell m m' q e 2; word = ap (drop 3) e }

-- Where rows differ in counts alone, each tree stays.
pub val_body : (m m' : List ℕ) → ((q : ℕ) → 8 ≤ q → Body m m' q) → (v : Tree) (p : ℕ) → Val m p v → Val m' p v
val_body m m' same none p v = v
val_body m m' same (node l r w) p v =
    let b = same p v.0 in (
      v.0,
      subst (λ z. Val m' z l) (sym b.left) (val_body m m' same l (at m p 1) v.1),
      subst (λ z. Val m' z r) (sym b.right) (val_body m m' same r (at m p 2) v.2),
      b.word ∙ v.3,
    )
