-- The steps of taking a node apart: its children are shared, the right one first, and it is let go.
use Rattle.std.proofs.Common.{◌≡◌, ℕ, ◌+◌, ◌*◌, ◌≤◌, List, ◌∷◌, length, drop, Some, None, Option, sym, ◌∙◌, subst, arith, MatchOption}
use Rattle.cells.specs.Layout.{cell, at}
use Rattle.cells.specs.Tree.{Tree, node}
use Rattle.cells.specs.declared.cell.Ref.{Ref}
use Rattle.cells.specs.Have.{Item, item, refs, Have, Lent, opt}
use Rattle.cells.specs.Steps.{Reading, Sharing, Shared, Holding, Released, Opening, Parted, Opened, Made, GaveUp}
use Rattle.cells.proofs.Held.{reorder, held, lend, lend_left, lend_right}

-- a node that may be read lies within the row
pub read_within : (m : List ℕ) (p : ℕ) → Reading m p → 16 * p + 16 ≤ length m
read_within m p a = omega (arith, a.lent.stands.0, a.lent.below (omega (arith, a.lent.stands.0)), a.have.sound.counted.top, a.have.sound.counted.fits)

-- and so does one that is held
pub open_within : (m : List ℕ) (p : ℕ) → Opening m p → 16 * p + 16 ≤ length m
open_within m p a = (held m (refs a.rest) p (omega (arith, a.have.stand.0.0)) a.have.sound).within

module _ (m : List ℕ) (p l r : ℕ) (is_l : l ≡ at m p 1) (is_r : r ≡ at m p 2) where
  right_lent : (u v : Tree) (x : List ℕ) (rest : List Item) → Have m (item p (node u v x) ∷ rest) → Lent m r v
  right_lent u v x rest h =
      subst (λ z. Lent m z v) (sym is_r) (lend_right m p u v x (item p (node u v x) ∷ rest) h (lend m p (node u v x) rest h))

  left_lent : (u v : Tree) (x : List ℕ) (rest : List Item) → Have m (item p (node u v x) ∷ rest) → Lent m l u
  left_lent u v x rest h =
      subst (λ z. Lent m z u) (sym is_l) (lend_left m p u v x (item p (node u v x) ∷ rest) h (lend m p (node u v x) rest h))

  pub share_right : Opening m p → Sharing m r
  share_right a =
      record {
        rest = item p (node a.left a.right a.word) ∷ a.rest;
        tree = a.right;
        have = a.have;
        lent = right_lent a.left a.right a.word a.rest a.have;
        few = omega (arith, a.few);
      }

  module _ (m1 : List ℕ) (one : Shared m m1 r) where
    after_right : (u v : Tree) (x : List ℕ) (rest : List Item) → Have m (item p (node u v x) ∷ rest) → Have m1 (item r v ∷ (item p (node u v x) ∷ rest))
    after_right u v x rest h = one.have v (item p (node u v x) ∷ rest) (right_lent u v x rest h) h

    pub share_left : Opening m p → Sharing m1 l
    share_left a =
        record {
          rest = item r a.right ∷ (item p (node a.left a.right a.word) ∷ a.rest);
          tree = a.left;
          have = after_right a.left a.right a.word a.rest a.have;
          lent = one.lent l a.left (left_lent a.left a.right a.word a.rest a.have);
          few = omega (arith, a.few);
        }

    module _ (m2 : List ℕ) (two : Shared m1 m2 l) where
      after_left : (u v : Tree) (x : List ℕ) (rest : List Item) → Have m (item p (node u v x) ∷ rest) → Have m2 (item p (node u v x) ∷ (item l u ∷ (item r v ∷ rest)))
      after_left u v x rest h =
          reorder m2 (item l u ∷ (item r v ∷ (item p (node u v x) ∷ rest))) (item p (node u v x) ∷ (item l u ∷ (item r v ∷ rest))) (λ q. omega arith)
          (λ s. (s.1.1.0, (s.0, (s.1.0, s.1.1.1))))
          (two.have u (item r v ∷ (item p (node u v x) ∷ rest)) (one.lent l u (left_lent u v x rest h)) (after_right u v x rest h))

      pub release_node : Opening m p → Holding m2 p
      release_node a =
          record {
            tree = node a.left a.right a.word;
            rest = item l a.left ∷ (item r a.right ∷ a.rest);
            have = after_left a.left a.right a.word a.rest a.have;
          }

      pub parted : (m3 : List ℕ) → Released m2 m3 p → Parted m m3 p l r
      parted m3 gone =
          record { have = λ u v x rest h. gone.have (node u v x) (item l u ∷ (item r v ∷ rest)) (after_left u v x rest h) }

-- a node that was parted, and its data words as they were read before
pub opened : (m m' : List ℕ) (p l r : ℕ) (w : List ℕ) → w ≡ drop 3 (cell m p) → Parted m m' p l r → Opened m m' p l r w
opened m m' p l r w is_w a = record { parted = a; word = λ u v x rest h. is_w ∙ h.stand.0.3 }

-- what making a node, or giving up, leaves held
pub made_have : (m m' : List ℕ) (d : Option Ref) (l r : ℕ) (w : List ℕ) → MatchOption d (GaveUp m m' l r) (λ x. Made m m' x.0 l r w)
    → (u v : Tree) (rest : List Item) → Have m (item l u ∷ (item r v ∷ rest)) → Have m' (opt d (node u v w) rest)
made_have m m' None l r w c u v rest h = c.dropped.have u v rest h
made_have m m' (Some d) l r w c u v rest h = c.have u v rest h
