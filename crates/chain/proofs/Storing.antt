-- The steps of storing a pair: it is shared, named by the state, opened, and its parts are let go.
use Rattle.std.proofs.Common.{◌≡◌, ℕ, ◌+◌, ◌≤◌, List, [], ◌∷◌, length, get_or, ap, arith}
use Rattle.cells.specs.Tree.{Tree, none, node}
use Rattle.cells.specs.Have.{item, Have}
use Rattle.cells.specs.Steps.{Sharing, Shared, Stays, Opening, Opened, Holding, Released}
use Rattle.cells.proofs.Held.{lend}
use Rattle.chain.specs.Chains.{numbered, paired, Pair}

-- the cell below
abbrev lower : ℕ → Tree
lower n = node none none (numbered n)

pub pair_long : (m : List ℕ) (p : ℕ) → Pair m p → 128 ≤ length m
pair_long m p a = omega (arith, a.have.sound.counted.fits)

pub pair_share : (m : List ℕ) (p : ℕ) → Pair m p → Sharing m p
pair_share m p a =
    let x = item p (paired a.number) in
    record { rest = x ∷ []; tree = paired a.number; have = a.have; lent = lend m p (paired a.number) [] a.have; few = omega arith }

module _ (m m1 m2 : List ℕ) (p : ℕ) (shared : Shared m m1 p) (stays : Stays m1 m2) where
  twice : (n : ℕ) → Have m (item p (paired n) ∷ []) → Have m2 (item p (paired n) ∷ (item p (paired n) ∷ []))
  twice n h = stays.have (item p (paired n) ∷ (item p (paired n) ∷ [])) (shared.have (paired n) (item p (paired n) ∷ []) (lend m p (paired n) [] h) h)

  pub pair_open : Pair m p → Opening m2 p
  pair_open a =
      record {
        left = lower a.number;
        right = none;
        word = numbered (a.number + 1);
        rest = item p (paired a.number) ∷ [];
        have = twice a.number a.have;
        few = omega arith;
      }

  module _ (m3 : List ℕ) (l r : ℕ) (w : List ℕ) (opened : Opened m2 m3 p l r w) where
    parts : (n : ℕ) → Have m (item p (paired n) ∷ []) → Have m3 (item l (lower n) ∷ (item r none ∷ (item p (paired n) ∷ [])))
    parts n h = opened.parted.have (lower n) none (numbered (n + 1)) (item p (paired n) ∷ []) (twice n h)

    pub pair_upper : (n : ℕ) → Have m (item p (paired n) ∷ []) → get_or w 0 0 ≡ n + 1
    pair_upper n h = ap (λ z. get_or z 0 0) (opened.word (lower n) none (numbered (n + 1)) (item p (paired n) ∷ []) (twice n h))

    pub pair_left : Pair m p → Holding m3 l
    pair_left a = record { tree = lower a.number; rest = item r none ∷ (item p (paired a.number) ∷ []); have = parts a.number a.have }

    module _ (m4 : List ℕ) (gone : Released m3 m4 l) where
      pub pair_right : Pair m p → Holding m4 r
      pair_right a =
          record {
            tree = none;
            rest = item p (paired a.number) ∷ [];
            have = gone.have (lower a.number) (item r none ∷ (item p (paired a.number) ∷ [])) (parts a.number a.have);
          }

      pub pair_stored : (m5 : List ℕ) → Released m4 m5 r → (n : ℕ) → Have m (item p (paired n) ∷ []) → Have m5 (item p (paired n) ∷ [])
      pair_stored m5 last n h = last.have none (item p (paired n) ∷ []) (gone.have (lower n) (item r none ∷ (item p (paired n) ∷ [])) (parts n h))
