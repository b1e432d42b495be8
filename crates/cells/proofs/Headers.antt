-- A fresh header, a write to the state, and zeros behind the row.
use Rattle.std.proofs.Common.{◌≡◌, ℕ, ◌+◌, ◌<◌, ◌≤◌, List, [], ◌++◌, length, get_or, take, drop, set, replicate, refl, ap, ◌∙◌, subst, arith, length-append}
use Rattle.std.proofs.Math.Seq.{take-set-lt}
use Rattle.std.proofs.lemmas.List.{length-set, length-drop, get_or-take, take-set-le}
use Rattle.words.specs.Padded.{zeros}
use Rattle.cells.specs.Layout.{cell, at, state, roots, taken, first_dead, fresh}
use Rattle.cells.specs.Tree.{Tree, none, node}
use Rattle.cells.specs.Sound.{Sound}
use Rattle.cells.specs.Have.{Item, refs, Have, Lent}
use Rattle.cells.specs.Steps.{Begun, Stays}
use Rattle.cells.specs.Theorems.{LongerRow}
use Rattle.cells.proofs.Rows.{at_cell, cell_state, cell_longer, state_longer}
use Rattle.cells.proofs.Held.{Agree, have_agree, val_agree}

fresh_taken : (m : List ℕ) → taken (fresh m) ≡ 8
unfolding at cell
fresh_taken m = refl

fresh_dead : (m : List ℕ) → first_dead (fresh m) ≡ 0
unfolding at cell
fresh_dead m = refl

fresh_state : (m : List ℕ) → state (fresh m) ≡ replicate 112 0
unfolding state
fresh_state m = refl

length_fresh : (m : List ℕ) → 128 ≤ length m → length (fresh m) ≡ length m
length_fresh m h = omega (arith, length-append (replicate 127 0) (drop 128 m), length-drop 128 m)

pub begun : (m : List ℕ) → 128 ≤ length m → Begun m (fresh m)
begun m long =
    record {
      long = length_fresh m long;
      have = record {
        sound = record {
          cells = 0;
          dead = [];
          counted = record {
            top = fresh_taken m;
            few = omega arith;
            fits = omega (arith, length_fresh m long);
            holds = λ p h. absurd (omega arith);
            left = λ q lo hi. absurd (omega arith);
            right = λ q lo hi. absurd (omega arith);
            counts = λ p lo hi. absurd (omega arith);
          };
          listed = record { deads = λ p lo hi. absurd (omega arith); inside = λ p h. absurd (omega arith); chain = fresh_dead m };
          ranked = record { rank = λ q. 0; left = λ q lo hi o. absurd (omega arith); right = λ q lo hi o. absurd (omega arith) };
        };
        stand = tt;
      };
      state = fresh_state m;
      same = refl;
    }

-- what is lent, in a row that agrees
lent_agree : (m m' : List ℕ) → Agree m m' → (q : ℕ) (v : Tree) (rest : List Item) → Have m rest → Lent m q v → Lent m' q v
lent_agree m m' a q none rest h l = record { stands = l.stands; below = λ one. absurd (omega (arith, l.stands)); live = λ one. absurd (omega (arith, l.stands)) }
lent_agree m m' a q (node u v w) rest h l =
    let c = h.sound.counted in
    let lo = l.stands.0 in
    let one : 1 ≤ q = omega arith in
    let hi : q < 8 + h.sound.cells = omega (arith, l.below one, c.top) in
    record {
      stands = val_agree m m' a (refs rest) h.sound.cells c (node u v w) q (λ _. (lo, hi)) l.stands;
      below = λ o. omega (arith, l.below o, a.top);
      live = λ o. omega (arith, l.live o, at_cell m m' q (a.cells q lo (omega (arith, c.fits))) 0);
    }

pub stays : (m : List ℕ) (i x : ℕ) → i < 112 → Stays m (set m (16 + i) x)
stays m i x lt =
    let m' = set m (16 + i) x in
    let header = cell_state m i x lt 0 (λ one. absurd (omega arith)) in
    let agree : Agree m m' =
    record {
      long = omega (arith, length-set m (16 + i) x);
      top = at_cell m m' 0 header 0;
      head = at_cell m m' 0 header 1;
      cells = λ q lo h. cell_state m i x lt q (λ one. lo);
    } in
    record { long = length-set m (16 + i) x; have = λ items. have_agree m m' agree items; lent = lent_agree m m' agree }

pub longer_row : LongerRow
longer_row m items n h =
    let zs : List ℕ = zeros n in
    let fits = h.sound.counted.fits in
    let header = cell_longer m zs 0 (omega arith) in
    let agree : Agree m (m ++ zs) =
    record {
      long = omega (arith, length-append m zs);
      top = at_cell m (m ++ zs) 0 header 0;
      head = at_cell m (m ++ zs) 0 header 1;
      cells = λ q lo within. cell_longer m zs q within;
    } in
    (have_agree m (m ++ zs) agree items h, state_longer m zs (omega arith))

-- the references of the state are its first words
pub root_word : (m : List ℕ) (k : ℕ) → k < 16 → get_or (roots m) k 0 ≡ get_or (state m) k 0
root_word m k lt = get_or-take 16 (state m) k 0 lt

pub roots_set : (m m' : List ℕ) (k x : ℕ) → k < 16 → state m' ≡ set (state m) k x → roots m' ≡ set (roots m) k x
roots_set m m' k x lt e = ap (take 16) e ∙ take-set-lt 16 (state m) k x lt

pub roots_same : (m m' : List ℕ) (k x : ℕ) → 16 ≤ k → state m' ≡ set (state m) k x → roots m' ≡ roots m
roots_same m m' k x le e = ap (take 16) e ∙ take-set-le 16 (state m) k x le

-- what is held is what the state names: the heap is stored
pub stored : (m : List ℕ) (items : List Item) → refs items ≡ roots m → Have m items → Sound m (roots m)
stored m items e h = subst (λ zs. Sound m zs) e h.sound
