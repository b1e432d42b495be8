use Rattle.std.proofs.Common.{ℕ, ◌+◌, List, [], ◌∷◌, sym, ◌∙◌, subst, arith}
use Rattle.cells.specs.Tree.{none, node}
use Rattle.cells.specs.Have.{item, Have, Lent}
use Rattle.cells.specs.Steps.{Reading, LeftRead}
use Rattle.cells.proofs.Held.{lend}
use Rattle.chain.specs.Chains.{paired, numbered}
use Rattle.chain.proofs.number_below.Goals as goal

module _ (m : List ℕ) (p n : ℕ) (h : Have m (item p (paired n) ∷ [])) where
  reading : Reading m p
  reading =
      record {
        rest = item p (paired n) ∷ [];
        left = node none none (numbered n);
        right = none;
        word = numbered (n + 1);
        have = h;
        lent = lend m p (paired n) [] h;
      }

  below : (q : ℕ) → LeftRead m p q → Lent m q (node none none (numbered n))
  below q read = read.lent (node none none (numbered n)) none (numbered (n + 1)) (item p (paired n) ∷ []) h (lend m p (paired n) [] h)

  reading_below : (q : ℕ) → LeftRead m p q → Reading m q
  reading_below q read = record { rest = item p (paired n) ∷ []; left = none; right = none; word = numbered n; have = h; lent = below q read }

pub left-below-requires : goal.left-below-requires
left-below-requires g c = reading _ _ c.requires.number c.requires.have

pub data_word-requires : goal.data_word-requires
data_word-requires g c =
    record {
      node = rw c.left-below.ensures.same (reading_below _ c.args.p.0 c.requires.number c.requires.have _ c.left-below.ensures.lent);
      word = omega arith;
    }

pub returns : goal.returns
returns g c =
    let m = g.W.Words.row c.args.words.now in
    let q = c.left-below.result.0 in
    let t = λ (n : ℕ). node none none (numbered n) in
    record {
      value = λ n h.
          (let there : Lent (g.W.Words.row c.left-below.new.words) q (t n) =
          subst (λ z. Lent z q (t n)) (sym c.left-below.ensures.same) (below m c.args.p.0 n h q c.left-below.ensures.lent) in
          c.data_word.ensures.value.is none none (numbered n) there.stands);
      same = c.data_word.ensures.same ∙ c.left-below.ensures.same;
    }
