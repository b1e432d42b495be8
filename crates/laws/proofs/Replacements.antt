-- Changes that lead from one text to another: unmaking them leads back, making them again leads on.
use Rattle.std.proofs.Common.{◌≡◌, ℕ, ◌+◌, ◌-◌, ◌≤◌, List, [], ◌∷◌, ◌++◌, length, take, drop, sym, refl, ap, ◌∙◌, subst}
use Rattle.lists.proofs.Replaced.{put_back, take_own, drop_behind}
use Rattle.spec.specs.Text.{Text, part, replaced}
use Rattle.spec.specs.Editor.{Change}
use Rattle.spec.specs.History.{unmade, remade}

-- a change's old bytes stand at its place in a text
pub record Lies (c : Change) (t : Text) : Type 0 where
  pub place : c.place ≤ length t
  pub old : take (length c.old) (drop c.place t) ≡ c.old

-- changes, the newest first, that lead from a text to another
abbrev pub Applies : List Change → Text → Text → Type 0
Applies [] s t = s ≡ t
Applies (c ∷ cs) s t = (m : Text) × Applies cs s m × Lies c m × (t ≡ replaced m c.place (c.place + length c.old) c.new)

-- what replacing the bytes from a up to b records
pub replacing : (t new : Text) (a b : ℕ) → a ≤ b → a ≤ length t → Applies (record { place = a; old = part t a b; new = new } ∷ []) t (replaced t a b new)
replacing t new a b h k =
    (t, refl, record { place = k; old = take_own (b - a) (drop a t) }, ap {B = Text} (λ r. take a t ++ (new ++ r)) (sym (drop_behind t a b h)))

pub then : (ds cs : List Change) (r s t : Text) → Applies ds s t → Applies cs r s → Applies (ds ++ cs) r t
then [] cs r s t p q = subst (λ x. Applies cs r x) p q
then (d ∷ ds) cs r s t p q = (p.0, then ds cs r s p.0 p.1 q, p.2, p.3)

pub remade_applies : (cs : List Change) (s t : Text) → Applies cs s t → remade cs s ≡ t
unfolding remade
remade_applies [] s t p = p
remade_applies (c ∷ cs) s t p =
    ap (λ r. replaced r c.place (c.place + length c.old) c.new) (remade_applies cs s p.0 p.1) ∙ sym p.3

one_unmade : (c : Change) (m t : Text) → Lies c m → t ≡ replaced m c.place (c.place + length c.old) c.new → replaced t c.place (c.place + length c.new) c.old ≡ m
one_unmade c m t l e =
    ap (λ r. replaced r c.place (c.place + length c.new) c.old) e ∙ put_back m c.old c.new c.place l.place l.old

pub unmade_applies : (cs : List Change) (s t : Text) → Applies cs s t → unmade cs t ≡ s
unfolding unmade
unmade_applies [] s t p = sym p
unmade_applies (c ∷ cs) s t p =
    ap (unmade cs) (one_unmade c p.0 t p.2 p.3) ∙ unmade_applies cs s p.0 p.1
