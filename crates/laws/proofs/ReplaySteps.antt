-- A replay key by key from its front, as a loop does it: what is left to type leads to the same end, and each editor on the way is a passed one.
use Rattle.std.proofs.Common.{◌≡◌, ℕ, ◌<◌, List, ◌∷◌, length, refl, ◌∙◌, arith}
use Rattle.std.proofs.lemmas.Bool.{cond-false, cond-true, eq-eqb, ne_eqb}
use Rattle.spec.specs.Editor.{Ed}
use Rattle.spec.specs.Dispatch.{typed_key, replay}
use Rattle.spec.specs.HistoryLaws.{Joining, Replaying, during, behind, further}

-- from an editor and keys to type, an editor and the keys that are left
pub data Typed (e : Ed) (ks : List ℕ) : Ed → List ℕ → Type 0 where
  nothing : Typed e ks e ks
  more : {f : Ed} {k : ℕ} {rest : List ℕ} → Typed e ks f (k ∷ rest) → 0 < length (typed_key f k).command.keys → Typed e ks (typed_key f k) rest

pub replay_goes_on : (e : Ed) (k : ℕ) (rest : List ℕ) → 0 < length (typed_key e k).command.keys → replay e (k ∷ rest) ≡ replay (typed_key e k) rest
unfolding replay
replay_goes_on e k rest l = cond-false _ (typed_key e k) _ (ne_eqb (length (typed_key e k).command.keys) 0 (λ n. omega arith))

pub replay_ends : (e : Ed) (k : ℕ) (rest : List ℕ) → length (typed_key e k).command.keys ≡ 0 → replay e (k ∷ rest) ≡ typed_key e k
unfolding replay
replay_ends e k rest n = cond-true _ (typed_key e k) _ (eq-eqb (length (typed_key e k).command.keys) 0 n)

pub typed_replay : {e : Ed} {ks : List ℕ} {f : Ed} {rest : List ℕ} → Typed e ks f rest → replay e ks ≡ replay f rest
typed_replay nothing = refl
typed_replay (more {f = f} {k = k} {rest = rest} t l) = typed_replay t ∙ replay_goes_on f k rest l

typed_further : {e : Ed} {ks : List ℕ} {f : Ed} {rest : List ℕ} → Typed e ks f rest → {g : Ed} → Replaying f rest g → Replaying e ks g
typed_further nothing p = p
typed_further (more t l) p = typed_further t (further l p)

pub typed_behind : {e f : Ed} {ks rest : List ℕ} {k : ℕ} → Typed e ks f (k ∷ rest) → Replaying e ks (typed_key f k)
typed_behind t = typed_further t behind

pub typed_during : {e f g : Ed} {ks rest : List ℕ} {k : ℕ} → Typed e ks f (k ∷ rest) → Joining f k g → Replaying e ks g
typed_during t j = typed_further t (during j)
