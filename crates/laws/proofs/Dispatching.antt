-- Which way a key takes: it is a repeat, or it is typed, inserting or not.
use Rattle.std.proofs.Common.{◌≡◌, ℕ, true, false, not, ap}
use Rattle.std.proofs.lemmas.Bool.{and_parts, not-true, cond-true, cond-false}
use Rattle.spec.specs.Editor.{Ed}
use Rattle.spec.specs.Dispatch.{normal_key, noted, typed_key, repeat_last, repeats, pending_count, scrolled, key}

-- a key is a repeat only outside of inserting
pub repeats_outside : (e : Ed) (k : ℕ) → repeats e k ≡ true → e.inserting ≡ false
unfolding repeats
repeats_outside e k q = not-true e.inserting (and_parts (not e.inserting) _ q).0

pub key_repeated : (e : Ed) (k : ℕ) → repeats e k ≡ true → key e k ≡ scrolled (repeat_last e (pending_count e.command.pending))
unfolding key
key_repeated e k h = ap scrolled (cond-true _ _ _ h)

pub key_typed : (e : Ed) (k : ℕ) → repeats e k ≡ false → key e k ≡ scrolled (typed_key e k)
unfolding key
key_typed e k h = ap scrolled (cond-false _ _ _ h)

pub typed_outside : (e : Ed) (k : ℕ) → e.inserting ≡ false → typed_key e k ≡ normal_key (noted e k) k
unfolding typed_key
typed_outside e k o = cond-false _ _ _ o
