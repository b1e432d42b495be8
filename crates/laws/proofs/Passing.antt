-- Every editor on the way of a key weighs no more than the editors before and behind it allow.
use Rattle.std.proofs.Common.{◌≡◌, ℕ, suc, ◌-◌, ◌<◌, ◌≤◌, true, false, eqb, List, [], ◌∷◌, ◌++◌, length, sym, refl, ap, ◌∙◌, subst, arith, length-append}
use Rattle.std.proofs.lemmas.Bool.{cond_both, eqb-false}
use Rattle.spec.specs.Text.{Text}
use Rattle.spec.specs.Motions.{times, or_one}
use Rattle.spec.specs.Keys.{join_lines}
use Rattle.spec.specs.Editor.{Ed}
use Rattle.spec.specs.History.{cancel}
use Rattle.spec.specs.Commands.{join_once}
use Rattle.spec.specs.Dispatch.{noted, typed_key, replay, repeat_last, repeats, pending_count, scrolled, key}
use Rattle.spec.specs.HistoryLaws.{Joining, joined, Replaying as PassedReplay, during, behind, further, repeated, Passed, joining, replayed, replaying, Between}
use Rattle.laws.proofs.HistoryEdits.{Edits}
use Rattle.laws.proofs.HistoryOutcomes.{Within}
use Rattle.laws.proofs.Sound.{Sound}
use Rattle.laws.proofs.Dispatching.{repeats_outside, key_repeated}
use Rattle.laws.proofs.Progress.{Progress, progress_none, progress_then, scrolled_progress}
use Rattle.laws.proofs.Replays.{Replayed, Replaying, Stepped, ended, going, Done, replaying_progress, typed_stepped, stepped_going, replaying_done, replay_begins, replays_done, repeated_done, more, same, parts_more}
use Rattle.laws.proofs.UndoAll.{times_last}
use Rattle.laws.proofs.ReplaySteps.{replay_goes_on}
use Rattle.laws.proofs.OnTheWay.{runs_key, times_split, OnWay, on_way_within, between, joined_edits, joining_on_way}

-- Within a replay.

-- an editor on the way of one, and its keys
record Passes (ks : List ℕ) (e f g : Ed) : Type 0 where
  way : OnWay e f g
  keys : length f.command.keys ≤ length ks
  last_keys : f.last_keys ≡ ks

passes_after : (ks : List ℕ) (e f g h : Ed) → Passes ks e f g → Progress g h → Passes ks e f h
passes_after ks e f g h p x = record { way = on_way_within e e f g h (progress_none e) p.way x; keys = p.keys; last_keys = p.last_keys }

passes_before : (ks : List ℕ) (d e f g : Ed) → Progress d e → Passes ks e f g → Passes ks d f g
passes_before ks d e f g x p = record { way = on_way_within d e f g g x p.way (progress_none g); keys = p.keys; last_keys = p.last_keys }

module _ (s : Text) (ks : List ℕ) where
  stepped_keys : (typed rest : List ℕ) (e : Ed) → length typed ≤ length ks → Stepped s ks typed rest e → (length e.command.keys ≤ length ks) × (e.last_keys ≡ ks)
  stepped_keys typed rest e h (ended r) = (omega (arith, ap length r.keys), r.last_keys)
  stepped_keys typed rest e h (going r) = (omega (arith, ap length r.keys), r.last_keys)

  module _ (typed rest : List ℕ) (e : Ed) (k : ℕ) (r : Replaying s ks typed (k ∷ rest) e) where
    typed_length : length (typed ++ (k ∷ [])) ≤ length ks
    typed_length = omega (arith, ap length (parts_more s ks typed rest e k r), length-append (typed ++ (k ∷ [])) rest)

    -- from behind the key on
    rest_progress : Progress (typed_key e k) (replay e (k ∷ rest))
    unfolding replay
    rest_progress =
        let f : Ed = typed_key e k in
        cond_both (eqb (length f.command.keys) 0) f (replay f rest) (Progress f) (λ _. progress_none f) (λ n. (replaying_done s ks rest (typed ++ (k ∷ [])) f (stepped_going s ks typed rest k f (typed_stepped s ks typed rest e k r) (eqb-false _ 0 n))).progress)

    behind_passes : Passes ks e (typed_key e k) (replay e (k ∷ rest))
    behind_passes =
        let t = stepped_keys (typed ++ (k ∷ [])) rest (typed_key e k) typed_length (typed_stepped s ks typed rest e k r) in
        record { way = record { before = replaying_progress s ks typed rest e k r; after = rest_progress }; keys = t.0; last_keys = t.1 }

    during_passes : {f : Ed} → Joining e k f → Passes ks e f (replay e (k ∷ rest))
    during_passes (joined n j a l) =
        let w : Within e = r.sound.within in
        let x : Edits (noted e k) (times j join_once (noted e k)) = joined_edits e k n j a w l in
        record {
          way = on_way_within e e _ (typed_key e k) _ (progress_none e) (joining_on_way e k n j a w l) rest_progress;
          keys = omega (arith, ap length (x.keys ∙ more s ks typed rest e k r), typed_length);
          last_keys = x.last_keys ∙ same s ks typed rest e k r;
        }

    goes_on_replaying : 0 < length (typed_key e k).command.keys → Replaying s ks (typed ++ (k ∷ [])) rest (typed_key e k)
    goes_on_replaying l = stepped_going s ks typed rest k (typed_key e k) (typed_stepped s ks typed rest e k r) (λ n. omega arith)

    further_passes : {f : Ed} → 0 < length (typed_key e k).command.keys → Passes ks (typed_key e k) f (replay (typed_key e k) rest) → Passes ks e f (replay e (k ∷ rest))
    further_passes {f} l p = rw (replay_goes_on e k rest l) (passes_before ks e (typed_key e k) f _ (replaying_progress s ks typed rest e k r) p)

  replay_passes : {e f : Ed} {rest : List ℕ} (typed : List ℕ) → Replaying s ks typed rest e → PassedReplay e rest f → Passes ks e f (replay e rest)
  replay_passes typed r (during j) = during_passes typed _ _ _ r j
  replay_passes typed r behind = behind_passes typed _ _ _ r
  replay_passes typed r (further l p) = further_passes typed _ _ _ r l (replay_passes _ (goes_on_replaying typed _ _ _ r l) p)

  whole_passes : (e f : Ed) (js : List ℕ) → ks ≡ js → Replayed s ks e → PassedReplay e js f → Passes ks e f (replay e ks)
  whole_passes e f [] n r p = elim p [ ]
  whole_passes e f (k ∷ js) n r p = replay_passes [] (replay_begins s ks k js e n r) (subst (λ is. PassedReplay e is f) (sym n) p)

-- On the way of a repeat.

module _ (s : Text) (e : Ed) (h : Sound s e) (idle : e.inserting ≡ false) where
  typed_again : (i : ℕ) → Done s e.last_keys e (repeated e i)
  typed_again i = repeated_done s e idle h i

  -- from there to the end
  to_end : (i n : ℕ) → i ≤ n → Progress (repeated e i) (repeated e n)
  to_end i n l =
      let r : Replayed s e.last_keys (repeated e i) = (typed_again i).replayed in
      rw (times_split i n (λ f. replay f e.last_keys) (cancel e) l) (replays_done s e.last_keys (n - i) (repeated e i) r).progress

  once_more : (i : ℕ) → repeated e (suc i) ≡ replay (repeated e i) e.last_keys
  once_more i = times_last i (λ f. replay f e.last_keys) (cancel e)

  -- the keys for . are there at the end, too
  last_keys_scrolled : (n : ℕ) → (scrolled (repeated e n)).last_keys ≡ e.last_keys
  unfolding scrolled
  last_keys_scrolled n = (typed_again n).replayed.last_keys

  between_replays : (i n : ℕ) → i ≤ n → Between e (repeated e i) (scrolled (repeated e n))
  between_replays i n l =
      let d : Done s e.last_keys e (repeated e i) = typed_again i in
      between e (repeated e i) _ (record { before = d.progress; after = progress_then _ _ _ (to_end i n l) (scrolled_progress _) }) (omega (arith, ap length d.replayed.keys, ap length d.replayed.last_keys))

  between_keys : (i n : ℕ) (f : Ed) → i < n → PassedReplay (repeated e i) e.last_keys f → Between e f (scrolled (repeated e n))
  between_keys i n f l p =
      let d : Done s e.last_keys e (repeated e i) = typed_again i in
      let x : Passes e.last_keys (repeated e i) f (replay (repeated e i) e.last_keys) = whole_passes s e.last_keys (repeated e i) f e.last_keys refl d.replayed p in
      let y : Progress (replay (repeated e i) e.last_keys) (repeated e n) = rw (once_more i) at (to_end (suc i) n l) in
      between e f _ (on_way_within e (repeated e i) f _ _ d.progress x.way (progress_then _ _ _ y (scrolled_progress _))) (omega (arith, x.keys, ap length x.last_keys, ap length (last_keys_scrolled n)))

repeat_key : (e : Ed) (k : ℕ) → repeats e k ≡ true → key e k ≡ scrolled (repeated e (or_one (pending_count e.command.pending)))
unfolding key repeat_last
repeat_key e k r = key_repeated e k r

-- On the way of lines joined.

noted_lengths : (e : Ed) (k : ℕ) → (length (noted e k).command.keys ≡ suc (length e.command.keys)) × ((noted e k).last_keys ≡ e.last_keys)
unfolding noted
noted_lengths e k = (length-append e.command.keys (k ∷ []) ∙ omega arith, refl)

between_joins : (e : Ed) (k : ℕ) (f : Ed) → Within e → Joining e k f → Between e f (key e k)
between_joins e k f w (joined n j r l) =
    let x : Edits (noted e k) (times j join_once (noted e k)) = joined_edits e k n j r w l in
    let y : OnWay e (times j join_once (noted e k)) (typed_key e k) = joining_on_way e k n j r w l in
    rw (runs_key e k n join_lines r) (between e _ _ (on_way_within e e _ _ _ (progress_none e) y (scrolled_progress _)) (omega (arith, ap length x.keys, ap length x.last_keys, (noted_lengths e k).0, ap length (noted_lengths e k).1)))

pub passed_between : (s : Text) (e : Ed) (k : ℕ) (f : Ed) → Sound s e → Passed e k f → Between e f (key e k)
passed_between s e k f h (joining j) = between_joins e k f h.within j
passed_between s e k f h (replayed i r l) = rw (repeat_key e k r) (between_replays s e h (repeats_outside e k r) i _ l)
passed_between s e k f h (replaying i r l p) = rw (repeat_key e k r) (between_keys s e h (repeats_outside e k r) i _ f l p)
