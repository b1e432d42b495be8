use Rattle.ropes.proofs.Cuts.{bytes_front, bytes_back, front_ok, back_ok}
use Rattle.ropes.proofs.Edits.{bytes_slice, slice_ok}
use Rattle.ropes.proofs.cut_laws.Goals as goal

pub returns : goal.returns
returns c =
    record {
      front_bytes = bytes_front;
      back_bytes = bytes_back;
      front_whole = λ t i w. (front_ok t i w).whole;
      back_whole = λ t i w. (back_ok t i w).whole;
      slice_bytes = bytes_slice;
      slice_whole = λ t a b w. (slice_ok t a b w).whole;
    }
