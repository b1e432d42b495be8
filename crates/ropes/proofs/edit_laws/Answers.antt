use Rattle.ropes.proofs.Edits.{bytes_replace, replace_ok, bytes_repeat, repeat_whole}
use Rattle.ropes.proofs.Builds.{bytes_from_bytes, from_bytes_whole}
use Rattle.ropes.proofs.edit_laws.Goals as goal

pub returns : goal.returns
returns c =
    record {
      replace_bytes = bytes_replace;
      replace_whole = λ t a b new w v. (replace_ok t a b new w v).whole;
      repeat_bytes = bytes_repeat;
      repeat_whole = repeat_whole;
      from_bytes_bytes = bytes_from_bytes;
      from_bytes_whole = from_bytes_whole;
    }
