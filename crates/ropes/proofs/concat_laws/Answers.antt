use Rattle.ropes.proofs.Joins.{bytes_concat, concat_ok}
use Rattle.ropes.proofs.concat_laws.Goals as goal

pub returns : goal.returns
returns c =
    record {
      concat_bytes = bytes_concat;
      concat_whole = λ l r wl wr. (concat_ok l r wl wr).whole;
      concat_low = λ l r wl wr. (concat_ok l r wl wr).low;
      concat_high = λ l r wl wr. (concat_ok l r wl wr).high;
    }
