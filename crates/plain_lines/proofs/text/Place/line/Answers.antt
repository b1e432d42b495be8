use Rattle.std.proofs.Common.{◌≡◌, ◌^◌, ◌≤◌, ◌==◌, length, take, count_by, arith, rules}
use Rattle.std.proofs.lemmas.Iterator.{YieldsList-from_slice}
use Rattle.std.proofs.lemmas.Iterator.Adapters.{fits_from_length, at_most_from_yields_List}
use Rattle.std.proofs.lemmas.List.Sums.{count_by-le-length}
use Rattle.plain_lines.proofs.text.Place.line.Goals as goal

pub sum-requires-clause-fits : goal.sum-requires-clause-fits
sum-requires-clause-fits c =
    let before = take c.args.self.at c.args.self.text.now in
    let few : length before ≤ 9223372036854775807 = search rules in
    fits_from_length _ _ 9223372036854775807 (2 ^ 64) (at_most_from_yields_List (YieldsList-from_slice before cc) few) c.map.ensures.closure (omega arith) (λ x r q k. search rules)

pub returns-clause-within : goal.returns-clause-within
returns-clause-within c =
    let before = take c.args.self.at c.args.self.text.now in
    let value : c.sum.result ≡ count_by (λ byte. byte == 10) before = search rules in
    let few : length before ≤ c.args.self.at = search rules in
    omega (arith, value, few, count_by-le-length (λ byte. byte == 10) before)
