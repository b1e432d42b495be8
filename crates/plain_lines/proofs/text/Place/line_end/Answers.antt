use Rattle.std.proofs.Common.{◌-◌, arith}
use Rattle.std.proofs.lemmas.Grind.{common_steps}
use Rattle.std.proofs.lemmas.List.{get_or-drop}
use Rattle.plain_lines.proofs.text.Place.line_end.Goals as goal

pub returns-clause-inside : goal.returns-clause-inside
returns-clause-inside c =
    λ k from to e. let same = get_or-drop c.args.self.at c.args.self.text.now (k - c.args.self.at) 0 in
    c.line_length.ensures.inside (k - c.args.self.at) (omega arith) (omega arith) (grind (arith, common_steps))
