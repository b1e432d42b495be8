use Rattle.std.proofs.Common.{arith, rules, length-drop}
use Rattle.std.proofs.lemmas.List.{take_all}
use Rattle.term_rows.proofs.Cells.{shortest}
use Rattle.term_rows.proofs.update.shortest_update.Goals as goal

pub returns : goal.returns
returns c =
    let new = c.args.new.now in
    let from = c.in_ok-from.from in
    let first = c.in_ok-from.ensures in
    let ends = c.same_from.ensures in
    let blanks = c.blank_from.ensures in
    shortest c.args.old.now new _ from c.same_from.result c.blank_from.result _ _ _ (record { same_width = c.requires; within = first.0; front = first.1; differs = first.2; end_within = ends.within; same = ends.same; first = ends.differs; from_difference = take_all _ _ (omega (arith, length-drop from new)); blanks_within = blanks.within; blanks = blanks.blanks; first_blank = blanks.inked }) (search rules) (search rules)
