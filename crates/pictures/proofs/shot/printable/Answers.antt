use Rattle.std.proofs.Common.{◌∙◌, rules, tests}
use Rattle.std.proofs.lemmas.Iterator.{YieldsList-from_slice}
use Rattle.std.proofs.lemmas.Iterator.Search.{all_from_yields_List}
use Rattle.spec.specs.Bytes.{is_printable}
use Rattle.pictures.proofs.Rows.{printable_is}
use Rattle.pictures.proofs.shot.printable.Goals as goal

pub returns : goal.returns
returns c = all_from_yields_List is_printable _ _ _ c.all.ensures.ran (YieldsList-from_slice c.args.cells.now cc) (λ x b q k. search (rules, tests)) ∙ printable_is c.args.cells.now
