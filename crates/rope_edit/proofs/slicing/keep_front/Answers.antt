use Rattle.ropes.specs.Cut.{front}
use Rattle.rope_edit.proofs.Slices.{back_holding, keeps_front, keeps_none}
use Rattle.rope_edit.proofs.slicing.keep_front.Goals as goal

pub returns-in_err-cut-clause-keeps : goal.returns-in_err-cut-clause-keeps
returns-in_err-cut-clause-keeps g c = rw c.from_residual.ensures (keeps_none front c.in_err-cut.ensures.cuts)

pub front_of-requires : goal.front_of-requires
front_of-requires g c = back_holding c.in_ok-cut.ensures.cuts c.requires

pub returns-clause-keeps : goal.returns-clause-keeps
returns-clause-keeps g c = rw c.front_of.ensures.value (keeps_front c.in_ok-cut.ensures.cuts c.front_of.ensures.touches c.front_of.ensures.released)
