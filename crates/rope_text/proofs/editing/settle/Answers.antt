use Rattle.rope_text.proofs.Holdings.{offered_some, offered_none, stands_holds, stands_text, beside_holding, beside_new}
use Rattle.rope_text.proofs.editing.settle.Goals as goal

pub returns-in_default-clause-holds : goal.returns-in_default-clause-holds
returns-in_default-clause-holds g c = stands_holds (offered_none _ c.in_default.is c.requires.offered)

pub returns-in_default-clause-text : goal.returns-in_default-clause-text
returns-in_default-clause-text g c x = stands_text (offered_none _ c.in_default.is x.offered)

pub release-requires : goal.release-requires
release-requires g c = beside_holding (offered_some c.in-Some.is c.requires.offered)

pub returns-clause-holds : goal.returns-clause-holds
returns-clause-holds g c = stands_holds (beside_new (offered_some c.in-Some.is c.requires.offered) c.release.ensures.released)

pub returns-clause-text : goal.returns-clause-text
returns-clause-text g c x = stands_text (beside_new (offered_some c.in-Some.is x.offered) c.release.ensures.released)
