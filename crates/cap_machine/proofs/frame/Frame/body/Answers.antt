use Rattle.cap_machine.proofs.ReadyLemmas.{body_at}
use Rattle.cap_machine.proofs.frame.Frame.body.Goals as goal

pub returns-clause-body : goal.returns-clause-body
returns-clause-body c = body_at _ _ _ c.index-functions-self.result _ c.requires c.functions.ensures.functions c.index-functions-self.is c.deref.ensures.value
