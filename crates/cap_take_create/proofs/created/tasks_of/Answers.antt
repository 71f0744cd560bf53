use Rattle.std.proofs.lemmas.Result.{IfOk-weaker}
use Rattle.cap_take_create.proofs.created.tasks_of.Goals as goal

pub returns : goal.returns
returns c = IfOk-weaker c.tasks_begun.result _ _ (λ v h. rw c.in_ok-env.ensures at (h c.args.state.now)) c.tasks_begun.ensures
