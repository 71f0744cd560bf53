use Rattle.std.proofs.Common.{◌∙◌}
use Rattle.cap_owners.proofs.step.stepping_of.Goals as goal

pub returns : goal.returns
returns c = λ p e. record {
  function = c.function.ensures p;
  arguments = c.in_ok-from_slice.ensures.items ∙ c.arguments.ensures p;
  store = c.in_ok-from_slice-2.ensures.items ∙ c.store.ensures p;
  number = e;
}
