use Rattle.cap_resolve_spec.proofs.Values.{has-value}
use Rattle.cap_resolve_spec.proofs.laws.linear_forms_have_the_values_of_their_terms.Goals as goal

pub returns : goal.returns
returns c = has-value
