use Rattle.std.proofs.Common.{ap, ◌∙◌}
use Rattle.std.specs.Prelude.{slice_set}
use Rattle.std.proofs.lemmas.List.{map-set}
use Rattle.cap_owners_values.specs.Views.{value_view}
use Rattle.cap_owners_values.proofs.values.Values.put.Goals as goal

pub returns-then-number-len : goal.returns-then-number-len
returns-then-number-len c = map-set value_view c.self.inside.values.items c.args.number c.args.value ∙ ap (λ l. slice_set l c.args.number (value_view c.args.value)) c.self.view_is
