use Rattle.std.proofs.Common.{map, ap, ◌∙◌, is_some}
use Rattle.cap_resolve_spec.specs.Names.{knows}
use Rattle.cap_resolve_terms.specs.Views.{entry_view}
use Rattle.cap_resolve_terms.proofs.Numbers.{known-number}
use Rattle.cap_resolve_terms.proofs.scope.Scope.knows.Goals as goal

pub returns : goal.returns
returns c =
    c.contains_key.ensures
    ∙ (ap is_some (c.self.invariant c.args.name.now)
    ∙ (known-number (map entry_view c.self.inside.entries.items) c.args.name.now
    ∙ ap (λ s. knows s c.args.name.now) c.self.view_is))
