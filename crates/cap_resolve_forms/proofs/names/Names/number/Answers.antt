use Rattle.std.proofs.Common.{◌+◌, length, sym, ap, ◌∙◌}
use Rattle.cap_resolve_spec.specs.Names.{variable_of}
use Rattle.cap_resolve_terms.proofs.Numbers.{variable-known, variable-unknown}
use Rattle.cap_resolve_forms.proofs.names.Names.number.Goals as goal

pub returns-then-knows : goal.returns-then-knows
returns-then-knows c =
    c.number.ensures
    ∙ (sym (variable-known c.self.inside.scope.now c.self.inside.own c.args.name.now (sym c.if-knows.ensures))
    ∙ ap (λ s. variable_of s c.args.name.now) c.self.view_is)

pub returns-else-knows : goal.returns-else-knows
returns-else-knows c =
    ap (λ n. n + c.number-else-knows.result) c.len.ensures
    ∙ (ap (λ n. length c.self.inside.scope.now + n) c.number-else-knows.ensures
    ∙ (sym (variable-unknown c.self.inside.scope.now c.self.inside.own c.args.name.now (sym c.if-knows.ensures))
    ∙ ap (λ s. variable_of s c.args.name.now) c.self.view_is))
