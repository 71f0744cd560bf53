use Rattle.std.proofs.Common.{length, map, sym, ap, ◌∙◌}
use Rattle.std.proofs.lemmas.List.{length-map}
use Rattle.cap_resolve_spec.specs.Names.{variable_of}
use Rattle.cap_resolve_terms.specs.Views.{entry_view}
use Rattle.cap_resolve_terms.proofs.Numbers.{some-number, none-number, unknown-length}
use Rattle.cap_resolve_terms.proofs.scope.Scope.number.Goals as goal

pub returns-in-Some : goal.returns-in-Some
returns-in-Some c =
    (some-number (map entry_view c.self.inside.entries.items) c.args.name.now c.in-Some.number.now (c.in-Some.ensures.value ∙ c.self.invariant c.args.name.now)).0
    ∙ ap (λ s. variable_of s c.args.name.now) c.self.view_is

pub returns-in-None : goal.returns-in-None
returns-in-None c =
    ap length c.as_slice.ensures.value
    ∙ (sym (length-map c.self.inside.entries.items entry_view)
    ∙ (sym (unknown-length (map entry_view c.self.inside.entries.items) c.args.name.now (none-number (map entry_view c.self.inside.entries.items) c.args.name.now (c.in-None.ensures.value ∙ c.self.invariant c.args.name.now)))
    ∙ ap (λ s. variable_of s c.args.name.now) c.self.view_is))
