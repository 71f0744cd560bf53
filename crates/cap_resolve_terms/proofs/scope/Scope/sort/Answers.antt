use Rattle.std.proofs.Common.{◌≡◌, ◌<◌, ◌≤◌, length, map, sym, ap, ◌∙◌, arith}
use Rattle.cap_resolve_spec.specs.Names.{sort_of}
use Rattle.cap_resolve_terms.specs.Views.{entry_view}
use Rattle.cap_resolve_terms.proofs.Numbers.{none-number, unknown-sort, number-within, read-sort}
use Rattle.cap_resolve_terms.proofs.scope.Scope.sort.Goals as goal

pub returns-in-Some-get : goal.returns-in-Some-get
returns-in-Some-get c =
    c.entry_sort.ensures
    ∙ (read-sort c.as_slice.result.now c.self.inside.entries.items c.args.name.now c.in-Some.number.now _ _ c.as_slice.ensures.value (c.in-Some.ensures.value ∙ c.self.invariant c.args.name.now) (sym c.in-Some-get.ensures.lookup.1)
    ∙ ap (λ s. sort_of s c.args.name.now) c.self.view_is)

pub returns-in-None-get : goal.returns-in-None-get
returns-in-None-get c =
    let a : length c.as_slice.result.now ≤ c.in-Some.number.now = c.in-None-get.ensures.lookup.3 in
    let b : length c.as_slice.result.now ≡ length c.self.inside.entries.items = ap length c.as_slice.ensures.value in
    let d : c.in-Some.number.now < length c.self.inside.entries.items = number-within c.self.inside.entries.items c.args.name.now c.in-Some.number.now (c.in-Some.ensures.value ∙ c.self.invariant c.args.name.now) in
    absurd (omega arith)

pub returns-in-None : goal.returns-in-None
returns-in-None c =
    sym (unknown-sort (map entry_view c.self.inside.entries.items) c.args.name.now (none-number (map entry_view c.self.inside.entries.items) c.args.name.now (c.in-None.ensures.value ∙ c.self.invariant c.args.name.now)))
    ∙ ap (λ s. sort_of s c.args.name.now) c.self.view_is
