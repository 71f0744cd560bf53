use Rattle.std.proofs.Common.{ap, sym, ◌∙◌}
use Rattle.indexmap.proofs.CallerLemmas.{insert_entry-new}
use Rattle.cap_resolve_terms.specs.Views.{number_in}
use Rattle.cap_resolve_terms.proofs.Numbers.{push-entry, none-from-test}
use Rattle.cap_resolve_terms.proofs.scope.put_number.Goals as goal

pub returns-in_ok-insert-clause-put : goal.returns-in_ok-insert-clause-put
returns-in_ok-insert-clause-put c = λ x.
    ap (λ es. number_in es x)
    (c.in_ok-insert.ensures.entries
    ∙ insert_entry-new _ c.args.numbers.now c.args.name c.args.number
    (none-from-test _ (sym c.contains_key.ensures ∙ c.if-not-contains_key.true)))
    ∙ push-entry c.args.numbers.now.entries c.args.name c.args.number x
