use Rattle.std.proofs.Common.{◌∙◌, ap, sym}
use Rattle.cap_parse_tree.specs.Views.{factor_view}
use Rattle.cap_resolve_spec.specs.Names.{sort_of}
use Rattle.cap_resolve_spec.specs.Terms.{factor_sort}
use Rattle.cap_resolve_terms.proofs.Trees.{view-Name}
use Rattle.cap_resolve_terms.proofs.sorts.+sort.Goals as goal

pub factor_sort-returns-in-Name : goal.factor_sort-returns-in-Name
factor_sort-returns-in-Name t c =
    c.sort.ensures
    ∙ (ap (sort_of c.args.scope.now) c.as_bytes.ensures
    ∙ sym (ap (λ f. factor_sort c.args.scope.now (factor_view f)) c.in-Name.is ∙ ap (factor_sort c.args.scope.now) (view-Name c.in-Name.word)))
