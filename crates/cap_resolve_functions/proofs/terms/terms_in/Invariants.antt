use Rattle.std.proofs.Common.{◌≡◌, ◌++◌, drop, map}
use Rattle.cap_parse_tree.specs.Tree.{parts_of}
use Rattle.cap_parse_tree.specs.Views.{term_view, several_view}
use Rattle.cap_resolve_spec.specs.Linear.{term_form}
use Rattle.cap_resolve_functions.proofs.Rests.{behind}
use Rattle.cap_resolve_functions.proofs.terms.terms_in.Given as goal

abbrev pub invariant-loop-part : goal.invariant-loop-part
invariant-loop-part l =
    l.forms.items ++ map (term_form l.scope) (behind term_view (drop l.part-index l.part-items))
    ≡ map (term_form l.scope) (parts_of (several_view term_view l.list))
