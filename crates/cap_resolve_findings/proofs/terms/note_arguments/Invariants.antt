use Rattle.std.proofs.Common.{◌≡◌, drop, fold, map, flat_map, Some}
use Rattle.cap_resolve_spec.specs.Finding.{note}
use Rattle.cap_resolve_spec.specs.Terms.{terms_findings}
use Rattle.cap_resolve_terms.specs.Views.{noted_view}
use Rattle.cap_resolve_findings.specs.Facts.{argument_wanted}
use Rattle.cap_resolve_findings.proofs.terms.note_arguments.Given as goal

abbrev pub invariant-loop-argument : goal.invariant-loop-argument
invariant-loop-argument l =
    fold note (noted_view l.noted) (terms_findings l.scope (argument_wanted (drop l.argument-index l.argument-items)))
    ≡ fold note (noted_view l.fn.noted) (terms_findings l.scope (argument_wanted l.arguments.items))
