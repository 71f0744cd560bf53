use Rattle.std.proofs.Common.{ap, sym, ◌∙◌, fold, refl}
use Rattle.cap_resolve_spec.specs.Finding.{note}
use Rattle.cap_resolve_terms.specs.Views.{noted_view, limit_view}
use Rattle.cap_resolve_tables.proofs.Positions.{got}
use Rattle.cap_resolve_findings.proofs.Noting.{past_one}
use Rattle.cap_resolve_findings.proofs.names.note_past.Goals as goal

pub returns-in-Some : goal.returns-in-Some
returns-in-Some c =
    c.note_if.ensures
    ∙ sym (ap (fold note (noted_view c.args.noted.now)) (past_one c.args.most (limit_view c.args.limit) c.args.words.now c.in-Some.word.now (got c.args.words.now c.args.words.now c.args.most c.in-Some.word.now c.in-Some.ensures.lookup.3.0 c.in-Some.ensures.lookup.1 refl)))
