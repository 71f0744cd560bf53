use Rattle.std.proofs.Common.{◌≡◌, drop, fold, flat_map}
use Rattle.cap_resolve_spec.specs.Finding.{note}
use Rattle.cap_resolve_terms.specs.Views.{noted_view}
use Rattle.cap_resolve_parts.specs.Views.{statements_view}
use Rattle.cap_resolve_tables.specs.Tables.{regions_of, functions_of, typed_names}
use Rattle.cap_resolve_units.specs.Parts.{statement_part}
use Rattle.cap_resolve_units.proofs.bodies.note_statements.Given as goal

abbrev pub invariant-loop-statement : goal.invariant-loop-statement
invariant-loop-statement l =
    fold note (noted_view l.noted) (flat_map (statement_part (regions_of l.reading.regions.now) (functions_of l.reading.functions.now) (typed_names l.reading.types.now) l.reading.counted.now l.reading.given.now l.reading.looped.now l.reading.body.now) (statements_view (drop l.statement-index l.statements)))
    ≡ fold note (noted_view l.fn.noted) (flat_map (statement_part (regions_of l.reading.regions.now) (functions_of l.reading.functions.now) (typed_names l.reading.types.now) l.reading.counted.now l.reading.given.now l.reading.looped.now l.reading.body.now) (statements_view l.statements))
