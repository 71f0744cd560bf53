use Rattle.std.proofs.Common.{ap, ◌∙◌, fold}
use Rattle.cap_resolve_spec.specs.Finding.{note}
use Rattle.cap_resolve_terms.specs.Views.{noted_view}
use Rattle.cap_resolve_tables.specs.Tables.{regions_of, numbered_view}
use Rattle.cap_resolve_units.proofs.Same.{region_same}
use Rattle.cap_resolve_units.proofs.types.note_region_type.Goals as goal

pub returns : goal.returns
returns c = c.in_ok-note_region_parts.ensures ∙ ap (fold note (noted_view c.args.noted.now)) (region_same (regions_of c.args.regions.now) (numbered_view c.args.region))
