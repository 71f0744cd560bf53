use Rattle.std.proofs.Common.{[], get_or, ap, ◌∙◌}
use Rattle.cap_prog.specs.Views.{region_view}
use Rattle.cap_owners_parts.proofs.Reading.{seen-there, same-there, none-there}
use Rattle.cap_owners_parts.proofs.names.atom_name.Goals as goal

pub returns-in-None-get : goal.returns-in-None-get
returns-in-None-get c =
    none-there c.deref.result.now c.in-Some.region.now.atoms.items c.args.atom [] c.in-None-get.ensures.lookup.3 c.deref.ensures.value
    ∙ ap (λ names. get_or names c.args.atom [])
    (seen-there region_view (λ t. t.atoms) c.regions.result.now c.args.program.now.regions c.args.kind c.in-Some.region.now [] c.in-Some.ensures.lookup.3.0 c.in-Some.ensures.lookup.1 c.regions.ensures.regions)

pub returns-in-Some-get : goal.returns-in-Some-get
returns-in-Some-get c =
    c.as_bytes.ensures
    ∙ (same-there c.deref.result.now c.in-Some.region.now.atoms.items c.args.atom c.in-Some-get.name.now [] c.in-Some-get.ensures.lookup.3.0 c.in-Some-get.ensures.lookup.1 c.deref.ensures.value
    ∙ ap (λ names. get_or names c.args.atom [])
    (seen-there region_view (λ t. t.atoms) c.regions.result.now c.args.program.now.regions c.args.kind c.in-Some.region.now [] c.in-Some.ensures.lookup.3.0 c.in-Some.ensures.lookup.1 c.regions.ensures.regions))
