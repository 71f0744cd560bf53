use Rattle.std.proofs.Common.{◌∙◌, ap, sym, option_map, slice_get, map}
use Rattle.cap_galg.specs.Views.{atom_view}
use Rattle.cap_resolve_spec.specs.Names.{variable_of}
use Rattle.cap_resolve_spec.specs.Items.{region_guards}
use Rattle.cap_resolve_tables.specs.Entries.{guard_atom}
use Rattle.cap_resolve_tables.specs.Tables.{type_view}
use Rattle.cap_resolve_tables.proofs.Positions.{got, got_none, guard_at}
use Rattle.cap_resolve_tables.proofs.tables.RegionType.guard_kind.Goals as goal

pub returns-in-Some : goal.returns-in-Some
returns-in-Some c =
    ap (option_map atom_view)
    (got _ (map guard_atom (region_guards (type_view c.args.self.now))) c.number-number.result c.in-Some.kind.now c.in-Some.ensures.lookup.3.0 c.in-Some.ensures.lookup.1 (c.as_slice.ensures.value ∙ c.args.self.now.kinded)
    ∙ ap (slice_get (map guard_atom (region_guards (type_view c.args.self.now)))) (c.number-number.ensures ∙ ap (λ es. variable_of es c.args.name.now) c.args.self.now.named))
    ∙ sym (guard_at (region_guards (type_view c.args.self.now)) c.args.name.now)

pub returns-in-None : goal.returns-in-None
returns-in-None c =
    ap (option_map atom_view)
    (got_none _ (map guard_atom (region_guards (type_view c.args.self.now))) c.number-number.result c.in-None.ensures.lookup.3 (c.as_slice.ensures.value ∙ c.args.self.now.kinded)
    ∙ ap (slice_get (map guard_atom (region_guards (type_view c.args.self.now)))) (c.number-number.ensures ∙ ap (λ es. variable_of es c.args.name.now) c.args.self.now.named))
    ∙ sym (guard_at (region_guards (type_view c.args.self.now)) c.args.name.now)
