use Rattle.cap_parse_tree.specs.Views.{function_view}
use Rattle.cap_resolve_tables.specs.Tables.{regions_of, functions_of, typed_names}
use Rattle.cap_resolve_functions.specs.Names.{named_seen}
use Rattle.cap_resolve_functions.proofs.NarrowBodies.{narrow_with}
use Rattle.cap_resolve_functions.proofs.headers.build_named.Goals as goal

pub with_body-requires : goal.with_body-requires
with_body-requires c = narrow_with (regions_of c.args.regions.now) (functions_of c.args.functions.now) (typed_names c.args.types.now) (named_seen c.args.names.now) (function_view c.args.function.now) c.in_ok-kept.kept c.in_ok-scope.scope c.in_ok-kept.ensures c.in_ok-scope.ensures c.requires
