-- What the names of a body stand for, as a context; what a body does not read is left empty.
use Rattle.std.specs.Prelude.{[]}
use Rattle.cap_resolve_spec.specs.Functions.{Context}
use Rattle.cap_resolve_tables.specs.Tables.{regions_of, functions_of, typed_names}
use Rattle.cap_resolve_functions.specs.declared.bodies.Body.{Body}

abbrev pub context_seen : Body → Context
context_seen b = record {
  regions = regions_of b.regions.now;
  functions = functions_of b.functions.now;
  types = typed_names b.types.now;
  result = [];
  loop = b.kept.now;
  body = b.scope.now;
  given = [];
  counted = [];
}
