-- What is seen of the names of a function.
use Rattle.cap_resolve_parts.specs.Views.{words_view}
use Rattle.cap_resolve_tables.specs.Views.{occurrences_view}
use Rattle.cap_resolve_functions.specs.Functions as plain
use Rattle.cap_resolve_functions.specs.declared.headers.Named.{Named}

abbrev pub named_seen : Named → plain.Named
named_seen n = record {
  parameters = words_view n.parameters.now;
  locals = words_view n.locals.now;
  fixed = occurrences_view n.fixed.now;
  destinations = n.destinations.now;
}
