use Rattle.cap_parse_tree.specs.Views.{function_view}
use Rattle.cap_resolve_terms.specs.Views.{noted_view}
use Rattle.cap_resolve_parts.specs.Views.{clause_seen}
use Rattle.cap_resolve_tables.specs.Tables.{regions_of, functions_of}
use Rattle.cap_resolve_units.proofs.Joined.{function_noted}
use Rattle.cap_resolve_units.proofs.whole.note_function.Goals as goal

pub returns : goal.returns
returns c =
    function_noted (noted_view c.args.noted.now) (noted_view c.note_own_parts.new.noted) (regions_of c.args.regions.now) (functions_of c.args.functions.now) (function_view c.args.function.now) (clause_seen c.lent-precondition.result) (clause_seen c.lent-postcondition.result)
    c.lent-precondition.ensures
    c.lent-postcondition.ensures
    c.in_ok-note_own_parts.ensures
