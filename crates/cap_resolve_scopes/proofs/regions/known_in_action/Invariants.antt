use Rattle.std.proofs.Common.{◌≡◌, ◌++◌, drop, filter, not}
use Rattle.cap_resolve_parts.specs.Views.{word_seen}
use Rattle.cap_resolve_tables.specs.Views.{occurrences_view}
use Rattle.cap_resolve_scopes.specs.Lists.{is_known_with, is_whole_with, is_late_with}
use Rattle.cap_resolve_scopes.proofs.regions.known_in_action.Given as goal

abbrev pub invariant-loop-name : goal.invariant-loop-name
invariant-loop-name l =
    occurrences_view l.kept.items ++ filter (is_whole_with l.bound (word_seen l.source) (word_seen l.target)) (occurrences_view (drop l.name-index l.names))
    ≡ filter (is_whole_with l.bound (word_seen l.source) (word_seen l.target)) (occurrences_view l.names)
