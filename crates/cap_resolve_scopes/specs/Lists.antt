-- Which names are known where, by the lists of names alone.
use Rattle.std.specs.Prelude.{Bool, not, ◌&&◌, ◌||◌, if◌then◌else◌, List, [], ◌∷◌, ◌++◌, filter, Option, None}
use Rattle.cap_parse_tree.specs.declared.word.Word.{Word}
use Rattle.cap_resolve_spec.specs.Parts.{PlacedItem, is_word}
use Rattle.cap_resolve_spec.specs.Names.{KnownName, NameScope, known_as, knows, firsts, with_first, word_text}
use Rattle.cap_resolve_spec.specs.Items.{TypedName, Occurrence, name_of, is_bound, occurrences, new_names, scope_of}

-- the new names of an assertion
abbrev pub new_in : NameScope → List TypedName → List PlacedItem → List Occurrence
new_in scope types parts = new_names scope (occurrences types parts)

-- ---- by scopes that know the names

abbrev pub is_known_local : NameScope → NameScope → Word → Bool
is_known_local destinations given w = knows destinations w.text && not (knows given w.text)

abbrev pub firsts_known : NameScope → NameScope → List Word → List Word
firsts_known destinations given words =
    firsts word_text (filter (is_known_local destinations given) words)

abbrev pub with_wanted : Bool → List Word → Word → List Word
with_wanted wanted locals w = if wanted then with_first word_text locals w else locals

abbrev pub known_entry : NameScope → Occurrence → Option KnownName
known_entry destinations o =
    if knows destinations (name_of o) then known_as o.sort o.word else None

-- the names that are bound where they occur
abbrev pub bound_entries : List Occurrence → NameScope
bound_entries os = scope_of (filter is_bound os)

abbrev pub is_known_with : NameScope → Option Word → Occurrence → Bool
is_known_with bound whole o = knows bound (name_of o) || is_word (name_of o) whole

abbrev pub is_whole_with : NameScope → Option Word → Option Word → Occurrence → Bool
is_whole_with bound source target o =
    is_word (name_of o) source || (is_word (name_of o) target || knows bound (name_of o))

abbrev pub is_late_with : NameScope → Occurrence → Bool
is_late_with bound o = knows bound (name_of o) && not o.bound

abbrev pub with_kept : Bool → List Occurrence → Occurrence → List Occurrence
with_kept wanted os o = if wanted then os ++ o ∷ [] else os
