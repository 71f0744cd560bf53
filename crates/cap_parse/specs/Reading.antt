-- What the parser answers, by what the grammar's reader gives. Only private functions cite this.
use Rattle.std.specs.Prelude.{◌≡◌, List, Result, Ok, Err}
use Rattle.cap_syntax.specs.declared.place.Place.{Place}
use Rattle.cap_syntax.specs.declared.token.Token.{Token}
use Rattle.cap_parse_tree.specs.declared.tree.Tree.{Tree}
use Rattle.cap_parse_tree.specs.Nesting.{max_nesting}
use Rattle.cap_parse_tree.specs.Views.{tree_view}
use Rattle.cap_parse_laws.specs.Readers.{unexpected, too_deep}
use Rattle.cap_parse_laws.specs.Grammar.{read_program}
use Rattle.cap_parse_laws.specs.Versions.{worded}
use Rattle.cap_parse.specs.declared.text.ParseError.{ParseError}
use Rattle.cap_parse.specs.declared.text.ParseError.TheVariants.{Unexpected, TooDeep, OutOfMemory}
use Rattle.cap_parse.specs.Parsing.{first_place}

abbrev pub IsReadingOf : List Token → Place → Result Tree ParseError → Type 0
IsReadingOf ts end (Ok t) = read_program max_nesting (worded ts) ≡ Ok (tree_view t)
IsReadingOf ts end (Err (Unexpected p)) =
    (rest : List Token) × (read_program max_nesting (worded ts) ≡ Err (unexpected rest)) × (p ≡ first_place rest end)
IsReadingOf ts end (Err (TooDeep p)) =
    (rest : List Token) × (read_program max_nesting (worded ts) ≡ Err (too_deep rest)) × (p ≡ first_place rest end)
IsReadingOf ts end (Err OutOfMemory) = Unit {0}
