-- How the tokens of a text are seen one by one. Only private functions cite this.
use Rattle.std.specs.Prelude.{cond, List, Bool, true, false, ◌&&◌, ◌||◌}
use Rattle.cap_syntax.specs.declared.token.Token.{Token}
use Rattle.cap_parse_laws.specs.declared.class.Class.TheVariants as c
use Rattle.cap_parse_laws.specs.Classes.{class, are_same}
use Rattle.cap_parse_laws.specs.Versions.{is_caper, is_two, is_word, is_before_index, as_keyword, seen_from, headed, worded}
use Rattle.cap_parse.specs.declared.seen.Sight.{Sight}
use Rattle.cap_parse.specs.declared.seen.Spot.{Spot}
use Rattle.cap_parse.specs.declared.seen.Spot.TheVariants.{Start, Version, Index, Later, Old}

abbrev pub sight_view : Sight → Token
sight_view s = record { kind = s.kind; text = s.text.now; value = s.value; place = s.place }

abbrev pub is_keyword_at : Spot → Token → Bool
is_keyword_at Start t = is_caper t
is_keyword_at Version t = is_two t
is_keyword_at Index t =
    are_same c.OpenBracket (class t) || (are_same c.Name (class t) && is_word t.text)
is_keyword_at Later t = are_same c.Name (class t) && is_word t.text
is_keyword_at Old t = false

abbrev pub seen_at : Spot → Token → Token
seen_at spot t = cond (is_keyword_at spot t) (as_keyword t) t

abbrev pub spot_behind : Spot → Token → Spot
spot_behind Start t = cond (is_caper t) Version Old
spot_behind Version t = Later
spot_behind Index t = cond (is_before_index (class (seen_at Index t))) Index Later
spot_behind Later t = cond (is_before_index (class (seen_at Later t))) Index Later
spot_behind Old t = Old

-- the tokens from this spot on
abbrev pub seen_from_spot : Spot → List Token → List Token
seen_from_spot Start ts = worded ts
seen_from_spot Version ts = headed ts
seen_from_spot Index ts = seen_from true ts
seen_from_spot Later ts = seen_from false ts
seen_from_spot Old ts = ts
