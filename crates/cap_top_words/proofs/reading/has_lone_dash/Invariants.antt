use Rattle.std.proofs.Common.{◌≡◌, map, drop}
use Rattle.std.specs.Prelude.{string_bytes}
use Rattle.cap_top_words.specs.Parser.{has_lone_dash}
use Rattle.cap_top_words.proofs.reading.has_lone_dash.Given as goal

abbrev pub invariant-loop-word : goal.invariant-loop-word
invariant-loop-word l = has_lone_dash (map string_bytes (drop l.word-index l.words)) ≡ has_lone_dash (map string_bytes l.words)
