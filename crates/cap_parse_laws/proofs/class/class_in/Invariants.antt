use Rattle.std.proofs.Common.{◌≡◌, map, drop}
use Rattle.cap_parse_laws.specs.Classes.{class_in}
use Rattle.cap_parse_laws.proofs.class.class_in.Given as goal

abbrev pub invariant-loop-word : goal.invariant-loop-word
invariant-loop-word l = class_in (map (λ row. (row.0.now, row.1)) (drop l.word-index l.table)) l.text ≡ class_in (map (λ row. (row.0.now, row.1)) l.table) l.text
