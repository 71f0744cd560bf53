-- What contracts see of the parts of a move.
use Rattle.std.specs.Prelude.{List, map}
use Rattle.cap_rules.specs.Closing as closing
use Rattle.cap_open_moves_parts.specs.declared.parts.MovePart.{MovePart}
use Rattle.cap_open_moves_parts.specs.declared.parts.MovePart.TheVariants as part

abbrev pub part_view : MovePart → closing.MovePart
part_view (part.Guard i asked) = closing.guard i asked.now
part_view part.Source = closing.source
part_view part.Target = closing.target

abbrev pub parts_view : List MovePart → List closing.MovePart
parts_view xs = map part_view xs
