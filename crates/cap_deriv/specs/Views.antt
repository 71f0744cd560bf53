-- What contracts see of a line behind the first.
use Rattle.cap_goal.specs.Views.{choice_view}
use Rattle.cap_deriv.specs.Told.{PlainLine, choice_line, end_line}
use Rattle.cap_deriv.specs.declared.found.Found.{Found}
use Rattle.cap_deriv.specs.declared.found.Found.TheVariants.{Node, End}

abbrev pub found_view : Found → PlainLine
found_view (Node c) = choice_line (choice_view c)
found_view (End n) = end_line n
