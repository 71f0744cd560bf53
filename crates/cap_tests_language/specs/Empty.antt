-- The closing return of a body that has nothing else, which tests build.
use Rattle.std.specs.Prelude.{pos}
use Rattle.cap_lin.specs.Linear.{number}
use Rattle.cap_syntax.specs.declared.place.Place.{Place}
use Rattle.cap_prog.specs.Program.{give_back, PlainStatement}

abbrev pub closing : Place → PlainStatement
closing place = record { label = record { number = 1; place = place }; act = give_back (number (pos 0)) }
