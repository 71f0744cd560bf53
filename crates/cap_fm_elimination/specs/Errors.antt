-- An error of exact arithmetic, as an error of elimination.
use Rattle.cap_lin.specs.declared.error.LinError.{LinError}
use Rattle.cap_lin.specs.declared.error.LinError.TheVariants as lin
use Rattle.cap_fm_elimination.specs.declared.error.SolveError.{SolveError}
use Rattle.cap_fm_elimination.specs.declared.error.SolveError.TheVariants as error

abbrev pub solve_error : LinError → SolveError
solve_error (lin.Wide a b) = error.Wide a b
solve_error lin.OutOfMemory = error.OutOfMemory
