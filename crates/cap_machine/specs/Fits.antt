-- The configurations that fit a program.
use Rattle.std.specs.Prelude.{◌≡◌, ◌⊎◌, ℕ, List, [], ◌∷◌, length, slice_get, Option, Some, None, IsSomeAnd}
use Rattle.std.specs.List.{AllByRecursion}
use Rattle.cap_prog.specs.Program.{PlainStatement, PlainFunction, PlainProgram}
use Rattle.cap_prog.specs.Parts.{all_statements}
use Rattle.cap_prog.specs.Scopes.{fixed_start}
use Rattle.cap_prog.specs.WellFormed.{IsLocal, EndsInReturn}
use Rattle.cap_machine.specs.Machine.{Frame, Thread, Configuration}

abbrev pub IsStatementOf : List PlainStatement → PlainStatement → Type 0
IsStatementOf [] s = ⊥
IsStatementOf (t ∷ ts) s = (s ≡ t) ⊎ IsStatementOf ts s

-- what remains are statements of the function, the last of which is its closing return
pub record FrameFits (g : PlainFunction) (f : Frame) : Type 0 where
  pub arguments : length f.arguments ≡ g.params
  pub store : length f.store ≡ fixed_start g
  pub statements : AllByRecursion (IsStatementOf (all_statements g.body)) (all_statements f.rest)
  pub closing : EndsInReturn f.rest

-- the caller gets the result into a local
abbrev pub CallerTakes : PlainProgram → Option ℕ → List Frame → Type 0
CallerTakes p None fs = Unit {0}
CallerTakes p (Some x) [] = ⊥
CallerTakes p (Some x) (f ∷ fs) = IsSomeAnd (slice_get p.functions f.function) (λ g. IsLocal g x)

abbrev pub ThreadFits : PlainProgram → Thread → Type 0
ThreadFits p [] = Unit {0}
ThreadFits p (f ∷ fs) = IsSomeAnd (slice_get p.functions f.function) (λ g. FrameFits g f) × CallerTakes p f.destination fs × ThreadFits p fs

abbrev pub ConfigurationFits : PlainProgram → Configuration → Type 0
ConfigurationFits p c = AllByRecursion (ThreadFits p) c.threads
