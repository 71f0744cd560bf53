-- Assertions without items.
use Rattle.std.proofs.Common.{◌≡◌, refl, sym, subst, ◌+◌, ◌≤◌, [], length, arith}
use Rattle.cap_prog.specs.Program.{none, PlainAssertion, first, done, PlainStatement, PlainFunction, PlainProgram}
use Rattle.cap_tests_language.specs.Empty.{closing}
use Rattle.cap_syntax.specs.declared.place.Place.{Place}
use Rattle.cap_prog.specs.Scopes.{Scope, fixed_start, ensures_scope}
use Rattle.cap_prog.specs.WellFormed.{most_variables, ItemsFit, AssertionFits, BodyFits}

abbrev pub nothing : PlainAssertion
nothing = record { names = []; items = none }

pub nothing-fits : (p : PlainProgram) (scope : Scope) (a : PlainAssertion) → a ≡ nothing → ItemsFit p scope a.items
nothing-fits p scope a e = subst (λ (b : PlainAssertion). ItemsFit p scope b.items) (sym e) (record { items = tt; length = omega arith; sides = tt })

pub nothing-ensured : (p : PlainProgram) (f : PlainFunction) (a : PlainAssertion) → a ≡ nothing → fixed_start f + length f.fixed + 0 ≤ most_variables → AssertionFits p f (ensures_scope f a.names) a
nothing-ensured p f a e h =
    subst (λ (b : PlainAssertion). AssertionFits p f (ensures_scope f b.names) b) (sym e) (record { variables = h; items = record { items = tt; length = omega arith; sides = tt } })

pub closing-fits : (p : PlainProgram) (f : PlainFunction) (place : Place) (s : PlainStatement) → s ≡ closing place → BodyFits p f (first s.label s.act done)
closing-fits p f place s e =
    subst (λ (t : PlainStatement). BodyFits p f (first t.label t.act done)) (sym e) (record { statements = (tt, tt); numbered = refl; closing = refl; length = omega arith; blocks = (tt, tt) })
