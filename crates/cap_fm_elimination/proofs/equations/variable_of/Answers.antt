use Rattle.std.proofs.Common.{◌≡◌, ap, ◌∙◌, pos, arith}
use Rattle.std.proofs.lemmas.Int.{ints}
use Rattle.cap_lin.specs.Linear.{Linear, coefficient}
use Rattle.cap_lin.proofs.Results.{is_zero-no}
use Rattle.cap_fm_elimination.proofs.Pivots.{occurring-none, occurring-some}
use Rattle.cap_fm_elimination.proofs.equations.variable_of.Goals as goal

pub returns-then-coefficient-eq0-clause-choice : goal.returns-then-coefficient-eq0-clause-choice
returns-then-coefficient-eq0-clause-choice c =
    let t = c.if-coefficient-eq0.true in
    let e = c.coefficient.ensures.coefficient ∙ ap (λ (t : Linear). coefficient c.args.variable t.parts) c.term.ensures in
    let z : c.coefficient.result ≡ pos 0 = omega (arith, ints) in
    occurring-none _ _ _ c.in-Eq.is (rw e at z)

pub returns-else-coefficient-eq0-clause-choice : goal.returns-else-coefficient-eq0-clause-choice
returns-else-coefficient-eq0-clause-choice c =
    let t = c.if-coefficient-eq0.false in
    let e = c.coefficient.ensures.coefficient ∙ ap (λ (t : Linear). coefficient c.args.variable t.parts) c.term.ensures in
    let z : c.coefficient.result ≡ pos 0 → ⊥ = λ h. omega (arith, ints) in
    occurring-some _ _ _ c.in-Eq.is (rw e at z)

pub returns-else-coefficient-eq0-clause-has : goal.returns-else-coefficient-eq0-clause-has
returns-else-coefficient-eq0-clause-has c =
    let t = c.if-coefficient-eq0.false in
    let e = c.coefficient.ensures.coefficient ∙ ap (λ (t : Linear). coefficient c.args.variable t.parts) c.term.ensures in
    let z : c.coefficient.result ≡ pos 0 → ⊥ = λ h. omega (arith, ints) in
    is_zero-no _ (rw e at z)
