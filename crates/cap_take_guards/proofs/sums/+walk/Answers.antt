use Rattle.std.proofs.Common.{◌≡◌, ◌<◌, arith, rules}
use Rattle.cap_galg.specs.Algebras.{sum}
use Rattle.cap_galg.specs.Views.{algebra_view}
use Rattle.cap_galg.specs.declared.algebra.Algebra.TheFolds.{the_lemmas}
use Rattle.cap_take_guards.proofs.Walks.{ends-first, ends-second}
use Rattle.cap_take_guards.proofs.sums.+walk.Goals as goal

pub returns-in-Found-2 : goal.returns-in-Found-2
returns-in-Found-2 t c =
    let a = c.args in
    let e : algebra_view a.algebra.now ≡ sum (algebra_view c.in-Either.a.value) (algebra_view c.in-Either.b.value) = search (rules, the_lemmas) in
    let l : 0 < a.number = omega arith in
    let h = rw (c.deref-in-Either.ensures, c.in-Found-2.is) at c.in_ok-sides-in-Either.ensures in
    rw e (ends-first (algebra_view c.in-Either.a.value) (algebra_view c.in-Either.b.value) a.atom a.number c.in-Found-2.sides l h)

pub returns-in-Past-2 : goal.returns-in-Past-2
returns-in-Past-2 t c =
    let a = c.args in
    let e : algebra_view a.algebra.now ≡ sum (algebra_view c.in-Either.a.value) (algebra_view c.in-Either.b.value) = search (rules, the_lemmas) in
    let l : 0 < a.number = omega arith in
    let h = rw (c.deref-in-Either.ensures, c.in-Past-2.is) at c.in_ok-sides-in-Either.ensures in
    let k = rw c.deref-in-Past-2.ensures at c.walk-in-Past-2.ensures in
    rw e (ends-second (algebra_view c.in-Either.a.value) (algebra_view c.in-Either.b.value) a.atom a.number c.in-Past-2.rest c.in-Past-2.next c.walk-in-Past-2.result l h k)
