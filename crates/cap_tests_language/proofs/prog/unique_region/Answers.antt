use Rattle.std.proofs.Common.{rules, ◌≡◌, sym, ap, arith}
use Rattle.cap_galg.specs.Algebras.{unique, atoms}
use Rattle.cap_galg.specs.Views.{algebra_view}
use Rattle.cap_galg.specs.declared.algebra.Algebra.TheVariants as Algebra
use Rattle.cap_galg.specs.declared.algebra.Algebra.TheFolds.{the_lemmas}
use Rattle.cap_tests_language.proofs.prog.unique_region.Goals as goal

one : atoms (algebra_view Algebra.Unique) ≡ 1
one = let e : algebra_view Algebra.Unique ≡ unique = search (rules, the_lemmas) in ap atoms e

pub returns : goal.returns
returns c p =
    rw (c.in_ok-push.ensures.items, c.new-atoms.ensures.items, c.new-cases.ensures.items, c.new-actions.ensures.items)
    (record {
      itself = omega arith;
      params = omega arith;
      named = sym one;
      atoms = omega (arith, one);
      cases = tt;
      case_count = omega arith;
      actions = tt;
      action_count = omega arith;
    })
