use Rattle.std.proofs.Common.{refl, arith}
use Rattle.cap_tests_language.proofs.EmptyLemmas.{nothing-fits, nothing-ensured, closing-fits}
use Rattle.cap_tests_language.proofs.prog.main_function.Goals as goal

pub returns : goal.returns
returns c p =
    rw (c.in_ok-push.ensures.items, c.new-body.ensures.items, c.new-fixed.ensures.items, c.new-variables.ensures.items)
    (record {
      params = omega arith;
      named = refl;
      requires = nothing-fits p _ _ c.no_items-before.ensures;
      ensures = nothing-ensured p _ _ c.no_items-after.ensures (omega arith);
      body = closing-fits p _ _ _ c.closing_return-last.ensures;
    })
