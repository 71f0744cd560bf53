use Rattle.std.proofs.Common.{arith}
use Rattle.cap_tests_language.proofs.prog.lends_its_parts.Goals as goal

pub new-program-requires : goal.new-program-requires
new-program-requires g c =
    rw (c.in_ok-push.ensures.items, c.new-regions.ensures.items, c.in_ok-push-2.ensures.items, c.new-functions.ensures.items)
    (record { main = omega arith; region_count = omega arith; function_count = omega arith; regions = (c.in_ok-region.ensures _, tt); functions = (c.in_ok-function.ensures _, tt) })
