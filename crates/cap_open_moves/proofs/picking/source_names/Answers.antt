use Rattle.std.proofs.Common.{arith}
use Rattle.cap_rules.specs.Closing.{source_name}
use Rattle.cap_take_holdings.proofs.Names.{names-next}
use Rattle.cap_open_moves.proofs.picking.source_names.Goals as goal

pub loop-place-preserved : goal.loop-place-preserved
loop-place-preserved c =
    names-next (source_name c.args.fact.now c.lone_name-lone.result) c.args.region.now.params c.loop-place.place _ _ _ _ _ (omega arith) c.in_ok-push.ensures.items c.in_ok-source_name.ensures c.loop-place.invariant
