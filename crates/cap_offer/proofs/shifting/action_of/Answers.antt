use Rattle.std.proofs.Common.{◌-◌, ◌<◌, length, ◌∙◌, arith}
use Rattle.cap_prog.specs.Views.{action_view, region_view}
use Rattle.cap_offer.proofs.Spans.{seen-there, action-numbered}
use Rattle.cap_offer.proofs.shifting.action_of.Goals as goal

pub returns : goal.returns
returns c =
    let k = c.args.region.now in
    let h : c.args.by - 1 < length k.actions.items = omega arith in
    seen-there action_view k.actions.items (c.args.by - 1) c.index.result.now h c.index.ensures ∙ action-numbered (region_view k) c.args.by (omega arith)
