use Rattle.std.proofs.Common.{◌∙◌, map}
use Rattle.cap_gen.specs.Views.{fragment_view}
use Rattle.cap_gen.proofs.Numbered.{one-more}
use Rattle.cap_gen.proofs.trial.push_numbered.Goals as goal

pub loop-done-preserved : goal.loop-done-preserved
loop-done-preserved c =
    one-more (map fragment_view c.args.fragments.now) c.args.text.now.items c.loop-done.text.items
    c.push_filled.new.text.items c.as_bytes.result.now c.loop-done.done c.loop-done.invariant
    (c.as_bytes.ensures.value ∙ c.in_ok-number.ensures) c.in_ok-push_filled.ensures
