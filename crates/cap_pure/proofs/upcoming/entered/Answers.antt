use Rattle.std.proofs.Common.{ap, ◌∙◌}
use Rattle.cap_prog.specs.Program.{done, append}
use Rattle.cap_prog.specs.Views.{block_view}
use Rattle.cap_goal.specs.Views.{block_in}
use Rattle.cap_rules_steps.proofs.Blocks.{block-last}
use Rattle.cap_pure.proofs.upcoming.entered.Goals as goal

pub returns : goal.returns
returns c = ap (λ ls. block_in ls done) c.in_ok-push.ensures.items ∙ (block-last c.in_ok-inner.inner.lists.items c.args.block done ∙ ap (λ ls. append (block_view c.args.block.now) (block_in ls done)) c.in_ok-inner.ensures)
