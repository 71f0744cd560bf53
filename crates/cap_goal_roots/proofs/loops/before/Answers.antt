use Rattle.std.proofs.Common.{ap, ◌∙◌, ◌++◌, ◌∷◌, []}
use Rattle.cap_prog.specs.Program.{done}
use Rattle.cap_goal.specs.Views.{block_in}
use Rattle.cap_goal_roots.proofs.Trees.{block_in_more}
use Rattle.cap_goal_roots.proofs.loops.before.Goals as goal

pub returns : goal.returns
returns c =
    ap (λ ls. block_in ls done) (c.in_ok-push.ensures.items ∙ ap (λ ls. ls ++ (c.args.list ∷ [])) c.in_ok-lists.ensures.items) ∙ block_in_more c.args.others.now c.args.list done
