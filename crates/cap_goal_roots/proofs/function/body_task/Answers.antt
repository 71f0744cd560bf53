use Rattle.std.proofs.Common.{ap, ◌∙◌, ◌++◌, ◌∷◌, []}
use Rattle.cap_prog.specs.Program.{done, append}
use Rattle.cap_prog.specs.Views.{block_view, function_view}
use Rattle.cap_goal_spec.specs.States.{to_run}
use Rattle.cap_goal_spec.specs.Roots.{home_of, at_entry}
use Rattle.cap_goal.specs.Views.{block_in}
use Rattle.cap_goal_roots.proofs.Trees.{append_done}
use Rattle.cap_goal_roots.proofs.function.body_task.Goals as goal

pub returns : goal.returns
returns c =
    let pushed = c.in_ok-push.ensures.items ∙ ap (λ ls. ls ++ (c.as_slice.result ∷ [])) c.new-lists.ensures.items in
    ap (λ h. to_run h (block_in c.push.new.self.items done)) c.home_of.ensures
    ∙ ap (λ b. to_run (home_of at_entry (function_view c.args.function.now) c.args.number) b) (ap (λ ls. block_in ls done) pushed ∙ (ap (λ xs. append (block_view xs) done) c.as_slice.ensures.value ∙ append_done (block_view c.args.function.now.body.items)))
