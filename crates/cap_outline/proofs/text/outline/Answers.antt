use Rattle.std.proofs.Common.{◌≡◌, ◌++◌, ap, ◌∙◌, map}
use Rattle.cap_prog.specs.Views.{function_view, program_view}
use Rattle.cap_goal.specs.Trees.{bundle_view}
use Rattle.cap_rules_nodes.specs.Nodes.{program_nodes}
use Rattle.cap_kernel_nodes.specs.Views.{nodes_ahead, trees_lent}
use Rattle.cap_outline.specs.Gathered.{gathered_functions, nodes_lines}
use Rattle.cap_outline.proofs.Gathering.{outline-same}
use Rattle.cap_outline.proofs.text.outline.Goals as goal

pub returns : goal.returns
returns c =
    let p = program_view c.args.program.now in
    let trees = bundle_view c.args.bundle.now in
    let gs = c.in_ok-gathered.gathered in
    let nodes : nodes_ahead p c.in_ok-walk.walk ≡ program_nodes p trees =
    c.in_ok-walk.ensures ∙ ap (λ ts. program_nodes p (trees_lent ts)) c.deref.ensures.value in
    c.in_ok-push_functions.ensures
    ∙ (ap (λ w. w ++ gathered_functions gs 0 (map function_view c.functions.result.now)) c.new-text.ensures.items
    ∙ (ap (λ fs. gathered_functions gs 0 (map function_view fs)) c.functions.ensures.functions
    ∙ outline-same p trees gs (λ f k. c.in_ok-gathered.ensures f k ∙ ap (nodes_lines p f k) nodes)))
