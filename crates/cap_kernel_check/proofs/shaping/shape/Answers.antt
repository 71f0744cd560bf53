use Rattle.std.proofs.Common.{◌≡◌, ◌≢◌, length, map, rules, sym, ◌∙◌}
use Rattle.std.proofs.lemmas.List.{length-map}
use Rattle.cap_prog.specs.Views.{program_view}
use Rattle.cap_goal.specs.Views.{choice_view}
use Rattle.cap_kernel_check_steps.specs.GrowthViews.{Shapes}
use Rattle.cap_kernel_check_steps.specs.Views.{start_view, starts_view}
use Rattle.cap_kernel_check_steps.proofs.Starting.{starts-many}
use Rattle.cap_kernel_check_steps.proofs.Growing.{miscounted-judged}
use Rattle.cap_kernel_check_steps.proofs.Bundles.{shapes-valid, shapes-many, shapes-refused}
use Rattle.cap_kernel_check.proofs.shaping.shape.Goals as goal

pub returns-then-len-trees-clause-refused : goal.returns-then-len-trees-clause-refused
returns-then-len-trees-clause-refused c =
    let h1 = c.len.ensures in let h2 = c.if-len-trees.true in
    let p = program_view c.args.program.now in
    let ss = c.in_ok-starts.starts.items in
    let other : length ss ≢ c.args.trees = search rules in
    λ x. miscounted-judged p c.args.trees (map choice_view c.args.choices.now) (λ m. other (starts-many p ss c.in_ok-starts.ensures.all ∙ sym m))

pub returns-clause-valid : goal.returns-clause-valid
returns-clause-valid c =
    let ss = starts_view c.in_ok-starts.starts.items in
    shapes-valid (program_view c.args.program.now) ss (map choice_view c.args.choices.now) c.shape_at.result c.in_ok-starts.ensures.all (rw c.deref.ensures.value at c.shape_at.ensures)

pub returns-clause-many : goal.returns-clause-many
returns-clause-many c =
    let h1 = c.len.ensures in let h2 = c.if-len-trees.false in
    let ss = c.in_ok-starts.starts.items in
    let same : length ss ≡ c.args.trees = search rules in
    shapes-many (program_view c.args.program.now) (starts_view ss) (map choice_view c.args.choices.now) c.shape_at.result c.args.trees (length-map ss start_view ∙ same) (rw c.deref.ensures.value at c.shape_at.ensures)

pub returns-clause-refused : goal.returns-clause-refused
returns-clause-refused c =
    let h1 = c.len.ensures in let h2 = c.if-len-trees.false in
    let ss = c.in_ok-starts.starts.items in
    let same : length ss ≡ c.args.trees = search rules in
    shapes-refused (program_view c.args.program.now) (starts_view ss) (map choice_view c.args.choices.now) c.shape_at.result c.args.trees c.in_ok-starts.ensures.all (length-map ss start_view ∙ same) (rw c.deref.ensures.value at c.shape_at.ensures)
