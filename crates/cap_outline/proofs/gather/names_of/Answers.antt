use Rattle.std.proofs.Common.{[], ◌∙◌}
use Rattle.cap_prog.specs.Views.{function_view}
use Rattle.cap_outline.proofs.Reading.{seen-there}
use Rattle.cap_outline.proofs.gather.names_of.Goals as goal

pub returns-in-Some : goal.returns-in-Some
returns-in-Some c =
    c.deref.ensures.value
    ∙ seen-there function_view (λ f. f.variables) c.functions.result.now c.args.program.now.functions c.args.function c.in-Some.function.now [] c.in-Some.ensures.lookup.3.0 c.in-Some.ensures.lookup.1 c.functions.ensures.functions
