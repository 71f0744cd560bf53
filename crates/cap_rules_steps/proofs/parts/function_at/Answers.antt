use Rattle.std.proofs.Common.{arith, ◌≤◌, length}
use Rattle.cap_prog.specs.Views.{function_view}
use Rattle.cap_rules_steps.proofs.Listing.{none_there}
use Rattle.cap_rules_steps.proofs.parts.function_at.Goals as goal

pub returns-then-number-functions : goal.returns-then-number-functions
returns-then-number-functions c =
    let h : length c.args.program.now.functions ≤ c.args.number = rw (← c.functions.ensures.functions) (omega arith) in
    none_there function_view c.args.program.now.functions c.args.number h
