use Rattle.std.proofs.Common.{◌∙◌}
use Rattle.cap_prog.specs.Views.{program_view, statement_view}
use Rattle.cap_machine.proofs.ReadyLemmas.{enabled_as}
use Rattle.cap_machine.proofs.machine.Machine.enabled.Goals as goal

pub returns : goal.returns
returns c = c.is_some.ensures ∙ enabled_as (program_view c.args.program.now) c.args.self.now c.args.entry.now c.ready.result (λ s. statement_view s.now) c.ready.ensures
