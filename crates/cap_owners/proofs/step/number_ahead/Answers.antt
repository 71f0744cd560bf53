use Rattle.std.proofs.Common.{ap, sym, ◌∙◌}
use Rattle.std.specs.Prelude.{option_map}
use Rattle.cap_prog.specs.Views.{program_view}
use Rattle.cap_machine.specs.View.{configuration}
use Rattle.cap_machine.specs.declared.event.Ahead.{Ahead}
use Rattle.cap_owners.proofs.Seeing.{number-seen}
use Rattle.cap_owners.proofs.step.number_ahead.Goals as goal

pub returns-in-None : goal.returns-in-None
returns-in-None c =
    ap (option_map (λ (a : Ahead). a.number)) (sym c.in-None.is ∙ c.ahead.ensures.ahead)
    ∙ number-seen (configuration (program_view c.args.program.now) c.args.machine.now) c.args.thread

pub returns-in-Some : goal.returns-in-Some
returns-in-Some c =
    ap (option_map (λ (a : Ahead). a.number)) (sym c.in-Some.is ∙ c.ahead.ensures.ahead)
    ∙ number-seen (configuration (program_view c.args.program.now) c.args.machine.now) c.args.thread
