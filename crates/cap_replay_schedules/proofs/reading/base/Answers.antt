use Rattle.std.proofs.Common.{ap, ◌∙◌, option_map}
use Rattle.cap_replay_schedules.proofs.ReadLemmas.{no_base}
use Rattle.cap_replay_schedules.proofs.reading.base.Goals as goal

pub returns-in_err-base-in-Some : goal.returns-in_err-base-in-Some
returns-in_err-base-in-Some c = c.from_residual.ensures ∙ no_base _ c.in-Some.field-0.now (ap (option_map (λ r. r.now)) c.in-Some.is) c.in_err-base-in-Some.ensures
