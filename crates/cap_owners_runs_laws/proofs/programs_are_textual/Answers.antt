use Rattle.cap_owners_runs_laws.proofs.Texts.Textual.{textual}
use Rattle.cap_owners_runs_laws.proofs.programs_are_textual.Goals as goal

pub returns : goal.returns
returns c = textual
