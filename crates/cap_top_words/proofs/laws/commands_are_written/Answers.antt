use Rattle.cap_top_words.proofs.Commands.{commands_are_written}
use Rattle.cap_top_words.proofs.laws.commands_are_written.Goals as goal

pub returns : goal.returns
returns c = commands_are_written
