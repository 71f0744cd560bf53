-- What a command of the code is to the definition.
use Rattle.cap_top_words.specs.declared.command.Command.{Command}
use Rattle.cap_top_words.specs.declared.command.Command.TheVariants.{Verify, Derive, Check}
use Rattle.cap_top_words.specs.declared.command.Command.TheVariants.{Replay, Show, Trial, Outline}
use Rattle.cap_top_words.specs.declared.command.Command.TheVariants.{Owners, Stray, Core}
use Rattle.cap_top_words.specs.Meaning.{PlainCommand, verify, derive, check, replay, show, trial}
use Rattle.cap_top_words.specs.Meaning.{outline, owners, stray, core}

abbrev pub command_view : Command → PlainCommand
command_view (Verify file budget) = verify file.now budget
command_view (Derive file budget) = derive file.now budget
command_view (Check file derivation) = check file.now derivation.now
command_view (Replay file schedule) = replay file.now schedule.now
command_view (Show file) = show file.now
command_view (Trial number) = trial number
command_view (Outline file derivation) = outline file.now derivation.now
command_view (Owners file derivation schedule) = owners file.now derivation.now schedule.now
command_view (Stray file number count) = stray file.now number count
command_view (Core file) = core file.now
