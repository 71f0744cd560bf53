use Rattle.std.proofs.Common.{◌≡◌, drop}
use Rattle.std.specs.Prelude.{fold}
use Rattle.clap.specs.Words.{app_of}
use Rattle.cap_top_words.proofs.Built.{with_row}
use Rattle.cap_top_words.proofs.parser.with_subcommands.Given as goal

abbrev pub invariant-loop-name : goal.invariant-loop-name
invariant-loop-name l = fold with_row (app_of l.command) (drop l.name-index l.table) ≡ fold with_row (app_of l.initial.command) l.table
