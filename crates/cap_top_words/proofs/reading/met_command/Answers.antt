use Rattle.std.proofs.Common.{◌∙◌}
use Rattle.clap.specs.Words.{found_of, rows_of}
use Rattle.cap_top_words.proofs.Exact.{met_is}
use Rattle.cap_top_words.proofs.reading.met_command.Goals as goal

pub returns : goal.returns
returns c =
    c.command.ensures
    ∙ met_is c.args.matches.now c.in_ok-name.name.now (rows_of (found_of c.in_ok-name.inner.now)) c.in_ok-name.ensures.name c.in_ok-name.ensures.rows
