use Rattle.cap_top_words.proofs.Built.{bare_is}
use Rattle.cap_top_words.proofs.parser.bare.Goals as goal

pub returns : goal.returns
returns c = bare_is c.new.result c.no_binary_name.result c.disable_help_flag.result c.disable_help_subcommand.result c.subcommand_required.result
    c.new.ensures.app c.no_binary_name.ensures c.disable_help_flag.ensures c.disable_help_subcommand.ensures c.subcommand_required.ensures
