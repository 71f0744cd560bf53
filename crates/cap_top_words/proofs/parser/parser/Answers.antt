use Rattle.std.proofs.Common.{◌≡◌, ◌∙◌, ap, codes, subst}
use Rattle.std.specs.Prelude.{IfOk}
use Rattle.clap.specs.Words.{App, app_of, with_subcommand}
use Rattle.cap_top_words.specs.Parser.{budgeted_rules, subcommand_of_rules}
use Rattle.cap_top_words.proofs.Built.{with_others}
use Rattle.cap_top_words.proofs.parser.parser.Goals as goal

pub returns : goal.returns
returns c =
    let verify = c.in_ok-command.ensures ∙ ap (λ (a : App). with_subcommand a (subcommand_of_rules (codes "verify") budgeted_rules)) c.bare.ensures in
    let derive = c.in_ok-command-2.ensures ∙ ap (λ (a : App). with_subcommand a (subcommand_of_rules (codes "derive") budgeted_rules)) verify in
    subst (λ (a : App). IfOk c.with_subcommands.result (λ k. app_of k ≡ with_others a)) derive c.with_subcommands.ensures
