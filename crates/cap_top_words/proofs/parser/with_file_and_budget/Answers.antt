use Rattle.std.proofs.Common.{◌∙◌, ap₂, rules}
use Rattle.clap.specs.Words.{with_rule}
use Rattle.cap_top_words.proofs.parser.with_file_and_budget.Goals as goal

pub returns : goal.returns
returns c =
    let option = c.in_ok-arg.ensures.shape c.budget.ensures.local in
    let file = c.in_ok-arg-2.ensures.shape c.operand.ensures.local in (
      file
          ∙ ap₂ with_rule (option ∙ ap₂ with_rule c.new.ensures.app c.budget.ensures.rule)
          c.operand.ensures.rule,
      search rules,
    )
