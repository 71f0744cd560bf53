use Rattle.std.proofs.Common.{sym, ◌∙◌}
use Rattle.cap_syntax.proofs.Longest.{none_past_three, none_past_two, none_past_one, none_at_all}
use Rattle.cap_syntax.proofs.spelling.symbol_length.Goals as goal

pub returns-then-has_symbol-clause-longest : goal.returns-then-has_symbol-clause-longest
returns-then-has_symbol-clause-longest c = none_past_three c.args.rest.now

pub returns-then-has_symbol-2-clause-longest : goal.returns-then-has_symbol-2-clause-longest
returns-then-has_symbol-2-clause-longest c m =
    none_past_two c.args.rest.now m (sym c.has_symbol.ensures ∙ c.if-has_symbol.false)

pub returns-then-has_symbol-3-clause-longest : goal.returns-then-has_symbol-3-clause-longest
returns-then-has_symbol-3-clause-longest c m =
    none_past_one c.args.rest.now m (sym c.has_symbol.ensures ∙ c.if-has_symbol.false) (sym c.has_symbol-else-has_symbol.ensures ∙ c.if-has_symbol-2.false)

pub returns-else-has_symbol-3-clause-longest : goal.returns-else-has_symbol-3-clause-longest
returns-else-has_symbol-3-clause-longest c m =
    none_at_all c.args.rest.now m (sym c.has_symbol.ensures ∙ c.if-has_symbol.false) (sym c.has_symbol-else-has_symbol.ensures ∙ c.if-has_symbol-2.false) (sym c.has_symbol-else-has_symbol-2.ensures ∙ c.if-has_symbol-3.false)
