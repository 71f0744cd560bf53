use Rattle.std.proofs.Common.{sym, ◌∙◌, arith}
use Rattle.cap_syntax.specs.Spelling.{symbols}
use Rattle.cap_syntax.proofs.Lengths.{by_length, by_byte, none_of}
use Rattle.cap_syntax.proofs.spelling.is_symbol.Goals as goal

pub returns-in-1 : goal.returns-in-1
unfolding symbols
returns-in-1 c = c.contains.ensures.value ∙ sym (by_byte symbols c.args.text.now c.in-1.is)

pub returns-in-2 : goal.returns-in-2
unfolding symbols
returns-in-2 c = c.is_any.ensures ∙ sym (by_length symbols c.args.text.now 2 c.in-2.is)

pub returns-in-3 : goal.returns-in-3
unfolding symbols
returns-in-3 c = c.is_any-in-3.ensures ∙ sym (by_length symbols c.args.text.now 3 c.in-3.is)

pub returns-in_default : goal.returns-in_default
unfolding symbols
returns-in_default c = sym (none_of symbols c.args.text.now (omega (arith, c.in_default)))
