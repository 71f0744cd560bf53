use Rattle.std.proofs.Common.{sym, ◌∙◌, ap, arith}
use Rattle.cap_parse_laws.specs.Classes.{class_in, symbol_table}
use Rattle.cap_parse_laws.proofs.Lengths.{by_length, none_of, single}
use Rattle.cap_parse_laws.proofs.class.symbol_class.Goals as goal

pub returns-in-1 : goal.returns-in-1
returns-in-1 c = c.byte_class.ensures ∙ ap (class_in symbol_table) (single c.args.text.now c.in-1.is)

pub returns-in-2 : goal.returns-in-2
returns-in-2 c = c.class_in.ensures ∙ sym (by_length symbol_table c.args.text.now 2 c.in-2.is)

pub returns-in-3 : goal.returns-in-3
returns-in-3 c = c.class_in-in-3.ensures ∙ sym (by_length symbol_table c.args.text.now 3 c.in-3.is)

pub returns-in_default : goal.returns-in_default
returns-in_default c = sym (none_of symbol_table c.args.text.now (omega (arith, c.in_default)))
