use Rattle.std.proofs.Common.{sym, ◌∙◌, arith}
use Rattle.cap_parse_laws.specs.Classes.{keyword_table}
use Rattle.cap_parse_laws.proofs.Lengths.{by_length, none_of}
use Rattle.cap_parse_laws.proofs.class.keyword_class.Goals as goal

pub returns-in-1 : goal.returns-in-1
returns-in-1 c = c.class_in.ensures ∙ sym (by_length keyword_table c.args.text.now 1 c.in-1.is)

pub returns-in-2 : goal.returns-in-2
returns-in-2 c = c.class_in-in-2.ensures ∙ sym (by_length keyword_table c.args.text.now 2 c.in-2.is)

pub returns-in-3 : goal.returns-in-3
returns-in-3 c = c.class_in-in-3.ensures ∙ sym (by_length keyword_table c.args.text.now 3 c.in-3.is)

pub returns-in-4 : goal.returns-in-4
returns-in-4 c = c.class_in-in-4.ensures ∙ sym (by_length keyword_table c.args.text.now 4 c.in-4.is)

pub returns-in-5 : goal.returns-in-5
returns-in-5 c = c.class_in-in-5.ensures ∙ sym (by_length keyword_table c.args.text.now 5 c.in-5.is)

pub returns-in-6 : goal.returns-in-6
returns-in-6 c = c.class_in-in-6.ensures ∙ sym (by_length keyword_table c.args.text.now 6 c.in-6.is)

pub returns-in-7 : goal.returns-in-7
returns-in-7 c = c.class_in-in-7.ensures ∙ sym (by_length keyword_table c.args.text.now 7 c.in-7.is)

pub returns-in-8 : goal.returns-in-8
returns-in-8 c = c.class_in-in-8.ensures ∙ sym (by_length keyword_table c.args.text.now 8 c.in-8.is)

pub returns-in-9 : goal.returns-in-9
returns-in-9 c = c.class_in-in-9.ensures ∙ sym (by_length keyword_table c.args.text.now 9 c.in-9.is)

pub returns-in-14 : goal.returns-in-14
returns-in-14 c = c.class_in-in-14.ensures ∙ sym (by_length keyword_table c.args.text.now 14 c.in-14.is)

pub returns-in_default : goal.returns-in_default
returns-in_default c = sym (none_of keyword_table c.args.text.now (omega (arith, c.in_default)))
