use Rattle.std.proofs.Common.{sym, ◌∙◌, arith}
use Rattle.cap_syntax.specs.Spelling.{keywords}
use Rattle.cap_syntax.proofs.Lengths.{by_length, none_of}
use Rattle.cap_syntax.proofs.spelling.is_keyword.Goals as goal

pub returns-in-2 : goal.returns-in-2
unfolding keywords
returns-in-2 c = c.is_any.ensures ∙ sym (by_length keywords c.args.text.now 2 c.in-2.is)

pub returns-in-3 : goal.returns-in-3
unfolding keywords
returns-in-3 c = c.is_any-in-3.ensures ∙ sym (by_length keywords c.args.text.now 3 c.in-3.is)

pub returns-in-4 : goal.returns-in-4
unfolding keywords
returns-in-4 c = c.is_any-in-4.ensures ∙ sym (by_length keywords c.args.text.now 4 c.in-4.is)

pub returns-in-5 : goal.returns-in-5
unfolding keywords
returns-in-5 c = c.is_any-in-5.ensures ∙ sym (by_length keywords c.args.text.now 5 c.in-5.is)

pub returns-in-6 : goal.returns-in-6
unfolding keywords
returns-in-6 c = c.is_any-in-6.ensures ∙ sym (by_length keywords c.args.text.now 6 c.in-6.is)

pub returns-in-7 : goal.returns-in-7
unfolding keywords
returns-in-7 c = c.is_any-in-7.ensures ∙ sym (by_length keywords c.args.text.now 7 c.in-7.is)

pub returns-in-8 : goal.returns-in-8
unfolding keywords
returns-in-8 c = c.is_any-in-8.ensures ∙ sym (by_length keywords c.args.text.now 8 c.in-8.is)

pub returns-in-9 : goal.returns-in-9
unfolding keywords
returns-in-9 c = c.is_any-in-9.ensures ∙ sym (by_length keywords c.args.text.now 9 c.in-9.is)

pub returns-in-14 : goal.returns-in-14
unfolding keywords
returns-in-14 c = c.is_any-in-14.ensures ∙ sym (by_length keywords c.args.text.now 14 c.in-14.is)

pub returns-in_default : goal.returns-in_default
unfolding keywords
returns-in_default c = sym (none_of keywords c.args.text.now (omega (arith, c.in_default)))
