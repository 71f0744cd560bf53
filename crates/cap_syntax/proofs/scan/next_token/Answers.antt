use Rattle.std.proofs.Common.{sym, ◌∙◌}
use Rattle.cap_syntax.proofs.Refusals.{literal_is_first, glued_text_is_first}
use Rattle.cap_syntax.proofs.scan.next_token.Goals as goal

pub returns-in_default-value_of-clause-refused : goal.returns-in_default-value_of-clause-refused
returns-in_default-value_of-clause-refused c bytes stands =
    literal_is_first bytes c.args.rest.now c.args.place stands c.in-Some.kind c.in-Some.length c.split_at.result.0.now c.in-Some.ensures c.split_at.ensures.front c.in_default-value_of.ensures

pub returns-then-begins_barred-clause-refused : goal.returns-then-begins_barred-clause-refused
returns-then-begins_barred-clause-refused c bytes stands =
    glued_text_is_first bytes c.args.rest.now c.args.place stands c.in-Some.kind c.in-Some.length c.in-Some-value_of.value c.split_at.result.0.now c.split_at.result.1.now c.moved.result c.in-Some.ensures c.split_at.ensures.front c.split_at.ensures.back c.in-Some-value_of.ensures (sym c.begins_barred.ensures ∙ c.if-begins_barred.true) c.moved.ensures
