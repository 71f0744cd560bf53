use Rattle.std.proofs.Common.{◌-◌, length, take, ◌∙◌}
use Rattle.cap_parse.proofs.Exactly.{AreLaws, before-last, the-last, parse-answers, parse-only}
use Rattle.cap_parse.proofs.text.parse.Goals as goal

abbrev laws : goal.After-read → AreLaws
laws c = record {
  sound = c.texts_are_read_as_spelled.ensures.sound;
  complete = c.texts_are_read_as_spelled.ensures.complete;
  unexpected_at = c.texts_go_wrong_at_one_token.ensures.unexpected_exactly;
  too_deep_at = c.texts_go_wrong_at_one_token.ensures.too_deep_exactly;
}

pub returns-clause-answers : goal.returns-clause-answers
returns-clause-answers c = λ front last e.
    parse-answers (laws c) (take (length c.args.tokens.now - 1) c.args.tokens.now) front c.last-item.result last c.read.result c.read.ensures
    (before-last c.args.tokens.now front last e) (c.last-item.is ∙ the-last c.args.tokens.now front last c.last-item.result e)

pub returns-clause-only : goal.returns-clause-only
returns-clause-only c = λ front last e.
    parse-only (laws c) (take (length c.args.tokens.now - 1) c.args.tokens.now) front c.last-item.result last c.read.result c.read.ensures
    (before-last c.args.tokens.now front last e) (c.last-item.is ∙ the-last c.args.tokens.now front last c.last-item.result e)
