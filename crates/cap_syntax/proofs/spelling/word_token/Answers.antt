use Rattle.std.proofs.Common.{sym, ◌∙◌}
use Rattle.std.proofs.lemmas.Bool.{and_from, not_from_false}
use Rattle.cap_syntax.specs.declared.token.TokenKind.TheVariants.{Name, Keyword}
use Rattle.cap_syntax.proofs.Longest.{word_is_longest, word_front}
use Rattle.cap_syntax.proofs.spelling.word_token.Goals as goal

pub returns-then-is_keyword : goal.returns-then-is_keyword
returns-then-is_keyword c =
    word_is_longest Keyword c.args.rest.now _ c.requires c.word_length-length.ensures (sym c.is_keyword.ensures ∙ c.if-is_keyword.true)

pub returns-else-is_keyword : goal.returns-else-is_keyword
returns-else-is_keyword c =
    word_is_longest Name c.args.rest.now _ c.requires c.word_length-length.ensures (and_from _ _ (word_front c.args.rest.now _ c.requires c.word_length-length.ensures) (not_from_false _ (sym c.is_keyword.ensures ∙ c.if-is_keyword.false)))
