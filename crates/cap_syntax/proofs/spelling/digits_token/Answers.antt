use Rattle.std.proofs.Common.{sym, ◌∙◌}
use Rattle.cap_syntax.proofs.Longest.{digits_are_longest, share_is_longest}
use Rattle.cap_syntax.proofs.spelling.digits_token.Goals as goal

pub returns-then-starts_with : goal.returns-then-starts_with
returns-then-starts_with c = share_is_longest c.args.rest.now (sym c.starts_with.ensures.value ∙ c.if-starts_with.true)

pub returns-else-starts_with : goal.returns-else-starts_with
returns-else-starts_with c =
    digits_are_longest c.args.rest.now _ c.requires (sym c.starts_with.ensures.value ∙ c.if-starts_with.false) c.digits_length.ensures
