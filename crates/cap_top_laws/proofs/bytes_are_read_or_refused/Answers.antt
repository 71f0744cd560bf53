use Rattle.cap_top_laws.proofs.Texts.{read-or-refused}
use Rattle.cap_top_laws.proofs.bytes_are_read_or_refused.Goals as goal

pub returns : goal.returns
returns c = read-or-refused c.texts_are_read_or_refused.ensures c.texts_go_wrong_at_one_token.ensures.one_of_three
