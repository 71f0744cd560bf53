use Rattle.cap_parse_laws.proofs.Again.{canonical-again, text-again}
use Rattle.cap_parse_laws.proofs.laws.canonical_texts_read_back.Goals as goal

pub returns-clause-tokens : goal.returns-clause-tokens
returns-clause-tokens c = canonical-again c.printed_tokens_read_back.ensures.read_back

pub returns-clause-text : goal.returns-clause-text
returns-clause-text c =
    text-again c.printed_tokens_read_back.ensures.read_back c.printed_tokens_read_back.ensures.spelled
