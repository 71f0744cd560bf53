use Rattle.cap_syntax.proofs.ReadBack.{reads_back, tokens_are_spelled}
use Rattle.cap_syntax.proofs.laws.printed_tokens_read_back.Goals as goal

pub returns-clause-spelled : goal.returns-clause-spelled
returns-clause-spelled c = tokens_are_spelled

pub returns-clause-read_back : goal.returns-clause-read_back
returns-clause-read_back c = reads_back
