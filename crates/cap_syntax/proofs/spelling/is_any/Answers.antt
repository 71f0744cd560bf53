use Rattle.std.proofs.Common.{◌∙◌}
use Rattle.cap_syntax.proofs.Lengths.{one_of_views}
use Rattle.cap_syntax.proofs.spelling.is_any.Goals as goal

pub returns : goal.returns
returns c = c.contains.ensures.value ∙ one_of_views c.args.words.now c.args.text.now
