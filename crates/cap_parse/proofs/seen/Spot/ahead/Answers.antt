use Rattle.std.proofs.Common.{arith, refl, ◌∙◌}
use Rattle.cap_parse.specs.Sights.{seen_from_spot}
use Rattle.cap_parse.proofs.Sights.{ahead_seen}
use Rattle.cap_parse.proofs.seen.Spot.ahead.Goals as goal

pub returns-in-len1-up : goal.returns-in-len1-up
returns-in-len1-up c =
    let from = seen_from_spot c.args.self c.args.tokens.now in
    c.class.ensures
    ∙ ahead_seen c.args.self c.args.tokens.now from c.token-item.result refl
    (omega (arith, c.in-len1-up.len_at_least)) c.token-item.is
