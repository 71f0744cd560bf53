use Rattle.std.proofs.Common.{arith}
use Rattle.cap_parse.specs.Sights.{sight_view}
use Rattle.cap_parse.proofs.Sights.{next_seen}
use Rattle.cap_parse.proofs.seen.Seen.next.Goals as goal

pub returns-in-len1-up : goal.returns-in-len1-up
returns-in-len1-up c =
    next_seen c.self.inside.spot c.behind-spot.result c.self.inside.tokens.now c.args.self.now
    c.token-item.result (sight_view c.sight-sight.result) c.self.view_is
    (omega (arith, c.in-len1-up.len_at_least)) c.token-item.is c.sight-sight.ensures c.behind-spot.ensures
