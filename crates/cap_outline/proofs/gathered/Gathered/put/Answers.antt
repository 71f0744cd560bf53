use Rattle.cap_outline.proofs.Putting.{list-put}
use Rattle.cap_outline.proofs.gathered.Gathered.put.Goals as goal

pub returns : goal.returns
returns c =
    list-put c.self.inside.functions.items c.reach.new.self c.args.self.now c.args.function c.index_mut.result.now c.put.new.self c.args.number c.args.line.now c.put.result c.self.view_is c.in_ok-reach.ensures.there c.index_mut.ensures.value c.put.ensures c.in_ok-reach.ensures.same
