use Rattle.cap_outline.proofs.Putting.{vec-put}
use Rattle.cap_outline.proofs.gathered.Lines.put.Goals as goal

pub returns : goal.returns
returns c =
    vec-put c.self.inside.statements.items c.reach.new.self c.args.self.now c.args.number c.index_mut.result.now c.extend_from_slice.new.self c.args.line.now c.extend_from_slice.result c.self.view_is c.in_ok-reach.ensures.there c.index_mut.ensures.value c.extend_from_slice.ensures.items c.in_ok-reach.ensures.same
