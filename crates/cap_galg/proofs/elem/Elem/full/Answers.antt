use Rattle.cap_galg.proofs.Proper.{full-proper}
use Rattle.cap_galg.specs.Views.{algebra_view, node_view}
use Rattle.cap_galg.proofs.elem.Elem.full.Goals as goal

pub invariant_of-result : goal.invariant_of-result
invariant_of-result c = record { proper = full-proper (algebra_view c.args.algebra.now) (algebra_view c.in_ok-copy.field-0) (node_view c.in_ok-node.node) c.in_ok-node.ensures c.in_ok-copy.ensures }
