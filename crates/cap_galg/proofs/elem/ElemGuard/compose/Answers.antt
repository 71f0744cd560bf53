use Rattle.std.proofs.Common.{◌≡◌, Ok, Some, subst}
use Rattle.cap_galg.specs.Views.{algebra_view, node_view}
use Rattle.cap_galg_spec.specs.Answers.{IsComposition}
use Rattle.cap_galg.proofs.Proper.{has_shares, closed-proper}
use Rattle.cap_galg.proofs.elem.ElemGuard.compose.Goals as goal

pub compose-requires-clause-shares : goal.compose-requires-clause-shares
compose-requires-clause-shares c = has_shares (algebra_view c.args.self.now.algebra) (node_view c.args.self.now.node) c.args.self.now.proper

pub compose-requires-clause-other_shares : goal.compose-requires-clause-other_shares
compose-requires-clause-other_shares c = has_shares (algebra_view c.args.other.now.algebra) (node_view c.args.other.now.node) c.args.other.now.proper

pub invariant_of-result : goal.invariant_of-result
invariant_of-result c =
    let n : c.compose.result ≡ Ok (Some c.in-Some.node) = cc in
    let r = subst (IsComposition node_view (node_view c.args.self.now.node) (node_view c.args.other.now.node)) n c.compose.ensures in
    record { proper = closed-proper (algebra_view c.args.self.now.algebra) (algebra_view c.args.other.now.algebra) (algebra_view c.in_ok-copy-in-Some.field-0) (node_view c.args.self.now.node) (node_view c.args.other.now.node) (node_view c.in-Some.node) c.args.self.now.proper c.args.other.now.proper c.requires c.in_ok-copy-in-Some.ensures r.0 }
