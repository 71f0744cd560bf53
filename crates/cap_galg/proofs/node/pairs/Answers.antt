use Rattle.std.proofs.Common.{◌≡◌, Ok, Err, Some, None, ap, sym, subst, ◌∙◌}
use Rattle.std.proofs.lemmas.Result.{err_from_is_err_and}
use Rattle.cap_galg_spec.specs.Elements.{both}
use Rattle.cap_galg.specs.Views.{node_view}
use Rattle.cap_galg_spec.specs.Answers.{IsComposition}
use Rattle.cap_galg.specs.declared.node.Node.{Node}
use Rattle.cap_galg_spec.proofs.Sides.{both-two, two-composition, two-some, two-error, error-is}
use Rattle.cap_galg.proofs.node.pairs.Goals as goal

pub returns-in_err-x : goal.returns-in_err-x
returns-in_err-x c = λ a b x y p q.
    let n : c.paired_answer.result ≡ Err c.in_err-x.field-0.0 = c.in_err-x.was in
    error-is node_view (both a b) (both x y) c.from_residual.result c.in_err-x.field-0.0 (err_from_is_err_and c.from_residual.result c.from_residual.ensures.1)
    (two-error node_view node_view node_view (both a b) (both x y) a b x y both c.args.first c.args.second c.paired_answer.result c.in_err-x.field-0.0 (both-two a b x y) p q c.paired_answer.ensures n)

pub returns-in_ok-pair_node-in-Some : goal.returns-in_ok-pair_node-in-Some
returns-in_ok-pair_node-in-Some c = λ a b x y p q.
    let n : c.paired_answer.result ≡ Ok (Some (c.in-Some.x, c.in-Some.y)) = c.in_ok-x.was ∙ ap Ok c.in-Some.is in
    let s = two-some node_view node_view (both a b) (both x y) a b x y both c.args.first c.args.second c.paired_answer.result c.in-Some.x c.in-Some.y (both-two a b x y) p q c.paired_answer.ensures n in
    (s.0 ∙ ap (λ w. Some w) (sym c.in_ok-pair_node-in-Some.ensures), s.1)

pub returns-in-None : goal.returns-in-None
returns-in-None c = λ a b x y p q.
    let n : c.paired_answer.result ≡ Ok None = c.in_ok-x.was ∙ ap Ok c.in-None.is in
    subst (IsComposition {T = Node × Node} (λ w. both (node_view w.0) (node_view w.1)) (both a b) (both x y)) (sym c.paired_answer.ensures ∙ n)
    (two-composition node_view node_view (both a b) (both x y) a b x y both c.args.first c.args.second (both-two a b x y) p q)
