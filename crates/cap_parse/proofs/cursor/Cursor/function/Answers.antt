use Rattle.std.proofs.Common.{Ok, sym, ap, ◌∙◌}
use Rattle.std.proofs.lemmas.Result.{err_from_is_err_and}
use Rattle.cap_parse_tree.specs.Views.{block_view, function_view}
use Rattle.cap_parse.specs.Heads.{read_whole_block, function_head_view, contract_view, function_tree}
use Rattle.cap_parse.proofs.Parts.{then-stops, function_parts}
use Rattle.cap_parse.proofs.cursor.Cursor.function.Goals as goal

pub returns : goal.returns
returns c =
    function_parts c.args.room c.args.self.now.rest
    ∙ rw (c.in_ok-head.ensures, c.in_ok-contract.ensures, c.in_ok-body.ensures)
    (ap (λ f. Ok (f, c.whole_block.new.self.rest)) (sym c.function_of.ensures))

pub returns-in_err-body : goal.returns-in_err-body
returns-in_err-body c =
    let p = err_from_is_err_and c.from_residual-in_err-body.result c.from_residual-in_err-body.ensures.1 in
    rw (p.1, p.2, function_parts c.args.room c.args.self.now.rest, c.in_ok-head.ensures, c.in_ok-contract.ensures)
    (then-stops block_view function_view c.whole_block.new.self.rest c.in_err-body.field-0.0 (read_whole_block c.args.room c.contract.new.self.rest)
    (λ b. Ok (function_tree (function_head_view c.in_ok-head.head) (contract_view c.in_ok-contract.contract) b.0, b.1))
    c.in_err-body.ensures)
