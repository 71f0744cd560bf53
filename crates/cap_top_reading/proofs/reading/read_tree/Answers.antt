use Rattle.std.proofs.Common.{◌∙◌, sym, subst, Err}
use Rattle.cap_top_reading.specs.Reading.{FindsTree}
use Rattle.cap_top_reading.proofs.Causes.{no_cause}
use Rattle.cap_top_reading.proofs.Trees.{have_tokens, tree_found, tree_refused, no_tokens}
use Rattle.cap_top_reading.proofs.reading.read_tree.Goals as goal

pub returns-in-Ok-parse : goal.returns-in-Ok-parse
returns-in-Ok-parse c =
    let have = have_tokens c.args.bytes.now c.in-Ok.tokens.items c.in-Ok.ensures.ok.1.front c.in-Ok.ensures.ok.1.whole c.in-Ok.ensures.ok.0 c.in-Ok.ensures.ok.1 c.in-Ok.ensures.only
    (no_cause c.args.bytes.now c.in-Ok.tokens (c.in-Ok.ensures.bad_byte, c.in-Ok.ensures.long_literal, c.in-Ok.ensures.text_too_long)) in
    let whole = c.as_slice.ensures.value ∙ c.in-Ok.ensures.ok.1.whole in
    tree_found c.args.bytes.now c.in-Ok.ensures.ok.1.front have c.in-Ok-parse.tree (c.in-Ok-parse.ensures.answers _ _ whole) (c.in-Ok-parse.ensures.only _ _ whole)

pub returns-in-Ok : goal.returns-in-Ok
returns-in-Ok c =
    let have = have_tokens c.args.bytes.now c.in-Ok.tokens.items c.in-Ok.ensures.ok.1.front c.in-Ok.ensures.ok.1.whole c.in-Ok.ensures.ok.0 c.in-Ok.ensures.ok.1 c.in-Ok.ensures.only
    (no_cause c.args.bytes.now c.in-Ok.tokens (c.in-Ok.ensures.bad_byte, c.in-Ok.ensures.long_literal, c.in-Ok.ensures.text_too_long)) in
    let whole = c.as_slice.ensures.value ∙ c.in-Ok.ensures.ok.1.whole in
    subst (λ e. FindsTree c.args.bytes.now (Err e)) (sym c.parse_refusal.ensures)
    (tree_refused c.args.bytes.now c.in-Ok.ensures.ok.1.front have c.in-Err-parse.error (c.in-Err-parse.ensures.answers _ _ whole) (c.in-Err-parse.ensures.only _ _ whole))

pub returns : goal.returns
returns c =
    no_tokens c.args.bytes.now c.in-Err.error c.token_refusal.result c.token_refusal.ensures c.in-Err.ensures.only
    (c.in-Err.ensures.bad_byte, c.in-Err.ensures.long_literal, c.in-Err.ensures.text_too_long)
