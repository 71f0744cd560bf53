use Rattle.std.proofs.Common.{◌≡◌, ◌≤◌, length, []}
use Rattle.std.specs.Borrow.{Bor}
use Rattle.cap_prog.specs.WellFormed.{most_members}
use Rattle.cap_parse_tree.specs.declared.tree.Function.{Function}
use Rattle.cap_parse_tree.specs.Tree.{FunctionTree}
use Rattle.cap_parse_tree.specs.Views.{function_view}
use Rattle.cap_resolve_spec.specs.Parts.{block_parts}
use Rattle.cap_resolve_spec.specs.Functions.{function_findings}
use Rattle.cap_resolve_spec.proofs.Nothing.{nothing_flat}
use Rattle.cap_resolve_tables.specs.Tables.{regions_of, functions_of}
use Rattle.cap_resolve_functions.proofs.Members.{member_in}
use Rattle.cap_resolve_program.proofs.parts.build_functions.Goals as goal

pub build_function-requires-clause-right : goal.build_function-requires-clause-right
build_function-requires-clause-right c =
    member_in (λ f. function_findings (regions_of c.args.regions.now) (functions_of c.args.functions.now) f ≡ []) (λ (x : Bor Function). function_view x.now)
    c.args.functions.now.functions.items c.deref-function-items.result.now c.loop-function.function-index c.function-item.result c.deref-function-items.ensures.value c.loop-function-test.true c.function-item.is
    (nothing_flat (function_findings (regions_of c.args.regions.now) (functions_of c.args.functions.now)) (functions_of c.args.functions.now) c.requires.right)

pub build_function-requires-clause-small : goal.build_function-requires-clause-small
build_function-requires-clause-small c =
    member_in (λ (f : FunctionTree). length (block_parts f.body) ≤ most_members) (λ (x : Bor Function). function_view x.now)
    c.args.functions.now.functions.items c.deref-function-items.result.now c.loop-function.function-index c.function-item.result c.deref-function-items.ensures.value c.loop-function-test.true c.function-item.is
    c.requires.small
