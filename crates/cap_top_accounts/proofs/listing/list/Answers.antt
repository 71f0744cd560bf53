use Rattle.cap_top_commands.specs.Views.{output_view}
use Rattle.cap_top_accounts.proofs.Derivations.{lists_lines, lists_bad}
use Rattle.cap_top_accounts.proofs.listing.list.Goals as goal

pub returns-in-Ok : goal.returns-in-Ok
returns-in-Ok c = lists_lines c.args.bytes.now c.in-Ok.lines c.in-Ok.ensures

pub returns-in_ok-bad_lines-in-Err : goal.returns-in_ok-bad_lines-in-Err
returns-in_ok-bad_lines-in-Err c =
    lists_bad c.args.bytes.now c.in-Err.error (output_view c.in_ok-bad_lines-in-Err.field-0) c.in-Err.ensures
    c.in_ok-bad_lines-in-Err.ensures.0 c.in_ok-bad_lines-in-Err.ensures.1
