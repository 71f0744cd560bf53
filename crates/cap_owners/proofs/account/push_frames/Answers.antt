use Rattle.std.proofs.Common.{◌++◌, ap}
use Rattle.cap_prog.specs.Views.{program_view}
use Rattle.cap_owners.proofs.Writing.{lines-beside, ok-same}
use Rattle.cap_owners.proofs.account.push_frames.Goals as goal

pub returns : goal.returns
returns c =
    ok-same c.push_lines.result c.push_lines.new.text.items _ _
    (ap (λ t. c.args.text.now.items ++ t) (lines-beside (program_view c.args.program.now) c.args.thread c.min-count.result c.args.frames.now c.args.tracked.now c.min-count.ensures))
    c.push_lines.ensures
