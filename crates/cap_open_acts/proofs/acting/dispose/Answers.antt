use Rattle.std.proofs.Common.{◌≤◌, length, arith, sym, ap, ◌∙◌}
use Rattle.cap_open_acts.specs.Steps.{disposed}
use Rattle.cap_open_acts.proofs.Effects.{stays}
use Rattle.cap_open_acts.proofs.acting.dispose.Goals as goal

pub returns-then-number-cells : goal.returns-then-number-cells
returns-then-number-cells c =
    let s = c.in_ok-next.next in
    let h : length s.cells ≤ c.args.number = rw (← c.cells.ensures) (omega arith) in
    sym (stays s c.args.number h) ∙ ap (λ t. disposed t c.args.number) c.in_ok-next.ensures
