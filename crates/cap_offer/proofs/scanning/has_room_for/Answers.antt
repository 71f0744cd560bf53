use Rattle.std.proofs.Common.{◌-◌, ◌<◌, ◌≤◌, List, length, nat_le, subst, ◌∙◌, ap}
use Rattle.cap_lin.specs.declared.row.Sort.{Sort}
use Rattle.cap_goal_spec.specs.States.{longest_list}
use Rattle.cap_offer.proofs.Noted.{room-lacks, room-is}
use Rattle.cap_offer.proofs.scanning.has_room_for.Goals as goal

pub returns-then-sorts-gt-LONGEST_LIST : goal.returns-then-sorts-gt-LONGEST_LIST
returns-then-sorts-gt-LONGEST_LIST c =
    room-lacks c.args.state.now c.args.marks.now (subst (λ (ss : List Sort). longest_list < length ss) c.sorts-sorts.ensures c.if-sorts-gt-LONGEST_LIST.true)

pub returns : goal.returns
returns c =
    let s = c.args.state.now in
    let h = subst (λ (ss : List Sort). length ss ≤ longest_list) c.sorts-sorts.ensures c.if-sorts-gt-LONGEST_LIST.false in
    ap (λ (ss : List Sort). nat_le c.unmarked.result (longest_list - length ss)) c.sorts-sorts.ensures
    ∙ room-is s c.args.marks.now c.unmarked.result h c.unmarked.ensures
