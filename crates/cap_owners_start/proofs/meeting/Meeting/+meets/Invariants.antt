use Rattle.std.proofs.Common.{◌≡◌}
use Rattle.cap_prog.specs.Views.{items_view}
use Rattle.cap_owners_spec.specs.Start.{meets_all}
use Rattle.cap_owners_start.proofs.Meets.{met_from}
use Rattle.cap_owners_start.proofs.meeting.Meeting.+meets.Given as goal

abbrev pub invariant-meet_all-loop-item : goal.invariant-meet_all-loop-item
invariant-meet_all-loop-item l = met_from l.item-items l.item-index l.self ≡ meets_all (items_view l.assertion) l.fn.self
