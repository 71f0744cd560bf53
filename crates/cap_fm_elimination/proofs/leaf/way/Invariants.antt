use Rattle.std.proofs.Common.{◌≡◌, length, map, take, set, replicate, true, false}
use Rattle.std.specs.Prelude.{reverse}
use Rattle.cap_fm_elimination.specs.Views.{origin_view, history_view}
use Rattle.cap_fm_elimination.proofs.LeavesWay.{marked_down}
use Rattle.cap_fm_elimination.proofs.leaf.way.Given as goal

abbrev pub invariant-loop-place : goal.invariant-loop-place
invariant-loop-place l = record {
  long : length l.way.items ≡ length l.history;
  marks : marked_down (reverse (take l.place (map origin_view l.history))) l.way.items ≡ marked_down (history_view l.history) (set (replicate (length l.history) false) l.last true);
}
