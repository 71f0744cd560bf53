use Rattle.std.proofs.Common.{◌≡◌, map, take}
use Rattle.cap_prog.specs.Program.{PlainCase}
use Rattle.cap_prog.specs.Views.{case_view}
use Rattle.cap_search_trees.proofs.places.region_places.Given as goal

abbrev pub invariant-loop-case : goal.invariant-loop-case
invariant-loop-case l =
    l.places.items ≡ map (λ (x : PlainCase). x.place) (map case_view (take l.case-index l.case-items))
