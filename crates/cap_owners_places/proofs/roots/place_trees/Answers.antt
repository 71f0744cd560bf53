use Rattle.std.proofs.Common.{sym}
use Rattle.std.proofs.lemmas.List.{length-map}
use Rattle.cap_prog.specs.Views.{program_view, region_view}
use Rattle.cap_goal.specs.Trees.{bundle_view}
use Rattle.cap_goal_spec.specs.Roots.{all_roots}
use Rattle.cap_owners_places.proofs.Placing.{program-proven, roots-placed, roots-viewed}
use Rattle.cap_owners_places.proofs.roots.place_trees.Goals as goal

pub place_roots-requires : goal.place_roots-requires
place_roots-requires c =
    let p = program_view c.args.program.now in
    let h = program-proven c.program_nodes_are_proven.ensures p (bundle_view c.args.bundle.now) c.well_formed-2.ensures c.requires in
    rw (c.deref.ensures.value, c.in_ok-roots.ensures.goals) h

pub returns : goal.returns
returns c =
    let p = program_view c.args.program.now in
    let ts = bundle_view c.args.bundle.now in
    let qs = c.in_ok-place_roots.field-0.items in
    let e = rw (c.deref.ensures.value, c.in_ok-roots.ensures.goals) at c.in_ok-place_roots.ensures in
    record {
      trees = roots-viewed p qs (all_roots p) ts e c.requires.derivations;
      placed = roots-placed p qs (all_roots p) ts e c.requires.derivations;
      begins = c.in_ok-roots.ensures.begins;
      regions = rw c.regions.ensures.regions (sym (length-map c.args.program.now.regions region_view));
    }
