use Rattle.std.proofs.Common.{◌∙◌, ap, sym}
use Rattle.std.specs.Prelude.{option_copied}
use Rattle.cap_prog.specs.Views.{program_view}
use Rattle.cap_owners_spec.specs.Texts.{region_line}
use Rattle.cap_owners.proofs.Writing.{region-ends, region-goes}
use Rattle.cap_owners.proofs.account.push_regions.Goals as goal
use Rattle.cap_owners.proofs.account.push_regions.Goals.{in-Some+in_ok-push_region, in_default}

pub loop-place-preserved : goal.loop-place-preserved
loop-place-preserved c = elim c.match-get.branch [
  | in-Some+in_ok-push_region w ↦ (
      region-goes (λ r. region_line (program_view c.args.program.now) r.owned) c.args.regions.now c.loop-place.place w.in-Some.region.now c.loop-place.text.items c.match-get.text.items _
      (sym c.get.ensures ∙ ap option_copied w.in-Some.is) (ap (λ t. t.items) w.text-is ∙ w.in_ok-push_region.ensures) c.loop-place.invariant
      )
  | in_default w ↦ (
      region-ends (λ r. region_line (program_view c.args.program.now) r.owned) c.args.regions.now c.loop-place.place c.loop-place.text.items c.match-get.text.items _
      (sym c.get.ensures ∙ ap option_copied w.in_default.is) (ap (λ t. t.items) w.text-is) c.loop-place.invariant
      )
]
