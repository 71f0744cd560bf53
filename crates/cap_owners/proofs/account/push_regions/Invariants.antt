use Rattle.std.proofs.Common.{◌≡◌, ◌++◌, drop}
use Rattle.std.specs.Prelude.{flat_map}
use Rattle.cap_prog.specs.Views.{program_view}
use Rattle.cap_owners_spec.specs.Texts.{region_line}
use Rattle.cap_owners.proofs.account.push_regions.Given as goal

-- what is written and what is left are the whole
abbrev pub invariant-loop-place : goal.invariant-loop-place
invariant-loop-place l =
    l.text.items ++ flat_map (λ r. region_line (program_view l.program) r.owned) (drop l.place l.regions)
    ≡ l.fn.text.items ++ flat_map (λ r. region_line (program_view l.program) r.owned) l.regions
