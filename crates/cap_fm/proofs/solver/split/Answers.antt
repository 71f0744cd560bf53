use Rattle.cap_fm_spec.specs.Events.{first_limit}
use Rattle.cap_fm_spec.specs.Solving.{split}
use Rattle.std.proofs.Common.{◌≡◌, None}
use Rattle.cap_fm.proofs.Splits.{for-row, no-split}
use Rattle.cap_fm.proofs.solver.split.Goals as goal

pub returns-in_default : goal.returns-in_default
returns-in_default c = λ r e. for-row (λ s. (first_limit (split c.args.rows.now c.args.place s.kind s.sort s.term).events ≡ None) × (None ≡ (split c.args.rows.now c.args.place s.kind s.sort s.term).value)) c.args.rows.now c.args.place r c.index-rows-place.result c.requires.bound c.index-rows-place.is e (no-split c.args.rows.now c.args.place c.index-rows-place.result.kind c.index-rows-place.result.sort c.index-rows-place.result.term c.in_default.not-Ne)
