use Rattle.cap_fm_elimination.specs.Views.{stage_view, entries_view, origin_view}
use Rattle.cap_fm_elimination.proofs.NewRows.{counted-present, combined-parts, is-by, keep-look, then-look, origin-by}
use Rattle.cap_fm_elimination.proofs.arising.counted.Goals as goal

pub returns-then-is_present : goal.returns-then-is_present
returns-then-is_present c = λ inputs present f i.
    let n = c.in_ok-place.ensures inputs present f in
    (is-by _ _ _ _ (stage_view c.args.stage.now) (combined-parts (entries_view present) c.args.term c.args.kind (origin_view c.args.origin) c.requires) (counted-present inputs c.args.stage.now c.count_made.new.self present c.args.term c.args.kind c.in_ok-place.place (origin_view c.args.origin) n c.if-is_present.ensures), n.fits, n.grows)

pub returns-else-is_present : goal.returns-else-is_present
returns-else-is_present c = λ inputs present f i.
    let n = c.in_ok-place.ensures inputs present f in
    let k = c.keep.ensures inputs present c.args.term n.fits (origin-by inputs c.args.stage.now c.count_made.new.self c.args.origin n.history i) n.arose n.number in
    then-look inputs c.args.stage.now c.count_made.new.self c.keep.new.stage present c.args.term c.args.kind c.in_ok-place.place c.args.origin _ c.keep.result (combined-parts (entries_view present) c.args.term c.args.kind (origin_view c.args.origin) c.requires) n c.if-is_present.ensures (keep-look inputs c.count_made.new.self c.keep.new.stage present c.args.term c.args.kind c.args.origin c.keep.result c.requires k)
