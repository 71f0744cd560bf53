use Rattle.std.proofs.Common.{rules, ◌≡◌, ◌∙◌, refl, false, true}
use Rattle.std.proofs.lemmas.Int.{to_z-of_z}
use mir.Syntax.{w128}
use mir.Val.{SFits}
use Rattle.cap_fm_spec.specs.Rows.{has_parts, arise_given}
use Rattle.cap_fm_elimination.specs.Views.{entries_view, origin_view}
use Rattle.cap_fm_elimination.specs.declared.entry.Origin.TheVariants.{Given}
use Rattle.cap_fm_elimination.proofs.NewRows.{counted-present, keep-look, then-look, bare-number}
use Rattle.cap_fm_elimination.proofs.arising.given.Goals as goal

pub returns-then-is_present : goal.returns-then-is_present
returns-then-is_present c = λ inputs present f b.
    let n = c.in_ok-place.ensures inputs present f in
    (counted-present inputs c.args.stage.now c.count_given.new.self present c.args.term.now c.args.kind c.in_ok-place.place (origin_view (Given c.args.number)) n c.if-is_present.ensures, n.fits, n.grows)

pub returns-then-is_empty : goal.returns-then-is_empty
returns-then-is_empty c = λ inputs present f b.
    let n = c.in_ok-place.ensures inputs present f in
    let e : has_parts c.args.term.now ≡ false = search rules in
    let w : SFits w128 c.constant_part.result = search rules in
    let d = bare-number inputs c.count_given.new.self c.bare.new.stage present c.args.term.now c.args.kind (origin_view (Given c.args.number)) _ c.bare.result e (to_z-of_z _ _ w ∙ c.constant_part.ensures) (c.bare.ensures inputs present n.fits b) in
    then-look inputs c.args.stage.now c.count_given.new.self c.bare.new.stage present c.args.term.now c.args.kind c.in_ok-place.place (Given c.args.number) (arise_given (entries_view present) c.args.term.now c.args.kind c.args.number) c.bare.result refl n c.if-is_present.ensures d

pub returns-else-is_empty : goal.returns-else-is_empty
returns-else-is_empty c = λ inputs present f b.
    let n = c.in_ok-place.ensures inputs present f in
    let e : has_parts c.args.term.now ≡ true = search rules in
    let k = keep-look inputs c.count_given.new.self c.keep.new.stage present c.args.term.now c.args.kind (Given c.args.number) c.keep.result e (c.keep.ensures inputs present c.args.term.now n.fits b n.arose n.number) in
    then-look inputs c.args.stage.now c.count_given.new.self c.keep.new.stage present c.args.term.now c.args.kind c.in_ok-place.place (Given c.args.number) (arise_given (entries_view present) c.args.term.now c.args.kind c.args.number) c.keep.result refl n c.if-is_present.ensures k
