use Rattle.std.proofs.Common.{◌≡◌, Some, None}
use Rattle.std.proofs.lemmas.Result.{err_from_is_err_and}
use Rattle.cap_lin.specs.Rows.{below_zero, below_zero_steps, above_zero, above_zero_steps}
use Rattle.cap_lin.specs.declared.row.Kind.TheVariants.{Ne}
use Rattle.cap_farkas.specs.declared.cert.Cert.TheVariants as cert
use Rattle.cap_fm_spec.specs.Events.{first_limit}
use Rattle.cap_fm_spec.specs.Solving.{split}
use Rattle.cap_fm_elimination.specs.Answers.{IsLogged}
use Rattle.cap_fm.proofs.Splits.{for-row, log-lin, below-wide, above-wide, below-fails, below-none, above-explains, above-is, side-is, side-explains}
use Rattle.cap_fm_elimination.proofs.Wholes.{logged-err}
use Rattle.cap_fm.proofs.solver.both_sides.Goals as goal

pub returns-in_err-below : goal.returns-in_err-below
returns-in_err-below c = λ r e.
    let s = c.index-rows-place.result in
    for-row (λ t. IsLogged c.from_residual.result (split c.args.rows.now c.args.place Ne t.sort t.term)) c.args.rows.now c.args.place r s c.requires.bound c.index-rows-place.is e
    (log-lin c.from_residual.result (split c.args.rows.now c.args.place Ne s.sort s.term) c.in_err-below.field-0.0 c.from_residual.ensures (λ x f. below-wide c.args.rows.now c.args.place s c.in_err-below.field-0.0 x f c.in_err-below.ensures))

pub returns-in_err-refuted_with : goal.returns-in_err-refuted_with
returns-in_err-refuted_with c = λ r e.
    let s = c.index-rows-place.result in
    for-row (λ t. IsLogged c.from_residual-in_err-refuted_with.result (split c.args.rows.now c.args.place Ne t.sort t.term)) c.args.rows.now c.args.place r s c.requires.bound c.index-rows-place.is e
    (logged-err c.from_residual-in_err-refuted_with.result (split c.args.rows.now c.args.place Ne s.sort s.term) c.in_err-refuted_with.field-0.0 (err_from_is_err_and c.from_residual-in_err-refuted_with.result c.from_residual-in_err-refuted_with.ensures.1)
    (below-fails c.args.rows.now c.args.place s.sort s.term c.in_err-refuted_with.field-0.0 (side-explains c.args.rows.now (below_zero_steps s.sort s.term) (below_zero s.sort s.term) c.in_ok-below.below c.in_err-refuted_with.field-0.0 c.in_ok-below.ensures c.in_err-refuted_with.ensures)))

pub returns-in_err-above-in-Some : goal.returns-in_err-above-in-Some
returns-in_err-above-in-Some c = λ r e.
    let s = c.index-rows-place.result in
    let b = side-is c.args.rows.now (below_zero_steps s.sort s.term) (below_zero s.sort s.term) c.in_ok-below.below (Some c.in-Some.below) c.in_ok-below.ensures (rw c.in-Some.is at c.in_ok-refuted_with.ensures) in
    for-row (λ t. IsLogged c.from_residual-in_err-above-in-Some.result (split c.args.rows.now c.args.place Ne t.sort t.term)) c.args.rows.now c.args.place r s c.requires.bound c.index-rows-place.is e
    (log-lin c.from_residual-in_err-above-in-Some.result (split c.args.rows.now c.args.place Ne s.sort s.term) c.in_err-above-in-Some.field-0.0 c.from_residual-in_err-above-in-Some.ensures (λ x f. above-wide c.args.rows.now c.args.place s c.in-Some.below c.in_err-above-in-Some.field-0.0 x b f c.in_err-above-in-Some.ensures))

pub returns-in_err-refuted_with-in-Some : goal.returns-in_err-refuted_with-in-Some
returns-in_err-refuted_with-in-Some c = λ r e.
    let s = c.index-rows-place.result in
    let b = side-is c.args.rows.now (below_zero_steps s.sort s.term) (below_zero s.sort s.term) c.in_ok-below.below (Some c.in-Some.below) c.in_ok-below.ensures (rw c.in-Some.is at c.in_ok-refuted_with.ensures) in
    for-row (λ t. IsLogged c.from_residual-in_err-refuted_with-in-Some.result (split c.args.rows.now c.args.place Ne t.sort t.term)) c.args.rows.now c.args.place r s c.requires.bound c.index-rows-place.is e
    (logged-err c.from_residual-in_err-refuted_with-in-Some.result (split c.args.rows.now c.args.place Ne s.sort s.term) c.in_err-refuted_with-in-Some.field-0.0 (err_from_is_err_and c.from_residual-in_err-refuted_with-in-Some.result c.from_residual-in_err-refuted_with-in-Some.ensures.1)
    (above-explains c.args.rows.now c.args.place s.sort s.term c.in-Some.below c.in_err-refuted_with-in-Some.field-0.0 b (side-explains c.args.rows.now (above_zero_steps s.sort s.term) (above_zero s.sort s.term) c.in_ok-above-in-Some.above c.in_err-refuted_with-in-Some.field-0.0 c.in_ok-above-in-Some.ensures c.in_err-refuted_with-in-Some.ensures)))

pub returns-in-None : goal.returns-in-None
returns-in-None c = λ r e.
    let s = c.index-rows-place.result in
    let b = side-is c.args.rows.now (below_zero_steps s.sort s.term) (below_zero s.sort s.term) c.in_ok-below.below None c.in_ok-below.ensures (rw c.in-None.is at c.in_ok-refuted_with.ensures) in
    for-row (λ t. (first_limit (split c.args.rows.now c.args.place Ne t.sort t.term).events ≡ None) × (None ≡ (split c.args.rows.now c.args.place Ne t.sort t.term).value)) c.args.rows.now c.args.place r s c.requires.bound c.index-rows-place.is e (below-none c.args.rows.now c.args.place s.sort s.term b)

pub returns-in-None-2 : goal.returns-in-None-2
returns-in-None-2 c = λ r e.
    let s = c.index-rows-place.result in
    let b = side-is c.args.rows.now (below_zero_steps s.sort s.term) (below_zero s.sort s.term) c.in_ok-below.below (Some c.in-Some.below) c.in_ok-below.ensures (rw c.in-Some.is at c.in_ok-refuted_with.ensures) in
    let a = side-is c.args.rows.now (above_zero_steps s.sort s.term) (above_zero s.sort s.term) c.in_ok-above-in-Some.above None c.in_ok-above-in-Some.ensures (rw c.in-None-2.is at c.in_ok-refuted_with-in-Some.ensures) in
    for-row (λ t. (first_limit (split c.args.rows.now c.args.place Ne t.sort t.term).events ≡ None) × (None ≡ (split c.args.rows.now c.args.place Ne t.sort t.term).value)) c.args.rows.now c.args.place r s c.requires.bound c.index-rows-place.is e (above-is c.args.rows.now c.args.place s.sort s.term c.in-Some.below None b a)

pub returns-in-Some-2 : goal.returns-in-Some-2
returns-in-Some-2 c = λ r e.
    let s = c.index-rows-place.result in
    let b = side-is c.args.rows.now (below_zero_steps s.sort s.term) (below_zero s.sort s.term) c.in_ok-below.below (Some c.in-Some.below) c.in_ok-below.ensures (rw c.in-Some.is at c.in_ok-refuted_with.ensures) in
    let a = side-is c.args.rows.now (above_zero_steps s.sort s.term) (above_zero s.sort s.term) c.in_ok-above-in-Some.above (Some c.in-Some-2.above) c.in_ok-above-in-Some.ensures (rw c.in-Some-2.is at c.in_ok-refuted_with-in-Some.ensures) in
    for-row (λ t. (first_limit (split c.args.rows.now c.args.place Ne t.sort t.term).events ≡ None) × (Some (cert.Split c.args.place c.in-Some.below c.in-Some-2.above) ≡ (split c.args.rows.now c.args.place Ne t.sort t.term).value)) c.args.rows.now c.args.place r s c.requires.bound c.index-rows-place.is e (above-is c.args.rows.now c.args.place s.sort s.term c.in-Some.below (Some c.in-Some-2.above) b a)
