use Rattle.std.proofs.Common.{refl}
use Rattle.cap_fm_elimination.proofs.Counting.{one-too-many, counted-new, counted-again}
use Rattle.cap_fm_elimination.proofs.stage.Stage.count_form.Goals as goal

pub returns-then-number-ge-LIMIT : goal.returns-then-number-ge-LIMIT
returns-then-number-ge-LIMIT c = λ inputs present f. one-too-many c.args.form c.args.self.now _ _ c.in_ok-number.ensures.added c.if-is_new.true c.in_ok-number.ensures.index c.if-number-ge-LIMIT.true

pub returns-in_ok-push : goal.returns-in_ok-push
returns-in_ok-push c = λ inputs present f. counted-new inputs c.args.form c.args.self.now _ present _ _ c.in_ok-number.ensures.added c.if-is_new.true c.in_ok-number.ensures.index c.if-number-ge-LIMIT.false c.in_ok-number.ensures.keys c.in_ok-push.ensures.items refl f

pub returns-else-is_new : goal.returns-else-is_new
returns-else-is_new c = λ inputs present f. counted-again inputs c.args.form c.args.self.now _ present _ _ c.in_ok-number.ensures.added c.if-is_new.false c.in_ok-number.ensures.index c.in_ok-number.ensures.keys refl refl f
