use Rattle.std.proofs.Common.{sym, subst, []}
use Rattle.cap_fm_spec.specs.Runs.{going}
use Rattle.cap_fm_spec.specs.Elimination.{input}
use Rattle.cap_fm_elimination.specs.Views.{stage_view, entries_view}
use Rattle.cap_fm_elimination.specs.Answers.{Is}
use Rattle.cap_fm_elimination.proofs.Runs.{done-is}
use Rattle.cap_fm_elimination.proofs.arising.input.Goals as goal

pub returns-in-Ne : goal.returns-in-Ne
returns-in-Ne c = λ inputs present f b. (subst (λ k. Is (going []) (stage_view c.args.stage.now) (input (entries_view present) c.args.number k c.args.row.now.term (stage_view c.args.stage.now))) (sym c.in-Ne.is) (done-is [] (stage_view c.args.stage.now)), f, λ d x. x)
