use Rattle.serde_json.specs.View.{view}
use Rattle.cap_goal.specs.Views.{choice_view}
use Rattle.cap_deriv_write.specs.Forms.{choice_form}
use Rattle.cap_deriv_write.proofs.Floats.{choice_whole, written}
use Rattle.cap_deriv_write.proofs.put.put_choice.Goals as goal

pub returns-clause-text : goal.returns-clause-text
returns-clause-text c =
    written c.put.result (view c.in_ok-value.value) (choice_form (choice_view c.args.one.now)) c.args.out.now.items c.put.new.out.items
    c.in_ok-value.ensures.value (choice_whole (choice_view c.args.one.now)) c.put.ensures
