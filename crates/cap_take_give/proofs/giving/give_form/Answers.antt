use Rattle.cap_rules_steps.proofs.Walking.{done, then_made}
use Rattle.cap_take_give.proofs.giving.give_form.Goals as goal

pub returns-in-One : goal.returns-in-One
returns-in-One c = rw c.in-One.is (done _)

pub returns-in_ok-give_slot-in-Share : goal.returns-in_ok-give_slot-in-Share
returns-in_ok-give_slot-in-Share c = rw c.in-Share.is (then_made _ _ _ _ c.in_ok-give_slot-in-Share.ensures (done _))

pub returns-in_ok-give_slot-in-Src : goal.returns-in_ok-give_slot-in-Src
returns-in_ok-give_slot-in-Src c = rw c.in-Src.is (then_made _ _ _ _ c.in_ok-give_slot-in-Src.ensures (done _))

pub returns-in_ok-give_slot-in-Tok : goal.returns-in_ok-give_slot-in-Tok
returns-in_ok-give_slot-in-Tok c = rw c.in-Tok.is (then_made _ _ _ _ c.in_ok-give_slot-in-Tok.ensures (done _))

pub returns-in-At : goal.returns-in-At
returns-in-At c = rw c.in-At.is c.give_index.ensures

pub returns-in_ok-give_slot-in-From : goal.returns-in_ok-give_slot-in-From
returns-in_ok-give_slot-in-From c = rw c.in-From.is (then_made _ _ _ _ c.in_ok-give_slot-in-From.ensures (done _))
