use Rattle.std.proofs.Common.{refl}
use Rattle.serde_json.specs.View.{view}
use Rattle.cap_deriv_write.specs.Forms.{opening_form}
use Rattle.cap_deriv_write.proofs.Floats.{written}
use Rattle.cap_deriv_write.proofs.put.put_opening.Goals as goal

pub returns : goal.returns
returns c =
    written c.put.result (view c.in_ok-value.value) (opening_form c.args.trees) c.args.out.now.items c.put.new.out.items
    c.in_ok-value.ensures refl c.put.ensures
