use Rattle.std.proofs.Common.{rules, arith, ◌<◌, ◌≤◌, length, get_or, drop-cons, []}
use Rattle.std.proofs.lemmas.List.{length-map}
use Rattle.cap_goal.specs.Views.{certs_in}
use Rattle.cap_rules_steps.proofs.Judges.{left-next, left-refused, left-lacking}
use Rattle.cap_rules_steps.proofs.judging.refutes_all.Goals as goal

pub returns-then-number-certs : goal.returns-then-number-certs
returns-then-number-certs c =
    let h : c.loop-number.number < length c.args.ledger.now = omega arith in
    let g : length (certs_in c.args.certs.now) ≤ c.loop-number.number = rw (length-map c.args.certs.now _) (omega arith) in
    left-lacking c.args.ledger.now (certs_in c.args.certs.now) c.loop-number.number (get_or c.args.ledger.now c.loop-number.number []) (drop-cons c.args.ledger.now c.loop-number.number [] h) g c.loop-number.invariant

pub returns-then-not-refutes : goal.returns-then-not-refutes
returns-then-not-refutes c = left-refused c.args.ledger.now (certs_in c.args.certs.now) c.loop-number.number _ _ c.list.ensures c.cert_at.ensures (λ r. let k = c.if-not-refutes.ensures.exact.1 r in search rules) c.loop-number.invariant

pub loop-number-preserved : goal.loop-number-preserved
loop-number-preserved c = left-next c.args.ledger.now (certs_in c.args.certs.now) c.loop-number.number _ _ c.list.ensures c.cert_at.ensures (c.if-not-refutes.ensures.exact.0 (search rules)) c.loop-number.invariant
