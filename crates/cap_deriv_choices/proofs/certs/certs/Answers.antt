use Rattle.std.proofs.Common.{◌≡◌, ◌<◌, ◌-◌, List, ◌++◌, length, Some, None, option_and_then, sym, ap, ◌∙◌, arith, append-nil}
use Rattle.std.specs.Prelude.{⊤}
use Rattle.std.proofs.lemmas.Result.{err_from_is_err_and}
use Rattle.json.specs.Token.{Token}
use Rattle.json.specs.Json.{parse_map, after_end_array}
use Rattle.cap_deriv_choices.specs.Taking.{take_cert, take_certs, take_items}
use Rattle.cap_deriv_choices.proofs.Loops.{none_before, one_more, items_over, item_refused, item_taken, stopped}
use Rattle.cap_deriv_choices.proofs.certs.certs.Goals as goal

pub items-init : goal.items-init
items-init c = (length c.open.new.reader, omega arith, none_before c.new-found.result.items _ c.new-found.ensures.items, omega arith)

pub items-preserved : goal.items-preserved
items-preserved c =
    let l = c.items in
    let n = l.invariant.0 in
    let going : (after_end_array l.reader ≡ None) × (c.take_end_array.new.self ≡ l.reader) = grind arith in
    let done = c.in_ok-item.ensures in
    let r = c.cert.new.reader in
    let less : length r < length l.reader = rw (← going.1) done.shorter in
    let turn = item_taken take_cert n l.reader r c.in_ok-item.item (omega (arith, l.invariant.1)) going.0 (done.taken ∙ ap take_cert going.1) in (
      n - 1,
      omega (arith, l.invariant.1),
      l.invariant.2 ∙ ap (parse_map (λ xs. l.found.items ++ xs)) turn ∙ one_more l.found.items c.push.new.self.items c.in_ok-item.item _ c.in_ok-push.ensures.items,
      omega (arith, l.invariant.3),
    )

pub returns-in_err-item-clause-taken : goal.returns-in_err-item-clause-taken
returns-in_err-item-clause-taken c =
    let l = c.items in
    let n = l.invariant.0 in
    let going : (after_end_array l.reader ≡ None) × (c.take_end_array.new.self ≡ l.reader) = grind arith in
    let whole : take_items take_cert (length c.open.new.reader) c.open.new.reader ≡ take_certs c.args.reader.now =
    ap (option_and_then (λ (u : ⊤ × List Token). take_items take_cert (length u.1) u.1)) c.in_ok-open.ensures.taken in
    let p = err_from_is_err_and c.from_residual-in_err-item.result c.from_residual-in_err-item.ensures.1 in
    rw (p.1, p.2)
    (stopped (λ z. z) (λ z. z) c.in_err-item.field-0.0 _ _ _ (take_certs c.args.reader.now) c.in_err-item.ensures.taken
    (λ f. sym (sym whole ∙ l.invariant.2 ∙ ap (parse_map (λ xs. l.found.items ++ xs)) (item_refused take_cert n l.reader going.0 (f ∙ ap take_cert going.1)))))

pub returns-clause-taken : goal.returns-clause-taken
returns-clause-taken c =
    let l = c.items in
    let n = l.invariant.0 in
    let r = c.take_end_array.new.self in
    let whole : take_items take_cert (length c.open.new.reader) c.open.new.reader ≡ take_certs c.args.reader.now =
    ap (option_and_then (λ (u : ⊤ × List Token). take_items take_cert (length u.1) u.1)) c.in_ok-open.ensures.taken in
    sym (sym whole ∙ l.invariant.2 ∙ ap (parse_map (λ xs. l.found.items ++ xs)) (items_over take_cert n l.reader r l.invariant.1 (grind arith)) ∙ ap (λ vs. Some (vs, r)) (append-nil l.found.items))
