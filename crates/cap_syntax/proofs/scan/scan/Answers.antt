use Rattle.std.proofs.Common.{◌≡◌, ℕ, List, [], ◌∷◌, ◌++◌, length, take, drop, slice_range, arith, sym, ap, subst, ◌∙◌}
use Rattle.std.proofs.lemmas.Bool.{eqb-true}
use Rattle.std.proofs.Math.Nat.{sub_self}
use Rattle.cap_syntax.specs.declared.token.TokenKind.TheVariants.{End}
use Rattle.cap_syntax.specs.Place.{StandsAt}
use Rattle.cap_syntax.specs.Layout.{past_gap, IsTokenAt, AreTokensOf}
use Rattle.cap_syntax.proofs.Places.{moves_on, numbers_fit}
use Rattle.std.proofs.lemmas.Result.{err_from_is_err_and}
use Rattle.cap_syntax.proofs.Refusals.{break_is_refusal}
use Rattle.cap_syntax.proofs.Reading.{reads_one_more, less_is_left, all_are_read}
use Rattle.cap_syntax.proofs.scan.scan.Goals as goal
use Rattle.cap_syntax.proofs.scan.scan.Goals.{After-moved, In_ok-push, In_ok-push-2}

pub next_token-requires-clause-column : goal.next_token-requires-clause-column
next_token-requires-clause-column c =
    omega (arith, (numbers_fit c.args.bytes.now c.loop-rest.rest.now c.loop-rest.place c.loop-rest.invariant.stands).1)

pub moved-requires-clause-column : goal.moved-requires-clause-column
moved-requires-clause-column c =
    omega (arith, (numbers_fit c.args.bytes.now c.loop-rest.rest.now c.loop-rest.place c.loop-rest.invariant.stands).1, c.split_at.ensures.front_len)

-- the place behind the token
behind_token : (c : After-moved) → StandsAt c.args.bytes.now c.split_at.result.1.now c.moved.result
behind_token c =
    moves_on c.args.bytes.now c.loop-rest.rest.now c.split_at.result.0.now c.split_at.result.1.now c.loop-rest.place c.moved.result (length c.as_bytes.result.now) c.loop-rest.invariant.stands (omega (arith, ap length c.as_bytes.ensures, c.in_ok-token.ensures.token.longest.within)) c.split_at.ensures.front c.split_at.ensures.back c.moved.ensures

pub past_gap-requires-in-loop-rest-clause-line : goal.past_gap-requires-in-loop-rest-clause-line
past_gap-requires-in-loop-rest-clause-line c =
    omega (arith, (numbers_fit c.args.bytes.now c.split_at.result.1.now c.moved.result (behind_token (goal.at.past_gap-requires-in-loop-rest-clause-line c).After-moved)).0)

pub past_gap-requires-in-loop-rest-clause-column :
    goal.past_gap-requires-in-loop-rest-clause-column
past_gap-requires-in-loop-rest-clause-column c =
    omega (arith, (numbers_fit c.args.bytes.now c.split_at.result.1.now c.moved.result (behind_token (goal.at.past_gap-requires-in-loop-rest-clause-column c).After-moved)).1)

-- what is left behind the token, and behind the gap after it
left_is : (c : In_ok-push) → c.past_gap-in-loop-rest.result.0.now ≡ past_gap (drop (length c.in_ok-token.token.text) c.loop-rest.rest.now)
left_is c =
    c.past_gap-in-loop-rest.ensures.rest ∙ ap past_gap (c.split_at.ensures.back ∙ ap (λ (t : List ℕ). drop (length t) c.loop-rest.rest.now) c.as_bytes.ensures)

pub loop-rest-smaller : goal.loop-rest-smaller
loop-rest-smaller c =
    omega (arith, ap length (left_is c), less_is_left c.loop-rest.rest.now c.loop-rest.place c.in_ok-token.token c.in_ok-token.ensures.token)

pub loop-rest-preserved : goal.loop-rest-preserved
loop-rest-preserved c = record {
  read = rw (c.in_ok-push.ensures.items, left_is c) (reads_one_more c.args.bytes.now c.args.bytes.now c.loop-rest.tokens.items c.loop-rest.rest.now c.in_ok-token.token c.loop-rest.invariant.read (subst (λ p. IsTokenAt p c.loop-rest.rest.now c.in_ok-token.token) c.loop-rest.invariant.stands.at c.in_ok-token.ensures.token));
  stands = c.past_gap-in-loop-rest.ensures.place c.args.bytes.now (behind_token (goal.at.loop-rest-preserved c).After-moved);
}

no_bytes : (at : ℕ) (bytes : List ℕ) → slice_range bytes at at ≡ []
no_bytes at bytes = ap (λ (n : ℕ). take n (drop at bytes)) (sub_self at)

whole : (c : In_ok-push-2) → AreTokensOf c.args.bytes.now c.push-2.new.self.items
whole c =
    all_are_read c.args.bytes.now c.loop-rest.tokens.items c.push-2.new.self.items c.loop-rest.rest.now c.loop-rest.place c.loop-rest.invariant.read c.loop-rest.invariant.stands (eqb-true _ 0 (sym c.is_empty.ensures ∙ c.loop-rest-test.false)) (c.in_ok-push-2.ensures.items ∙ ap (λ (t : List ℕ). c.loop-rest.tokens.items ++ (record { kind = End; text = t; value = 0; place = c.loop-rest.place }) ∷ []) (c.in_ok-part.ensures ∙ no_bytes (length c.args.bytes.now) _))

pub returns : goal.returns
returns c = (omega arith, whole (goal.at.returns c).In_ok-push-2)

pub returns-in_err-token : goal.returns-in_err-token
returns-in_err-token c =
    let p = err_from_is_err_and c.from_residual-in_err-token.result c.from_residual-in_err-token.ensures.1 in
    rw (p.1, p.2) (break_is_refusal c.args.bytes.now c.loop-rest.tokens.items c.loop-rest.rest.now c.in_err-token.field-0.0 (omega arith) c.loop-rest.invariant.read (c.in_err-token.ensures.refused c.args.bytes.now c.loop-rest.invariant.stands))
