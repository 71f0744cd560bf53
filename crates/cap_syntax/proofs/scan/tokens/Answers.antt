use Rattle.cap_syntax.specs.declared.token.TokenError.TheVariants.{BadByte, LongLiteral, TextTooLong}
use Rattle.cap_syntax.proofs.Refusals.{explained_accepted, explained_only, explained_ends, fails_exactly}
use Rattle.cap_syntax.proofs.scan.tokens.Goals as goal

pub returns-clause-only : goal.returns-clause-only
returns-clause-only c ts = explained_only (λ v. v.items) c.args.bytes.now c.scan.result ts c.scan.ensures

pub returns-clause-ends : goal.returns-clause-ends
returns-clause-ends c = explained_ends (λ v. v.items) c.args.bytes.now c.scan.result c.scan.ensures

pub returns-clause-bad_byte : goal.returns-clause-bad_byte
returns-clause-bad_byte c place = fails_exactly (λ v. v.items) c.args.bytes.now c.scan.result (BadByte place) (λ h. h) c.scan.ensures

pub returns-clause-long_literal : goal.returns-clause-long_literal
returns-clause-long_literal c place = fails_exactly (λ v. v.items) c.args.bytes.now c.scan.result (LongLiteral place) (λ h. h) c.scan.ensures

pub returns-clause-text_too_long : goal.returns-clause-text_too_long
returns-clause-text_too_long c = fails_exactly (λ v. v.items) c.args.bytes.now c.scan.result TextTooLong (λ h. h) c.scan.ensures

pub returns-clause-accepted : goal.returns-clause-accepted
returns-clause-accepted c fits none = explained_accepted (λ v. v.items) c.args.bytes.now c.scan.result c.scan.ensures none fits
