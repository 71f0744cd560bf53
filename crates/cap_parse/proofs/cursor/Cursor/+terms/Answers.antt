use Rattle.std.proofs.Common.{rules, sym, ◌∙◌, arith}
use Rattle.cap_parse_tree.specs.declared.term.Factor.TheFolds.{the_lemmas}
use Rattle.std.proofs.lemmas.Bool.Decides.{nat_tests}
use Rattle.cap_parse.proofs.Inside.{bracketed-inside}
use Rattle.cap_parse_tree.specs.Views.{factor_view, times_view, addend_view}
use Rattle.cap_parse_laws.specs.Grammar.{read_factor, bracketed_at, read_addend, is_sign}
use Rattle.cap_parse_laws.specs.Readers.{read_more, read_while}
use Rattle.cap_parse_laws.specs.declared.class.Class.TheVariants.{Star}
use Rattle.cap_parse_laws.specs.Laws.Taking.{factor-takes, addend-takes}
use Rattle.cap_parse.proofs.Loops.{more-pushed, more-smaller, while-pushed}
use Rattle.cap_parse.proofs.cursor.Cursor.+terms.Goals as goal

pub bracketed-returns-then-room-gt0 : goal.bracketed-returns-then-room-gt0
bracketed-returns-then-room-gt0 t c =
    rw (bracketed-inside c.args.room c.args.self.now.rest (grind (arith, nat_tests, c.if-room-gt0.true)))
    c.in_parentheses.ensures

pub times-loop-self-preserved : goal.times-loop-self-preserved
times-loop-self-preserved t c =
    rw c.in_ok-push.ensures.items
    (more-pushed Star (read_factor (bracketed_at c.args.room)) times_view (factor-takes c.args.room) (λ e. cc) c.loop-self.times.items _ c.in_ok-star.star (factor_view c.in_ok-factor.factor)
    c.loop-self.self.rest c.next_place.new.self.rest c.factor.new.self.rest (read_more Star (read_factor (bracketed_at c.args.room)) c.args.self.now.rest)
    (search (rules, the_lemmas)) (sym c.is_ahead.ensures ∙ c.loop-self-test.true) c.in_ok-star.ensures c.in_ok-factor.ensures c.loop-self.invariant)

pub times-loop-self-smaller : goal.times-loop-self-smaller
times-loop-self-smaller t c =
    more-smaller Star (read_factor (bracketed_at c.args.room)) (factor-takes c.args.room) c.loop-self.self.rest c.next_place.new.self.rest c.factor.new.self.rest c.in_ok-star.star (factor_view c.in_ok-factor.factor)
    (sym c.is_ahead.ensures ∙ c.loop-self-test.true) c.in_ok-star.ensures c.in_ok-factor.ensures

pub addends-loop-self-preserved : goal.addends-loop-self-preserved
addends-loop-self-preserved t c =
    rw c.in_ok-push.ensures.items
    (while-pushed is_sign (read_addend (bracketed_at c.args.room)) addend_view (addend-takes c.args.room) (λ e. cc) c.loop-self.addends.items c.in_ok-addend.addend
    c.loop-self.self.rest c.addend.new.self.rest (read_while is_sign (read_addend (bracketed_at c.args.room)) c.args.self.now.rest)
    (sym c.is_sign_ahead.ensures ∙ c.loop-self-test.true) c.in_ok-addend.ensures c.loop-self.invariant)

pub addends-loop-self-smaller : goal.addends-loop-self-smaller
addends-loop-self-smaller t c =
    ((addend-takes c.args.room) c.loop-self.self.rest).fewer (addend_view c.in_ok-addend.addend) c.addend.new.self.rest c.in_ok-addend.ensures
