use Rattle.std.proofs.Common.{rules, sym, ◌∙◌, arith}
use Rattle.cap_parse_tree.specs.declared.region.Declared.TheFolds.{the_lemmas}
use Rattle.std.proofs.lemmas.Bool.Decides.{nat_tests}
use Rattle.cap_parse.proofs.Inside.{grouped-inside}
use Rattle.cap_parse_tree.specs.Views.{declared_view, both_view, joint_view, either_view}
use Rattle.cap_parse_laws.specs.Grammar.{read_declared, grouped_at, read_joint}
use Rattle.cap_parse_laws.specs.Readers.{read_more}
use Rattle.cap_parse_laws.specs.declared.class.Class.TheVariants.{Star, Plus}
use Rattle.cap_parse_laws.specs.Laws.Taking.{declared-takes, joint-takes}
use Rattle.cap_parse.proofs.Loops.{more-pushed, more-smaller}
use Rattle.cap_parse.proofs.cursor.Cursor.+algebras.Goals as goal

pub grouped-returns-then-room-gt0 : goal.grouped-returns-then-room-gt0
grouped-returns-then-room-gt0 t c =
    rw (grouped-inside c.args.room c.args.self.now.rest (grind (arith, nat_tests, c.if-room-gt0.true)))
    c.algebra_in_parentheses.ensures

pub more_declared-loop-self-preserved : goal.more_declared-loop-self-preserved
more_declared-loop-self-preserved t c =
    rw c.in_ok-push.ensures.items
    (more-pushed Star (read_declared c.args.room (grouped_at c.args.room)) both_view (declared-takes c.args.room) (λ e. cc) c.loop-self.more.items _ c.in_ok-star.star (declared_view c.in_ok-declared.declared)
    c.loop-self.self.rest c.next_place.new.self.rest c.declared.new.self.rest (read_more Star (read_declared c.args.room (grouped_at c.args.room)) c.args.self.now.rest)
    (search (rules, the_lemmas)) (sym c.is_ahead.ensures ∙ c.loop-self-test.true) c.in_ok-star.ensures c.in_ok-declared.ensures c.loop-self.invariant)

pub more_declared-loop-self-smaller : goal.more_declared-loop-self-smaller
more_declared-loop-self-smaller t c =
    more-smaller Star (read_declared c.args.room (grouped_at c.args.room)) (declared-takes c.args.room) c.loop-self.self.rest c.next_place.new.self.rest c.declared.new.self.rest c.in_ok-star.star (declared_view c.in_ok-declared.declared)
    (sym c.is_ahead.ensures ∙ c.loop-self-test.true) c.in_ok-star.ensures c.in_ok-declared.ensures

pub more_joints-loop-self-preserved : goal.more_joints-loop-self-preserved
more_joints-loop-self-preserved t c =
    rw c.in_ok-push.ensures.items
    (more-pushed Plus (read_joint c.args.room (grouped_at c.args.room)) either_view (joint-takes c.args.room) (λ e. cc) c.loop-self.more.items _ c.in_ok-plus.plus (joint_view c.in_ok-joint.joint)
    c.loop-self.self.rest c.next_place.new.self.rest c.joint.new.self.rest (read_more Plus (read_joint c.args.room (grouped_at c.args.room)) c.args.self.now.rest)
    (search (rules, the_lemmas)) (sym c.is_ahead.ensures ∙ c.loop-self-test.true) c.in_ok-plus.ensures c.in_ok-joint.ensures c.loop-self.invariant)

pub more_joints-loop-self-smaller : goal.more_joints-loop-self-smaller
more_joints-loop-self-smaller t c =
    more-smaller Plus (read_joint c.args.room (grouped_at c.args.room)) (joint-takes c.args.room) c.loop-self.self.rest c.next_place.new.self.rest c.joint.new.self.rest c.in_ok-plus.plus (joint_view c.in_ok-joint.joint)
    (sym c.is_ahead.ensures ∙ c.loop-self-test.true) c.in_ok-plus.ensures c.in_ok-joint.ensures
