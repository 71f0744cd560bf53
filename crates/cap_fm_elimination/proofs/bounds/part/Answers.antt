use Rattle.std.proofs.Common.{rules, ◌≡◌, ap, length, ◌∙◌, ◌<ℤ◌, sym, pos, arith, map-id}
use Rattle.std.specs.Vec.{vec_len}
use Rattle.std.proofs.lemmas.Int.{ints}
use Rattle.std.proofs.lemmas.Iterator.Consumers.{YieldsList-end}
use Rattle.std.proofs.lemmas.Iterator.Adapters.{YieldsList-from_vec}
use Rattle.cap_lin.specs.Linear.{Linear, coefficient}
use Rattle.cap_fm_elimination.specs.Views.{entry_of, entries_of}
use Rattle.cap_fm_elimination.proofs.Terms.{entries-then}
use Rattle.cap_fm_elimination.proofs.Filters.{AreParted, are-parted, parted-lacking, parted-above, parted-below, parted-all}
use Rattle.cap_fm_elimination.proofs.bounds.part.Goals as goal

pub loop-row-init : goal.loop-row-init
loop-row-init c =
    let s = c.args.stage.now in
    record { lacking = ap (entries_of s) c.new-without.ensures.items; above = ap (entries_of s) c.new-uppers.ensures.items; below = ap (entries_of s) c.new-lowers.ensures.items }

pub loop-row-preserved-in-Continue-1 : goal.loop-row-preserved-in-Continue-1
loop-row-preserved-in-Continue-1 c =
    let s = c.args.stage.now in
    let e = c.coefficient-coefficient.ensures.coefficient ∙ ap (λ (t : Linear). coefficient c.args.variable t.parts) c.term.ensures in
    let t = c.if-coefficient-eq0.true in
    let z : c.coefficient-coefficient.result ≡ pos 0 = omega (arith, ints) in
    are-parted _ s _ _ _ _ c.in-Some.row (parted-lacking _ _ _ _ _ _ (entry_of s c.in-Some.row) _ e z (ap (entries_of s) c.in_ok-push.ensures.items ∙ entries-then s _ c.in-Some.row) c.loop-row.invariant)

pub loop-row-preserved-in-Continue-branch-2 : goal.loop-row-preserved-in-Continue-branch-2
loop-row-preserved-in-Continue-branch-2 c =
    let s = c.args.stage.now in
    let e = c.coefficient-coefficient.ensures.coefficient ∙ ap (λ (t : Linear). coefficient c.args.variable t.parts) c.term.ensures in
    let t = c.if-coefficient-gt0.true in
    let z : pos 0 <ℤ c.coefficient-coefficient.result = omega (arith, ints) in
    are-parted _ s _ _ _ _ c.in-Some.row (parted-above _ _ _ _ _ _ (entry_of s c.in-Some.row) _ e z (ap (entries_of s) c.in_ok-push-2.ensures.items ∙ entries-then s _ c.in-Some.row) c.loop-row.invariant)

pub loop-row-preserved : goal.loop-row-preserved
loop-row-preserved c =
    let s = c.args.stage.now in
    let e = c.coefficient-coefficient.ensures.coefficient ∙ ap (λ (t : Linear). coefficient c.args.variable t.parts) c.term.ensures in
    let u = c.if-coefficient-eq0.false in
    let t = c.if-coefficient-gt0.false in
    let z : c.coefficient-coefficient.result <ℤ pos 0 = omega (arith, ints) in
    are-parted _ s _ _ _ _ c.in-Some.row (parted-below _ _ _ _ _ _ (entry_of s c.in-Some.row) _ e z (ap (entries_of s) c.in_ok-push-3.ensures.items ∙ entries-then s _ c.in-Some.row) c.loop-row.invariant)

all_parted : (c : goal.After-drop-row-iterator-2) → AreParted c.args.variable c.args.stage.now c.args.rows.items c.loop-row.without.items c.loop-row.uppers.items c.loop-row.lowers.items
all_parted c =
    let g = c.into_iter-row-iterator.ensures.into_iter_gives in
    let l : length c.args.rows.items ≡ vec_len c.args.rows = search rules in
    let y = YieldsList-end (YieldsList-from_vec c.args.rows.items g.0 (g.1 ∙ sym l)) c.loop-row.yielded c.loop-row.row-iterator c.loop-row.yielded_by _ c.next.new.self c.in-None.is c.next.ensures.steps in
    parted-all _ _ _ _ _ _ (ap (entries_of c.args.stage.now) (sym (map-id _) ∙ y.0)) c.loop-row.invariant

pub returns-clause-without : goal.returns-clause-without
returns-clause-without c = (all_parted c).lacking

pub returns-clause-uppers : goal.returns-clause-uppers
returns-clause-uppers c = (all_parted c).above

pub returns-clause-lowers : goal.returns-clause-lowers
returns-clause-lowers c = (all_parted c).below
