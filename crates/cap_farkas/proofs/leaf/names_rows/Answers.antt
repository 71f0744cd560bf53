use Rattle.std.proofs.Common.{rules, ◌<◌, ◌≤◌, length, get_or, arith}
use Rattle.std.proofs.lemmas.Int.{to_z-of_z}
use mir.Val.{SFits}
use mir.Syntax.{w128}
use Rattle.cap_lin.proofs.Merge.{no_part}
use Rattle.cap_farkas.proofs.Named.{names_low, names_range, names_kind, names_more, names_done}
use Rattle.cap_farkas.proofs.leaf.names_rows.Goals as goal

pub returns-then-number-low : goal.returns-then-number-low
returns-then-number-low c =
    let h : c.loop-entry.entry-index < length c.args.leaf.now = omega arith in
    names_low _ _ _ _ _ h c.if-number-low.true c.loop-entry.invariant

pub returns-in-None : goal.returns-in-None
returns-in-None c =
    let h : c.loop-entry.entry-index < length c.args.leaf.now = omega arith in
    names_range _ _ _ _ _ h c.in-None.ensures c.loop-entry.invariant

pub returns-then-not-may_multiply : goal.returns-then-not-may_multiply
returns-then-not-may_multiply c =
    let h : c.loop-entry.entry-index < length c.args.leaf.now = omega arith in
    let f : SFits w128 (get_or c.args.leaf.now c.loop-entry.entry-index no_part).1 = search rules in
    names_kind _ _ _ _ _ _ _ h c.in-Some.ensures.1 (to_z-of_z _ _ f) c.if-not-may_multiply.ensures c.loop-entry.invariant

pub loop-entry-preserved : goal.loop-entry-preserved
loop-entry-preserved c =
    let h : c.loop-entry.entry-index < length c.args.leaf.now = omega arith in
    let f : SFits w128 (get_or c.args.leaf.now c.loop-entry.entry-index no_part).1 = search rules in
    names_more _ _ _ _ _ _ _ h c.if-number-low.false c.in-Some.ensures.0 c.in-Some.ensures.1 (to_z-of_z _ _ f) c.if-not-may_multiply.ensures c.loop-entry.invariant

pub returns : goal.returns
returns c =
    let h : length c.args.leaf.now ≤ c.loop-entry.entry-index = omega arith in
    names_done _ _ _ _ _ h c.loop-entry.invariant
