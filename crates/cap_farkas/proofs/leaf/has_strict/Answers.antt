use Rattle.std.proofs.Common.{◌<◌, ◌≤◌, length, arith}
use Rattle.cap_farkas.proofs.Named.{strict_found, strict_past, strict_none}
use Rattle.cap_farkas.proofs.leaf.has_strict.Goals as goal

pub returns-then-is_strict : goal.returns-then-is_strict
returns-then-is_strict c =
    let h : c.loop-entry.entry-index < length c.args.leaf.now = omega arith in
    strict_found _ _ _ _ c.kind_at.result h c.kind_at.ensures c.if-is_strict.ensures c.loop-entry.invariant

pub loop-entry-preserved : goal.loop-entry-preserved
loop-entry-preserved c =
    let h : c.loop-entry.entry-index < length c.args.leaf.now = omega arith in
    strict_past _ _ _ _ c.kind_at.result h c.kind_at.ensures c.if-is_strict.ensures c.loop-entry.invariant

pub returns : goal.returns
returns c =
    let h : length c.args.leaf.now ≤ c.loop-entry.entry-index = omega arith in
    strict_none _ _ _ _ h c.loop-entry.invariant
