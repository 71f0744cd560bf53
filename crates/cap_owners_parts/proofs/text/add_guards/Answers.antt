use Rattle.std.proofs.Common.{rules, ◌∙◌, sym, ap, map, ◌++◌}
use mir.Val.{SFits}
use mir.Syntax.{w128}
use Rattle.std.proofs.lemmas.Int.{to_z-of_z}
use Rattle.cap_prog.specs.Views.{program_view}
use Rattle.cap_owners_spec.specs.Texts.{guard_text}
use Rattle.cap_owners_parts.specs.Views.{entry_view, guard_view}
use Rattle.cap_owners_parts.proofs.Maps.{entries_are, seen_ascend}
use Rattle.cap_owners_parts.proofs.Texts.{added, all_added, written}
use Rattle.cap_owners_parts.proofs.text.add_guards.Goals as goal

pub loop-region-preserved : goal.loop-region-preserved
loop-region-preserved c =
    let f : SFits w128 c.in-Some.region.now = search rules in
    let e = rw (to_z-of_z w128 _ f) at c.in_ok-guard_text.ensures in
    added (guard_text (program_view c.args.program.now)) c.loop-region.texts.items c.push.new.self.items c.in_ok-guard_text.field-0 _ _ _ _ c.in_ok-push.ensures.items e (ap (map entry_view) c.in-Some.ensures.steps) c.loop-region.invariant

pub returns : goal.returns
returns c =
    all_added (guard_text (program_view c.args.program.now)) c.loop-region.texts.items _ _ (ap (map entry_view) c.in-None.ensures.steps.0) c.loop-region.invariant
    ∙ ap (λ es. written c.args.texts.now.items ++ map (guard_text (program_view c.args.program.now)) es) (sym (entries_are (map entry_view c.args.guards.now.entries) (seen_ascend guard_view c.args.guards.now.entries c.iter-region-items.ensures.ordered)))
