use Rattle.std.proofs.Common.{rules, ◌∙◌, sym, ap, map, ◌++◌}
use mir.Val.{SFits}
use mir.Syntax.{w128}
use Rattle.std.proofs.lemmas.Int.{to_z-of_z}
use Rattle.cap_owners_spec.specs.Texts.{owned_cell_text}
use Rattle.cap_owners_parts.proofs.Maps.{entries_are}
use Rattle.cap_owners_parts.proofs.Texts.{added, all_added, written}
use Rattle.cap_owners_parts.proofs.text.add_cells.Goals as goal

pub loop-address-preserved : goal.loop-address-preserved
loop-address-preserved c =
    let f : SFits w128 c.in-Some.address.now = search rules in
    let g : SFits w128 c.in-Some.value.now = search rules in
    let e = rw (to_z-of_z w128 _ f, to_z-of_z w128 _ g) at c.in_ok-cell_text.ensures in
    added owned_cell_text c.loop-address.texts.items c.push.new.self.items c.in_ok-cell_text.field-0 _ _ _ _ c.in_ok-push.ensures.items e c.in-Some.ensures.steps c.loop-address.invariant

pub returns : goal.returns
returns c =
    all_added owned_cell_text c.loop-address.texts.items _ _ c.in-None.ensures.steps.0 c.loop-address.invariant
    ∙ ap (λ es. written c.args.texts.now.items ++ map owned_cell_text es) (sym (entries_are c.args.cells.now.entries c.iter-address-items.ensures.ordered))
