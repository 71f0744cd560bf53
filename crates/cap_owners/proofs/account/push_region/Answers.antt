use Rattle.std.proofs.Common.{◌++◌, ◌∙◌, ap, rules}
use Rattle.std.specs.Prelude.{codes}
use mir.Val.{SFits}
use mir.Syntax.{w128}
use Rattle.std.proofs.lemmas.Int.{to_z-of_z}
use Rattle.cap_prog.specs.Views.{program_view}
use Rattle.cap_machine_accounts.specs.Accounts.{OwnedRegion}
use Rattle.cap_owners_spec.specs.Texts.{region_line}
use Rattle.cap_owners.proofs.Writing.{ok-appended, ok-same, region-written}
use Rattle.cap_owners.proofs.account.push_region.Goals as goal

pub returns : goal.returns
returns c =
    let p = program_view c.args.program.now in
    let old = c.args.text.now.items in
    let text = c.push_part.new.text.items in
    let r = c.region.inside in
    let owned : OwnedRegion = record { region = record { number = r.number; kind = r.kind; args = r.args.items; state = r.state }; part = r.part } in
    let f : SFits w128 r.number = search rules in
    let g : SFits w128 r.state = search rules in
    let number = rw (to_z-of_z w128 _ f) at c.in_ok-push_number.ensures in
    let state = rw (to_z-of_z w128 _ g) at c.in_ok-push_number-2.ensures in
    let kind = rw c.type_name.ensures at c.in_ok-extend_from_slice-3.ensures.items in
    let args = rw c.deref.ensures.value at c.in_ok-push_args.ensures in
    ok-same c.extend_from_slice-6.result c.extend_from_slice-6.new.self.items (text ++ codes "\n") _
    (region-written p owned old c.extend_from_slice.new.self.items c.push_number.new.text.items c.extend_from_slice-2.new.self.items c.extend_from_slice-3.new.self.items c.extend_from_slice-4.new.self.items c.push_args.new.text.items c.push_number-2.new.text.items c.extend_from_slice-5.new.self.items text
    c.in_ok-extend_from_slice.ensures.items number c.in_ok-extend_from_slice-2.ensures.items kind c.in_ok-extend_from_slice-4.ensures.items args state c.in_ok-extend_from_slice-5.ensures.items c.in_ok-push_part.ensures
    ∙ ap (λ x. old ++ region_line p x.owned) c.region.view_is)
    (ok-appended c.extend_from_slice-6.result c.extend_from_slice-6.new.self.items text (codes "\n") c.extend_from_slice-6.ensures.items)
