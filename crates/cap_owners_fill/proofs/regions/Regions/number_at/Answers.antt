use Rattle.std.proofs.Common.{rules, ap, ◌∙◌}
use mir.Val.{SFits}
use mir.Syntax.{w128}
use Rattle.std.proofs.lemmas.Int.{to_z-of_z}
use Rattle.cap_owners_fill.specs.Views.{region_number}
use Rattle.cap_owners_fill.proofs.Ascending.{number_seen}
use Rattle.cap_owners_fill.proofs.regions.Regions.number_at.Goals as goal

pub returns : goal.returns
returns c =
    let f : SFits w128 c.behind-index.inside.number = search rules in
    to_z-of_z w128 _ f ∙ number_seen (λ x. x.value) c.self.inside.regions.items c.args.self.now c.args.place c.index.result.now _ c.self.view_is c.requires c.index.ensures (ap region_number (c.behind-index.view_is ∙ c.deref.ensures))
