use Rattle.cap_prog.specs.Views.{program_view}
use Rattle.cap_parse_tree.specs.Views.{tree_view}
use Rattle.cap_resolve_program.proofs.program.put_together.Goals as goal

pub new-requires : goal.new-requires
new-requires c =
    c.programs_are_well_formed.ensures (tree_view c.args.tree.now)
    (program_view (record { regions = c.args.regions.items; functions = c.args.functions.items; main = c.args.main }))
    c.requires.small
    (record { unrefused = c.requires.right; same = c.requires.parts })
