use Rattle.std.proofs.Common.{ap, ◌∙◌}
use Rattle.cap_prog.specs.Views.{program_view}
use Rattle.cap_machine_accounts.specs.Parts.{algebra_of}
use Rattle.cap_owners_parts.specs.Views.{element_view}
use Rattle.cap_owners_spec.specs.Filling.{counts_fit}
use Rattle.cap_owners_parts.proofs.Composing.{atom_fits}
use Rattle.cap_owners_parts.proofs.part.Part.put_atom.Goals as goal

pub put_guard-requires : goal.put_guard-requires
put_guard-requires c = record { fits = ap counts_fit c.in_ok-element.ensures ∙ atom_fits (algebra_of (program_view c.args.program.now) c.args.kind) c.args.atom (element_view c.args.element) c.requires.fits }
