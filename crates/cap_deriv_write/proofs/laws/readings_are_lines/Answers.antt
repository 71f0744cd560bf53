use Rattle.cap_deriv.specs.Told.{ended_lines}
use Rattle.cap_deriv_write.proofs.LinesTold.{lines_told, told_lines}
use Rattle.cap_deriv_write.proofs.laws.readings_are_lines.Goals as goal

pub returns : goal.returns
returns c trees choices bytes = (
  λ e. let t = told_lines trees choices (ended_lines bytes) e in ((t.1, t.0), t.2),
  λ h. lines_told trees choices (ended_lines bytes) h.0.0 h.1 h.0.1,
)
