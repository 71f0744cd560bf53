use Rattle.cap_goal.specs.Trees.{bundle_view}
use Rattle.cap_deriv_write.proofs.NoZeros.{lines_if, read_back_if}
use Rattle.cap_deriv_write.proofs.writing.write.Goals as goal

pub returns-clause-lines : goal.returns-clause-lines
returns-clause-lines c = lines_if c.lines.result (λ b. b.items) (bundle_view c.args.bundle.now) c.lines.ensures.text c.lines.ensures.fits

pub returns-clause-read_back : goal.returns-clause-read_back
returns-clause-read_back c = read_back_if c.lines.result (λ b. b.items) (bundle_view c.args.bundle.now) c.lines.ensures.text c.lines.ensures.fits
