use Rattle.cap_gen.specs.Trial.{lock_lines, call_line}
use Rattle.cap_gen.proofs.Numbered.{parts-are-trial}
use Rattle.cap_gen.proofs.trial.trial_text.Goals as goal

pub returns : goal.returns
unfolding lock_lines call_line
returns c =
    parts-are-trial c.args.n c.new-text.result.items c.push_numbered.new.text.items
    c.extend_from_slice.new.self.items c.push_numbered-2.new.text.items
    c.extend_from_slice-2.new.self.items c.new-text.ensures.items c.in_ok-push_numbered.ensures
    c.in_ok-extend_from_slice.ensures.items c.in_ok-push_numbered-2.ensures
    c.in_ok-extend_from_slice-2.ensures.items
