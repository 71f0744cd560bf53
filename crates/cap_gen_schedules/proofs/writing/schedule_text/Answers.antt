use Rattle.std.proofs.Common.{◌∙◌, ap, ◌++◌, flat_map}
use Rattle.std.specs.Prelude.{codes}
use Rattle.cap_replay_schedules.specs.Writing.{numbers_text, cell_text, entry_text, schedule_view}
use Rattle.cap_gen_schedules.proofs.Lines.{written}
use Rattle.cap_gen_schedules.proofs.writing.schedule_text.Goals as goal

pub returns : goal.returns
returns c =
    written (schedule_view c.args.schedule.now) c.in_ok-text.text.items c.push_numbers.new.text.items
    c.extend_from_slice.new.self.items c.push_cells.new.text.items c.push_entries.new.text.items
    c.extend_from_slice-2.new.self.items c.in_ok-text.ensures.items
    (c.in_ok-push_numbers.ensures
    ∙ ap (λ xs. c.in_ok-text.text.items ++ numbers_text xs) c.deref.ensures.value)
    c.in_ok-extend_from_slice.ensures.items
    (c.in_ok-push_cells.ensures
    ∙ ap (λ xs. c.extend_from_slice.new.self.items ++ flat_map (λ x. cell_text x ++ codes "\n") xs)
    c.deref-2.ensures.value)
    (c.in_ok-push_entries.ensures
    ∙ ap (λ xs. c.push_cells.new.text.items ++ flat_map (λ x. entry_text x ++ codes "\n") xs)
    c.deref-3.ensures.value)
    c.in_ok-extend_from_slice-2.ensures.items
