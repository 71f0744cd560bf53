use Rattle.std.proofs.Common.{◌≡◌, ◌∙◌, Some, option_map, sym, ap}
use Rattle.cap_top_words.specs.Meaning.{verify, derive, show, trial, stray, core}
use Rattle.cap_top_commands.specs.Commands.{meant_by}
use Rattle.cap_top_words.specs.Views.{command_view}
use Rattle.cap_top.specs.Views.{fetched_view}
use Rattle.cap_top.proofs.Saying.{verify_said, derive_said, show_said, stray_said, core_said, trial_said}
use Rattle.cap_top.proofs.program.respond.Goals as goal

pub returns-in_ok-fetched-in-Some-Verify-clause-said : goal.returns-in_ok-fetched-in-Some-Verify-clause-said
returns-in_ok-fetched-in-Some-Verify-clause-said g c =
    let t : meant_by c.args.words.now ≡ Some (verify c.in-Some-Verify.file.now c.in-Some-Verify.budget) =
    sym c.in_ok-file.ensures ∙ ap (option_map command_view) c.in-Some-Verify.is
    ∙ ap (λ x. Some (command_view x)) c.in-Some-Verify.field-0-is in
    verify_said c.in-Some-Verify.file.now (fetched_view c.in_ok-fetched-in-Some-Verify.fetched) _ _
    c.in_ok-fetched-in-Some-Verify.ensures.fetched c.in_ok-fetched-in-Some-Verify.ensures.given
    c.in_ok-fetched-in-Some-Verify.ensures.counted
    c.in-Some-Verify.budget _ c.verify_file.result t c.verify_file.ensures

pub returns-in_ok-fetched-in-Some-Derive-clause-said : goal.returns-in_ok-fetched-in-Some-Derive-clause-said
returns-in_ok-fetched-in-Some-Derive-clause-said g c =
    let t : meant_by c.args.words.now ≡ Some (derive c.in-Some-Derive.file.now c.in-Some-Derive.budget) =
    sym c.in_ok-file.ensures ∙ ap (option_map command_view) c.in-Some-Derive.is
    ∙ ap (λ x. Some (command_view x)) c.in-Some-Derive.field-0-is in
    derive_said c.in-Some-Derive.file.now (fetched_view c.in_ok-fetched-in-Some-Derive.fetched) _ _
    c.in_ok-fetched-in-Some-Derive.ensures.fetched c.in_ok-fetched-in-Some-Derive.ensures.given
    c.in_ok-fetched-in-Some-Derive.ensures.counted
    c.in-Some-Derive.budget _ c.derive_file.result t c.derive_file.ensures

pub returns-in_ok-fetched-in-Some-Show-clause-said : goal.returns-in_ok-fetched-in-Some-Show-clause-said
returns-in_ok-fetched-in-Some-Show-clause-said g c =
    let t : meant_by c.args.words.now ≡ Some (show c.in-Some-Show.file.now) =
    sym c.in_ok-file.ensures ∙ ap (option_map command_view) c.in-Some-Show.is
    ∙ ap (λ x. Some (command_view x)) c.in-Some-Show.field-0-is in
    show_said c.in-Some-Show.file.now (fetched_view c.in_ok-fetched-in-Some-Show.fetched) _ _
    c.in_ok-fetched-in-Some-Show.ensures.fetched c.in_ok-fetched-in-Some-Show.ensures.given
    c.in_ok-fetched-in-Some-Show.ensures.counted
    _ c.show_file.result t c.show_file.ensures

pub returns-in-Some-Trial-clause-said : goal.returns-in-Some-Trial-clause-said
returns-in-Some-Trial-clause-said g c =
    let t : meant_by c.args.words.now ≡ Some (trial c.in-Some-Trial.number) =
    sym c.in_ok-file.ensures ∙ ap (option_map command_view) c.in-Some-Trial.is
    ∙ ap (λ x. Some (command_view x)) c.in-Some-Trial.field-0-is in
    trial_said _ c.in-Some-Trial.number _ c.trial.result t c.trial.ensures

pub returns-in_ok-fetched-in-Some-Stray-clause-said : goal.returns-in_ok-fetched-in-Some-Stray-clause-said
returns-in_ok-fetched-in-Some-Stray-clause-said g c =
    let t : meant_by c.args.words.now
    ≡ Some (stray c.in-Some-Stray.file.now c.in-Some-Stray.number c.in-Some-Stray.count) =
    sym c.in_ok-file.ensures ∙ ap (option_map command_view) c.in-Some-Stray.is
    ∙ ap (λ x. Some (command_view x)) c.in-Some-Stray.field-0-is in
    stray_said c.in-Some-Stray.file.now (fetched_view c.in_ok-fetched-in-Some-Stray.fetched) _ _
    c.in_ok-fetched-in-Some-Stray.ensures.fetched c.in_ok-fetched-in-Some-Stray.ensures.given
    c.in_ok-fetched-in-Some-Stray.ensures.counted
    c.in-Some-Stray.number c.in-Some-Stray.count _ c.stray_file.result t c.stray_file.ensures

pub returns-in_ok-fetched-in-Some-Core-clause-said : goal.returns-in_ok-fetched-in-Some-Core-clause-said
returns-in_ok-fetched-in-Some-Core-clause-said g c =
    let t : meant_by c.args.words.now ≡ Some (core c.in-Some-Core.file.now) =
    sym c.in_ok-file.ensures ∙ ap (option_map command_view) c.in-Some-Core.is
    ∙ ap (λ x. Some (command_view x)) c.in-Some-Core.field-0-is in
    core_said c.in-Some-Core.file.now (fetched_view c.in_ok-fetched-in-Some-Core.fetched) _ _
    c.in_ok-fetched-in-Some-Core.ensures.fetched c.in_ok-fetched-in-Some-Core.ensures.given
    c.in_ok-fetched-in-Some-Core.ensures.counted
    _ c.core_file.result t c.core_file.ensures
