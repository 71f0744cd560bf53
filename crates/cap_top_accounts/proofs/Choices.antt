-- What is said of a derivation's choices and of a schedule, and nothing else.
use Rattle.std.proofs.Common.{◌≡◌, ◌≢◌, ℕ, inl, inr, List, length, Option, Result, Ok, Err, IfOk, MatchResult, refl, sym, ap, ◌∙◌, subst, ℤ}
use Rattle.std.specs.FinMap.{from_entries}
use Rattle.std.specs.declared.alloc.AllocError.{AllocError}
use Rattle.cap_prog.specs.Program.{PlainProgram}
use Rattle.cap_goal_spec.specs.Choices.{PlainChoice, PlainTree}
use Rattle.cap_rules.specs.Valid.{Valid}
use Rattle.cap_kernel_check_steps.specs.declared.error.CheckError.{CheckError}
use Rattle.cap_kernel_check_steps.specs.declared.error.CheckError.TheVariants as judge
use Rattle.cap_kernel_check_steps.specs.Judges.{Judged}
use Rattle.cap_kernel_check_steps.specs.Laws.{HasTrees, JudgedAreValid, JudgementsAreOne, ValidTreesAreOne}
use Rattle.cap_kernel_check_steps.specs.Owed.{preorder}
use Rattle.cap_machine.specs.Machine.{start}
use Rattle.cap_machine.specs.declared.event.Entry.{Entry}
use Rattle.cap_replay_schedules.specs.declared.entries.Schedule.{Schedule}
use Rattle.cap_replay_schedules.specs.declared.reading.ScheduleError.{ScheduleError}
use Rattle.cap_replay_schedules.specs.declared.reading.ScheduleError.TheVariants.{BadLine, TooMany, OutOfMemory}
use Rattle.cap_replay_schedules.specs.Reading.{read, IsReadAs}
use Rattle.cap_replay.specs.RunText.{RunText}
use Rattle.cap_owners_spec.specs.Steps.{Proved}
use Rattle.cap_owners_spec.specs.Start.{first_track}
use Rattle.cap_owners_spec.specs.Owners.{shown, owned_from, begun, owners_text}
use Rattle.cap_top_commands.specs.declared.output.Output as code
use Rattle.cap_top_commands.specs.Answers.{IsOnly}
use Rattle.cap_top_commands.specs.Derivations.{IsChecked}
use Rattle.cap_top_commands.specs.Output.{Output, bad_derivation_output, judged_output, schedule_output, owners_output}
use Rattle.cap_top_commands.specs.Owners.{TellsLines, HasSchedule, owned_along, IsOwners}
use Rattle.cap_top_commands.specs.Schedules.{IsBadSchedule}
use Rattle.cap_top_commands.specs.Views.{output_view}
use Rattle.cap_top_commands.specs.declared.status.Status.TheVariants.{Good, Bad, Refused}
use Rattle.cap_top_commands.proofs.Good.{same_status}
use Rattle.cap_top_commands.proofs.Outlines.{SaysFault as SaysRejected}
use Rattle.cap_top_commands.proofs.Schedules.{same_progress, not_bad, one_schedule_error, got, CodeTakes, takes}
use Rattle.cap_top_accounts.specs.Laws.{JudgedHaveOwners, AreLinesOfValid, AcceptedHaveTrees}

-- ---- what is said

module _ (p : PlainProgram) (n : ℕ) (cs : List PlainChoice) (bytes : List ℕ) where
  pub bad_only : (e : ScheduleError) → IsBadSchedule p bytes e → IsOnly (IsOwners p n cs bytes) (schedule_output e)
  bad_only e h = record { said = inl (record { error = e; bad = h; whole = refl }); only = by }
    where
      by : (q : Output) → IsOwners p n cs bytes q → schedule_output e ≡ q
      by q (inl k) = ap schedule_output (one_schedule_error p bytes e k.error h k.bad) ∙ sym k.whole
      by q (inr (inl k)) = absurd (not_bad p bytes k.has.schedule k.has.reads k.has.takes e h)
      by q (inr (inr k)) = absurd (not_bad p bytes k.has.schedule k.has.reads k.has.takes e h)

  -- trees are judged well, and in no other way
  judged-well : JudgedAreValid → (trees : List (Option PlainTree)) → Valid p trees → length trees ≡ n → preorder trees ≡ cs
      → Judged p n cs (Ok (length cs))
  judged-well judged trees valid many choices = judged.complete p n cs (trees, valid, many, choices)

  no-fault : JudgedAreValid → JudgementsAreOne → (trees : List (Option PlainTree)) → Valid p trees → length trees ≡ n → preorder trees ≡ cs
      → (e : CheckError) → Judged p n cs (Err e) → ⊥
  no-fault judged one trees valid many choices e h =
      let same : Ok (length cs) ≡ Err e = one p n cs (Ok (length cs)) (Err e) (judged-well judged trees valid many choices) h in cc

  pub fault_only : JudgedAreValid → JudgementsAreOne → (e : CheckError) → Judged p n cs (Err e) → HasSchedule p bytes
      → IsOnly (IsOwners p n cs bytes) (judged_output (Err e))
  fault_only judged one e h has = record {
    said = inr (inl (record { error = e; judged = h; has = has; whole = refl }));
    only = by;
  }
    where
      by : (q : Output) → IsOwners p n cs bytes q → judged_output (Err e) ≡ q
      by q (inl k) = absurd (not_bad p bytes has.schedule has.reads has.takes k.error k.bad)
      by q (inr (inl k)) = ap judged_output (one p n cs (Err e) (Err k.error) h k.judged) ∙ sym k.whole
      by q (inr (inr k)) = absurd (no-fault judged one k.trees k.valid k.many k.choices e h)

  pub owners_only : JudgedAreValid → JudgementsAreOne → ValidTreesAreOne → (trees : List (Option PlainTree)) → Valid p trees
      → length trees ≡ n → preorder trees ≡ cs → (has : HasSchedule p bytes)
      → IsOnly (IsOwners p n cs bytes) (owners_output (owned_along p trees has.schedule))
  owners_only judged one unique trees valid many choices has = record {
    said = inr (inr (record { trees = trees; valid = valid; many = many; choices = choices; has = has; whole = refl }));
    only = by;
  }
    where
      by : (q : Output) → IsOwners p n cs bytes q → owners_output (owned_along p trees has.schedule) ≡ q
      by q (inl k) = absurd (not_bad p bytes has.schedule has.reads has.takes k.error k.bad)
      by q (inr (inl k)) = absurd (no-fault judged one trees valid many choices k.error k.judged)
      by q (inr (inr k)) =
          let same = unique p trees k.trees valid k.valid (choices ∙ sym k.choices) in
          ap (λ ts. owners_output (owned_along p ts has.schedule)) same
          ∙ (ap (λ s. owners_output (owned_along p k.trees s)) (same_progress (read bytes) has.schedule k.has.schedule has.reads k.has.reads)
          ∙ sym k.whole)

-- ---- the schedule of the code

module _ (p : PlainProgram) (bytes : List ℕ) (s : Schedule) (h : IsReadAs (Ok s) (read bytes)) where
  abbrev pub has_schedule : CodeTakes p s → HasSchedule p bytes
  has_schedule t =
      let g = got p bytes s h in
      record { schedule = g.progress; reads = g.is; takes = takes p bytes s h t }

  pub same_owned : (trees : List (Option PlainTree)) (t : CodeTakes p s) → owners_text p trees s ≡ owned_along p trees (has_schedule t).schedule
  unfolding owners_text owned_along
  same_owned trees t =
      let d : Proved = record { program = p; trees = trees } in
      let by : List ℤ → List (ℤ × ℤ) → List Entry → Option RunText = λ args heap es.
      let c = start p args (from_entries heap) in begun (shown d c (owned_from d 0 c es)) (first_track d args (from_entries heap)) in
      let g = got p bytes s h in
      ap (λ xs. by xs s.heap.items s.entries.items) g.args
      ∙ (ap (λ xs. by g.progress.args xs s.entries.items) g.heap ∙ ap (by g.progress.args g.progress.heap) g.entries)

-- ---- what the code says

module _ (p : PlainProgram) (n : ℕ) (cs : List PlainChoice) (bytes : List ℕ) where
  -- of bytes that are no schedule, unless memory is short
  abbrev pub SaysBad : ScheduleError → Result code.Output AllocError → Type 0
  SaysBad e r = MatchResult r (λ o. (output_view o ≡ schedule_output e) × (e ≢ OutOfMemory)) (λ _. e ≡ OutOfMemory)

  bad-read : (e : ScheduleError) → IsReadAs (Err e) (read bytes) → e ≢ OutOfMemory → IsBadSchedule p bytes e
  bad-read (BadLine k) h m = inl h
  bad-read TooMany h m = inl h
  bad-read OutOfMemory h m = absurd (m refl)

  pub says_bad : (e : ScheduleError) (r : Result code.Output AllocError) → IsReadAs (Err e) (read bytes) → SaysBad e r
      → IfOk r (λ o. IsOnly (IsOwners p n cs bytes) (output_view o))
  says_bad e (Ok o) f h =
      let k = bad_only p n cs bytes e (bad-read e f h.1) in
      subst (IsOnly (IsOwners p n cs bytes)) (sym h.0) (record { said = k.said; only = k.only })
  says_bad e (Err a) f h = tt

  pub says_fault : JudgedAreValid → JudgementsAreOne → (e : CheckError) (r : Result code.Output AllocError)
      → (e ≢ judge.OutOfMemory → Judged p n cs (Err e)) → HasSchedule p bytes → SaysRejected p bytes e r
      → IfOk r (λ o. IsOnly (IsOwners p n cs bytes) (output_view o))
  says_fault judged one e (Ok o) j has h =
      let k = fault_only p n cs bytes judged one e (j h.1) has in
      subst (IsOnly (IsOwners p n cs bytes)) (sym h.0) (record { said = k.said; only = k.only })
  says_fault judged one e (Err a) j has h = tt

  pub says_owners : JudgedAreValid → JudgementsAreOne → ValidTreesAreOne → (trees : List (Option PlainTree)) → Valid p trees
      → length trees ≡ n → preorder trees ≡ cs → (s : Schedule) → IsReadAs (Ok s) (read bytes) → CodeTakes p s
      → (r : Result code.Output AllocError) → IfOk r (λ o. output_view o ≡ owners_output (owners_text p trees s))
      → IfOk r (λ o. IsOnly (IsOwners p n cs bytes) (output_view o))
  says_owners judged one unique trees valid many choices s reads code (Ok o) h =
      let has = has_schedule p bytes s reads code in
      let k = owners_only p n cs bytes judged one unique trees valid many choices has in
      subst (IsOnly (IsOwners p n cs bytes)) (sym (h ∙ ap owners_output (same_owned p bytes s reads trees code)))
      (record { said = k.said; only = k.only })
  says_owners judged one unique trees valid many choices s reads code (Err a) h = tt

-- ---- there is an answer

pub judged_have : JudgedAreValid → JudgedHaveOwners
judged_have judged p n cs bytes (Ok m) h has =
    let t : HasTrees p n cs = judged.sound p n m cs h in (
      owners_output (owned_along p t.0 has.schedule),
      inr (inr (record { trees = t.0; valid = t.1; many = t.2; choices = t.3; has = has; whole = refl })),
    )
judged_have judged p n cs bytes (Err e) h has =
    (judged_output (Err e), inr (inl (record { error = e; judged = h; has = has; whole = refl })))

-- ---- lines that are accepted

pub accepted_have : JudgedAreValid → AcceptedHaveTrees
accepted_have judged p lines h = by h.checked.said
  where
    good : Output
    good = judged_output (Ok h.nodes)

    trees-of : (n : ℕ) (cs : List PlainChoice) → TellsLines lines n cs → (r : Result ℕ CheckError) → Judged p n cs r → good ≡ judged_output r
        → AreLinesOfValid p lines
    trees-of n cs told (Ok m) j e =
        let t : HasTrees p n cs = judged.sound p n m cs j in
        record {
          trees = t.0;
          told = subst (λ k. TellsLines lines k (preorder t.0)) (sym t.2) (subst (TellsLines lines n) (sym t.3) told);
          valid = t.1;
        }
    trees-of n cs told (Err x) j e = let f : Good ≡ Bad = same_status good (judged_output (Err x)) e in absurd cc

    by : IsChecked p lines good → AreLinesOfValid p lines
    by (inl k) = let f : Good ≡ Refused = same_status good (bad_derivation_output k.error) k.whole in absurd cc
    by (inr k) = trees-of k.trees k.choices k.told k.answer k.judged k.whole
