-- What the text of a run with its accounts shows.
use Rattle.std.proofs.Common.{◌≡◌, ◌∙◌, inl, inr, List, length, slice_get, Option, Some, None, refl, sym, ap, subst}
use Rattle.std.specs.Prelude.{IsSomeAnd}
use Rattle.cap_parse_tree.specs.Tree.{ProgramTree}
use Rattle.cap_prog.specs.Program.{PlainFunction, PlainProgram}
use Rattle.cap_prog.specs.WellFormed.{IsWellFormed}
use Rattle.cap_resolve_spec.specs.Stands.{Stands}
use Rattle.cap_rules.specs.Valid.{Valid}
use Rattle.cap_goal_spec.specs.Choices.{PlainTree}
use Rattle.cap_account.specs.Law.{DerivationsAreSound}
use Rattle.cap_deriv_write.specs.Spelled.{AreLines}
use Rattle.cap_kernel_check_steps.specs.Owed.{preorder}
use Rattle.cap_machine.specs.Machine.{IsPositive}
use Rattle.cap_machine_accounts.specs.Safety.{Start}
use Rattle.cap_replay_schedules.specs.Reading.{Progress}
use Rattle.cap_replay.specs.RunText.{RunText, in_front}
use Rattle.cap_owners_spec.specs.Traced.{Traced, traced, past_width, untold}
use Rattle.cap_owners_spec.specs.Track.{Track}
use Rattle.cap_owners_spec.specs.Steps.{Proved}
use Rattle.cap_owners_spec.specs.Start.{first_track}
use Rattle.cap_owners_spec.specs.Owners.{shown, owned_from, start_line, begun}
use Rattle.cap_owners_laws.specs.Laws.{StartsAreExact}
use Rattle.cap_owners_laws.specs.Owned.{IsTextual, IsOwnedText, TextsAreOwned}
use Rattle.cap_top_commands.specs.Owners.{owned_along}
use Rattle.cap_top_commands.specs.Schedules.{TakesArguments}
use Rattle.cap_top_commands.proofs.Accepting.{ReadingsAreLines}
use Rattle.cap_top_commands.proofs.Good.{TextsAreFormed, safe_text}
use Rattle.cap_top_accounts.specs.Laws.{heap_of, start_of, ShowsOwners, OwnersAreTold, IsNoStart, RefusedStartsAreNone}
use Rattle.cap_top_accounts.proofs.Positive.{addresses_are_positive}

same-value : {A : Type 0} (x y : A) → Some x ≡ Some y → x ≡ y
same-value x y e = cc

not-none : {A B : Type 0} (x : A) → Some x ≡ None → B
not-none x e = absurd cc

module _ (p : PlainProgram) (trees : List (Option PlainTree)) (s : Progress) (takes : TakesArguments p s) where
  abbrev proved : Proved
  proved = record { program = p; trees = trees }

  abbrev from-start : Track → RunText
  from-start = shown proved (start_of p s) (owned_from proved 0 (start_of p s) s.entries)

  record HasMain : Type 0 where
    pub main : PlainFunction
    pub is_main : slice_get p.functions p.main ≡ Some main
    pub arity : length s.args ≡ main.params

  main-of : (o : Option PlainFunction) → slice_get p.functions p.main ≡ o → IsSomeAnd o (λ f. length s.args ≡ f.params) → HasMain
  main-of None e h = absurd h
  main-of (Some f) e h = record { main = f; is_main = e; arity = h }

  the-main : HasMain
  the-main = main-of (slice_get p.functions p.main) refl takes

  -- ---- the text

  from-owned : (r : RunText) → IsOwnedText p trees s.args (heap_of s) s.entries (Some r) → ShowsOwners p trees s r
  from-owned r (inl wide) = inr wide
  from-owned r (inr h) = inl (record {
    main = h.0;
    fixed = h.1;
    track = h.2;
    run = h.3;
    starts = h.4;
    first = h.5;
    begins = h.6;
    shown = h.7;
    whole = h.8;
  })

  pub shows_owners : TextsAreOwned → IsWellFormed p → IsTextual p → Valid p trees → IsPositive (heap_of s) → (r : RunText)
      → owned_along p trees s ≡ Some r → ShowsOwners p trees s r
  unfolding owned_along
  shows_owners owned well textual valid positive r e =
      from-owned r (subst (IsOwnedText p trees s.args (heap_of s) s.entries) e
      (owned p trees s.args (heap_of s) s.entries well textual valid the-main.main the-main.is_main the-main.arity positive))

  -- ---- no start

  refused : StartsAreExact → (t : Traced (Option Track)) → first_track proved s.args (heap_of s) ≡ t → begun from-start t ≡ None → IsNoStart p s
  refused exact (traced None) e h main fixed start =
      let same : main ≡ the-main.main = same-value main the-main.main (sym start.is_main ∙ the-main.is_main) in
      exact.unmet proved the-main.main s.args (heap_of s) the-main.is_main the-main.arity e fixed
      (subst (λ f. Start p f s.args (heap_of s) fixed) same start)
  refused exact (traced (Some k)) e h main fixed start = not-none (in_front start_line (from-start k)) h
  refused exact past_width e h main fixed start = not-none _ h
  refused exact untold e h main fixed start = not-none _ h

  pub no_start : StartsAreExact → owned_along p trees s ≡ None → IsNoStart p s
  unfolding owned_along
  no_start exact e = refused exact (first_track proved s.args (heap_of s)) refl e

-- ---- the laws

pub starts_refused : StartsAreExact → RefusedStartsAreNone
starts_refused exact p trees s takes e = no_start p trees s takes exact e

pub owners_told : DerivationsAreSound → ReadingsAreLines → TextsAreFormed → TextsAreOwned
    → ((t : ProgramTree) (p : PlainProgram) → Stands t p → IsTextual p) → OwnersAreTold
owners_told sound readings formed owned textual bytes lines entries p n cs o t told said r e = record {
  accepted = record {
    text = safe_text sound formed bytes p t said.trees said.valid;
    trees = said.trees;
    told = subst (λ k. AreLines k (preorder said.trees) lines) (sym said.many)
        (subst (λ ds. AreLines n ds lines) (sym said.choices) (readings n cs lines told));
    valid = said.valid;
  };
  has = said.has;
  whole = e;
  shows = shows_owners p said.trees said.has.schedule said.has.takes owned (formed bytes p t) (textual t.tree p t.stands) said.valid
      (addresses_are_positive entries said.has.schedule said.has.reads) r e;
}
