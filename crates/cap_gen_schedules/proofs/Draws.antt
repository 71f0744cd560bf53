-- A fault that is drawn is one of the run along what was drawn, and a safe program has none.
use Rattle.std.proofs.Common.{◌≡◌, ◌∙◌, ap, sym, refl, subst, ℕ, zero, suc, ◌+◌, pos, Bool}
use Rattle.std.proofs.Common.{true, false, List, [], ◌∷◌, ◌++◌, map, length, append_assoc, arith}
use Rattle.std.proofs.Common.{Option, Some, None}
use Rattle.std.specs.Prelude.{slice_get, IsSomeAnd}
use Rattle.std.specs.Ordering.{int_cmp}
use Rattle.std.specs.FinMap.{get, empty, get-empty}
use Rattle.std.proofs.lemmas.Int.{ints}
use Rattle.rand_pcg.specs.Lcg.{Lcg}
use Rattle.cap_lin.specs.Values.{Valuation}
use Rattle.cap_lin.specs.declared.row.Sort.{Sort}
use Rattle.cap_lin.specs.declared.row.Sort.TheVariants.{Int, Perm}
use Rattle.cap_prog.specs.Program.{none, PlainFunction, PlainProgram}
use Rattle.cap_prog.specs.Scopes.{fixed_start}
use Rattle.cap_machine.specs.declared.event.Entry.{Entry}
use Rattle.cap_machine.specs.declared.event.Event.{Event}
use Rattle.cap_machine.specs.Machine.{Heap, Configuration, Outcome, next, fault, disabled, step}
use Rattle.cap_machine.specs.Machine.{start, IsPositive}
use Rattle.cap_machine.specs.Ready.{ahead}
use Rattle.cap_machine.specs.Results.{entry_steps, are_narrow}
use Rattle.cap_machine_accounts.specs.Assertions.{NameValue, a_number, a_fraction, ValuesFit}
use Rattle.cap_machine_accounts.specs.Assertions.{AreNamed, Sat}
use Rattle.cap_machine_accounts.specs.Accounts.{Account}
use Rattle.cap_machine_accounts.specs.Parts.{Part}
use Rattle.cap_machine_accounts.specs.Following.{Follows}
use Rattle.cap_machine_accounts.specs.Safety.{KeepsContracts, IfStepped, IsTracked, whole_part}
use Rattle.cap_machine_accounts.specs.Safety.{first_account, Start}
use Rattle.cap_replay.specs.declared.playing.End.{End}
use Rattle.cap_replay.specs.declared.playing.End.TheVariants.{Stopped, NotEnabled, Wide}
use Rattle.cap_replay.specs.RunText as run
use Rattle.cap_replay.specs.RunText.{step_line, RunText, run_from}
use Rattle.cap_gen_schedules.specs.Drawn.{alive, chosen, word_of, after_word, entry_of, Drawn}
use Rattle.cap_gen_schedules.specs.Drawn.{faulted, ended, taken, turn, draw, most_entries, draw_one}
use Rattle.cap_gen_schedules.specs.Drawn.{or_later, first_fault}
use Rattle.cap_gen_schedules.specs.Laws.{FoundSchedulesFault, SafeProgramsHaveNone}

-- ---- a fault that is drawn is one of the run

-- all of these are the ones before and others, along which the run from here stops at its end
record Stops (p : PlainProgram) (c : Configuration) (before all : List Entry) : Type 0 where
  later : List Entry
  whole : all ≡ before ++ later
  stops : (k : ℕ) → (run_from p k c later).end ≡ Stopped (k + length later)

-- how the run at an entry ends, by the outcome of its step
abbrev end_by : PlainProgram → ℕ → Configuration → Entry → List Entry → Bool → Outcome → End
end_by p k c e es b o =
    (run.taken b (suc k) (step_line (suc k) e.thread (ahead c e.thread))
    (λ d. run_from p (suc k) d es) o).end

end-at :
    (p : PlainProgram) (k : ℕ) (c : Configuration) (e : Entry) (es : List Entry) (b : Bool)
    (o : Outcome) → are_narrow (entry_steps c e) ≡ b → step p c e ≡ o →
    (run_from p k c (e ∷ es)).end ≡ end_by p k c e es b o
end-at p k c e es b o n i =
    ap (λ x. end_by p k c e es x (step p c e)) n ∙ ap (end_by p k c e es b) i

stops-now :
    (p : PlainProgram) (c : Configuration) (es all : List Entry) (e : Entry) (x : Event) →
    are_narrow (entry_steps c e) ≡ true → step p c e ≡ fault x → es ++ e ∷ [] ≡ all →
    Stops p c es all
stops-now p c es all e x n i w = record {
  later = e ∷ [];
  whole = sym w;
  stops = λ k. end-at p k c e [] true (fault x) n i ∙ ap Stopped (one-more k);
}
  where
    one-more : (k : ℕ) → suc k ≡ k + 1
    one-more k = omega arith

stops-later :
    (p : PlainProgram) (c d : Configuration) (es all : List Entry) (e : Entry) (x : Event) →
    are_narrow (entry_steps c e) ≡ true → step p c e ≡ next d x → Stops p d (es ++ e ∷ []) all →
    Stops p c es all
stops-later p c d es all e x n i s = record {
  later = e ∷ s.later;
  whole = s.whole ∙ append_assoc es (e ∷ []) s.later;
  stops = λ k.
      end-at p k c e s.later true (next d x) n i
      ∙ (s.stops (suc k) ∙ ap Stopped (one-more k (length s.later)));
}
  where
    one-more : (k n : ℕ) → suc k + n ≡ k + suc n
    one-more k n = omega arith

draws-stop :
    (p : PlainProgram) (n : ℕ) (g : Lcg) (c : Configuration) (es all : List Entry) →
    draw p n g c es ≡ faulted all → Stops p c es all
unfolding draw
draws-stop p zero g c es all h = absurd (cc)
draws-stop p (suc n) g c es all h =
    in-turn (λ d k fs m. draws-stop p n k d fs all m) (alive c) h
  where
    Later : Type 0
    Later =
        (d : Configuration) (k : Lcg) (fs : List Entry) → draw p n k d fs ≡ faulted all →
        Stops p d fs all

    by-outcome :
        Later → (e : Entry) (b : Bool) (o : Outcome) → are_narrow (entry_steps c e) ≡ b →
        step p c e ≡ o →
        taken b e es (after_word g) (λ d fs k. draw p n k d fs) o ≡ faulted all → Stops p c es all
    by-outcome later e b disabled q i m = absurd (cc)
    by-outcome later e false (next d x) q i m = absurd (cc)
    by-outcome later e true (next d x) q i m =
        stops-later p c d es all e x q i (later d (after_word g) (es ++ e ∷ []) m)
    by-outcome later e false (fault x) q i m = absurd (cc)
    by-outcome later e true (fault x) q i m = stops-now p c es all e x q i (cc)

    in-turn :
        Later → (ts : List ℕ) → turn p g c es (λ d fs k. draw p n k d fs) ts ≡ faulted all →
        Stops p c es all
    in-turn later [] m = absurd (cc)
    in-turn later (t ∷ ts) m =
        let e = entry_of c (chosen (word_of g) (t ∷ ts)) in
        by-outcome later e (are_narrow (entry_steps c e)) (step p c e) refl refl m

pub found-fault : FoundSchedulesFault
unfolding first_fault
found-fault p zero g es h = absurd (cc)
found-fault p (suc n) g es h = by-drawn (λ k m. found-fault p n k es m) (draw_one p g) refl h
  where
    none-before : (k : ℕ) → 0 + k ≡ k
    none-before k = omega arith

    by-drawn :
        ((k : Lcg) → first_fault p n k ≡ Some es →
        (run_from p 0 (start p [] empty) es).end ≡ Stopped (length es)) →
        (d : Drawn) → draw_one p g ≡ d → or_later d (λ k. first_fault p n k) ≡ Some es →
        (run_from p 0 (start p [] empty) es).end ≡ Stopped (length es)
    by-drawn later (faulted fs) q m =
        let e : fs ≡ es = cc in
        let s = draws-stop p most_entries g (start p [] empty) [] es (q ∙ ap faulted e) in
        let w : es ≡ s.later = s.whole in
        subst (λ xs. (run_from p 0 (start p [] empty) xs).end ≡ Stopped (length xs)) (sym w)
        (s.stops 0 ∙ ap Stopped (none-before (length s.later)))
    by-drawn later (ended k) q m = later k m

-- ---- a safe program has none

tracked-on :
    (p : PlainProgram) (es : List Entry) (c : Configuration) (a : Account) (k j : ℕ) →
    IsTracked p es c a → (run_from p k c es).end ≡ Stopped j → ⊥
tracked-on p [] c a k j t e = cc
tracked-on p (x ∷ es) c a k j t e =
    by-outcome (λ d b u m. tracked-on p es d b (suc k) j u m) (are_narrow (entry_steps c x))
    (step p c x) refl refl t.1
  where
    Later : Type 0
    Later =
        (d : Configuration) (b : Account) → IsTracked p es d b →
        (run_from p (suc k) d es).end ≡ Stopped j → ⊥

    stopped :
        (b : Bool) (o : Outcome) → are_narrow (entry_steps c x) ≡ b → step p c x ≡ o →
        end_by p k c x es b o ≡ Stopped j
    stopped b o n i = sym (end-at p k c x es b o n i) ∙ e

    by-outcome :
        Later → (b : Bool) (o : Outcome) → are_narrow (entry_steps c x) ≡ b → step p c x ≡ o →
        IfStepped (λ d event.
        (b : Account) × (handed : Part)
        × Follows p c.heap x.thread event a b handed
        × KeepsContracts p x.thread event c d a b handed
        × IsTracked p es d b) o →
        ⊥
    by-outcome later b disabled n i s =
        let q : NotEnabled (suc k) ≡ Stopped j = stopped b disabled n i in cc
    by-outcome later false (next d y) n i s =
        let q : Wide (suc k) ≡ Stopped j = stopped false (next d y) n i in cc
    by-outcome later true (next d y) n i s = later d s.0 s.4 (stopped true (next d y) n i)
    by-outcome later b (fault y) n i s = s

-- values of names, whatever their sorts
abbrev zero_of : Sort → NameValue
zero_of Int = a_number (pos 0)
zero_of Perm = a_fraction (pos 0) 0

abbrev zeros : Valuation
zeros = record { whole = λ x. pos 0; fraction = record { numerator = λ x. pos 0; under = 0 } }

zeros-fit : (os : List Sort) → ValuesFit os (map zero_of os)
zeros-fit [] = tt
zeros-fit (Int ∷ os) = (tt, zeros-fit os)
zeros-fit (Perm ∷ os) = (tt, zeros-fit os)

zeros-named : (x : ℕ) (os : List Sort) → AreNamed zeros x (map zero_of os)
zeros-named x [] = tt
zeros-named x (Int ∷ os) = (refl, zeros-named (suc x) os)
zeros-named x (Perm ∷ os) = (omega (arith, ints), zeros-named (suc x) os)

no-cell : (heap : Heap) → heap ≡ empty → IsPositive heap
no-cell heap e a v h =
    let n : get heap a ≡ None = ap (λ (m : Heap). get m a) e ∙ get-empty int_cmp a in absurd (cc)

starts :
    (p : PlainProgram) (main : PlainFunction) → slice_get p.functions p.main ≡ Some main →
    0 ≡ main.params → main.requires ≡ none → Start p main [] empty (map zero_of main.fixed)
starts p main i n r = record {
  is_main = i;
  arity = n;
  values_fit = zeros-fit main.fixed;
  positive = no-cell empty refl;
  meets = record {
    values = zeros;
    args_are = tt;
    fixed_are = zeros-named (fixed_start main) main.fixed;
    met = subst (Sat p [] (whole_part empty) zeros) (sym r) (whole_part empty, refl);
  };
}

pub safe-none : SafeProgramsHaveNone
safe-none p count g asks safe = by-main (slice_get p.functions p.main) refl asks
  where
    by-found :
        (main : PlainFunction) → slice_get p.functions p.main ≡ Some main → 0 ≡ main.params →
        main.requires ≡ none → (o : Option (List Entry)) → first_fault p count g ≡ o →
        first_fault p count g ≡ None
    by-found main i n r None e = e
    by-found main i n r (Some es) e =
        absurd (tracked-on p es (start p [] empty)
        (first_account empty (map zero_of main.fixed)) 0 (length es)
        (safe main [] empty (map zero_of main.fixed) es (starts p main i n r))
        (found-fault p count g es e))

    by-main :
        (o : Option PlainFunction) → slice_get p.functions p.main ≡ o →
        IsSomeAnd o (λ f. (0 ≡ f.params) × (f.requires ≡ none)) → first_fault p count g ≡ None
    by-main None i a = absurd a
    by-main (Some main) i a = by-found main i a.0 a.1 (first_fault p count g) refl
