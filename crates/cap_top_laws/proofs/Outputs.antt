-- Each command has an output over all files.
use Rattle.std.proofs.Common.{◌≡◌, ◌⊎◌, inl, inr, ℕ, List, [], ◌∷◌, length, Some, None, Result, refl}
use Rattle.cap_io.specs.Files.{Files, content}
use Rattle.cap_parse_tree.specs.Canonical.{canonical_text}
use Rattle.cap_prog.specs.Program.{PlainProgram}
use Rattle.cap_gen.specs.Trial.{trial_text}
use Rattle.cap_goal_spec.specs.Choices.{PlainChoice}
use Rattle.cap_goal_spec.specs.Roots.{units}
use Rattle.cap_top_commands.specs.cap_kernel_check_steps.declared.error.CheckError.{CheckError}
use Rattle.cap_top_commands.specs.cap_kernel_check_steps.Judges.{Judged}
use Rattle.cap_top_commands.specs.cap_top_report.Report.{proved_count, is_good, report_text}
use Rattle.cap_top_commands.specs.cap_top_report.Cores.{cores_text}
use Rattle.cap_gen_schedules.specs.Drawn.{seeded, first_fault}
use Rattle.cap_gen_schedules.specs.Laws.{AsksForNothing}
use Rattle.cap_top_commands.specs.cap_top_reading.Refused.{IsTextOf}
use Rattle.cap_top_commands.specs.Answers.{Fetched, held, unread, long, After, IsVerified, IsTrial, IsStray, IsStrayed, IsCored, drawn_output, IsDerived, IsShown, IsReplayed, IsJudged, IsOutlined, IsOwned, ByTwo, ByThree}
use Rattle.cap_top_commands.specs.Derivations.{IsChecked}
use Rattle.cap_top_commands.specs.Outlines.{IsOutline, CheckedAreOutlined}
use Rattle.cap_top_commands.specs.Owners.{IsOwners}
use Rattle.cap_top_commands.specs.Schedules.{IsPlayed}
use Rattle.cap_top_accounts.specs.Laws.{JudgedHaveOwners}
use Rattle.cap_top_commands.specs.Output.{Output, usage_output, unreadable_output, long_output, refusal_output, report_output, tree_output, trial_output, no_start_output}
use Rattle.cap_top_words.specs.Meaning.{verify, derive, check, show, replay, trial, outline, owners, stray, core, default_budget}
use Rattle.cap_top_commands.proofs.Strays.{asks-or}
use Rattle.cap_top_laws.specs.Given.{given_by, AreGiven}
use Rattle.cap_top_laws.specs.Laws.{SpellOneOrNone, AreTextOrRefused, BytesAreReadOrRefused, SchedulesAreAnswered, LinesAreAnswered, FoundHaveLines, DerivationsAreAnswered, OutputsExist}

-- ---- after one file

after-one : (IsSaid : List ℕ → Output → Type 0) (name : List ℕ) (x : Fetched)
    → ((bytes : List ℕ) → x ≡ held bytes → (o : Output) × IsSaid bytes o) → (o : Output) × After name x IsSaid o
after-one IsSaid name (held bytes) f = f bytes refl
after-one IsSaid name unread f = (unreadable_output name, refl)
after-one IsSaid name long f = (long_output, refl)

verified : (budget : ℕ) (bytes : List ℕ) → AreTextOrRefused bytes → (o : Output) × IsVerified budget bytes o
verified budget bytes (inl h) = (
  report_output (is_good h.0 budget) (report_text h.0 budget),
  inr (record { thing = h.0; is_so = h.1; said = refl }),
)
verified budget bytes (inr h) = (refusal_output h.0, inl (record { cause = h.0; caused = h.1; whole = refl }))

tried : (n : ℕ) → AreTextOrRefused (trial_text n) → (o : Output) × IsTrial n o
tried n (inl h) = (
  trial_output n (proved_count h.0 default_budget) (length (units h.0)),
  inr (record { thing = h.0; is_so = h.1; said = refl }),
)
tried n (inr h) = (refusal_output h.0, inl (record { cause = h.0; caused = h.1; whole = refl }))

cored : (bytes : List ℕ) → AreTextOrRefused bytes → (o : Output) × IsCored bytes o
cored bytes (inl h) = (
  report_output (is_good h.0 default_budget) (cores_text h.0 default_budget),
  inr (record { thing = h.0; is_so = h.1; said = refl }),
)
cored bytes (inr h) = (refusal_output h.0, inl (record { cause = h.0; caused = h.1; whole = refl }))

drawn : (number count : ℕ) (p : PlainProgram) → AsksForNothing p ⊎ (¬ AsksForNothing p) → (o : Output) × IsStray number count p o
drawn number count p (inl asks) =
    (drawn_output count (first_fault p count (seeded number)), inr (asks, refl))
drawn number count p (inr n) = (no_start_output, inl (n, refl))

strayed : (number count : ℕ) (bytes : List ℕ) → AreTextOrRefused bytes → (o : Output) × IsStrayed number count bytes o
strayed number count bytes (inl h) =
    let d = drawn number count h.0 (asks-or h.0) in (d.0, inr (record { thing = h.0; is_so = h.1; said = d.1 }))
strayed number count bytes (inr h) =
    (refusal_output h.0, inl (record { cause = h.0; caused = h.1; whole = refl }))

derived : DerivationsAreAnswered → (budget : ℕ) (bytes : List ℕ) → AreTextOrRefused bytes
    → ((p : PlainProgram) → IsTextOf bytes p → FoundHaveLines budget p) → (o : Output) × IsDerived budget bytes o
derived derivations budget bytes (inl h) have =
    let d = derivations budget h.0 (have h.0 h.1) in (d.0, inr (record { thing = h.0; is_so = h.1; said = d.1 }))
derived derivations budget bytes (inr h) have =
    (refusal_output h.0, inl (record { cause = h.0; caused = h.1; whole = refl }))

shown : (bytes : List ℕ) → SpellOneOrNone bytes → (o : Output) × IsShown bytes o
shown bytes (inl h) = (tree_output (canonical_text h.0), inr (record { thing = h.0; is_so = h.1; said = refl }))
shown bytes (inr h) = (refusal_output h.0, inl (record { cause = h.0; caused = h.1; whole = refl }))

-- ---- after two files

module _ (files : Files) (first second : List ℕ) (IsSaid : PlainProgram → Fetched → Output → Type 0)
    (texts : (bytes : List ℕ) → AreTextOrRefused bytes)
    (says : (p : PlainProgram) (y : Fetched) → (o : Output) × IsSaid p y o) where
  record HasTwo : Type 0 where
    pub got : List Fetched
    pub given : AreGiven files (first ∷ (second ∷ [])) got
    pub said : Output
    pub output : ByTwo first IsSaid got said

  after-text : (bytes : List ℕ) → given_by (content files first) ≡ held bytes → AreTextOrRefused bytes → HasTwo
  after-text bytes e (inl h) =
      let y = given_by (content files second) in
      let s = says h.0 y in
      record {
        got = held bytes ∷ (y ∷ []);
        given = (e, (refl, tt));
        said = s.0;
        output = record { bytes = bytes; gave = refl; program = h.0; text_of_it = h.1; said = s.1 };
      }
  after-text bytes e (inr h) = record {
    got = held bytes ∷ [];
    given = (e, tt);
    said = refusal_output h.0;
    output = record { cause = h.0; caused = h.1; whole = refl };
  }

  after-two : (x : Fetched) → given_by (content files first) ≡ x → HasTwo
  after-two (held bytes) e = after-text bytes e (texts bytes)
  after-two unread e = record { got = unread ∷ []; given = (e, tt); said = unreadable_output first; output = refl }
  after-two long e = record { got = long ∷ []; given = (e, tt); said = long_output; output = refl }

-- ---- after three files

module _ (files : Files) (first second third : List ℕ) (texts : (bytes : List ℕ) → AreTextOrRefused bytes)
    (schedules : SchedulesAreAnswered) (lines : LinesAreAnswered) (have : JudgedHaveOwners) where
  record HasThree : Type 0 where
    pub got : List Fetched
    pub given : AreGiven files (first ∷ (second ∷ (third ∷ []))) got
    pub said : Output
    pub output : ByThree first second (IsOwned third) got said

  owned : (p : PlainProgram) (n : ℕ) (cs : List PlainChoice) (answer : Result ℕ CheckError) → Judged p n cs answer
      → (z : Fetched) → (o : Output) × IsOwned third p n cs z o
  owned p n cs answer j z = after-one (IsOwners p n cs) third z (λ bytes e. let s = schedules p bytes in by bytes s.0 s.1)
    where
      by : (bytes : List ℕ) (o : Output) → IsPlayed p bytes o → (q : Output) × IsOwners p n cs bytes q
      by bytes o (inl k) = (o, inl k)
      by bytes o (inr k) =
          have p n cs bytes answer j (record { schedule = k.played.schedule; reads = k.played.reads; takes = k.played.takes })

  module _ (bytes : List ℕ) (e : given_by (content files first) ≡ held bytes) (p : PlainProgram) (t : IsTextOf bytes p) where
    after-lines : (more : List ℕ) → given_by (content files second) ≡ held more → (o : Output) → IsChecked p more o → HasThree
    after-lines more f o (inl k) = record {
      got = held bytes ∷ (held more ∷ []);
      given = (e, (f, tt));
      said = o;
      output = record { bytes = bytes; gave = refl; program = p; text_of_it = t; said = k };
    }
    after-lines more f o (inr k) =
        let z = given_by (content files third) in
        let s = owned p k.trees k.choices k.answer k.judged z in
        record {
          got = held bytes ∷ (held more ∷ (z ∷ []));
          given = (e, (f, (refl, tt)));
          said = s.0;
          output = record {
            bytes = bytes;
            gave = refl;
            program = p;
            text_of_it = t;
            said = record { lines = more; gave = refl; trees = k.trees; choices = k.choices; told = k.told; said = s.1 };
          };
        }

    after-second : (y : Fetched) → given_by (content files second) ≡ y → HasThree
    after-second (held more) f = let s = lines p more in after-lines more f s.0 s.1
    after-second unread f = record {
      got = held bytes ∷ (unread ∷ []);
      given = (e, (f, tt));
      said = unreadable_output second;
      output = record { bytes = bytes; gave = refl; program = p; text_of_it = t; said = refl };
    }
    after-second long f = record {
      got = held bytes ∷ (long ∷ []);
      given = (e, (f, tt));
      said = long_output;
      output = record { bytes = bytes; gave = refl; program = p; text_of_it = t; said = refl };
    }

  after-first : (bytes : List ℕ) → given_by (content files first) ≡ held bytes → AreTextOrRefused bytes → HasThree
  after-first bytes e (inl h) = after-second bytes e h.0 h.1 (given_by (content files second)) refl
  after-first bytes e (inr h) = record {
    got = held bytes ∷ [];
    given = (e, tt);
    said = refusal_output h.0;
    output = record { cause = h.0; caused = h.1; whole = refl };
  }

  after-three : (x : Fetched) → given_by (content files first) ≡ x → HasThree
  after-three (held bytes) e = after-first bytes e (texts bytes)
  after-three unread e = record { got = unread ∷ []; given = (e, tt); said = unreadable_output first; output = refl }
  after-three long e = record { got = long ∷ []; given = (e, tt); said = long_output; output = refl }

-- ---- a command

module _ (texts : BytesAreReadOrRefused) (schedules : SchedulesAreAnswered) (lines : LinesAreAnswered)
    (derivations : DerivationsAreAnswered) (outlines : CheckedAreOutlined) (have : JudgedHaveOwners) where
  replayed : (name : List ℕ) (p : PlainProgram) (y : Fetched) → (o : Output) × IsReplayed name p y o
  replayed name p y = after-one _ name y (λ bytes e. schedules p bytes)

  judged : (name : List ℕ) (p : PlainProgram) (y : Fetched) → (o : Output) × IsJudged name p y o
  judged name p y = after-one _ name y (λ bytes e. lines p bytes)

  outlined : (name : List ℕ) (p : PlainProgram) (y : Fetched) → (o : Output) × IsOutlined name p y o
  outlined name p y = after-one (IsOutline p) name y (λ bytes e.
      let s = lines p bytes in
      let t = outlines p bytes s.0 s.1 in
      (t.0, t.1))

  pub output-exists : OutputsExist
  output-exists None files h = record { got = []; given = tt; said = usage_output; output = refl }
  output-exists (Some (trial n)) files h =
      let s = tried n (texts.programs (trial_text n)) in
      record { got = []; given = tt; said = s.0; output = s.1 }
  output-exists (Some (verify file budget)) files h =
      let x = given_by (content files file) in
      let s = after-one (IsVerified budget) file x (λ bytes e. verified budget bytes (texts.programs bytes)) in
      record { got = x ∷ []; given = (refl, tt); said = s.0; output = s.1 }
  output-exists (Some (core file)) files h =
      let x = given_by (content files file) in
      let s = after-one IsCored file x (λ bytes e. cored bytes (texts.programs bytes)) in
      record { got = x ∷ []; given = (refl, tt); said = s.0; output = s.1 }
  output-exists (Some (stray file number count)) files h =
      let x = given_by (content files file) in
      let s = after-one (IsStrayed number count) file x (λ bytes e. strayed number count bytes (texts.programs bytes)) in
      record { got = x ∷ []; given = (refl, tt); said = s.0; output = s.1 }
  output-exists (Some (derive file budget)) files h =
      let x = given_by (content files file) in
      let s = after-one (IsDerived budget) file x (λ bytes e. derived derivations budget bytes (texts.programs bytes) (λ p t. h bytes p e t)) in
      record { got = x ∷ []; given = (refl, tt); said = s.0; output = s.1 }
  output-exists (Some (check file second)) files h =
      let t = after-two files file second (IsJudged second) texts.programs (judged second) (given_by (content files file)) refl in
      record { got = t.got; given = t.given; said = t.said; output = t.output }
  output-exists (Some (outline file second)) files h =
      let t = after-two files file second (IsOutlined second) texts.programs (outlined second) (given_by (content files file)) refl in
      record { got = t.got; given = t.given; said = t.said; output = t.output }
  output-exists (Some (owners file second third)) files h =
      let t = after-three files file second third texts.programs schedules lines have (given_by (content files file)) refl in
      record { got = t.got; given = t.given; said = t.said; output = t.output }
  output-exists (Some (show file)) files h =
      let x = given_by (content files file) in
      let s = after-one IsShown file x (λ bytes e. shown bytes (texts.trees bytes)) in
      record { got = x ∷ []; given = (refl, tt); said = s.0; output = s.1 }
  output-exists (Some (replay file second)) files h =
      let t = after-two files file second (IsReplayed second) texts.programs (replayed second) (given_by (content files file)) refl in
      record { got = t.got; given = t.given; said = t.said; output = t.output }
