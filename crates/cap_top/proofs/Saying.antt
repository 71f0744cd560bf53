-- What is said of one file, or of none, is said of its command.
use Rattle.std.proofs.Common.{◌≡◌, ℕ, List, [], ◌∷◌, append-nil, Option, Some, None, IfSome, Result, Ok, Err, IfOk, refl, sym, subst}
use Rattle.std.specs.declared.alloc.AllocError.{AllocError}
use Rattle.cap_io.specs.Files.{SeenShelf, HasGiven}
use Rattle.cap_io.specs.Outside.{IsCounted}
use Rattle.cap_top_commands.specs.declared.output.Output as code
use Rattle.cap_top_commands.specs.Answers.{Fetched, held, After, ByOne, IsVerified, IsTrial, IsStrayed, IsCored, IsDerived, IsShown, IsOutput, IsOnly, IsOnlyOutput, Agree}
use Rattle.cap_top_commands.specs.Output.{Output}
use Rattle.cap_top_words.specs.Meaning.{PlainCommand, verify, derive, show, trial, stray, core}
use Rattle.cap_top_commands.specs.Commands.{files_of}
use Rattle.cap_top_commands.specs.Views.{output_view}
use Rattle.cap_top.specs.Reads.{IsFetched, gift, AreRead}
use Rattle.cap_top.specs.Run.{IsSaid}

-- one file was read
pub one_read : (shelf shelf_now : SeenShelf) (name : List ℕ) (names : List (List ℕ)) (x : Fetched)
    → IsFetched shelf shelf_now name x → HasGiven shelf shelf_now (gift name x) → IsCounted shelf shelf_now
    → AreRead shelf shelf_now (name ∷ names) (x ∷ [])
one_read shelf shelf_now name names x f g n = record {
  fetched = (f, tt);
  given = subst (HasGiven shelf shelf_now) (sym (append-nil (gift name x))) g;
  counted = n;
}

-- no file was read
none_read : (shelf : SeenShelf) → AreRead shelf shelf [] []
none_read shelf = record {
  fetched = tt;
  given = sym (append-nil shelf.given);
  counted = none_counted shelf.fetches;
}
  where
    none_counted : (n : Option ℕ) → IfSome n (λ k. n ≡ Some k)
    none_counted None = tt
    none_counted (Some k) = refl

-- what is said of bytes is said of the file that gave them
pub said_held : (name bytes : List ℕ) (IsAnswer : List ℕ → Output → Type 0) (r : Result code.Output AllocError)
    → IfOk r (λ o. IsOnly (IsAnswer bytes) (output_view o))
    → IfOk r (λ o. IsOnly (After name (held bytes) IsAnswer) (output_view o))
said_held name bytes IsAnswer (Ok o) h = record { said = h.said; only = h.only }
said_held name bytes IsAnswer (Err a) h = tt

module _ (name : List ℕ) (x : Fetched) where
  one_file : (IsAnswer : List ℕ → Output → Type 0) (o : Output) → IsOnly (After name x IsAnswer) o → IsOnlyOutput (ByOne name IsAnswer) (x ∷ []) o
  one_file IsAnswer o h = record { said = h.said; only = by }
    where
      by : (other : List Fetched) (q : Output) → Agree (x ∷ []) other → ByOne name IsAnswer other q → o ≡ q
      by [] q a s = absurd s
      by (y ∷ []) q a s = h.only q (subst (λ z. After name z IsAnswer q) (sym a.0) s)
      by (y ∷ (z ∷ zs)) q a s = absurd s

  module _ (shelf shelf_now : SeenShelf) (f : IsFetched shelf shelf_now name x)
      (g : HasGiven shelf shelf_now (gift name x)) (n : IsCounted shelf shelf_now) where
    by_task : (command : Option PlainCommand) (t : PlainCommand) (o : Output) → command ≡ Some t → files_of (Some t) ≡ name ∷ []
        → IsOnlyOutput (IsOutput (Some t)) (x ∷ []) o → IsSaid shelf shelf_now command o
    by_task command t o e m h = subst (λ y. IsSaid shelf shelf_now y o) (sym e) (record {
      got = x ∷ [];
      read = subst (λ names. AreRead shelf shelf_now names (x ∷ [])) (sym m)
          (one_read shelf shelf_now name [] x f g n);
      output = h;
    })

    pub verify_said : (budget : ℕ) (command : Option PlainCommand) (r : Result code.Output AllocError) → command ≡ Some (verify name budget)
        → IfOk r (λ o. IsOnly (After name x (IsVerified budget)) (output_view o))
        → IfOk r (λ o. IsSaid shelf shelf_now command (output_view o))
    verify_said budget command (Ok o) e h =
        let k = one_file (IsVerified budget) (output_view o) (record { said = h.said; only = h.only }) in
        by_task command (verify name budget) (output_view o) e refl (record { said = k.said; only = k.only })
    verify_said budget command (Err a) e h = tt

    pub derive_said : (budget : ℕ) (command : Option PlainCommand) (r : Result code.Output AllocError) → command ≡ Some (derive name budget)
        → IfOk r (λ o. IsOnly (After name x (IsDerived budget)) (output_view o))
        → IfOk r (λ o. IsSaid shelf shelf_now command (output_view o))
    derive_said budget command (Ok o) e h =
        let k = one_file (IsDerived budget) (output_view o) (record { said = h.said; only = h.only }) in
        by_task command (derive name budget) (output_view o) e refl (record { said = k.said; only = k.only })
    derive_said budget command (Err a) e h = tt

    pub show_said : (command : Option PlainCommand) (r : Result code.Output AllocError) → command ≡ Some (show name)
        → IfOk r (λ o. IsOnly (After name x IsShown) (output_view o))
        → IfOk r (λ o. IsSaid shelf shelf_now command (output_view o))
    show_said command (Ok o) e h =
        let k = one_file IsShown (output_view o) (record { said = h.said; only = h.only }) in
        by_task command (show name) (output_view o) e refl (record { said = k.said; only = k.only })
    show_said command (Err a) e h = tt

    pub stray_said : (number count : ℕ) (command : Option PlainCommand) (r : Result code.Output AllocError)
        → command ≡ Some (stray name number count)
        → IfOk r (λ o. IsOnly (After name x (IsStrayed number count)) (output_view o))
        → IfOk r (λ o. IsSaid shelf shelf_now command (output_view o))
    stray_said number count command (Ok o) e h =
        let k = one_file (IsStrayed number count) (output_view o) (record { said = h.said; only = h.only }) in
        by_task command (stray name number count) (output_view o) e refl (record { said = k.said; only = k.only })
    stray_said number count command (Err a) e h = tt

    pub core_said : (command : Option PlainCommand) (r : Result code.Output AllocError) → command ≡ Some (core name)
        → IfOk r (λ o. IsOnly (After name x IsCored) (output_view o))
        → IfOk r (λ o. IsSaid shelf shelf_now command (output_view o))
    core_said command (Ok o) e h =
        let k = one_file IsCored (output_view o) (record { said = h.said; only = h.only }) in
        by_task command (core name) (output_view o) e refl (record { said = k.said; only = k.only })
    core_said command (Err a) e h = tt

-- what is said where no file is read
pub trial_said : (shelf : SeenShelf) (n : ℕ) (command : Option PlainCommand) (r : Result code.Output AllocError)
    → command ≡ Some (trial n) → IfOk r (λ o. IsOnly (IsTrial n) (output_view o))
    → IfOk r (λ o. IsSaid shelf shelf command (output_view o))
trial_said shelf n command (Ok o) e h = subst (λ c. IsSaid shelf shelf c (output_view o)) (sym e) (record {
  got = [];
  read = none_read shelf;
  output = record { said = h.said; only = by };
})
  where
    by : (other : List Fetched) (q : Output) → Agree [] other → IsOutput (Some (trial n)) other q → output_view o ≡ q
    by [] q a s = h.only q s
    by (x ∷ xs) q a s = absurd s
trial_said shelf n command (Err a) e h = tt
