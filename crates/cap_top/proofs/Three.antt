-- What is said of three files: they are read one after the other, each where it is needed.
use Rattle.std.proofs.Common.{◌≡◌, ℕ, ◌≤◌, List, [], ◌∷◌, ◌++◌, append-nil, append_assoc, Option, Some, None, IfSome, Result, Ok, Err, IfOk, refl, sym, ap, ◌∙◌, subst, arith}
use Rattle.std.specs.declared.alloc.AllocError.{AllocError}
use Rattle.cap_io.specs.Files.{Files, SeenShelf, HasGiven}
use Rattle.cap_io.specs.Outside.{counted, IsCounted}
use Rattle.cap_prog.specs.Program.{PlainProgram}
use Rattle.cap_goal_spec.specs.Choices.{PlainChoice}
use Rattle.cap_deriv.specs.declared.entire.Lines.{Lines}
use Rattle.cap_top_reading.specs.Refused.{IsTextOf}
use Rattle.cap_top_commands.specs.declared.output.Output as code
use Rattle.cap_top_commands.specs.Answers.{Fetched, held, unread, long, After, SaysRefusal, HoldsProgram, HoldsLines, IsOwned, ByThree, IsOnly, IsOnlyOutput, IsOnlyTextOf, Agree}
use Rattle.cap_top_commands.specs.Derivations.{SaysBadLines}
use Rattle.cap_top_commands.specs.Owners.{TellsLines, IsOwners}
use Rattle.cap_top_commands.specs.Output.{Output, unreadable_output, long_output}
use Rattle.cap_top_words.specs.Meaning.{PlainCommand, owners}
use Rattle.cap_top_commands.specs.Views.{output_view}
use Rattle.cap_top_accounts.specs.declared.listing.Listed.{Listed}
use Rattle.cap_top_accounts.specs.declared.listing.Listed.TheVariants as listed
use Rattle.cap_top_accounts.specs.Listing.{IsOnlyLinesOf, Lists}
use Rattle.cap_top.specs.Views.{IsSaidEarly, IsSaidWithout, ListsAfter}
use Rattle.cap_top.specs.Reads.{IsFetched, gift, AreRead}
use Rattle.cap_top.specs.Run.{IsSaid}
use Rattle.cap_top.proofs.Saying.{one_read}
use Rattle.cap_top.proofs.Two.{same_bytes, two_read, fetched-more}

-- ---- the output, by the first file alone, by two, or by all

module _ (name second : List ℕ) (IsLate : PlainProgram → ℕ → List PlainChoice → Fetched → Output → Type 0) where
  early_only : (x : Fetched) (o : Output) → IsSaidEarly name x o → IsOnlyOutput (ByThree name second IsLate) (x ∷ []) o
  early_only x o h = record { said = h.output.said; only = by }
    where
      by : (other : List Fetched) (q : Output) → Agree (x ∷ []) other → ByThree name second IsLate other q → o ≡ q
      by [] q a s = absurd s
      by (y ∷ []) q a s = h.output.only q (subst (λ z. After name z SaysRefusal q) (sym a.0) s)
      by (y ∷ (z ∷ [])) q a s = absurd (h.none s.bytes s.program (a.0 ∙ s.gave) s.text_of_it)
      by (y ∷ (z ∷ (w ∷ []))) q a s = absurd (h.none s.bytes s.program (a.0 ∙ s.gave) s.text_of_it)
      by (y ∷ (z ∷ (w ∷ (v ∷ vs)))) q a s = absurd s

  module _ (bytes : List ℕ) (p : PlainProgram) (t : IsOnlyTextOf bytes p) where
    -- a text's program is not refused, and another file's text of it has the same program
    not-refused : {A : Type 0} (x : Fetched) (q : Output) → held bytes ≡ x → After name x SaysRefusal q → A
    not-refused x q e s =
        let r : SaysRefusal bytes q = subst (λ u. After name u SaysRefusal q) (sym e) s in
        absurd (t.unrefused r.cause r.caused)

    same-program : (x : Fetched) (IsSaid : PlainProgram → Output → Type 0) (q : Output) → held bytes ≡ x
        → (s : HoldsProgram x IsSaid q) → p ≡ s.program
    same-program x IsSaid q e s =
        let b : bytes ≡ s.bytes = same_bytes bytes s.bytes (e ∙ s.gave) in
        t.only s.program (subst (λ u. IsTextOf u s.program) (sym b) s.text_of_it)

    without_only : (y : Fetched) (o : Output) → IsSaidWithout second y o → IsOnlyOutput (ByThree name second IsLate) (held bytes ∷ (y ∷ [])) o
    without_only y o h = record {
      said = record { bytes = bytes; gave = refl; program = p; text_of_it = t.text_of_it; said = h.output.said };
      only = by;
    }
      where
        by : (other : List Fetched) (q : Output) → Agree (held bytes ∷ (y ∷ [])) other → ByThree name second IsLate other q → o ≡ q
        by [] q a s = absurd s
        by (z ∷ []) q a s = not-refused z q a.0 s
        by (z ∷ (w ∷ [])) q a s = h.output.only q (subst (λ u. After second u SaysBadLines q) (sym a.1.0) s.said)
        by (z ∷ (w ∷ (v ∷ []))) q a s =
            absurd (h.none s.said.lines s.said.trees s.said.choices (a.1.0 ∙ s.said.gave) s.said.told)
        by (z ∷ (w ∷ (v ∷ (u ∷ us)))) q a s = absurd s

    late_only : (lines : List ℕ) (n : ℕ) (cs : List PlainChoice) (z : Fetched) (o : Output) → IsOnlyLinesOf lines n cs
        → IsOnly (IsLate p n cs z) o → IsOnlyOutput (ByThree name second IsLate) (held bytes ∷ (held lines ∷ (z ∷ []))) o
    late_only lines n cs z o l h = record {
      said = record {
        bytes = bytes;
        gave = refl;
        program = p;
        text_of_it = t.text_of_it;
        said = record { lines = lines; gave = refl; trees = n; choices = cs; told = l.told; said = h.said };
      };
      only = by;
    }
      where
        same-lines : (q : Output) (r : PlainProgram) (w v : Fetched) → p ≡ r → held lines ≡ w → z ≡ v
            → HoldsLines w (λ m ds. IsLate r m ds v) q → o ≡ q
        same-lines q r w v e f g s =
            let b : lines ≡ s.lines = same_bytes lines s.lines (f ∙ s.gave) in
            let same = l.only s.trees s.choices (subst (λ u. TellsLines u s.trees s.choices) (sym b) s.told) in
            h.only q (subst (λ u. IsLate p n cs u q) (sym g)
            (subst (λ u. IsLate p n u v q) (sym same.1) (subst (λ m. IsLate p m s.choices v q) (sym same.0)
            (subst (λ u. IsLate u s.trees s.choices v q) (sym e) s.said))))

        by : (other : List Fetched) (q : Output) → Agree (held bytes ∷ (held lines ∷ (z ∷ []))) other
            → ByThree name second IsLate other q → o ≡ q
        by [] q a s = absurd s
        by (x ∷ []) q a s = not-refused x q a.0 s
        by (x ∷ (w ∷ [])) q a s = absurd (l.unrefused q (subst (λ u. After second u SaysBadLines q) (sym a.1.0) s.said))
        by (x ∷ (w ∷ (v ∷ []))) q a s =
            same-lines q s.program w v (same-program x (λ r. HoldsLines w (λ m ds. IsLate r m ds v)) q a.0 s) a.1.0 a.1.1.0 s.said
        by (x ∷ (w ∷ (v ∷ (u ∷ us)))) q a s = absurd s

-- ---- what was read

three-given : (shelf last shelf_now : SeenShelf) (xs ys zs : Files) → HasGiven shelf last (xs ++ (ys ++ [])) → HasGiven last shelf_now zs
    → HasGiven shelf shelf_now (xs ++ (ys ++ (zs ++ [])))
three-given shelf last shelf_now xs ys zs g h =
    h ∙ (ap (λ us. us ++ zs) g ∙ (append_assoc shelf.given (xs ++ (ys ++ [])) zs
    ∙ ap (λ us. shelf.given ++ us) (append_assoc xs (ys ++ []) zs
    ∙ ap (λ us. xs ++ us) (append_assoc ys [] zs ∙ ap (λ us. ys ++ us) (sym (append-nil zs))))))

three-counted : (a b c : Option ℕ) → IfSome a (λ n. b ≡ Some (counted (counted n))) → IfSome b (λ n. c ≡ Some (counted n))
    → IfSome a (λ n. c ≡ Some (counted (counted (counted n))))
three-counted None b c h k = tt
three-counted (Some n) b c h k = subst (λ o. IfSome o (λ m. c ≡ Some (counted m))) h k

-- three files were read, one after the other
three_read : (shelf middle last shelf_now : SeenShelf) → middle.holds ≡ shelf.holds → shelf.faults ≤ middle.faults
    → last.holds ≡ middle.holds → middle.faults ≤ last.faults
    → (file second third bytes lines : List ℕ) (z : Fetched)
    → IsFetched shelf middle file (held bytes) → HasGiven shelf middle (gift file (held bytes)) → IsCounted shelf middle
    → IsFetched middle last second (held lines) → HasGiven middle last (gift second (held lines)) → IsCounted middle last
    → IsFetched last shelf_now third z → HasGiven last shelf_now (gift third z) → IsCounted last shelf_now
    → AreRead shelf shelf_now (file ∷ (second ∷ (third ∷ []))) (held bytes ∷ (held lines ∷ (z ∷ [])))
three_read shelf middle last shelf_now kept l kept2 l2 file second third bytes lines z f1 g1 n1 f2 g2 n2 f3 g3 n3 =
    let two = two_read shelf middle last kept l file second bytes (held lines) f1 g1 n1 f2 g2 n2 in
    record {
      fetched = (
        two.fetched.0,
        (two.fetched.1.0, (fetched-more shelf last shelf_now (kept2 ∙ kept) (omega arith) third z f3, tt)),
      );
      given = three-given shelf last shelf_now (gift file (held bytes)) (gift second (held lines)) (gift third z) two.given g3;
      counted = three-counted shelf.fetches last.fetches shelf_now.fetches two.counted n3;
    }

-- ---- what is said

module _ (file second third : List ℕ) (shelf shelf_now : SeenShelf) where
  abbrev the-command : PlainCommand
  the-command = owners file second third

  -- without a program
  pub owners_early : (x : Fetched) (o : Output) → IsFetched shelf shelf_now file x
      → HasGiven shelf shelf_now (gift file x) → IsCounted shelf shelf_now → IsSaidEarly file x o
      → IsSaid shelf shelf_now (Some the-command) o
  owners_early x o f g n h =
      let k = early_only file second (IsOwned third) x o h in
      record {
        got = x ∷ [];
        read = one_read shelf shelf_now file (second ∷ (third ∷ [])) x f g n;
        output = record { said = k.said; only = k.only };
      }

  -- without a derivation
  pub owners_without : (middle : SeenShelf) → middle.holds ≡ shelf.holds → shelf.faults ≤ middle.faults
      → (x y : Fetched) (bytes : List ℕ) (p : PlainProgram) (o : Output)
      → IsFetched shelf middle file x → HasGiven shelf middle (gift file x) → IsCounted shelf middle
      → x ≡ held bytes → IsOnlyTextOf bytes p
      → IsFetched middle shelf_now second y → HasGiven middle shelf_now (gift second y) → IsCounted middle shelf_now
      → IsSaidWithout second y o → IsSaid shelf shelf_now (Some the-command) o
  owners_without middle kept l x y bytes p o f1 g1 n1 e u f2 g2 n2 h =
      let first : IsFetched shelf middle file (held bytes) = subst (IsFetched shelf middle file) e f1 in
      let gave : HasGiven shelf middle (gift file (held bytes)) = subst (λ z. HasGiven shelf middle (gift file z)) e g1 in
      let two = two_read shelf middle shelf_now kept l file second bytes y first gave n1 f2 g2 n2 in
      let k = without_only file second (IsOwned third) bytes p u y o h in
      record {
        got = held bytes ∷ (y ∷ []);
        read = record { fetched = two.fetched; given = two.given; counted = two.counted };
        output = record { said = k.said; only = k.only };
      }

  -- with all
  pub owners_late : (middle last : SeenShelf) → middle.holds ≡ shelf.holds → shelf.faults ≤ middle.faults
      → last.holds ≡ middle.holds → middle.faults ≤ last.faults
      → (x y z : Fetched) (bytes : List ℕ) (p : PlainProgram) (lines : List ℕ) (m : ℕ) (cs : List PlainChoice)
      → (r : Result code.Output AllocError)
      → IsFetched shelf middle file x → HasGiven shelf middle (gift file x) → IsCounted shelf middle
      → x ≡ held bytes → IsOnlyTextOf bytes p
      → IsFetched middle last second y → HasGiven middle last (gift second y) → IsCounted middle last
      → y ≡ held lines → IsOnlyLinesOf lines m cs
      → IsFetched last shelf_now third z → HasGiven last shelf_now (gift third z) → IsCounted last shelf_now
      → IfOk r (λ o. IsOnly (After third z (IsOwners p m cs)) (output_view o))
      → IfOk r (λ o. IsSaid shelf shelf_now (Some the-command) (output_view o))
  owners_late middle last kept l kept2 l2 x y z bytes p lines m cs (Err a) f1 g1 n1 e u f2 g2 n2 d v f3 g3 n3 h = tt
  owners_late middle last kept l kept2 l2 x y z bytes p lines m cs (Ok o) f1 g1 n1 e u f2 g2 n2 d v f3 g3 n3 h =
      let first : IsFetched shelf middle file (held bytes) = subst (IsFetched shelf middle file) e f1 in
      let gave : HasGiven shelf middle (gift file (held bytes)) = subst (λ w. HasGiven shelf middle (gift file w)) e g1 in
      let next : IsFetched middle last second (held lines) = subst (IsFetched middle last second) d f2 in
      let more : HasGiven middle last (gift second (held lines)) = subst (λ w. HasGiven middle last (gift second w)) d g2 in
      let three = three_read shelf middle last shelf_now kept l kept2 l2 file second third bytes lines z first gave n1 next more n2 f3 g3 n3 in
      let k = late_only file second (IsOwned third) bytes p u lines m cs z (output_view o) v (record { said = h.said; only = h.only }) in
      record {
        got = held bytes ∷ (held lines ∷ (z ∷ []));
        read = record { fetched = three.fetched; given = three.given; counted = three.counted };
        output = record { said = k.said; only = k.only };
      }

-- what is known of a derivation's file that was read
module _ (name : List ℕ) where
  pub lists_held : (bytes : List ℕ) (r : Result Listed AllocError) → IfOk r (Lists bytes) → IfOk r (ListsAfter name (held bytes))
  lists_held bytes (Ok (listed.Lines l)) h = (bytes, refl, h)
  lists_held bytes (Ok (listed.Without o)) h = record {
    output = record { said = h.output.said; only = h.output.only };
    none = λ b n cs e t. h.none n cs (subst (λ u. TellsLines u n cs) (sym (same_bytes bytes b e)) t);
  }
  lists_held bytes (Err a) h = tt

  pub lists_unread : IsSaidWithout name unread (unreadable_output name)
  lists_unread = record {
    output = record { said = refl; only = λ q e. sym e };
    none = λ b n cs e t. cc;
  }

  pub lists_long : IsSaidWithout name long long_output
  lists_long = record {
    output = record { said = refl; only = λ q e. sym e };
    none = λ b n cs e t. cc;
  }
