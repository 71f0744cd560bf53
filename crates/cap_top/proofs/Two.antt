-- What is said of two files: they are read one after the other, the second where it is needed.
use Rattle.std.proofs.Common.{◌≡◌, ℕ, ◌≤◌, inl, inr, ◌<◌, List, [], ◌∷◌, ◌++◌, length, append-nil, append_assoc, Option, Some, None, IfSome, IsSomeAnd, Result, Ok, Err, IfOk, refl, sym, ap, ◌∙◌, subst, arith}
use Rattle.std.specs.declared.alloc.AllocError.{AllocError}
use Rattle.cap_io.specs.Files.{Files, content, SeenShelf, HasGiven}
use Rattle.cap_io.specs.Outside.{longest, counted, IsCounted, Rose}
use Rattle.cap_prog.specs.Program.{PlainProgram}
use Rattle.cap_top_reading.specs.Refused.{IsTextOf}
use Rattle.cap_top_commands.specs.declared.output.Output as code
use Rattle.cap_top_commands.specs.Answers.{Fetched, held, unread, long, After, SaysRefusal, IsReplayed, IsJudged, IsOutlined, ByTwo, IsOutput, IsOnly, IsOnlyOutput, IsOnlyTextOf, Agree}
use Rattle.cap_top_commands.specs.Schedules.{IsPlayed}
use Rattle.cap_top_commands.specs.Derivations.{IsChecked}
use Rattle.cap_top_commands.specs.Outlines.{IsOutline}
use Rattle.cap_top_commands.specs.Output.{Output, unreadable_output, long_output}
use Rattle.cap_top_words.specs.Meaning.{PlainCommand, check, replay, outline}
use Rattle.cap_top_commands.specs.Commands.{files_of}
use Rattle.cap_top_commands.specs.Views.{output_view}
use Rattle.cap_top_commands.specs.declared.beginning.Begun.{Begun}
use Rattle.cap_top_commands.specs.declared.beginning.Begun.TheVariants as begun
use Rattle.cap_top_commands.specs.Beginning.{Begins}
use Rattle.cap_top.specs.Views.{BeginsAfter, IsSaidEarly}
use Rattle.cap_top.specs.Reads.{IsFetched, gift, AreRead}
use Rattle.cap_top.specs.Run.{IsSaid}
use Rattle.cap_top.proofs.Saying.{one_read}

pub same_bytes : (a b : List ℕ) → held a ≡ held b → a ≡ b
same_bytes a b e = cc

-- ---- the output, by the first file alone or by both

module _ (name : List ℕ) (IsLate : PlainProgram → Fetched → Output → Type 0) where
  pub early_only : (x : Fetched) (o : Output) → IsSaidEarly name x o → IsOnlyOutput (ByTwo name IsLate) (x ∷ []) o
  early_only x o h = record { said = h.output.said; only = by }
    where
      by : (other : List Fetched) (q : Output) → Agree (x ∷ []) other → ByTwo name IsLate other q → o ≡ q
      by [] q a s = absurd s
      by (y ∷ []) q a s = h.output.only q (subst (λ z. After name z SaysRefusal q) (sym a.0) s)
      by (y ∷ (z ∷ [])) q a s = absurd (h.none s.bytes s.program (a.0 ∙ s.gave) s.text_of_it)
      by (y ∷ (z ∷ (w ∷ ws))) q a s = absurd s

  pub late_only : (bytes : List ℕ) (y : Fetched) (p : PlainProgram) (o : Output) → IsOnlyTextOf bytes p
      → IsOnly (IsLate p y) o → IsOnlyOutput (ByTwo name IsLate) (held bytes ∷ (y ∷ [])) o
  late_only bytes y p o t h = record {
    said = record { bytes = bytes; gave = refl; program = p; text_of_it = t.text_of_it; said = h.said };
    only = by;
  }
    where
      by : (other : List Fetched) (q : Output) → Agree (held bytes ∷ (y ∷ [])) other → ByTwo name IsLate other q → o ≡ q
      by [] q a s = absurd s
      by (z ∷ []) q a s =
          let r : SaysRefusal bytes q = subst (λ u. After name u SaysRefusal q) (sym a.0) s in
          absurd (t.unrefused r.cause r.caused)
      by (z ∷ (w ∷ [])) q a s =
          let b : bytes ≡ s.bytes = same_bytes bytes s.bytes (a.0 ∙ s.gave) in
          let same : p ≡ s.program = t.only s.program (subst (λ u. IsTextOf u s.program) (sym b) s.text_of_it) in
          h.only q (subst (λ u. IsLate p u q) (sym a.1.0) (subst (λ u. IsLate u w q) (sym same) s.said))
      by (z ∷ (w ∷ (v ∷ vs))) q a s = absurd s

-- ---- counts

rose-more : (before middle now : ℕ) → before ≤ middle → Rose middle now → Rose before now
rose-more before middle now l r = grind (arith)

module _ (shelf middle shelf_now : SeenShelf) (kept : middle.holds ≡ shelf.holds) (l : shelf.faults ≤ middle.faults) where
  -- what is read later is read in the whole time
  pub fetched-more : (name : List ℕ) (y : Fetched) → IsFetched middle shelf_now name y → IsFetched shelf shelf_now name y
  fetched-more name (held bytes) h = (h.0, subst (λ o. IfSome o (λ files. content files name ≡ Some bytes)) kept h.1)
  fetched-more name unread (inl r) = inl (rose-more shelf.faults middle.faults shelf_now.faults l r.0, r.1)
  fetched-more name unread (inr r) = inr (subst (λ o. IsSomeAnd o (λ files. content files name ≡ None)) kept r)
  fetched-more name long h =
      subst (λ o. IfSome o (λ files. IsSomeAnd (content files name) (λ bytes. longest < length bytes))) kept h

  -- a file that gave bytes has given them for good
  held-more : (name bytes : List ℕ) → IsFetched shelf middle name (held bytes) → IsFetched shelf shelf_now name (held bytes)
  held-more name bytes h = h

two-counted : (a b c : Option ℕ) → IfSome a (λ n. b ≡ Some (counted n)) → IfSome b (λ n. c ≡ Some (counted n))
    → IfSome a (λ n. c ≡ Some (counted (counted n)))
two-counted None b c h k = tt
two-counted (Some n) b c h k = subst (λ o. IfSome o (λ m. c ≡ Some (counted m))) h k

two-given : (shelf middle shelf_now : SeenShelf) (xs ys : Files) → HasGiven shelf middle xs → HasGiven middle shelf_now ys
    → HasGiven shelf shelf_now (xs ++ (ys ++ []))
two-given shelf middle shelf_now xs ys g h =
    h ∙ (ap (λ us. us ++ ys) g ∙ (append_assoc shelf.given xs ys ∙ ap (λ us. shelf.given ++ (xs ++ us)) (sym (append-nil ys))))

-- two files were read, one after the other
pub two_read : (shelf middle shelf_now : SeenShelf) → middle.holds ≡ shelf.holds → shelf.faults ≤ middle.faults
    → (file second bytes : List ℕ) (y : Fetched)
    → IsFetched shelf middle file (held bytes) → HasGiven shelf middle (gift file (held bytes)) → IsCounted shelf middle
    → IsFetched middle shelf_now second y → HasGiven middle shelf_now (gift second y) → IsCounted middle shelf_now
    → AreRead shelf shelf_now (file ∷ (second ∷ [])) (held bytes ∷ (y ∷ []))
two_read shelf middle shelf_now kept l file second bytes y f1 g1 n1 f2 g2 n2 = record {
  fetched = (
    held-more shelf middle shelf_now kept l file bytes f1,
    (fetched-more shelf middle shelf_now kept l second y f2, tt),
  );
  given = two-given shelf middle shelf_now (gift file (held bytes)) (gift second y) g1 g2;
  counted = two-counted shelf.fetches middle.fetches shelf_now.fetches n1 n2;
}

-- ---- what is said

-- how a command of two files is answered: early by the first alone, or late by both
pub record Answering (t : PlainCommand) (file second : List ℕ) (IsLate : PlainProgram → List ℕ → Output → Type 0) : Type 0 where
  pub files : files_of (Some t) ≡ file ∷ (second ∷ [])
  pub early : (x : Fetched) (o : Output) → IsSaidEarly file x o → IsOnlyOutput (IsOutput (Some t)) (x ∷ []) o
  pub late : (bytes : List ℕ) (y : Fetched) (p : PlainProgram) (o : Output) → IsOnlyTextOf bytes p
      → IsOnly (After second y (IsLate p)) o → IsOnlyOutput (IsOutput (Some t)) (held bytes ∷ (y ∷ [])) o

pub replaying : (file schedule : List ℕ) → Answering (replay file schedule) file schedule IsPlayed
replaying file schedule = record {
  files = refl;
  early = λ x o h. let k = early_only file (IsReplayed schedule) x o h in record { said = k.said; only = k.only };
  late = λ bytes y p o t h.
      let k = late_only file (IsReplayed schedule) bytes y p o t (record { said = h.said; only = h.only }) in
      record { said = k.said; only = k.only };
}

pub checking : (file derivation : List ℕ) → Answering (check file derivation) file derivation IsChecked
checking file derivation = record {
  files = refl;
  early = λ x o h. let k = early_only file (IsJudged derivation) x o h in record { said = k.said; only = k.only };
  late = λ bytes y p o t h.
      let k = late_only file (IsJudged derivation) bytes y p o t (record { said = h.said; only = h.only }) in
      record { said = k.said; only = k.only };
}

pub outlining : (file derivation : List ℕ) → Answering (outline file derivation) file derivation IsOutline
outlining file derivation = record {
  files = refl;
  early = λ x o h. let k = early_only file (IsOutlined derivation) x o h in record { said = k.said; only = k.only };
  late = λ bytes y p o t h.
      let k = late_only file (IsOutlined derivation) bytes y p o t (record { said = h.said; only = h.only }) in
      record { said = k.said; only = k.only };
}

module _ (t : PlainCommand) (file second : List ℕ) (IsLate : PlainProgram → List ℕ → Output → Type 0)
    (a : Answering t file second IsLate) (shelf shelf_now : SeenShelf) where
  -- without a program
  pub early_said : (x : Fetched) (o : Output) → IsFetched shelf shelf_now file x
      → HasGiven shelf shelf_now (gift file x) → IsCounted shelf shelf_now → IsSaidEarly file x o
      → IsSaid shelf shelf_now (Some t) o
  early_said x o f g n h = record {
    got = x ∷ [];
    read = subst (λ names. AreRead shelf shelf_now names (x ∷ [])) (sym a.files)
        (one_read shelf shelf_now file (second ∷ []) x f g n);
    output = a.early x o h;
  }

  -- with one
  pub late_said : (middle : SeenShelf) → middle.holds ≡ shelf.holds → shelf.faults ≤ middle.faults
      → (x y : Fetched) (bytes : List ℕ) (p : PlainProgram) (r : Result code.Output AllocError)
      → IsFetched shelf middle file x → HasGiven shelf middle (gift file x) → IsCounted shelf middle
      → x ≡ held bytes → IsOnlyTextOf bytes p
      → IsFetched middle shelf_now second y → HasGiven middle shelf_now (gift second y) → IsCounted middle shelf_now
      → IfOk r (λ o. IsOnly (After second y (IsLate p)) (output_view o))
      → IfOk r (λ o. IsSaid shelf shelf_now (Some t) (output_view o))
  late_said middle kept l x y bytes p (Err e) f1 g1 n1 q u f2 g2 n2 h = tt
  late_said middle kept l x y bytes p (Ok o) f1 g1 n1 e u f2 g2 n2 h =
      let first : IsFetched shelf middle file (held bytes) = subst (IsFetched shelf middle file) e f1 in
      let gave : HasGiven shelf middle (gift file (held bytes)) = subst (λ z. HasGiven shelf middle (gift file z)) e g1 in
      record {
        got = held bytes ∷ (y ∷ []);
        read = subst (λ names. AreRead shelf shelf_now names (held bytes ∷ (y ∷ []))) (sym a.files)
            (two_read shelf middle shelf_now kept l file second bytes y first gave n1 f2 g2 n2);
        output = a.late bytes y p (output_view o) u (record { said = h.said; only = h.only });
      }

-- what is known of a program's file that was read
module _ (name : List ℕ) where
  pub begins_held : (bytes : List ℕ) (r : Result Begun AllocError) → IfOk r (Begins bytes)
      → IfOk r (BeginsAfter name (held bytes))
  begins_held bytes (Ok (begun.Program p)) h = (bytes, refl, h)
  begins_held bytes (Ok (begun.Said o)) h = record {
    output = record { said = h.output.said; only = h.output.only };
    none = λ b p e t. h.none p (subst (λ u. IsTextOf u p) (sym (same_bytes bytes b e)) t);
  }
  begins_held bytes (Err a) h = tt

  pub begins_unread : IsSaidEarly name unread (unreadable_output name)
  begins_unread = record {
    output = record { said = refl; only = λ q e. sym e };
    none = λ b p e t. cc;
  }

  pub begins_long : IsSaidEarly name long long_output
  begins_long = record {
    output = record { said = refl; only = λ q e. sym e };
    none = λ b p e t. cc;
  }
