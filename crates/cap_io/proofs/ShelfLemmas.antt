-- What the next fetch of a shelf in memory answers, and how it leaves the shelf, is what every shelf ensures.
use Rattle.std.proofs.Common.{arith, ◌≡◌, ◌≢◌, ℕ, ◌+◌, ◌≤◌, true, false, Bool, List, [], ◌++◌, append-nil, ap, Option, Some, None, Result, Ok, Err, Vec, ◌⊎◌, inl, inr, refl, sym, subst, ◌∙◌}
use Rattle.std.specs.Global.{Global}
use Rattle.cap_io.specs.declared.shelf.FetchError.{FetchError}
use Rattle.cap_io.specs.declared.shelf.FetchError.TheVariants.{Failed, Absent, TooLong, OutOfMemory}
use Rattle.cap_io.specs.Files.{content, SeenShelf}
use Rattle.cap_io.specs.Outside.{Unfaulted, Faulted, Gives, Blames, Counts, Measures, found, plain_answer}
use Rattle.cap_io.specs.Memory.{ShelfState, failed_fetches, fails_next, fetched, gifts_of, after_fetch, seen_memory}
use Rattle.cap_io.proofs.Listed.{listed_hit, listed_miss}

-- a fetch that fails is one more
pub failed_more : (s : ShelfState) (name : List ℕ) → fails_next s ≡ true → failed_fetches (after_fetch s name) ≡ failed_fetches s + 1
failed_more s name h = grind (arith, listed_hit, h)

-- another fetch leaves their number
pub failed_same : (s : ShelfState) (name : List ℕ) → fails_next s ≡ false → failed_fetches (after_fetch s name) ≡ failed_fetches s
failed_same s name h = grind (arith, listed_miss, h)

found_passes : (o : Option (List ℕ)) → found o ≢ Err Failed
found_passes None = λ h. cc
found_passes (Some bytes) = λ h. grind (arith, h)

-- the answer shows whether the fetch fails
answer_fails : (s : ShelfState) (name : List ℕ) → Err Failed ≡ fetched s name → fails_next s ≡ true
answer_fails s name e = go (fails_next s) refl
  where
    go : (b : Bool) → b ≡ fails_next s → fails_next s ≡ true
    go true h = sym h
    go false h = absurd (found_passes (content s.files name) (sym (let k : fails_next s ≡ false = sym h in rw k at e)))

answer_passes : (s : ShelfState) (name : List ℕ) (a : Result (List ℕ) FetchError) → a ≢ Err Failed → a ≡ fetched s name → fails_next s ≡ false
answer_passes s name a ne e = go (fails_next s) refl
  where
    go : (b : Bool) → b ≡ fails_next s → fails_next s ≡ false
    go false h = sym h
    go true h = absurd (ne (let k : fails_next s ≡ true = sym h in rw k at e))

-- what is seen of the shelf after the next fetch
abbrev next_seen : ShelfState → List ℕ → SeenShelf
next_seen s name = seen_memory (after_fetch s name)

faulted_next : (s : ShelfState) (name : List ℕ) → fails_next s ≡ true → Faulted name (seen_memory s) (next_seen s name)
faulted_next s name h = (omega (arith, failed_more s name h), omega (arith, failed_more s name h), rw h refl)

unfaulted_next : (s : ShelfState) (name : List ℕ) → fails_next s ≡ false → Unfaulted (seen_memory s) (next_seen s name)
unfaulted_next s name h = (failed_same s name h, rw h refl)

-- with enough memory the fetch has its answer and the shelf moves on; else the shelf is as before
pub record IsNext (s : ShelfState) (name : List ℕ) (t : ShelfState) (r : Result (Vec ℕ Global) FetchError) : Type 0 where
  pub answer : r ≢ Err OutOfMemory → plain_answer r ≡ fetched s name
  pub after : r ≢ Err OutOfMemory → t ≡ after_fetch s name
  pub out_of_memory : r ≡ Err OutOfMemory → t ≡ s

abbrev IsAnswered : Result (Vec ℕ Global) FetchError → Type 0
IsAnswered r = r ≢ Err OutOfMemory

answered_ok : (bytes : Vec ℕ Global) → IsAnswered (Ok bytes)
answered_ok bytes = λ h. cc

answered_failed : IsAnswered (Err Failed)
answered_failed = λ h. cc

answered_absent : IsAnswered (Err Absent)
answered_absent = λ h. cc

answered_too_long : (n : ℕ) → IsAnswered (Err (TooLong n))
answered_too_long n = λ h. cc

abbrev HasPassed : Result (List ℕ) FetchError → Type 0
HasPassed a = a ≢ Err Failed

passed_ok : (bytes : List ℕ) → HasPassed (Ok bytes)
passed_ok bytes = λ h. cc

passed_absent : HasPassed (Err Absent)
passed_absent = λ h. cc

passed_too_long : (n : ℕ) → HasPassed (Err (TooLong n))
passed_too_long n = λ h. cc

-- an answer other than `Failed` met no fault
passes_next : (s : ShelfState) (name : List ℕ) (t : ShelfState) (r : Result (Vec ℕ Global) FetchError) → IsNext s name t r
    → IsAnswered r → HasPassed (plain_answer r) → Unfaulted (seen_memory s) (seen_memory t)
passes_next s name t r next answered passed =
    rw (next.after answered) (unfaulted_next s name (answer_passes s name (plain_answer r) passed (next.answer answered)))

-- it has noted what its answer gives
noted : (s : ShelfState) (name : List ℕ) (t : ShelfState) (r : Result (Vec ℕ Global) FetchError) → IsNext s name t r
    → IsAnswered r → t.given ≡ s.given ++ gifts_of name (plain_answer r)
noted s name t r next answered =
    ap (λ u. u.given) (next.after answered) ∙ ap (λ a. s.given ++ gifts_of name a) (sym (next.answer answered))

pub blames_next : (s : ShelfState) (name : List ℕ) (t : ShelfState) (r : Result (Vec ℕ Global) FetchError) → IsNext s name t r
    → Blames name (seen_memory s) (seen_memory t) r
blames_next s name t (Ok bytes) next = inl (passes_next s name t (Ok bytes) next (answered_ok bytes) (passed_ok bytes.items))
blames_next s name t (Err Failed) next =
    rw (next.after answered_failed) (faulted_next s name (answer_fails s name (next.answer answered_failed)))
blames_next s name t (Err Absent) next = passes_next s name t (Err Absent) next answered_absent passed_absent
blames_next s name t (Err (TooLong n)) next = inl (passes_next s name t (Err (TooLong n)) next (answered_too_long n) (passed_too_long n))
blames_next s name t (Err OutOfMemory) next = rw (next.out_of_memory refl) (inl (refl, refl))

pub measures_next : (s : ShelfState) (name : List ℕ) (t : ShelfState) (r : Result (Vec ℕ Global) FetchError) → IsNext s name t r
    → Measures (seen_memory s) (seen_memory t) r
measures_next s name t (Ok bytes) next = tt
measures_next s name t (Err Failed) next = tt
measures_next s name t (Err Absent) next = tt
measures_next s name t (Err (TooLong n)) next = (passes_next s name t (Err (TooLong n)) next (answered_too_long n) (passed_too_long n)).0
measures_next s name t (Err OutOfMemory) next = tt

-- the fetch is counted, unless memory is short
pub counts_next : (s : ShelfState) (name : List ℕ) (t : ShelfState) (r : Result (Vec ℕ Global) FetchError) → IsNext s name t r
    → Counts (seen_memory s) (seen_memory t) r
counts_next s name t (Ok bytes) next = rw (next.after (answered_ok bytes)) refl
counts_next s name t (Err Failed) next = rw (next.after answered_failed) refl
counts_next s name t (Err Absent) next = rw (next.after answered_absent) refl
counts_next s name t (Err (TooLong n)) next = rw (next.after (answered_too_long n)) refl
counts_next s name t (Err OutOfMemory) next = rw (next.out_of_memory refl) refl

-- what the fetch gave is noted
pub gives_next : (s : ShelfState) (name : List ℕ) (t : ShelfState) (r : Result (Vec ℕ Global) FetchError) → IsNext s name t r
    → Gives name (seen_memory s) (seen_memory t) r
gives_next s name t (Ok bytes) next = noted s name t (Ok bytes) next (answered_ok bytes)
gives_next s name t (Err Failed) next = noted s name t (Err Failed) next answered_failed
gives_next s name t (Err Absent) next = noted s name t (Err Absent) next answered_absent
gives_next s name t (Err (TooLong n)) next = noted s name t (Err (TooLong n)) next (answered_too_long n)
gives_next s name t (Err OutOfMemory) next = rw (next.out_of_memory refl) (sym (append-nil s.given))

-- a fetch leaves the shelf as it was, or moves it on
moves : (s : ShelfState) (name : List ℕ) (t : ShelfState) (r : Result (Vec ℕ Global) FetchError) → IsNext s name t r → (t ≡ s) ⊎ (t ≡ after_fetch s name)
moves s name t (Ok bytes) next = inr (next.after (answered_ok bytes))
moves s name t (Err Failed) next = inr (next.after answered_failed)
moves s name t (Err Absent) next = inr (next.after answered_absent)
moves s name t (Err (TooLong n)) next = inr (next.after (answered_too_long n))
moves s name t (Err OutOfMemory) next = inl (next.out_of_memory refl)

never_falls : (s : ShelfState) (name : List ℕ) → failed_fetches s ≤ failed_fetches (after_fetch s name)
never_falls s name = go (fails_next s) refl
  where
    go : (b : Bool) → b ≡ fails_next s → failed_fetches s ≤ failed_fetches (after_fetch s name)
    go true h = omega (arith, failed_more s name (sym h))
    go false h = omega (arith, failed_same s name (sym h))

-- the number of failed fetches never falls
pub later_next : (s : ShelfState) (name : List ℕ) (t : ShelfState) (r : Result (Vec ℕ Global) FetchError) → IsNext s name t r
    → failed_fetches s ≤ failed_fetches t
later_next s name t r next = elim (moves s name t r next) [ inl h ↦ rw h (omega arith) | inr h ↦ rw h (never_falls s name) ]

list_failing : (s : ShelfState) (name : List ℕ) (t : ShelfState) (r : Result (Vec ℕ Global) FetchError) → IsNext s name t r → t.failing ≡ s.failing
list_failing s name t r next = elim (moves s name t r next) [ inl h ↦ rw h refl | inr h ↦ rw h refl ]

-- where no fetch is listed, none fails
unlisted_passes : (s : ShelfState) → s.failing ≡ [] → fails_next s ≡ false
unlisted_passes s empty = grind (arith, empty)

unlisted_answer : (s : ShelfState) (name : List ℕ) (t : ShelfState) (r : Result (Vec ℕ Global) FetchError) → IsNext s name t r
    → s.failing ≡ [] → r ≢ Err Failed
unlisted_answer s name t r next empty = λ failed.
    let P : Result (Vec ℕ Global) FetchError → Type 0 = λ q. IsNext s name t q in
    let fails : fails_next s ≡ true = answer_fails s name ((subst P failed next).answer answered_failed) in
    let passes : fails_next s ≡ false = unlisted_passes s empty in
    cc

pub unlisted_next : (s : ShelfState) (name : List ℕ) (t : ShelfState) (r : Result (Vec ℕ Global) FetchError) → IsNext s name t r
    → s.failing ≡ [] → (t.failing ≡ []) × (failed_fetches t ≡ failed_fetches s) × (r ≢ Err Failed)
unlisted_next s name t r next empty = (
  list_failing s name t r next ∙ empty,
  elim (moves s name t r next) [ inl h ↦ rw h refl | inr h ↦ rw h (failed_same s name (unlisted_passes s empty)) ],
  unlisted_answer s name t r next empty,
)
