-- What is seen of the machine's frames.
use Rattle.std.proofs.Common.{◌≡◌, ◌∙◌, ap, sym, refl, ℕ, zero, suc, ◌-◌, ◌<◌, List, [], ◌∷◌, ◌++◌, map, reverse, length, arith}
use Rattle.std.specs.Prelude.{Option, Some, None, option_map, option_and_then, option_copied, slice_get, unwrap_or}
use Rattle.std.specs.Borrow.{Bor}
use Rattle.std.proofs.lemmas.List.{length-reverse, reverse-append}
use Rattle.cap_prog.specs.Program.{PlainProgram, Block, done, first}
use Rattle.cap_machine.specs.declared.event.Ahead.{Ahead}
use Rattle.cap_machine.specs.declared.frame.Frame as code
use Rattle.cap_machine.specs.Machine.{Frame, Thread, Configuration, top_frame}
use Rattle.cap_machine.specs.Laws.{first_statement, running}
use Rattle.cap_machine.specs.Ready.{ahead, statement_ahead}
use Rattle.cap_machine.specs.View.{frame_view, thread_view}
use Rattle.cap_outline_spec.specs.Standing.{first_number}
use Rattle.cap_owners.specs.Tracks.{lent_frame}

-- ---- the number of the next statement

pub number-seen : (c : Configuration) (thread : ℕ) → option_map (λ (a : Ahead). a.number) (ahead c thread) ≡ option_and_then (λ m. first_number m.rest) (top_frame (slice_get c.threads thread))
number-seen c thread = go (running c thread)
  where
    by : (n : ℕ) (b : Block) → option_map (λ (a : Ahead). a.number) (option_map (statement_ahead n) (first_statement b)) ≡ first_number b
    by n done = refl
    by n (first l a b) = refl

    go : (o : Option Frame) → option_map (λ (a : Ahead). a.number) (option_and_then (λ f. option_map (statement_ahead f.function) (first_statement f.rest)) o) ≡ option_and_then (λ m. first_number m.rest) o
    go None = refl
    go (Some f) = by f.function f.rest

-- ---- the frame on top

front : {A : Type 0} (xs ys : List A) → 0 < length xs → slice_get (xs ++ ys) 0 ≡ slice_get xs 0
front [] ys l = absurd (omega (arith, l))
front (x ∷ xs) ys l = refl

first-reversed : {A : Type 0} (xs : List A) → slice_get (reverse xs) 0 ≡ slice_get xs (length xs - 1)
first-reversed [] = refl
first-reversed (x ∷ []) = refl
first-reversed (x ∷ (y ∷ ys)) =
    let l : 0 < length (reverse (y ∷ ys)) = (let e : length (reverse (y ∷ ys)) ≡ suc (length ys) = length-reverse (y ∷ ys) in omega arith) in
    let k : length (x ∷ (y ∷ ys)) - 1 ≡ suc (length (y ∷ ys) - 1) = (let e : length (x ∷ (y ∷ ys)) ≡ suc (suc (length ys)) = refl in let f : length (y ∷ ys) ≡ suc (length ys) = refl in omega arith) in
    ap (λ l. slice_get l 0) (reverse-append (x ∷ []) (y ∷ ys))
    ∙ (front (reverse (y ∷ ys)) (x ∷ []) l
    ∙ (first-reversed (y ∷ ys) ∙ ap (slice_get (x ∷ (y ∷ ys))) (sym k)))

get-seen : {A B : Type 0} (f : A → B) (xs : List A) (n : ℕ) → slice_get (map f xs) n ≡ option_map f (slice_get xs n)
get-seen f [] n = refl
get-seen f (x ∷ xs) zero = refl
get-seen f (x ∷ xs) (suc n) = get-seen f xs n

length-seen : {A B : Type 0} (f : A → B) (xs : List A) → length (map f xs) ≡ length xs
length-seen f [] = refl
length-seen f (x ∷ xs) = ap suc (length-seen f xs)

top-first : (o : Option Thread) → top_frame o ≡ slice_get (unwrap_or o []) 0
top-first None = refl
top-first (Some []) = refl
top-first (Some (f ∷ fs)) = refl

lent : (p : PlainProgram) (o : Option (Bor code.Frame)) → lent_frame p o ≡ option_map (frame_view p) (option_copied o)
lent p None = refl
lent p (Some f) = refl

pub last-seen : (p : PlainProgram) (frames : List code.Frame) (t : Option Thread) (o : Option (Bor code.Frame)) → thread_view p frames ≡ unwrap_or t [] → option_copied o ≡ slice_get frames (length frames - 1) → lent_frame p o ≡ top_frame t
last-seen p frames t o e f =
    lent p o
    ∙ (ap (option_map (frame_view p)) f
    ∙ (sym (get-seen (frame_view p) frames (length frames - 1))
    ∙ (ap (λ n. slice_get (map (frame_view p) frames) (n - 1)) (sym (length-seen (frame_view p) frames))
    ∙ (sym (first-reversed (map (frame_view p) frames))
    ∙ (ap (λ l. slice_get l 0) e ∙ sym (top-first t))))))
