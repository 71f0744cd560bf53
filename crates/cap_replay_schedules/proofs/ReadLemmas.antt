-- Lines that are read one after the other.
use Rattle.std.proofs.Common.{◌≡◌, ◌∙◌, ap, sym, refl, ℕ, suc, ◌<◌, Bool, true, false, nat_eq, List, [], ◌∷◌, ◌++◌, length, append_assoc, arith}
use Rattle.std.specs.Prelude.{ℤ, Option, Some, None, option_map, Err}
use Rattle.cap_replay_schedules.specs.declared.reading.ScheduleError.{ScheduleError}
use Rattle.cap_replay_schedules.specs.declared.reading.ScheduleError.TheVariants.{BadLine, TooMany, OutOfMemory}
use Rattle.cap_replay_schedules.specs.Pieces.{put, pieces, pieces_behind}
use Rattle.cap_replay_schedules.specs.Numbers.{number}
use Rattle.cap_replay_schedules.specs.Reading.{put_number, numbers_of, last_number, base_of, Progress, bad_unless, takes_end, take_line, lines_of, or_empty, then_read, read_from, read, GivesProgress, IsReadAs}

-- the numbers so far, in front of those behind
abbrev pub IsSoFar : List ℤ → List (List ℕ) → List (List ℕ) → Type 0
IsSoFar vs rest all = option_map (λ xs. vs ++ xs) (numbers_of rest) ≡ numbers_of all

pub so_far_first : (vs : List ℤ) (all : List (List ℕ)) → vs ≡ [] → IsSoFar vs all all
so_far_first vs all e = ap (λ ys. option_map (λ xs. ys ++ xs) (numbers_of all)) e ∙ go (numbers_of all)
  where
    go : (o : Option (List ℤ)) → option_map (λ xs. [] ++ xs) o ≡ o
    go None = refl
    go (Some x) = refl

pub so_far_next : (vs ws : List ℤ) (v : ℤ) (w : List ℕ) (rest behind all : List (List ℕ)) → IsSoFar vs rest all → rest ≡ w ∷ behind → Some v ≡ number w → ws ≡ vs ++ v ∷ [] → IsSoFar ws behind all
so_far_next vs ws v w rest behind all h e n g =
    ap (λ ys. option_map (λ xs. ys ++ xs) (numbers_of behind)) g
    ∙ (go (numbers_of behind)
    ∙ (ap (λ o. option_map (λ xs. vs ++ xs) (put_number o (numbers_of behind))) n
    ∙ (ap (λ r. option_map (λ xs. vs ++ xs) (numbers_of r)) (sym e) ∙ h)))
  where
    go : (o : Option (List ℤ)) → option_map (λ xs. (vs ++ v ∷ []) ++ xs) o ≡ option_map (λ xs. vs ++ xs) (put_number (Some v) o)
    go None = refl
    go (Some x) = ap Some (append_assoc vs (v ∷ []) x)

pub so_far_all : (vs : List ℤ) (all : List (List ℕ)) → IsSoFar vs [] all → Some vs ≡ numbers_of all
so_far_all vs all h = ap Some (sym (append_nil vs)) ∙ h
  where
    append_nil : (xs : List ℤ) → xs ++ [] ≡ xs
    append_nil [] = refl
    append_nil (x ∷ xs) = ap (λ ys. x ∷ ys) (append_nil xs)

-- a piece is always there
pub one_piece : (separator : ℕ) (bytes : List ℕ) (r : List (List ℕ)) → pieces separator bytes ≡ r → r ≡ [] → ⊥
one_piece separator bytes r e i = go (pieces separator bytes) (e ∙ i) (never bytes)
  where
    put_one : (t : Bool) (b : ℕ) (ps : List (List ℕ)) → put t b ps ≡ [] → ⊥
    put_one true b ps h = absurd (cc)
    put_one false b [] h = absurd (cc)
    put_one false b (p ∷ ps) h = absurd (cc)

    never : (bs : List ℕ) → pieces separator bs ≡ [] → ⊥
    never [] h = absurd (cc)
    never (b ∷ bs) h = put_one (nat_eq b separator) b (pieces separator bs) h

    go : (ps : List (List ℕ)) → ps ≡ [] → (ps ≡ [] → ⊥) → ⊥
    go ps h n = n h

pub two_words : (w : List ℕ) (bytes : List ℕ) → last_number (w ∷ pieces 32 bytes) ≡ None
two_words w bytes = go (pieces 32 bytes) refl
  where
    go : (ps : List (List ℕ)) → pieces 32 bytes ≡ ps → last_number (w ∷ ps) ≡ None
    go [] e = absurd (one_piece 32 bytes [] e refl)
    go (p ∷ ps) e = refl

pub base_there : (bytes : List ℕ) → base_of (pieces 32 bytes) ≡ option_map Some (last_number (pieces 32 bytes))
base_there bytes = go (pieces 32 bytes) refl
  where
    go : (ps : List (List ℕ)) → pieces 32 bytes ≡ ps → base_of ps ≡ option_map Some (last_number ps)
    go [] e = absurd (one_piece 32 bytes [] e refl)
    go (p ∷ ps) e = refl

abbrev pub room : Option (List ℕ) → ℕ
room None = 0
room (Some bs) = suc (length bs)

pub two_pieces : (o : Option (List ℕ)) (bytes w : List ℕ) (behind : Option (List ℕ)) (r : List ℕ) → o ≡ Some bytes → pieces 32 bytes ≡ w ∷ pieces_behind 32 behind → behind ≡ Some r → None ≡ last_number (pieces_behind 32 o)
two_pieces o bytes w behind r i e j =
    sym (ap (λ x. last_number (pieces_behind 32 x)) i ∙ (ap last_number e ∙ (ap (λ x. last_number (w ∷ pieces_behind 32 x)) j ∙ two_words w r)))

pub no_base : (o : Option (List ℕ)) (bytes : List ℕ) → o ≡ Some bytes → None ≡ last_number (pieces_behind 32 o) → None ≡ base_of (pieces_behind 32 o)
no_base o bytes i h =
    sym (ap (λ x. base_of (pieces_behind 32 x)) i ∙ (base_there bytes ∙ (ap (λ x. option_map Some (last_number (pieces_behind 32 x))) (sym i) ∙ ap (option_map Some) (sym h))))

-- ---- lines

pub no_end : (n : ℕ) (p : Progress) (o : Option (List ℕ)) (bytes : List ℕ) → o ≡ Some bytes → bad_unless n (takes_end p (pieces_behind 32 o)) ≡ Err (BadLine n)
no_end n p o bytes i = ap (λ x. bad_unless n (takes_end p (pieces_behind 32 x))) i ∙ go (pieces 32 bytes) refl
  where
    go : (ps : List (List ℕ)) → pieces 32 bytes ≡ ps → bad_unless n (takes_end p ps) ≡ Err (BadLine n)
    go [] e = absurd (one_piece 32 bytes [] e refl)
    go (q ∷ qs) e = refl

not_lone : (separator : ℕ) (bytes : List ℕ) → 0 < length bytes → pieces separator bytes ≡ [] ∷ [] → ⊥
not_lone separator [] l e = absurd (omega arith)
not_lone separator (b ∷ bs) l e = go (nat_eq b separator) (pieces separator bs) e (λ i. one_piece separator bs [] i refl)
  where
    go : (t : Bool) (ps : List (List ℕ)) → put t b ps ≡ [] ∷ [] → (ps ≡ [] → ⊥) → ⊥
    go true ps h n = n (cc)
    go false [] h n = n refl
    go false (p ∷ ps) h n = absurd (cc)

lines_next : (rest line : List ℕ) (behind : Option (List ℕ)) → 0 < length rest → pieces 10 rest ≡ line ∷ pieces_behind 10 behind → lines_of (pieces 10 rest) ≡ line ∷ lines_of (pieces 10 (or_empty behind))
lines_next rest line behind l e = ap lines_of e ∙ go line behind e
  where
    two : (k : List ℕ) (bytes : List ℕ) (ps : List (List ℕ)) → pieces 10 bytes ≡ ps → lines_of (k ∷ ps) ≡ k ∷ lines_of ps
    two k bytes [] i = absurd (one_piece 10 bytes [] i refl)
    two [] bytes (q ∷ qs) i = refl
    two (b ∷ k) bytes (q ∷ qs) i = refl

    go : (k : List ℕ) (o : Option (List ℕ)) → pieces 10 rest ≡ k ∷ pieces_behind 10 o → lines_of (k ∷ pieces_behind 10 o) ≡ k ∷ lines_of (pieces 10 (or_empty o))
    go [] None i = absurd (not_lone 10 rest l i)
    go (b ∷ k) None i = refl
    go k (Some bytes) i = two k bytes (pieces 10 bytes) refl

-- what is read of the rest is what is read of the whole
abbrev pub IsLeft : ℕ → Progress → List ℕ → List ℕ → Type 0
IsLeft n p rest bytes = read_from n p (lines_of (pieces 10 rest)) ≡ read bytes

line_stops : (n : ℕ) (p : Progress) (rest line bytes : List ℕ) (behind : Option (List ℕ)) (x : ScheduleError) → IsLeft n p rest bytes → 0 < length rest → pieces 10 rest ≡ line ∷ pieces_behind 10 behind → take_line n p line ≡ Err x → read bytes ≡ Err x
line_stops n p rest line bytes behind x h l e t =
    sym h ∙ (ap (read_from n p) (lines_next rest line behind l e) ∙ ap (λ r. then_read r (λ y. read_from (suc n) y (lines_of (pieces 10 (or_empty behind))))) t)

-- an error of a line is one of the whole
pub line_fails : {T : Type 0} (n : ℕ) (p : Progress) (rest line bytes : List ℕ) (behind : Option (List ℕ)) (x : ScheduleError) (view : T → Progress) → IsLeft n p rest bytes → 0 < length rest → pieces 10 rest ≡ line ∷ pieces_behind 10 behind → GivesProgress (Err x) view (take_line n p line) → IsReadAs (Err x) (read bytes)
line_fails n p rest line bytes behind (BadLine k) view h l e t = line_stops n p rest line bytes behind (BadLine k) h l e t
line_fails n p rest line bytes behind TooMany view h l e t = line_stops n p rest line bytes behind TooMany h l e t
line_fails n p rest line bytes behind OutOfMemory view h l e t = tt
