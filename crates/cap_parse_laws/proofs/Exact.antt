-- Reading, spelling, and the places where a text goes wrong.
use Rattle.std.proofs.Common.{◌≡◌, ℕ, true, List, [], ◌∷◌, ◌++◌, length, Option, Some, None, IsSome, Result, Ok, Err, refl, sym, ap, ◌∙◌, subst, arith, append_assoc, append-nil}
use Rattle.cap_syntax.specs.declared.token.Token.{Token}
use Rattle.cap_parse_tree.specs.Tree.{ProgramTree}
use Rattle.cap_parse_tree.specs.Spelling.{spelling}
use Rattle.cap_parse_tree.specs.Nesting.{max_nesting, opens, room_behind, room_left, Nests}
use Rattle.cap_parse_laws.specs.declared.class.Class.TheVariants as c
use Rattle.cap_parse_laws.specs.Classes.{class}
use Rattle.cap_parse_laws.specs.Readers.{Fault, unexpected, too_deep}
use Rattle.cap_parse_laws.specs.Grammar.{read_program}
use Rattle.cap_parse_laws.proofs.Seen.{BeginsTree, IsSeenUnexpected, IsSeenTooDeep}
use Rattle.cap_parse_laws.proofs.Automaton.{Stack, Move, on, stop, done, whole, wrong, deep, next, ended, goes, within, run, walk, start}
use Rattle.cap_parse_laws.proofs.Completion.{IsCompletable, next-completable, completed, completion}
use Rattle.cap_parse_laws.proofs.Stops.{step-walk, stops-wrong, stops-deep, Comes, comes, run-whole, large}
use Rattle.cap_parse_laws.proofs.MeetsTexts.{Agrees, program-agrees}
use Rattle.cap_parse_laws.proofs.CompleteTexts.{IsReadUnlessDeep, program-gives}

walk-not-deep : (s : Stack) (ts rest : List Token) → walk s ts ≡ deep rest → ⊥
walk-not-deep s [] rest e = by (next s c.End) e
  where
    by : (m : Move) → ended m ≡ deep rest → ⊥
    by (on s2) f = absurd cc
    by stop f = absurd cc
    by done f = absurd cc
walk-not-deep s (t ∷ ts) rest e = by (λ s2. walk-not-deep s2 ts rest) (next s (class t)) e
  where
    by : ((s2 : Stack) → walk s2 ts ≡ deep rest → ⊥) → (m : Move) → goes m (λ s2. walk s2 ts) (wrong (t ∷ ts)) ≡ deep rest → ⊥
    by again (on s2) f = again s2 f
    by again stop f = absurd cc
    by again done f = absurd cc

-- what the automaton answers says what is read

pub whole-read : (d : ℕ) (ts : List Token) → run start d ts ≡ whole
    → (t : ProgramTree) × (read_program d ts ≡ Ok t)
whole-read d ts e = by (read_program d ts) refl (program-agrees d ts)
  where
    by : (r : Result ProgramTree Fault) → read_program d ts ≡ r → Agrees ts (run start d ts) r → (t : ProgramTree) × (read_program d ts ≡ Ok t)
    by (Ok t) f a = (t, f)
    by (Err (unexpected rest)) f a = let g : wrong rest ≡ whole = sym a ∙ e in absurd cc
    by (Err (too_deep rest)) f a = let g : deep rest ≡ whole = sym a ∙ e in absurd cc

wrong-read : (d : ℕ) (ts rest : List Token) → run start d ts ≡ wrong rest
    → read_program d ts ≡ Err (unexpected rest)
wrong-read d ts rest e = by (read_program d ts) refl (program-agrees d ts)
  where
    by : (r : Result ProgramTree Fault) → read_program d ts ≡ r → Agrees ts (run start d ts) r → read_program d ts ≡ Err (unexpected rest)
    by (Ok t) f a = let g : wrong rest ≡ whole = sym e ∙ a.1 in absurd cc
    by (Err (unexpected other)) f a = let g : wrong other ≡ wrong rest = sym a ∙ e in let same : other ≡ rest = cc in f ∙ ap (λ l. Err (unexpected l)) same
    by (Err (too_deep other)) f a = let g : wrong rest ≡ deep other = sym e ∙ a in absurd cc

deep-read : (d : ℕ) (ts rest : List Token) → run start d ts ≡ deep rest
    → read_program d ts ≡ Err (too_deep rest)
deep-read d ts rest e = by (read_program d ts) refl (program-agrees d ts)
  where
    by : (r : Result ProgramTree Fault) → read_program d ts ≡ r → Agrees ts (run start d ts) r → read_program d ts ≡ Err (too_deep rest)
    by (Ok t) f a = let g : deep rest ≡ whole = sym e ∙ a.1 in absurd cc
    by (Err (unexpected other)) f a = let g : deep rest ≡ wrong other = sym e ∙ a in absurd cc
    by (Err (too_deep other)) f a = let g : deep other ≡ deep rest = sym a ∙ e in let same : other ≡ rest = cc in f ∙ ap (λ l. Err (too_deep l)) same

-- with room enough

spelled-is-read-largely : (t : ProgramTree) → read_program (length (spelling t)) (spelling t) ≡ Ok t
spelled-is-read-largely t = by (read_program n ts) refl (program-gives n t) (program-agrees n ts)
  where
    ts : List Token
    ts = spelling t

    n : ℕ
    n = length (spelling t)

    by : (r : Result ProgramTree Fault) → read_program (length (spelling t)) (spelling t) ≡ r → IsReadUnlessDeep t r → Agrees (spelling t) (run start (length (spelling t)) (spelling t)) r
        → read_program (length (spelling t)) (spelling t) ≡ Ok t
    by (Ok u) f g a = f ∙ ap Ok g
    by (Err (unexpected rest)) f g a = absurd g
    by (Err (too_deep rest)) f g a = absurd (walk-not-deep start (spelling t) rest (sym (large start (length (spelling t)) (spelling t) (omega arith)) ∙ a))

one-answer : (r : Result ProgramTree Fault) (t u : ProgramTree) → r ≡ Ok t → r ≡ Ok u → t ≡ u
one-answer r t u e f = cc

pub spelled-once : (t u : ProgramTree) → spelling t ≡ spelling u → t ≡ u
spelled-once t u e =
    one-answer (read_program (length (spelling t)) (spelling t)) t u (spelled-is-read-largely t)
    (ap (λ l. read_program (length l) l) e ∙ spelled-is-read-largely u)

pub text-walks : (t : ProgramTree) → walk start (spelling t) ≡ whole
text-walks t =
    let n = length (spelling t) in
    let a = subst (Agrees (spelling t) (run start n (spelling t))) (spelled-is-read-largely t) (program-agrees n (spelling t)) in
    sym (large start n (spelling t) (omega arith)) ∙ a.1

pub text-of : (ts : List Token) → walk start ts ≡ whole → (t : ProgramTree) × (spelling t ≡ ts)
text-of ts w =
    let r = whole-read (length ts) ts (large start (length ts) ts (omega arith) ∙ w) in
    let a = subst (Agrees ts (run start (length ts) ts)) r.1 (program-agrees (length ts) ts) in
    (r.0, sym a.0)

begins-text : (front more : List Token) → walk start (front ++ more) ≡ whole → BeginsTree front
begins-text front more w = let x = text-of (front ++ more) w in record { tree = x.0; others = more; spelled = x.1 }

-- what is read is spelled, and nests
pub read-is-spelled : (d : ℕ) (ts : List Token) (t : ProgramTree) → read_program d ts ≡ Ok t
    → (ts ≡ spelling t) × IsSome (room_left d (spelling t))
read-is-spelled d ts t e =
    let a = subst (Agrees ts (run start d ts)) e (program-agrees d ts) in
    (a.0, subst (λ l. IsSome (room_left d l)) a.0 (run-whole start d ts a.1).1)

the-room : (o : Option ℕ) → IsSome o → (d : ℕ) × (o ≡ Some d)
the-room None h = absurd cc
the-room (Some d) h = (d, refl)

-- a text that nests is run to its end
runs-whole : (d : ℕ) (ts : List Token) → walk start ts ≡ whole → IsSome (room_left d ts)
    → run start d ts ≡ whole
runs-whole d ts w h =
    let r = the-room (room_left d ts) h in
    let x = comes ts start d r.0 [] refl (ap (walk start) (append-nil ts) ∙ w) r.1 in
    ap (run start d) (sym (append-nil ts)) ∙ x.runs [] ∙ sym (x.walks []) ∙ ap (walk start) (append-nil ts) ∙ w

-- what is spelled and nests is read
pub spelled-is-read : (d : ℕ) (t : ProgramTree) → IsSome (room_left d (spelling t))
    → read_program d (spelling t) ≡ Ok t
spelled-is-read d t h =
    let r = whole-read d (spelling t) (runs-whole d (spelling t) (text-walks t) h) in
    r.1 ∙ ap Ok (spelled-once r.0 t (sym (read-is-spelled d (spelling t) r.0 r.1).0))

behind-one : (front : List Token) (t : Token) (b : BeginsTree (front ++ t ∷ []))
    → walk start (front ++ t ∷ b.others) ≡ whole
behind-one front t b = ap (walk start) (sym (append_assoc front (t ∷ []) b.others) ∙ sym b.spelled) ∙ text-walks b.tree

begins-behind : (front : List Token) (t : Token) (more : List Token)
    → walk start (front ++ t ∷ more) ≡ whole → BeginsTree (front ++ t ∷ [])
begins-behind front t more w =
    let x = text-of (front ++ t ∷ more) w in record { tree = x.0; others = more; spelled = x.1 ∙ sym (append_assoc front (t ∷ []) more) }

pub unexpected-is : (ts rest : List Token) → read_program max_nesting ts ≡ Err (unexpected rest)
    → IsSeenUnexpected ts rest
unexpected-is ts rest e =
    let x = stops-wrong start max_nesting ts rest refl (subst (Agrees ts (run start max_nesting ts)) e (program-agrees max_nesting ts)) in record {
      front = x.front;
      whole = x.is;
      begun = begins-text x.front x.more x.begun;
      nested = x.nested;
      wrong = λ t others f b. x.never t others b.others f (behind-one x.front t b);
      ended = λ f tree g. x.short f (ap (walk start) (sym g) ∙ text-walks tree);
    }

pub too-deep-is : (ts rest : List Token) → read_program max_nesting ts ≡ Err (too_deep rest)
    → IsSeenTooDeep ts rest
too-deep-is ts rest e =
    let x = stops-deep start max_nesting ts rest refl (subst (Agrees ts (run start max_nesting ts)) e (program-agrees max_nesting ts)) in record {
      front = x.front;
      bracket = x.bracket;
      others = x.others;
      whole = x.is;
      first = x.first;
      opened = x.opened;
      full = x.full;
      begun = begins-behind x.front x.bracket x.more x.begun;
    }

-- the automaton stops where it must

wrong-at-the-end : (s : Stack) → (walk s [] ≡ whole → ⊥) → ended (next s c.End) ≡ wrong []
wrong-at-the-end s h = by (next s c.End) refl
  where
    by : (m : Move) → next s c.End ≡ m → ended m ≡ wrong []
    by (on s2) n = refl
    by stop n = refl
    by done n = absurd (h (ap ended n))

wrong-here : (s : Stack) (d : ℕ) (t : Token) (others : List Token) → IsCompletable s
    → ((more : List Token) → walk s (t ∷ more) ≡ whole → ⊥)
    → run s d (t ∷ others) ≡ wrong (t ∷ others)
wrong-here s d t others h never = by (next s (class t)) refl
  where
    by : (m : Move) → next s (class t) ≡ m → goes m (λ s2. within (room_behind d t) (λ left. run s2 left others) (deep (t ∷ others))) (wrong (t ∷ others)) ≡ wrong (t ∷ others)
    by (on s2) n = absurd (never (completion s2) (step-walk s s2 t (completion s2) n ∙ completed s2 (next-completable s (class t) s2 h n)))
    by stop n = refl
    by done n = refl

runs-wrong : (front rest : List Token) (d d2 : ℕ) (x : Comes front start d d2)
    → ((t : Token) (others : List Token) → rest ≡ t ∷ others → BeginsTree (front ++ t ∷ []) → ⊥)
    → (rest ≡ [] → (tree : ProgramTree) → spelling tree ≡ front → ⊥)
    → run start d (front ++ rest) ≡ wrong rest
runs-wrong front [] d d2 x never short =
    x.runs [] ∙ wrong-at-the-end x.to (λ w.
    let y = text-of (front ++ []) (x.walks [] ∙ w) in short refl y.0 (y.1 ∙ append-nil front))
runs-wrong front (t ∷ others) d d2 x never short =
    x.runs (t ∷ others) ∙ wrong-here x.to d2 t others x.sound (λ more w. never t others refl (begins-behind front t more (x.walks (t ∷ more) ∙ w)))

begun-walks : (front : List Token) (b : BeginsTree front) → walk start (front ++ b.others) ≡ whole
begun-walks front b = ap (walk start) (sym b.spelled) ∙ text-walks b.tree

pub is-unexpected : (ts rest : List Token) → IsSeenUnexpected ts rest
    → read_program max_nesting ts ≡ Err (unexpected rest)
is-unexpected ts rest u =
    let r = the-room (room_left max_nesting u.front) u.nested in
    let x = comes u.front start max_nesting r.0 u.begun.others refl (begun-walks u.front u.begun) r.1 in
    wrong-read max_nesting ts rest (ap (run start max_nesting) u.whole ∙ runs-wrong u.front rest max_nesting r.0 x u.wrong u.ended)

-- no room is left for a bracket
no-room-behind : (t : Token) → opens t ≡ true → room_behind 0 t ≡ None
no-room-behind t e = rw e refl

deep-here : (s : Stack) (t : Token) (others more : List Token) → opens t ≡ true
    → walk s (t ∷ more) ≡ whole → run s 0 (t ∷ others) ≡ deep (t ∷ others)
deep-here s t others more o w = by (next s (class t)) refl w
  where
    by : (m : Move) → next s (class t) ≡ m → goes m (λ s2. walk s2 more) (wrong (t ∷ more)) ≡ whole
        → goes m (λ s2. within (room_behind 0 t) (λ left. run s2 left others) (deep (t ∷ others))) (wrong (t ∷ others)) ≡ deep (t ∷ others)
    by (on s2) n f = ap (λ r. within r (λ left. run s2 left others) (deep (t ∷ others))) (no-room-behind t o)
    by stop n f = absurd cc
    by done n f = absurd cc

pub is-too-deep : (ts rest : List Token) → IsSeenTooDeep ts rest
    → read_program max_nesting ts ≡ Err (too_deep rest)
is-too-deep ts rest u =
    let w = behind-one u.front u.bracket u.begun in
    let x = comes u.front start max_nesting 0 (u.bracket ∷ u.begun.others) refl w u.full in
    deep-read max_nesting ts rest
    (ap (run start max_nesting) (u.whole ∙ ap (λ l. u.front ++ l) u.first) ∙ x.runs (u.bracket ∷ u.others)
    ∙ deep-here x.to u.bracket u.others u.begun.others u.opened (sym (x.walks (u.bracket ∷ u.begun.others)) ∙ w)
    ∙ ap deep (sym u.first))

pub nests-runs : (d : ℕ) (t : ProgramTree) → IsSome (room_left d (spelling t))
    → run start d (spelling t) ≡ whole
nests-runs d t h = runs-whole d (spelling t) (text-walks t) h
