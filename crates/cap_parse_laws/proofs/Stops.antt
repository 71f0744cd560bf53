-- Where the automaton stops: what was walked can be completed, and with the token at fault it can't, or
-- that is a bracket too deep.
use Rattle.std.proofs.Common.{◌≡◌, ℕ, zero, suc, cond, ◌≤◌, Bool, true, false, List, [], ◌∷◌, ◌++◌, length, Option, Some, None, IsSome, refl, sym, ap, ◌∙◌, subst, arith}
use Rattle.cap_syntax.specs.declared.token.Token.{Token}
use Rattle.cap_parse_tree.specs.Nesting.{opens, closes, one_fewer, room_behind, onwards, room_left}
use Rattle.cap_parse_laws.specs.declared.class.Class.TheVariants as c
use Rattle.cap_parse_laws.specs.Classes.{class}
use Rattle.cap_parse_laws.proofs.Automaton.{Stack, Move, on, stop, done, Answer, whole, wrong, deep, next, ended, goes, within, run, walk}
use Rattle.cap_parse_laws.proofs.Completion.{IsCompletable, next-completable, completed, completion}

-- the automaton stops at a token that may not come
pub record StopsWrong (s : Stack) (d : ℕ) (ts rest : List Token) : Type 0 where
  pub front : List Token
  pub is : ts ≡ front ++ rest
  pub nested : IsSome (room_left d front)
  pub more : List Token
  pub begun : walk s (front ++ more) ≡ whole
  pub never : (t : Token) (others more : List Token) → rest ≡ t ∷ others → walk s (front ++ t ∷ more) ≡ whole → ⊥
  pub short : rest ≡ [] → walk s front ≡ whole → ⊥

-- the automaton stops at a bracket for which there is no room
pub record StopsDeep (s : Stack) (d : ℕ) (ts rest : List Token) : Type 0 where
  pub front : List Token
  pub bracket : Token
  pub others : List Token
  pub is : ts ≡ front ++ rest
  pub first : rest ≡ bracket ∷ others
  pub opened : opens bracket ≡ true
  pub full : room_left d front ≡ Some 0
  pub more : List Token
  pub begun : walk s (front ++ bracket ∷ more) ≡ whole

-- one step of each
pub step-walk : (s s2 : Stack) (t : Token) (ts : List Token) → next s (class t) ≡ on s2
    → walk s (t ∷ ts) ≡ walk s2 ts
step-walk s s2 t ts n = ap (λ m. goes m (λ s3. walk s3 ts) (wrong (t ∷ ts))) n

step-run : (s s2 : Stack) (d left : ℕ) (t : Token) (ts : List Token) → next s (class t) ≡ on s2
    → room_behind d t ≡ Some left → run s d (t ∷ ts) ≡ run s2 left ts
step-run s s2 d left t ts n r =
    ap (λ m. goes m (λ s3. within (room_behind d t) (λ e. run s3 e ts) (deep (t ∷ ts))) (wrong (t ∷ ts))) n
    ∙ ap (λ o. within o (λ e. run s2 e ts) (deep (t ∷ ts))) r

step-room : (d left : ℕ) (t : Token) (ts : List Token) → room_behind d t ≡ Some left
    → room_left d (t ∷ ts) ≡ room_left left ts
step-room d left t ts r = ap (λ o. onwards o (λ e. room_left e ts)) r

stays-walk : (s : Stack) (t : Token) (ts : List Token) (m : Move) → next s (class t) ≡ m
    → ((s2 : Stack) → m ≡ on s2 → ⊥) → walk s (t ∷ ts) ≡ wrong (t ∷ ts)
stays-walk s t ts (on s2) n h = absurd (h s2 refl)
stays-walk s t ts stop n h = ap (λ m. goes m (λ s2. walk s2 ts) (wrong (t ∷ ts))) n
stays-walk s t ts done n h = ap (λ m. goes m (λ s2. walk s2 ts) (wrong (t ∷ ts))) n

wrong-not-whole : (a : Answer) (rest : List Token) → a ≡ wrong rest → a ≡ whole → ⊥
wrong-not-whole a rest e f = let g : wrong rest ≡ whole = sym e ∙ f in absurd cc

wrong-same : (ts us : List Token) → wrong ts ≡ wrong us → ts ≡ us
wrong-same ts us e = cc

deep-same : (ts us : List Token) → deep ts ≡ deep us → ts ≡ us
deep-same ts us e = cc

stays-here : (s : Stack) (d : ℕ) (t : Token) (ts rest : List Token) (m : Move) → IsCompletable s
    → next s (class t) ≡ m → ((s2 : Stack) → m ≡ on s2 → ⊥)
    → t ∷ ts ≡ rest → StopsWrong s d (t ∷ ts) rest
stays-here s d t ts rest m h n o e = record {
  front = [];
  is = e;
  nested = refl;
  more = completion s;
  begun = completed s h;
  never = λ u others more f w.
      let same : t ≡ u = cc in
      wrong-not-whole (walk s (u ∷ more)) (u ∷ more) (stays-walk s u more m (ap (λ v. next s (class v)) (sym same) ∙ n) o) w;
  short = λ f. absurd cc;
}

pub stops-wrong : (s : Stack) (d : ℕ) (ts rest : List Token) → IsCompletable s
    → run s d ts ≡ wrong rest → StopsWrong s d ts rest
stops-wrong s d [] rest h e = by (next s c.End) refl e
  where
    nothing : walk s [] ≡ wrong [] → [] ≡ rest → StopsWrong s d [] rest
    nothing w f = record {
      front = [];
      is = f;
      nested = refl;
      more = completion s;
      begun = completed s h;
      never = λ t others more g. absurd cc;
      short = λ g w2. wrong-not-whole (walk s []) [] w w2;
    }

    by : (m : Move) → next s c.End ≡ m → ended m ≡ wrong rest → StopsWrong s d [] rest
    by (on s2) n f = nothing (ap ended n) (wrong-same [] rest f)
    by stop n f = nothing (ap ended n) (wrong-same [] rest f)
    by done n f = absurd cc
stops-wrong s d (t ∷ ts) rest h e = by (λ s2 left. stops-wrong s2 left ts rest) (next s (class t)) refl e
  where
    longer : (s2 : Stack) (left : ℕ) → next s (class t) ≡ on s2 → room_behind d t ≡ Some left → StopsWrong s2 left ts rest → StopsWrong s d (t ∷ ts) rest
    longer s2 left n r x = record {
      front = t ∷ x.front;
      is = ap (λ l. t ∷ l) x.is;
      nested = subst IsSome (sym (step-room d left t x.front r)) x.nested;
      more = x.more;
      begun = step-walk s s2 t (x.front ++ x.more) n ∙ x.begun;
      never = λ u others more f w. x.never u others more f (sym (step-walk s s2 t (x.front ++ u ∷ more) n) ∙ w);
      short = λ f w. x.short f (sym (step-walk s s2 t x.front n) ∙ w);
    }

    on_by : ((s2 : Stack) (left : ℕ) → IsCompletable s2 → run s2 left ts ≡ wrong rest → StopsWrong s2 left ts rest) → (s2 : Stack) → next s (class t) ≡ on s2
        → (o : Option ℕ) → room_behind d t ≡ o → within o (λ left. run s2 left ts) (deep (t ∷ ts)) ≡ wrong rest → StopsWrong s d (t ∷ ts) rest
    on_by again s2 n (Some left) r f = longer s2 left n r (again s2 left (next-completable s (class t) s2 h n) f)
    on_by again s2 n None r f = absurd cc

    by : ((s2 : Stack) (left : ℕ) → IsCompletable s2 → run s2 left ts ≡ wrong rest → StopsWrong s2 left ts rest) → (m : Move) → next s (class t) ≡ m
        → goes m (λ s2. within (room_behind d t) (λ left. run s2 left ts) (deep (t ∷ ts))) (wrong (t ∷ ts)) ≡ wrong rest → StopsWrong s d (t ∷ ts) rest
    by again (on s2) n f = on_by again s2 n (room_behind d t) refl f
    by again stop n f = stays-here s d t ts rest stop h n (λ s2 g. absurd cc) (wrong-same (t ∷ ts) rest f)
    by again done n f = stays-here s d t ts rest done h n (λ s2 g. absurd cc) (wrong-same (t ∷ ts) rest f)

no-room : (d : ℕ) (t : Token) → room_behind d t ≡ None → (opens t ≡ true) × (d ≡ 0)
no-room d t e = by (opens t) refl d e
  where
    closing : (b : Bool) (d : ℕ) → cond b (Some (suc d)) (Some d) ≡ None → ⊥
    closing true d f = absurd cc
    closing false d f = absurd cc

    by : (b : Bool) → opens t ≡ b → (d : ℕ) → cond b (one_fewer d) (cond (closes t) (Some (suc d)) (Some d)) ≡ None → (opens t ≡ true) × (d ≡ 0)
    by true o zero f = (o, refl)
    by true o (suc d) f = absurd cc
    by false o d f = absurd (closing (closes t) d f)

pub stops-deep : (s : Stack) (d : ℕ) (ts rest : List Token) → IsCompletable s
    → run s d ts ≡ deep rest → StopsDeep s d ts rest
stops-deep s d [] rest h e = absurd (by (next s c.End) e)
  where
    by : (m : Move) → ended m ≡ deep rest → ⊥
    by (on s2) f = absurd cc
    by stop f = absurd cc
    by done f = absurd cc
stops-deep s d (t ∷ ts) rest h e = by (λ s2 left. stops-deep s2 left ts rest) (next s (class t)) refl e
  where
    longer : (s2 : Stack) (left : ℕ) → next s (class t) ≡ on s2 → room_behind d t ≡ Some left → StopsDeep s2 left ts rest → StopsDeep s d (t ∷ ts) rest
    longer s2 left n r x = record {
      front = t ∷ x.front;
      bracket = x.bracket;
      others = x.others;
      is = ap (λ l. t ∷ l) x.is;
      first = x.first;
      opened = x.opened;
      full = step-room d left t x.front r ∙ x.full;
      more = x.more;
      begun = step-walk s s2 t (x.front ++ x.bracket ∷ x.more) n ∙ x.begun;
    }

    here : (s2 : Stack) → next s (class t) ≡ on s2 → room_behind d t ≡ None → t ∷ ts ≡ rest → StopsDeep s d (t ∷ ts) rest
    here s2 n r f = record {
      front = [];
      bracket = t;
      others = ts;
      is = f;
      first = sym f;
      opened = (no-room d t r).0;
      full = ap Some (no-room d t r).1;
      more = completion s2;
      begun = step-walk s s2 t (completion s2) n ∙ completed s2 (next-completable s (class t) s2 h n);
    }

    on_by : ((s2 : Stack) (left : ℕ) → IsCompletable s2 → run s2 left ts ≡ deep rest → StopsDeep s2 left ts rest) → (s2 : Stack) → next s (class t) ≡ on s2
        → (o : Option ℕ) → room_behind d t ≡ o → within o (λ left. run s2 left ts) (deep (t ∷ ts)) ≡ deep rest → StopsDeep s d (t ∷ ts) rest
    on_by again s2 n (Some left) r f = longer s2 left n r (again s2 left (next-completable s (class t) s2 h n) f)
    on_by again s2 n None r f = here s2 n r (deep-same (t ∷ ts) rest f)

    by : ((s2 : Stack) (left : ℕ) → IsCompletable s2 → run s2 left ts ≡ deep rest → StopsDeep s2 left ts rest) → (m : Move) → next s (class t) ≡ m
        → goes m (λ s2. within (room_behind d t) (λ left. run s2 left ts) (deep (t ∷ ts))) (wrong (t ∷ ts)) ≡ deep rest → StopsDeep s d (t ∷ ts) rest
    by again (on s2) n f = on_by again s2 n (room_behind d t) refl f
    by again stop n f = absurd cc
    by again done n f = absurd cc

-- behind tokens that begin a text and nest
pub record Comes (front : List Token) (s : Stack) (d d2 : ℕ) : Type 0 where
  pub to : Stack
  pub sound : IsCompletable to
  pub runs : (rest : List Token) → run s d (front ++ rest) ≡ run to d2 rest
  pub walks : (rest : List Token) → walk s (front ++ rest) ≡ walk to rest

pub comes : (front : List Token) (s : Stack) (d d2 : ℕ) (more : List Token) → IsCompletable s
    → walk s (front ++ more) ≡ whole → room_left d front ≡ Some d2 → Comes front s d d2
comes [] s d d2 more h w r = record { to = s; sound = h; runs = λ rest. ap (λ e. run s e rest) (some-same d d2 r); walks = λ rest. refl }
  where
    some-same : (a b : ℕ) → Some a ≡ Some b → a ≡ b
    some-same a b e = cc
comes (t ∷ front) s d d2 more h w r = by (λ s2 left. comes front s2 left d2 more) (next s (class t)) refl w
  where
    on_by : ((s2 : Stack) (left : ℕ) → IsCompletable s2 → walk s2 (front ++ more) ≡ whole → room_left left front ≡ Some d2 → Comes front s2 left d2) → (s2 : Stack) → next s (class t) ≡ on s2
        → walk s2 (front ++ more) ≡ whole → (o : Option ℕ) → room_behind d t ≡ o → onwards o (λ left. room_left left front) ≡ Some d2 → Comes (t ∷ front) s d d2
    on_by again s2 n f (Some left) e g =
        let x = again s2 left (next-completable s (class t) s2 h n) f g in record {
          to = x.to;
          sound = x.sound;
          runs = λ rest. step-run s s2 d left t (front ++ rest) n e ∙ x.runs rest;
          walks = λ rest. step-walk s s2 t (front ++ rest) n ∙ x.walks rest;
        }
    on_by again s2 n f None e g = absurd cc

    by : ((s2 : Stack) (left : ℕ) → IsCompletable s2 → walk s2 (front ++ more) ≡ whole → room_left left front ≡ Some d2 → Comes front s2 left d2) → (m : Move) → next s (class t) ≡ m
        → goes m (λ s2. walk s2 (front ++ more)) (wrong (t ∷ (front ++ more))) ≡ whole → Comes (t ∷ front) s d d2
    by again (on s2) n f = on_by again s2 n f (room_behind d t) refl r
    by again stop n f = absurd cc
    by again done n f = absurd cc

-- what is run to its end is walked to it, and nests
pub run-whole : (s : Stack) (d : ℕ) (ts : List Token) → run s d ts ≡ whole
    → (walk s ts ≡ whole) × IsSome (room_left d ts)
run-whole s d [] e = (e, refl)
run-whole s d (t ∷ ts) e = by (λ s2 left. run-whole s2 left ts) (next s (class t)) refl e
  where
    on_by : ((s2 : Stack) (left : ℕ) → run s2 left ts ≡ whole → (walk s2 ts ≡ whole) × IsSome (room_left left ts)) → (s2 : Stack) → next s (class t) ≡ on s2
        → (o : Option ℕ) → room_behind d t ≡ o → within o (λ left. run s2 left ts) (deep (t ∷ ts)) ≡ whole → (walk s (t ∷ ts) ≡ whole) × IsSome (room_left d (t ∷ ts))
    on_by again s2 n (Some left) r f = let x = again s2 left f in (step-walk s s2 t ts n ∙ x.0, subst IsSome (sym (step-room d left t ts r)) x.1)
    on_by again s2 n None r f = absurd cc

    by : ((s2 : Stack) (left : ℕ) → run s2 left ts ≡ whole → (walk s2 ts ≡ whole) × IsSome (room_left left ts)) → (m : Move) → next s (class t) ≡ m
        → goes m (λ s2. within (room_behind d t) (λ left. run s2 left ts) (deep (t ∷ ts))) (wrong (t ∷ ts)) ≡ whole → (walk s (t ∷ ts) ≡ whole) × IsSome (room_left d (t ∷ ts))
    by again (on s2) n f = on_by again s2 n (room_behind d t) refl f
    by again stop n f = absurd cc
    by again done n f = absurd cc

enough : (d : ℕ) (t : Token) (n : ℕ) → suc n ≤ d
    → (left : ℕ) × (room_behind d t ≡ Some left) × (n ≤ left)
enough d t n l = by (opens t) refl d l
  where
    closing : (b : Bool) (d : ℕ) → suc n ≤ d → (left : ℕ) × (cond b (Some (suc d)) (Some d) ≡ Some left) × (n ≤ left)
    closing true d l = (suc d, refl, omega (arith, l))
    closing false d l = (d, refl, omega (arith, l))

    by : (b : Bool) → opens t ≡ b → (d : ℕ) → suc n ≤ d → (left : ℕ) × (room_behind d t ≡ Some left) × (n ≤ left)
    by true o zero l = absurd (omega (arith, l))
    by true o (suc d) l = (d, ap (λ b. cond b (Some d) (cond (closes t) (Some (suc (suc d))) (Some (suc d)))) o, omega (arith, l))
    by false o d l =
        let x = closing (closes t) d l in
        (x.0, ap (λ b. cond b (one_fewer d) (cond (closes t) (Some (suc d)) (Some d))) o ∙ x.1, x.2)

-- with room for as many brackets as there are tokens none is too deep
pub large : (s : Stack) (d : ℕ) (ts : List Token) → length ts ≤ d → run s d ts ≡ walk s ts
large s d [] l = refl
large s d (t ∷ ts) l = by (λ s2 left. large s2 left ts) (next s (class t)) refl
  where
    by : ((s2 : Stack) (left : ℕ) → length ts ≤ left → run s2 left ts ≡ walk s2 ts) → (m : Move) → next s (class t) ≡ m
        → goes m (λ s2. within (room_behind d t) (λ left. run s2 left ts) (deep (t ∷ ts))) (wrong (t ∷ ts)) ≡ goes m (λ s2. walk s2 ts) (wrong (t ∷ ts))
    by again (on s2) n =
        let x = enough d t (length ts) (omega (arith, l)) in
        ap (λ o. within o (λ left. run s2 left ts) (deep (t ∷ ts))) x.1 ∙ again s2 x.0 x.2
    by again stop n = refl
    by again done n = refl
