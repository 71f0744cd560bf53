-- Lines that are written one by one.
use Rattle.std.proofs.Common.{◌≡◌, ◌∙◌, ap, sym, refl, subst, ℕ, zero, suc, ◌+◌, ◌-◌, ◌<◌, ◌≤◌, min, inl, inr, Result, Ok, Err, Option, Some, None, List, [], ◌∷◌, ◌++◌, map, reverse, drop, take, get_or, length, append_assoc, drop-cons, add-one, arith}
use Rattle.std.specs.Prelude.{codes, flat_map, ℤ, pos, slice_get, unwrap_or, OnOk, if◌then◌else◌}
use Rattle.std.specs.Result.{is_ok}
use Rattle.std.specs.Fmt.{decimal, signed_decimal}
use Rattle.std.specs.Global.{Vec}
use Rattle.std.specs.List.{zip}
use Rattle.std.proofs.lemmas.Bool.{cases_lt}
use Rattle.std.proofs.lemmas.List.{append-nil, drop-map, length-map, map-append, reverse-append, reverse-reverse, take_all, take_rest}
use Rattle.cap_prog.specs.Program.{Name, PlainProgram}
use Rattle.cap_machine.specs.Machine.{Configuration, Thread, Frame as Frame-at}
use Rattle.cap_machine.specs.View.{frame_view as machine_frame, thread_view}
use Rattle.cap_machine.specs.declared.frame.Frame.{Frame}
use Rattle.cap_machine_accounts.specs.Assertions.{NameValue, a_number}
use Rattle.cap_machine_accounts.specs.Accounts.{Held, OwnedRegion}
use Rattle.cap_outline_spec.specs.Texts.{type_name}
use Rattle.cap_owners_spec.specs.Texts.{account_text, args_text, fixed_names, frame_line, frame_lines, named_text, names_text, part_text, region_line, thread_lines}
use Rattle.cap_owners_spec.specs.Traced.{value_at}
use Rattle.cap_owners_spec.specs.Track as plain
use Rattle.cap_owners.specs.declared.track.Track.{Track}
use Rattle.cap_owners.specs.declared.track.TrackedFrame.{TrackedFrame}
use Rattle.cap_owners.specs.Accounts.{all_helds_view, frames_text, held_view, helds_view, lines_from, name_joint}
use Rattle.cap_owners.specs.Tracks.{frame_view, track_view, threads_view}
use Rattle.cap_owners.proofs.Lists.{zip-none, zip-tops}

-- what is written stays the same where it is equal
pub ok-same : {A E X : Type 0} (r : Result A E) (x y z : X) → y ≡ z → OnOk r (x ≡ y) → OnOk r (x ≡ z)
ok-same (Ok a) x y z e h = h ∙ e
ok-same (Err a) x y z e h = tt

-- a slice that is appended, where there was memory
pub ok-appended : {A E : Type 0} (r : Result A E) (new old x : List ℕ) → new ≡ (if is_ok r then old ++ x else old) → OnOk r (new ≡ old ++ x)
ok-appended (Ok a) new old x e = e
ok-appended (Err a) new old x e = tt

-- what is written behind what was written before it
pub behind : (old mid new x y : List ℕ) → mid ≡ old ++ x → new ≡ mid ++ y → new ≡ old ++ (x ++ y)
behind old mid new x y h k = k ∙ (ap (λ t. t ++ y) h ∙ append_assoc old x y)

-- what is at a place comes first behind those before it
at-place : {A : Type 0} (xs : List A) (n : ℕ) (x : A) → n < length xs → x ≡ get_or xs n x → drop n xs ≡ x ∷ drop (suc n) xs
at-place xs n x l e = drop-cons xs n x l ∙ ap (λ y. y ∷ drop (suc n) xs) (sym e)

-- ---- arguments

pub args-written : (args more : List ℤ) (first : ℤ) (old a b new : List ℕ) → args ≡ first ∷ more → a ≡ old ++ signed_decimal first → b ≡ a ++ flat_map (λ z. codes ", " ++ signed_decimal z) more → new ≡ b ++ codes "; " → new ≡ old ++ args_text args
args-written args more first old a b new e h k l =
    let own = signed_decimal first in
    let rest = flat_map (λ z. codes ", " ++ signed_decimal z) more in
    l
    ∙ (ap (λ t. t ++ codes "; ") (k ∙ ap (λ t. t ++ rest) h)
    ∙ (ap (λ t. t ++ codes "; ") (append_assoc old own rest)
    ∙ (append_assoc old (own ++ rest) (codes "; ") ∙ ap (λ zs. old ++ args_text zs) (sym e))))

pub args-parts : (args : List ℤ) → 1 ≤ length args → args ≡ get_or args 0 (pos 0) ∷ take (length args - 1) (drop 1 args)
args-parts [] l = absurd (omega (arith, l))
args-parts (z ∷ zs) l =
    let e : length zs ≤ length (z ∷ zs) - 1 = (let h : length (z ∷ zs) ≡ suc (length zs) = refl in omega arith) in
    ap (λ xs. z ∷ xs) (sym (take_all (length (z ∷ zs) - 1) zs e))

-- ---- regions

one-by-one : (old a b c d e f g h i u v w x y z t k m n : List ℕ) → a ≡ old ++ u → b ≡ a ++ v → c ≡ b ++ w → d ≡ c ++ x → e ≡ d ++ y → f ≡ e ++ z → g ≡ f ++ t → h ≡ g ++ k → i ≡ h ++ m → i ++ n ≡ old ++ (u ++ (v ++ (w ++ (x ++ (y ++ (z ++ (t ++ (k ++ (m ++ n)))))))))
one-by-one old a b c d e f g h i u v w x y z t k m n p1 p2 p3 p4 p5 p6 p7 p8 p9 =
    behind old a (i ++ n) u (v ++ (w ++ (x ++ (y ++ (z ++ (t ++ (k ++ (m ++ n)))))))) p1
    (behind a b (i ++ n) v (w ++ (x ++ (y ++ (z ++ (t ++ (k ++ (m ++ n))))))) p2
    (behind b c (i ++ n) w (x ++ (y ++ (z ++ (t ++ (k ++ (m ++ n)))))) p3
    (behind c d (i ++ n) x (y ++ (z ++ (t ++ (k ++ (m ++ n))))) p4
    (behind d e (i ++ n) y (z ++ (t ++ (k ++ (m ++ n)))) p5
    (behind e f (i ++ n) z (t ++ (k ++ (m ++ n))) p6
    (behind f g (i ++ n) t (k ++ (m ++ n)) p7
    (behind g h (i ++ n) k (m ++ n) p8
    (behind h i (i ++ n) m n p9 refl))))))))

-- its texts one by one
pub region-written : (p : PlainProgram) (r : OwnedRegion) (old a b c d e f g h i : List ℕ) → a ≡ old ++ codes "region " → b ≡ a ++ signed_decimal r.region.number → c ≡ b ++ codes " " → d ≡ c ++ type_name p r.region.kind → e ≡ d ++ codes "(" → f ≡ e ++ args_text r.region.args → g ≡ f ++ signed_decimal r.region.state → h ≡ g ++ codes "): " → i ≡ h ++ part_text p r.part → i ++ codes "\n" ≡ old ++ region_line p r
region-written p r old a b c d e f g h i =
    one-by-one old a b c d e f g h i (codes "region ") (signed_decimal r.region.number) (codes " ") (type_name p r.region.kind) (codes "(") (args_text r.region.args) (signed_decimal r.region.state) (codes "): ") (part_text p r.part) (codes "\n")

pub region-goes : {A : Type 0} (f : A → List ℕ) (xs : List A) (n : ℕ) (x : A) (text new whole : List ℕ) → slice_get xs n ≡ Some x → new ≡ text ++ f x → text ++ flat_map f (drop n xs) ≡ whole → new ++ flat_map f (drop (n + 1) xs) ≡ whole
region-goes {A = A} f xs n x text new whole e h i =
    let P : ℕ → Type 0 = λ k. new ++ flat_map f (drop k xs) ≡ whole in
    subst P (sym (add-one n))
    (ap (λ t. t ++ flat_map f (drop (suc n) xs)) h
    ∙ (append_assoc text (f x) (flat_map f (drop (suc n) xs))
    ∙ (ap (λ ys. text ++ flat_map f ys) (sym (found xs n e)) ∙ i)))
  where
    listed : Option A → List A
    listed None = []
    listed (Some y) = y ∷ []

    found : (ys : List A) (k : ℕ) → slice_get ys k ≡ Some x → drop k ys ≡ x ∷ drop (suc k) ys
    found [] zero q = ap listed q
    found [] (suc k) q = ap listed q
    found (y ∷ ys) zero q = ap (λ o. unwrap_or o x ∷ ys) q
    found (y ∷ ys) (suc k) q = found ys k q

-- there is none at the place
pub region-ends : {A : Type 0} (f : A → List ℕ) (xs : List A) (n : ℕ) (text new whole : List ℕ) → slice_get xs n ≡ None → new ≡ text → text ++ flat_map f (drop n xs) ≡ whole → new ++ flat_map f (drop (n + 1) xs) ≡ whole
region-ends {A = A} f xs n text new whole e h i =
    let P : ℕ → Type 0 = λ k. new ++ flat_map f (drop k xs) ≡ whole in
    subst P (sym (add-one n)) (ap (λ t. t ++ flat_map f (drop (suc n) xs)) h ∙ (ap (λ ys. text ++ flat_map f ys) (sym (gone xs n e)) ∙ i))
  where
    chosen : List A → List A → Option A → List A
    chosen ys zs None = zs
    chosen ys zs (Some y) = ys

    gone : (ys : List A) (k : ℕ) → slice_get ys k ≡ None → drop k ys ≡ drop (suc k) ys
    gone [] zero q = refl
    gone [] (suc k) q = refl
    gone (y ∷ ys) zero q = ap (chosen (y ∷ ys) ys) q
    gone (y ∷ ys) (suc k) q = gone ys k q

-- ---- fixed names

-- names from this number on, with their values
abbrev pub names-left : ℕ → List (Name × NameValue) → List ℕ
names-left zero qs = names_text qs
names-left (suc n) qs = flat_map (λ q. codes ", " ++ named_text q) qs

names-next : (n : ℕ) (q : Name × NameValue) (qs : List (Name × NameValue)) → names-left n (q ∷ qs) ≡ (name_joint n ++ named_text q) ++ names-left (suc n) qs
names-next zero q qs = sym (append_assoc (codes " with ") (named_text q) (flat_map (λ x. codes ", " ++ named_text x) qs))
names-next (suc n) q qs = refl

pub name-goes : (names : List Name) (values : List NameValue) (n : ℕ) (name : Name) (v : NameValue) (text a new whole : List ℕ) → n < length names → n < length values → name ≡ get_or names n name → v ≡ value_at values n → a ≡ text ++ name_joint n → new ≡ a ++ named_text (name, v) → text ++ names-left n (zip (drop n names) (drop n values)) ≡ whole → new ++ names-left (n + 1) (zip (drop (n + 1) names) (drop (n + 1) values)) ≡ whole
name-goes names values n name v text a new whole l m e f h k i =
    let rest = zip (drop (suc n) names) (drop (suc n) values) in
    let b : zip (drop n names) (drop n values) ≡ (name, v) ∷ rest =
    ap (λ xs. zip xs (drop n values)) (at-place names n name l e)
    ∙ ap (zip (name ∷ drop (suc n) names)) (drop-cons values n (a_number (pos 0)) m ∙ ap (λ y. y ∷ drop (suc n) values) (sym f)) in
    let P : ℕ → Type 0 = λ x. new ++ names-left x (zip (drop x names) (drop x values)) ≡ whole in
    subst P (sym (add-one n))
    (ap (λ t. t ++ names-left (suc n) rest) (k ∙ (ap (λ t. t ++ named_text (name, v)) h ∙ append_assoc text (name_joint n) (named_text (name, v))))
    ∙ (append_assoc text (name_joint n ++ named_text (name, v)) (names-left (suc n) rest)
    ∙ (ap (λ t. text ++ t) (sym (names-next n (name, v) rest))
    ∙ (ap (λ qs. text ++ names-left n qs) (sym b) ∙ i))))

past : {A : Type 0} (xs : List A) (n : ℕ) → length xs ≤ n → drop n xs ≡ []
past [] zero l = refl
past [] (suc n) l = refl
past (x ∷ xs) zero l = absurd (omega (arith, l))
past (x ∷ xs) (suc n) l = past xs n (omega (arith, l))

none-left : (n : ℕ) → names-left n [] ≡ []
none-left zero = refl
none-left (suc n) = refl

ended : {A B : Type 0} (xs : List A) (ys : List B) (n : ℕ) → min (length xs) (length ys) ≤ n → zip (drop n xs) (drop n ys) ≡ []
ended xs ys n l = elim (cases_lt (length xs) (length ys)) [
  | inl h ↦ ap (λ zs. zip zs (drop n ys)) (past xs n (omega (arith, l)))
  | inr h ↦ ap (zip (drop n xs)) (past ys n (omega (arith, l))) ∙ zip-none (drop n xs)
]

pub names-end : (names : List Name) (values : List NameValue) (n : ℕ) (text whole : List ℕ) → min (length names) (length values) ≤ n → text ++ names-left n (zip (drop n names) (drop n values)) ≡ whole → text ≡ whole
names-end names values n text whole l i =
    sym (append-nil text) ∙ (ap (λ t. text ++ t) (sym (none-left n)) ∙ (ap (λ qs. text ++ names-left n qs) (sym (ended names values n l)) ∙ i))

-- ---- frames

pub frame-written : (p : PlainProgram) (thread n : ℕ) (q : Frame-at × Held) (old first number a b c d : List ℕ) → first ≡ codes "thread " ++ (decimal thread ++ codes " ") → number ≡ codes "frame " ++ (decimal n ++ codes ": ") → a ≡ old ++ first → b ≡ a ++ number → c ≡ b ++ part_text p q.1.part → d ≡ c ++ names_text (zip (fixed_names (slice_get p.functions q.0.function)) q.1.fixed) → d ++ codes "\n" ≡ old ++ frame_line p thread n q
frame-written p thread n q old first number a b c d e f h k l m =
    let part = part_text p q.1.part in
    let names = names_text (zip (fixed_names (slice_get p.functions q.0.function)) q.1.fixed) in
    let end = part ++ (names ++ codes "\n") in
    let ahead : first ++ (number ++ end) ≡ codes "thread " ++ (decimal thread ++ (codes " frame " ++ (decimal n ++ (codes ": " ++ end)))) =
    ap (λ t. t ++ (number ++ end)) e
    ∙ (append_assoc (codes "thread ") (decimal thread ++ codes " ") (number ++ end)
    ∙ (ap (λ t. codes "thread " ++ t) (append_assoc (decimal thread) (codes " ") (number ++ end))
    ∙ (ap (λ t. codes "thread " ++ (decimal thread ++ (codes " " ++ (t ++ end)))) f
    ∙ ap (λ t. codes "thread " ++ (decimal thread ++ (codes " frame " ++ t))) (append_assoc (decimal n) (codes ": ") end)))) in
    behind old a (d ++ codes "\n") first (number ++ end) h
    (behind a b (d ++ codes "\n") number end k
    (behind b c (d ++ codes "\n") part (names ++ codes "\n") l
    (behind c d (d ++ codes "\n") names (codes "\n") m refl)))
    ∙ ap (λ t. old ++ t) ahead

pub line-goes : (p : PlainProgram) (thread n : ℕ) (fs : List Frame) (ks : List TrackedFrame) (f : Frame) (k : TrackedFrame) (text new whole : List ℕ) → n < length fs → n < length ks → f ≡ get_or fs n f → k ≡ get_or ks n k → new ≡ text ++ frame_line p thread n (machine_frame p f, held_view k) → text ++ lines_from p thread n (drop n fs) (drop n ks) ≡ whole → new ++ lines_from p thread (n + 1) (drop (n + 1) fs) (drop (n + 1) ks) ≡ whole
line-goes p thread n fs ks f k text new whole l m e g h i =
    let line = frame_line p thread n (machine_frame p f, held_view k) in
    let rest = lines_from p thread (suc n) (drop (suc n) fs) (drop (suc n) ks) in
    let P : ℕ → Type 0 = λ x. new ++ lines_from p thread x (drop x fs) (drop x ks) ≡ whole in
    subst P (sym (add-one n))
    (ap (λ t. t ++ rest) h
    ∙ (append_assoc text line rest
    ∙ (ap (λ xs. text ++ lines_from p thread n xs (k ∷ drop (suc n) ks)) (sym (at-place fs n f l e))
    ∙ (ap (λ ys. text ++ lines_from p thread n (drop n fs) ys) (sym (at-place ks n k m g)) ∙ i))))

pub lines-end : (p : PlainProgram) (thread n : ℕ) (fs : List Frame) (ks : List TrackedFrame) (text whole : List ℕ) → min (length fs) (length ks) ≤ n → text ++ lines_from p thread n (drop n fs) (drop n ks) ≡ whole → text ≡ whole
lines-end p thread n fs ks text whole l i = elim (cases_lt (length fs) (length ks)) [
  | inl h ↦ sym (append-nil text) ∙ (ap (λ xs. text ++ lines_from p thread n xs (drop n ks)) (sym (past fs n (omega (arith, l)))) ∙ i)
  | inr h ↦ (
      let e : lines_from p thread n (drop n fs) [] ≡ [] = ap (frame_lines p thread n) (zip-none (map (machine_frame p) (drop n fs))) in
      sym (append-nil text) ∙ (ap (λ t. text ++ t) (sym e) ∙ (ap (λ ys. text ++ lines_from p thread n (drop n fs) ys) (sym (past ks n (omega (arith, l)))) ∙ i))
      )
]

-- frames beside each other from the top, as many of both
pub lines-beside : (p : PlainProgram) (thread n : ℕ) (fs : List Frame) (ks : List TrackedFrame) → n ≡ min (length fs) (length ks) → lines_from p thread 0 (take (length fs - (length fs - n)) (drop (length fs - n) fs)) (take (length ks - (length ks - n)) (drop (length ks - n) ks)) ≡ frames_text p thread (thread_view p fs) (helds_view ks)
lines-beside p thread n fs ks e =
    let view = machine_frame p in
    let xs = map view fs in
    let ys = map held_view ks in
    let a : length xs ≡ length fs = length-map fs view in
    let b : length ys ≡ length ks = length-map ks held_view in
    let m : n ≡ min (length xs) (length ys) = rw (a, b) e in
    let tops : zip (reverse xs) (reverse ys) ≡ reverse (zip (drop (length fs - n) xs) (drop (length ks - n) ys)) = rw (a, b) at (zip-tops xs ys n m) in
    let seen : zip (reverse xs) (helds_view ks) ≡ reverse (zip (map view (drop (length fs - n) fs)) (map held_view (drop (length ks - n) ks))) =
    ap (zip (reverse xs)) (helds-reversed ks)
    ∙ (tops
    ∙ (ap (λ l. reverse (zip l (drop (length ks - n) ys))) (drop-map view (length fs - n) fs)
    ∙ ap (λ l. reverse (zip (map view (drop (length fs - n) fs)) l)) (drop-map held_view (length ks - n) ks))) in
    rw (take_rest fs (length fs - n), take_rest ks (length ks - n))
    (ap (frame_lines p thread 0) (sym (reverse-reverse (zip (map view (drop (length fs - n) fs)) (map held_view (drop (length ks - n) ks)))) ∙ ap reverse (sym seen)))
  where
    reversed : {A B : Type 0} (f : A → B) (l : List A) → map f (reverse l) ≡ reverse (map f l)
    reversed f [] = refl
    reversed f (x ∷ l) =
        ap (map f) (reverse-append (x ∷ []) l) ∙ (map-append f (reverse l) (x ∷ []) ∙ (ap (λ y. y ++ f x ∷ []) (reversed f l) ∙ sym (reverse-append (f x ∷ []) (map f l))))

    twice : {A B C : Type 0} (f : B → C) (g : A → B) (l : List A) → map f (map g l) ≡ map (λ x. f (g x)) l
    twice f g [] = refl
    twice f g (x ∷ l) = ap (λ y. f (g x) ∷ y) (twice f g l)

    helds-reversed : (l : List TrackedFrame) → helds_view l ≡ reverse (map held_view l)
    helds-reversed l = reversed (λ (k : plain.TrackedFrame). k.held) (map frame_view l) ∙ ap reverse (twice (λ (k : plain.TrackedFrame). k.held) frame_view l)

-- ---- threads

there : {A : Type 0} (xs : List A) (n : ℕ) (d : A) → n < length xs → unwrap_or (slice_get xs n) d ≡ get_or xs n d
there [] n d l = absurd (omega (arith, l))
there (x ∷ xs) zero d l = refl
there (x ∷ xs) (suc n) d l = there xs n d (omega (arith, l))

pub thread-goes : (p : PlainProgram) (cs : List Thread) (ts : List (Vec TrackedFrame)) (n : ℕ) (frames : List Frame) (t : Vec TrackedFrame) (text new whole : List ℕ) → n < length cs → n < length ts → thread_view p frames ≡ unwrap_or (slice_get cs n) [] → t ≡ get_or ts n t → new ≡ text ++ frames_text p n (thread_view p frames) (helds_view t.items) → text ++ thread_lines p n (zip (drop n cs) (all_helds_view (drop n ts))) ≡ whole → new ++ thread_lines p (n + 1) (zip (drop (n + 1) cs) (all_helds_view (drop (n + 1) ts))) ≡ whole
thread-goes p cs ts n frames t text new whole l m e g h i =
    let own = frames_text p n (thread_view p frames) (helds_view t.items) in
    let rest = thread_lines p (suc n) (zip (drop (suc n) cs) (all_helds_view (drop (suc n) ts))) in
    let c : drop n cs ≡ thread_view p frames ∷ drop (suc n) cs = drop-cons cs n [] l ∙ ap (λ x. x ∷ drop (suc n) cs) (sym (there cs n [] l) ∙ sym e) in
    let P : ℕ → Type 0 = λ x. new ++ thread_lines p x (zip (drop x cs) (all_helds_view (drop x ts))) ≡ whole in
    subst P (sym (add-one n))
    (ap (λ z. z ++ rest) h
    ∙ (append_assoc text own rest
    ∙ (ap (λ xs. text ++ thread_lines p n (zip xs (all_helds_view (t ∷ drop (suc n) ts)))) (sym c)
    ∙ (ap (λ ys. text ++ thread_lines p n (zip (drop n cs) (all_helds_view ys))) (sym (at-place ts n t m g)) ∙ i))))

-- no thread of the track is left
pub track-ends : (p : PlainProgram) (cs : List Thread) (ts : List (Vec TrackedFrame)) (n : ℕ) (text whole : List ℕ) → length ts ≤ n → text ++ thread_lines p n (zip (drop n cs) (all_helds_view (drop n ts))) ≡ whole → text ≡ whole
track-ends p cs ts n text whole l i =
    sym (append-nil text)
    ∙ (ap (λ qs. text ++ thread_lines p n qs) (sym (zip-none (drop n cs)))
    ∙ (ap (λ ys. text ++ thread_lines p n (zip (drop n cs) (all_helds_view ys))) (sym (past ts n l)) ∙ i))

-- ---- the whole

pub account-written : (p : PlainProgram) (c : Configuration) (k : Track) (old mid new : List ℕ) → mid ≡ old ++ flat_map (λ r. region_line p r.owned) k.regions → new ≡ mid ++ thread_lines p 0 (zip c.threads (all_helds_view k.threads.items)) → new ≡ old ++ account_text p c (plain.account_of (track_view k))
unfolding account_text
account-written p c k old mid new h k2 =
    behind old mid new _ _ h k2 ∙ ap (λ t. old ++ t) (owned k.regions k.threads.items)
  where
    regions : (rs : List plain.TrackedRegion) → flat_map (λ r. region_line p r.owned) rs ≡ flat_map (region_line p) (map (λ r. r.owned) rs)
    regions [] = refl
    regions (r ∷ rs) = ap (λ t. region_line p r.owned ++ t) (regions rs)

    threads : (ts : List (Vec TrackedFrame)) → all_helds_view ts ≡ map (map (λ f. f.held)) (threads_view ts)
    threads [] = refl
    threads (t ∷ ts) = ap (λ l. helds_view t.items ∷ l) (threads ts)

    owned : (rs : List plain.TrackedRegion) (ts : List (Vec TrackedFrame)) → flat_map (λ r. region_line p r.owned) rs ++ thread_lines p 0 (zip c.threads (all_helds_view ts)) ≡ flat_map (region_line p) (map (λ r. r.owned) rs) ++ thread_lines p 0 (zip c.threads (map (map (λ f. f.held)) (threads_view ts)))
    owned rs ts = ap (λ t. t ++ thread_lines p 0 (zip c.threads (all_helds_view ts))) (regions rs) ∙ ap (λ hs. flat_map (region_line p) (map (λ r. r.owned) rs) ++ thread_lines p 0 (zip c.threads hs)) (threads ts)
