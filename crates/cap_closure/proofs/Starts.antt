-- The candidates that hold at present, told by what is seen of them; and the rounds.
use Rattle.std.proofs.Common.{◌≡◌, ◌≢◌, ℕ, zero, suc, arith, append_assoc, ◌+◌, ◌<◌, length, get_or, drop-cons, Bool, true, false, List, [], ◌∷◌, ◌++◌, map, drop, Option, refl, sym, ap, ◌∙◌, add-one}
use Rattle.std.specs.Global.{Vec}
use Rattle.std.proofs.lemmas.List.{length-map, map-append}
use Rattle.std.proofs.lemmas.Bool.Decides.{nat_tests}
use Rattle.cap_stab_states.specs.Finding.{candidates_seen}
use Rattle.cap_closure.specs.declared.starting.Listed as code
use Rattle.cap_closure.specs.Views.{listed_of, list_view}
use Rattle.std.specs.Prelude.{◌==◌, option_to_list, Result, Ok, Err, IfOk}
use Rattle.std.specs.declared.alloc.AllocError.{AllocError}
use Rattle.cap_lin.specs.declared.row.Row.{Row}
use Rattle.cap_goal_spec.specs.States.{PlainFact, PlainState}
use Rattle.cap_goal_spec.specs.Candidates.{MadeRow, candidates, PlainCandidate, known, past, candidate_of}
use Rattle.cap_rules.specs.Resting.{prove_at}
use Rattle.cap_offer_spec.specs.Deciding.{PlainNotes, Outcome, Noted, succeeds}
use Rattle.cap_prog.specs.declared.region.Action.{Action}
use Rattle.cap_prog.specs.Program.{PlainAction, PlainRegionType}
use Rattle.cap_prog.specs.Views.{action_view}
use Rattle.cap_offer_spec.specs.Claims.{keeps_after}
use Rattle.cap_offer_spec.specs.Closures.{Listed, listed, kept_if, started_by, rows_of, numbers_of, started, and_also, survives, surviving, unless_all, rounds, closed_list}
use Rattle.cap_closure_decide.specs.Noting.{Adds}
use Rattle.cap_closure.specs.Tested.{listed_if, started_one, started_from}

-- ---- what is decided and noted in the same way

pub adds-as : {T A : Type 0} (view : T → A) (r : Result T AllocError) (n m : PlainNotes) (p q : Noted A) → p n ≡ q n → IfOk r (λ x. Adds n m (view x) p) → IfOk r (λ x. Adds n m (view x) q)
adds-as view (Ok x) n m p q e h = (h.0 ∙ ap (λ (o : Outcome _). o.value) e, h.1 ∙ ap (λ (o : Outcome _). o.notes) e)
adds-as view (Err a) n m p q e h = tt

-- ---- the first list

abbrev with_first : Option Listed → Outcome (List Listed) → Outcome (List Listed)
with_first x o = record { value = option_to_list x ++ o.value; notes = o.notes }

kept-listed : (b : Bool) (i : ℕ) (r : Row) (xs : List Listed) → option_to_list (listed_if b i r) ++ xs ≡ kept_if b (listed i r) xs
kept-listed true i r xs = refl
kept-listed false i r xs = refl

one-started : (s : PlainState) (f : PlainFact) (i : ℕ) (c : PlainCandidate) (rest more : Noted (List Listed)) (n : PlainNotes) → ((n : PlainNotes) → more n ≡ rest n) → with_first (started_one s f i c n).value (more (started_one s f i c n).notes) ≡ started_by s f i c rest n
one-started s f i (known r) rest more n h =
    let o = succeeds (prove_at s s.rows f.state (r ∷ [])) n in
    ap (λ xs. with_first (listed_if o.value i r) xs) (h o.notes) ∙ ap (λ xs. record { value = xs; notes = (rest o.notes).notes }) (kept-listed o.value i r (rest o.notes).value)
one-started s f i (past a b) rest more n h = h _

pub started-seen : (s : PlainState) (f : PlainFact) (i : ℕ) (ms : List MadeRow) (n : PlainNotes) → started_from s f i (map candidate_of ms) n ≡ started s f i ms n
unfolding started_from started
started-seen s f i [] n = refl
started-seen s f i (m ∷ ms) n =
    one-started s f i (candidate_of m) (started s f (suc i) ms) (started_from s f (i + 1) (map candidate_of ms)) n
    (λ u. ap (λ j. started_from s f j (map candidate_of ms) u) (add-one i) ∙ started-seen s f (suc i) ms u)

pub drop-seen : (ms : List MadeRow) → drop 1 (map candidate_of ms) ≡ map candidate_of (drop 1 ms)
drop-seen [] = refl
drop-seen (m ∷ ms) = refl

-- ---- the rounds

abbrev Same : Outcome Bool → Outcome Bool → Type 0
Same o p = (o.value ≡ p.value) × (o.notes ≡ p.notes)

next-one : {X : Type 0} (xs : List X) (i : ℕ) (x : X) → i < length xs → x ≡ get_or xs i x → drop i xs ≡ x ∷ drop (i + 1) xs
next-one xs i x h e = drop-cons xs i x h ∙ (ap (λ y. y ∷ drop (suc i) xs) (sym e) ∙ ap (λ j. x ∷ drop j xs) (sym (add-one i)))

survives-one : (k : PlainRegionType) (s : PlainState) (f : PlainFact) (rows : List Row) (r : Row) (a : PlainAction) (more : List PlainAction) (n : PlainNotes) → survives k s f rows r (a ∷ more) n ≡ and_also (succeeds (keeps_after k s f rows a (r ∷ [])) n).value (survives k s f rows r more) (succeeds (keeps_after k s f rows a (r ∷ [])) n).notes
unfolding survives
survives-one k s f rows r a more n = refl

survives-at : (k : PlainRegionType) (s : PlainState) (f : PlainFact) (rows : List Row) (r : Row) (xs : List Action) (i : ℕ) (x : Action) (n m : PlainNotes) (b : Bool) → i < length xs → x ≡ get_or xs i x → Adds n m b (succeeds (keeps_after k s f rows (action_view x) (r ∷ []))) → survives k s f rows r (map action_view (drop i xs)) n ≡ and_also b (survives k s f rows r (map action_view (drop (i + 1) xs))) m
survives-at k s f rows r xs i x n m b h e d =
    let more = map action_view (drop (i + 1) xs) in
    ap (λ l. survives k s f rows r (map action_view l) n) (next-one xs i x h e)
    ∙ (survives-one k s f rows r (action_view x) more n
    ∙ (ap (λ c. and_also c (survives k s f rows r more) (succeeds (keeps_after k s f rows (action_view x) (r ∷ [])) n).notes) (sym d.0)
    ∙ ap (λ u. and_also b (survives k s f rows r more) u) (sym d.1)))

pub survives-goes : (k : PlainRegionType) (s : PlainState) (f : PlainFact) (rows : List Row) (r : Row) (xs : List Action) (i : ℕ) (x : Action) (n m : PlainNotes) (b : Bool) (whole : Outcome Bool) → i < length xs → x ≡ get_or xs i x → Adds n m b (succeeds (keeps_after k s f rows (action_view x) (r ∷ []))) → b ≡ true → Same whole (survives k s f rows r (map action_view (drop i xs)) n) → Same whole (survives k s f rows r (map action_view (drop (i + 1) xs)) m)
survives-goes k s f rows r xs i x n m b whole h e d t w =
    let q = survives-at k s f rows r xs i x n m b h e d ∙ ap (λ c. and_also c (survives k s f rows r (map action_view (drop (i + 1) xs))) m) t in
    (w.0 ∙ ap (λ (o : Outcome Bool). o.value) q, w.1 ∙ ap (λ (o : Outcome Bool). o.notes) q)

pub survives-stops : (k : PlainRegionType) (s : PlainState) (f : PlainFact) (rows : List Row) (r : Row) (xs : List Action) (i : ℕ) (x : Action) (n m : PlainNotes) (b : Bool) (whole : Outcome Bool) → i < length xs → x ≡ get_or xs i x → Adds n m b (succeeds (keeps_after k s f rows (action_view x) (r ∷ []))) → b ≡ false → Same whole (survives k s f rows r (map action_view (drop i xs)) n) → (false ≡ whole.value) × (m ≡ whole.notes)
survives-stops k s f rows r xs i x n m b whole h e d t w =
    let q = survives-at k s f rows r xs i x n m b h e d ∙ ap (λ c. and_also c (survives k s f rows r (map action_view (drop (i + 1) xs))) m) t in
    (sym (w.0 ∙ ap (λ (o : Outcome Bool). o.value) q), sym (w.1 ∙ ap (λ (o : Outcome Bool). o.notes) q))

abbrev SameList : Outcome (List Listed) → Outcome (List Listed) → Type 0
SameList o p = (o.value ≡ p.value) × (o.notes ≡ p.notes)

rounds-suc : (k : PlainRegionType) (s : PlainState) (f : PlainFact) (more : ℕ) (xs ys : List Listed) (n m : PlainNotes) → Adds n m ys (surviving k s f (rows_of xs) xs) → rounds k s f (suc more) xs n ≡ unless_all (length ys == length xs) ys (rounds k s f more ys) m
unfolding rounds
rounds-suc k s f more xs ys n m d =
    ap (λ zs. unless_all (length zs == length xs) zs (rounds k s f more zs) (surviving k s f (rows_of xs) xs n).notes) (sym d.0)
    ∙ ap (λ u. unless_all (length ys == length xs) ys (rounds k s f more ys) u) (sym d.1)

rounds-none : (k : PlainRegionType) (s : PlainState) (f : PlainFact) (xs : List Listed) (n : PlainNotes) → rounds k s f zero xs n ≡ record { value = xs; notes = n }
unfolding rounds
rounds-none k s f xs n = refl

seen-length : (xs : List code.Listed) → length (list_view xs) ≡ length xs
seen-length xs = length-map xs listed_of

equal-test : (m n : ℕ) → m ≡ n → (m == n) ≡ true
equal-test m n e = grind (arith, nat_tests)

other-test : (m n : ℕ) → m ≢ n → (m == n) ≡ false
other-test m n e = grind (arith, nat_tests)

pub rounds-stop : (k : PlainRegionType) (s : PlainState) (f : PlainFact) (left more : ℕ) (a b : List code.Listed) (n m : PlainNotes) (whole : Outcome (List Listed)) → left ≡ suc more → length b ≡ length a → Adds n m (list_view b) (surviving k s f (rows_of (list_view a)) (list_view a)) → SameList whole (rounds k s f left (list_view a) n) → (list_view b ≡ whole.value) × (m ≡ whole.notes)
rounds-stop k s f left more a b n m whole l e d w =
    let t = equal-test (length (list_view b)) (length (list_view a)) (seen-length b ∙ (e ∙ sym (seen-length a))) in
    let q = ap (λ c. rounds k s f c (list_view a) n) l ∙ (rounds-suc k s f more (list_view a) (list_view b) n m d ∙ ap (λ c. unless_all c (list_view b) (rounds k s f more (list_view b)) m) t) in
    (sym (w.0 ∙ ap (λ (o : Outcome (List Listed)). o.value) q), sym (w.1 ∙ ap (λ (o : Outcome (List Listed)). o.notes) q))

pub rounds-go : (k : PlainRegionType) (s : PlainState) (f : PlainFact) (left more : ℕ) (a b : List code.Listed) (n m : PlainNotes) (whole : Outcome (List Listed)) → left ≡ suc more → length b ≢ length a → Adds n m (list_view b) (surviving k s f (rows_of (list_view a)) (list_view a)) → SameList whole (rounds k s f left (list_view a) n) → SameList whole (rounds k s f more (list_view b) m)
rounds-go k s f left more a b n m whole l e d w =
    let t = other-test (length (list_view b)) (length (list_view a)) (λ x. e (sym (seen-length b) ∙ (x ∙ seen-length a))) in
    let q = ap (λ c. rounds k s f c (list_view a) n) l ∙ (rounds-suc k s f more (list_view a) (list_view b) n m d ∙ ap (λ c. unless_all c (list_view b) (rounds k s f more (list_view b)) m) t) in
    (w.0 ∙ ap (λ (o : Outcome (List Listed)). o.value) q, w.1 ∙ ap (λ (o : Outcome (List Listed)). o.notes) q)

pub rounds-over : (k : PlainRegionType) (s : PlainState) (f : PlainFact) (left : ℕ) (xs : List Listed) (n : PlainNotes) (whole : Outcome (List Listed)) → left ≡ 0 → SameList whole (rounds k s f left xs n) → (xs ≡ whole.value) × (n ≡ whole.notes)
rounds-over k s f left xs n whole l w =
    let q = ap (λ c. rounds k s f c xs n) l ∙ rounds-none k s f xs n in
    (sym (w.0 ∙ ap (λ (o : Outcome (List Listed)). o.value) q), sym (w.1 ∙ ap (λ (o : Outcome (List Listed)). o.notes) q))

-- ---- those that survive

surviving-one : (k : PlainRegionType) (s : PlainState) (f : PlainFact) (rows : List Row) (x : Listed) (xs : List Listed) (n m : PlainNotes) (b : Bool) → Adds n m b (survives k s f rows x.row k.actions) → surviving k s f rows (x ∷ xs) n ≡ record { value = kept_if b x (surviving k s f rows xs m).value; notes = (surviving k s f rows xs m).notes }
unfolding surviving
surviving-one k s f rows x xs n m b d =
    ap (λ c. record { value = kept_if c x (surviving k s f rows xs (survives k s f rows x.row k.actions n).notes).value; notes = (surviving k s f rows xs (survives k s f rows x.row k.actions n).notes).notes }) (sym d.0)
    ∙ ap (λ u. record { value = kept_if b x (surviving k s f rows xs u).value; notes = (surviving k s f rows xs u).notes }) (sym d.1)

pub surviving-keeps : (k : PlainRegionType) (s : PlainState) (f : PlainFact) (rows : List Row) (old new all more : List code.Listed) (x : code.Listed) (n m : PlainNotes) (b : Bool) (whole : Outcome (List Listed)) → all ≡ x ∷ more → new ≡ old ++ (x ∷ []) → Adds n m b (survives k s f rows x.row k.actions) → b ≡ true →
    (whole.value ≡ list_view old ++ (surviving k s f rows (list_view all) n).value) × (whole.notes ≡ (surviving k s f rows (list_view all) n).notes) → (whole.value ≡ list_view new ++ (surviving k s f rows (list_view more) m).value) × (whole.notes ≡ (surviving k s f rows (list_view more) m).notes)
surviving-keeps k s f rows old new all more x n m b whole e a d t w =
    let rest = surviving k s f rows (list_view more) m in
    let q = ap (λ l. surviving k s f rows (list_view l) n) e ∙ (surviving-one k s f rows (listed_of x) (list_view more) n m b d ∙ ap (λ c. record { value = kept_if c (listed_of x) rest.value; notes = rest.notes }) t) in (
      w.0 ∙ (ap (λ (o : Outcome (List Listed)). list_view old ++ o.value) q ∙ sym (ap (λ l. list_view l ++ rest.value) a ∙ (ap (λ l. l ++ rest.value) (map-append listed_of old (x ∷ [])) ∙ append_assoc (list_view old) (listed_of x ∷ []) rest.value))),
      w.1 ∙ ap (λ (o : Outcome (List Listed)). o.notes) q,
    )

-- ---- the whole list

closed-by : (k : PlainRegionType) (s : PlainState) (f : PlainFact) (xs : List Listed) (n u : PlainNotes) → Adds n u xs (started s f 1 (drop 1 (candidates k s f))) → closed_list k s f n ≡ record { value = numbers_of (rounds k s f (length xs) xs u).value; notes = (rounds k s f (length xs) xs u).notes }
unfolding closed_list
closed-by k s f xs n u d =
    ap (λ zs. record { value = numbers_of (rounds k s f (length zs) zs (started s f 1 (drop 1 (candidates k s f)) n).notes).value; notes = (rounds k s f (length zs) zs (started s f 1 (drop 1 (candidates k s f)) n).notes).notes }) (sym d.0)
    ∙ ap (λ v. record { value = numbers_of (rounds k s f (length xs) xs v).value; notes = (rounds k s f (length xs) xs v).notes }) (sym d.1)

started-adds : (k : PlainRegionType) (s : PlainState) (f : PlainFact) (cs : List PlainCandidate) (xs : List Listed) (n u : PlainNotes) → cs ≡ candidates_seen k s f → Adds n u xs (started_from s f 1 (drop 1 cs)) → Adds n u xs (started s f 1 (drop 1 (candidates k s f)))
unfolding candidates_seen
started-adds k s f cs xs n u e d =
    let q = ap (λ l. started_from s f 1 (drop 1 l) n) e ∙ (ap (λ l. started_from s f 1 l n) (drop-seen (candidates k s f)) ∙ started-seen s f 1 (drop 1 (candidates k s f)) n) in
    (d.0 ∙ ap (λ (o : Outcome (List Listed)). o.value) q, d.1 ∙ ap (λ (o : Outcome (List Listed)). o.notes) q)

pub closed-seen : (k : PlainRegionType) (s : PlainState) (f : PlainFact) (cs : List PlainCandidate) (begun : List code.Listed) (r : Result (Vec code.Listed) AllocError) (n u m : PlainNotes) → cs ≡ candidates_seen k s f → Adds n u (list_view begun) (started_from s f 1 (drop 1 cs)) → IfOk r (λ rest. Adds u m (list_view rest.items) (rounds k s f (length begun) (list_view begun))) → IfOk r (λ rest. Adds n m (numbers_of (list_view rest.items)) (closed_list k s f))
closed-seen k s f cs begun (Err a) n u m e d h = tt
closed-seen k s f cs begun (Ok rest) n u m e d h =
    let q = closed-by k s f (list_view begun) n u (started-adds k s f cs (list_view begun) n u e d) ∙ ap (λ c. record { value = numbers_of (rounds k s f c (list_view begun) u).value; notes = (rounds k s f c (list_view begun) u).notes }) (seen-length begun) in
    (ap numbers_of h.0 ∙ sym (ap (λ (o : Outcome (List ℕ)). o.value) q), h.1 ∙ sym (ap (λ (o : Outcome (List ℕ)). o.notes) q))
