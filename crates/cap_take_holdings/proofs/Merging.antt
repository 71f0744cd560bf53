-- A piece is composed with those that are there.
use Rattle.std.proofs.Common.{◌≡◌, ℕ, ◌<◌, List, [], ◌++◌, length, get_or, Option, Some, None, refl, sym, ap, subst, ◌∙◌}
use Rattle.std.specs.Prelude.{slice_get, slice_set, Result, Ok, Err}
use Rattle.cap_lin.specs.Exact.{Explains}
use Rattle.cap_lin.specs.Steps.{first_wide}
use Rattle.cap_lin.specs.declared.row.Row.{Row}
use Rattle.cap_gsolve.specs.declared.piece.Piece.{Piece}
use Rattle.cap_gsolve.specs.Merge.{place, merged, merge_rows, merge_steps}
use Rattle.cap_prog.specs.Program.{PlainRegionType, PlainProgram}
use Rattle.cap_rules_steps.specs.cap_goal_spec.States.{PlainState}
use Rattle.cap_rules_steps.specs.cap_rules.Attempts.{Attempt, Event, unit, ◌>>=◌, go_on, behind, found, computed}
use Rattle.cap_rules_steps.specs.cap_rules.Making.{with_piece, with_pieces, with_rows, guards_with}
use Rattle.cap_rules_steps.specs.Walks.{Makes}
use Rattle.cap_rules_steps.specs.declared.error.RuleError.{RuleError}
use Rattle.cap_rules_steps.proofs.Walking.{Goes, then_made, unmade, then_narrow, wide, then_value, no_value, done_as}
use Rattle.cap_rules_steps.specs.Errors.{rule_error}
use Rattle.cap_lin.specs.declared.error.LinError.{LinError}
use Rattle.std.proofs.lemmas.List.{append-nil, get_or-set_same}
use Rattle.cap_gsolve.specs.Pieces.{joins}
use Rattle.cap_gsolve.specs.Merge.{merged_at, form_at, combined}
use Rattle.cap_take_holdings.specs.Holdings.{with_merged}
use Rattle.cap_take_holdings.proofs.Places.{place-below}

-- one piece after the other
abbrev pub pieces-added : PlainProgram → PlainState → List Piece → Attempt PlainState
pieces-added p s qs = with_pieces p s qs

pub pieces_go : (p : PlainProgram) → Goes (with_pieces p) (with_piece p)
unfolding Goes
pieces_go p s q qs = refl

clash : {A : Type 0} {x : A} → None ≡ Some x → ⊥
clash e = cc

same : {A : Type 0} {x y : A} → Some x ≡ Some y → x ≡ y
same e = cc

-- an attempt whose value is changed, and what follows
rejoin : {A B C : Type 0} (r : Result C RuleError) (es : List Event) (v : Option A) (g : A → B) (f : B → Attempt C) (t : B) → Makes (Ok t) (go_on es v (λ x. unit (g x))) → Makes r (f t) → Makes r (go_on es v (λ x. f (g x)))
rejoin r es None g f t h k = absurd (clash (h.ends []).1)
rejoin r es (Some x) g f t h k =
    let m = then_value r (record { events = es ++ []; value = Some (g x) }) t (f t) (subst (λ y. Makes (Ok t) (record { events = es ++ []; value = y })) refl h) k in
    subst (λ y. Makes r (behind es (f y))) (sym (same (h.ends []).1)) (subst (λ l. Makes r (behind l (f t))) (append-nil es) m)

rejoin-fails : {A B C : Type 0} (e : RuleError) (es : List Event) (v : Option A) (g : A → B) (f : B → Attempt C) → Makes (Err e) (go_on es v (λ x. unit (g x))) → Makes (Err e) (go_on es v (λ x. f (g x)))
rejoin-fails e es None g f h = unmade e (record { events = es; value = None }) f h
rejoin-fails e es (Some x) g f h =
    subst (λ l. Makes (Err e) (behind l (f (g x)))) (append-nil es) (no_value e (record { events = es ++ []; value = Some (g x) }) (g x) (f (g x)) refl h)

-- ---- a piece is added, from part to part

abbrev after-merge : PlainState → List Row → List Piece → Attempt PlainState
after-merge s rows guards = with_rows (record s { guards = guards }) rows

abbrev after-region : PlainState → Piece → PlainRegionType → Attempt PlainState
after-region s q k = computed (merge_rows k.algebra s.guards q) (merge_steps k.algebra s.guards q) >>= λ rows. guards_with s.guards q (place s.guards q) >>= λ guards. after-merge s rows guards

pub piece-lacks : (p : PlainProgram) (s : PlainState) (q : Piece) (e : RuleError) → Makes (Err e) (found (slice_get p.regions q.kind)) → Makes (Err e) (with_piece p s q)
piece-lacks p s q e m = unmade e (found (slice_get p.regions q.kind)) (after-region s q) m

pub piece-wide : (p : PlainProgram) (s : PlainState) (q : Piece) (k : PlainRegionType) (e : LinError) → Makes (Ok k) (found (slice_get p.regions q.kind)) → Explains e (merge_steps k.algebra s.guards q) → Makes (Err (rule_error e)) (with_piece p s q)
piece-wide p s q k e m x =
    then_made (Err (rule_error e)) (found (slice_get p.regions q.kind)) (after-region s q) k m (wide e (merge_steps k.algebra s.guards q) _ x)

pub piece-unmerged : (p : PlainProgram) (s : PlainState) (q : Piece) (k : PlainRegionType) (e : RuleError) → Makes (Ok k) (found (slice_get p.regions q.kind)) → first_wide (merge_steps k.algebra s.guards q) ≡ None → Makes (Err e) (with_merged s q) → Makes (Err e) (with_piece p s q)
piece-unmerged p s q k e m n h =
    let o = guards_with s.guards q (place s.guards q) in
    then_made (Err e) (found (slice_get p.regions q.kind)) (after-region s q) k m (then_narrow (Err e) (merge_steps k.algebra s.guards q) _ n (rejoin-fails e o.events o.value (λ guards. record s { guards = guards }) (λ t. with_rows t (merge_rows k.algebra s.guards q)) h))

pub piece-added : (p : PlainProgram) (s t : PlainState) (q : Piece) (k : PlainRegionType) (r : Result PlainState RuleError) → Makes (Ok k) (found (slice_get p.regions q.kind)) → first_wide (merge_steps k.algebra s.guards q) ≡ None → Makes (Ok t) (with_merged s q) → Makes r (with_rows t (merge_rows k.algebra s.guards q)) → Makes r (with_piece p s q)
piece-added p s t q k r m n h c =
    let o = guards_with s.guards q (place s.guards q) in
    then_made r (found (slice_get p.regions q.kind)) (after-region s q) k m (then_narrow r (merge_steps k.algebra s.guards q) _ n (rejoin r o.events o.value (λ guards. record s { guards = guards }) (λ u. with_rows u (merge_rows k.algebra s.guards q)) t h c))

-- ---- a piece in the place of another

pub merged-there : (s t : PlainState) (q m : Piece) (ms : List Piece) (i : ℕ) → place s.guards q ≡ Some i → ms ≡ merged s.guards q → m ≡ get_or ms i m → t ≡ record s { guards = slice_set s.guards i m } → Makes (Ok t) (with_merged s q)
merged-there s t q m ms i e h k w =
    let new : Piece = record q { form = combined (form_at s.guards q i) q.form } in
    let all : ms ≡ slice_set s.guards i new = h ∙ ap (merged_at s.guards q) e in
    let below : i < length s.guards = place-below (λ x. joins x q) s.guards i e in
    let is : m ≡ new = k ∙ (ap (λ xs. get_or xs i m) all ∙ get_or-set_same s.guards i new m below) in
    let made : Makes (Ok t) (guards_with s.guards q (Some i) >>= λ guards. unit (record s { guards = guards })) = done_as t (record s { guards = slice_set s.guards i new }) (w ∙ ap (λ x. record s { guards = slice_set s.guards i x }) is) in
    subst (λ o. Makes (Ok t) (guards_with s.guards q o >>= λ guards. unit (record s { guards = guards }))) (sym e) made
