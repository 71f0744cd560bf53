-- The parts of a move, one after the other: those that wait are put off.
use Rattle.std.proofs.Common.{◌≡◌, ℕ, suc, ◌+◌, ◌<◌, ◌≤◌, Bool, true, false, List, [], ◌∷◌, ◌++◌, drop, length, get_or, add-one, sym, ap, subst, ◌∙◌}
use Rattle.std.specs.Prelude.{if◌then◌else◌, Ok, Err}
use Rattle.std.proofs.lemmas.List.{drop_all, map-append}
use Rattle.cap_lin.specs.Linear.{Linear}
use Rattle.cap_lin.specs.declared.row.Row.{Row}
use Rattle.cap_prog.specs.Program.{PlainAction}
use Rattle.cap_goal_spec.specs.States.{PlainFact, PlainEnv, PlainState}
use Rattle.cap_rules.specs.Attempts.{Attempt, ◌>>=◌, go_on}
use Rattle.cap_rules.specs.Closing as closing
use Rattle.cap_rules.specs.Closing.{Matched, waits, match_part, match_ready, match_all}
use Rattle.cap_rules_steps.specs.Walks.{Claims}
use Rattle.cap_rules_steps.specs.declared.error.RuleError.{RuleError}
use Rattle.cap_rules_steps.proofs.Listing.{LeadsClaims}
use Rattle.cap_rules_steps.proofs.Walking.{split-at, claims_then, claims_fail, weaker, done}
use Rattle.cap_open_moves_parts.specs.declared.parts.MovePart.{MovePart}
use Rattle.cap_open_moves_parts.specs.Views.{part_view, parts_view}

abbrev Lists : Type 0
Lists = List (List Row)

-- ---- all parts

abbrev pub all_seen :
    PlainState → PlainFact → Linear → PlainAction → PlainEnv → List MovePart → Attempt PlainEnv
all_seen s f new a env xs = match_all s f new a env (parts_view xs)

abbrev pub one_seen :
    PlainState → PlainFact → Linear → PlainAction → PlainEnv → MovePart → Attempt PlainEnv
one_seen s f new a env x = match_part s f new a env (part_view x)

abbrev after-one : PlainState → PlainFact → Linear → PlainAction → List MovePart → PlainEnv → Attempt PlainEnv
after-one s f new a xs env = all_seen s f new a env xs

all-more : (s : PlainState) (f : PlainFact) (new : Linear) (a : PlainAction) (env : PlainEnv) (xs : List MovePart) (i : ℕ) (x : MovePart) → i < length xs → x ≡ get_or xs i x → all_seen s f new a env (drop i xs) ≡ go_on (one_seen s f new a env x).events (one_seen s f new a env x).value (after-one s f new a (drop (suc i) xs))
all-more s f new a env xs i x h e = ap (all_seen s f new a env) (split-at xs i x h e)

pub all-next : (s : PlainState) (f : PlainFact) (new : Linear) (a : PlainAction) (env env' : PlainEnv) (xs : List MovePart) (i : ℕ) (x : MovePart) (before middle next : Lists) (whole : Attempt PlainEnv) → i < length xs → x ≡ get_or xs i x → Claims (Ok env') middle next (one_seen s f new a env x) → LeadsClaims before middle (all_seen s f new a env (drop i xs)) whole → LeadsClaims before next (all_seen s f new a env' (drop (i + 1) xs)) whole
all-next s f new a env env' xs i x before middle next whole h e m l =
    rw add-one (record { leads = λ r after k. l.leads r after (subst (Claims r middle after) (sym (all-more s f new a env xs i x h e)) (claims_then r (one_seen s f new a env x) (after-one s f new a (drop (suc i) xs)) env' middle next after m k)) })

pub all-fails : (s : PlainState) (f : PlainFact) (new : Linear) (a : PlainAction) (env : PlainEnv) (xs : List MovePart) (i : ℕ) (x : MovePart) (before middle next : Lists) (whole : Attempt PlainEnv) (u : RuleError) → i < length xs → x ≡ get_or xs i x → Claims (Err u) middle next (one_seen s f new a env x) → LeadsClaims before middle (all_seen s f new a env (drop i xs)) whole → Claims (Err u) before next whole
all-fails s f new a env xs i x before middle next whole u h e m l =
    l.leads (Err u) next (subst (Claims (Err u) middle next) (sym (all-more s f new a env xs i x h e)) (claims_fail u (one_seen s f new a env x) (after-one s f new a (drop (suc i) xs)) middle next m))

pub all-end : (s : PlainState) (f : PlainFact) (new : Linear) (a : PlainAction) (env : PlainEnv) (xs : List MovePart) (i : ℕ) (before middle : Lists) (whole : Attempt PlainEnv) → length xs ≤ i → LeadsClaims before middle (all_seen s f new a env (drop i xs)) whole → Claims (Ok env) before middle whole
all-end s f new a env xs i before middle whole h l =
    l.leads (Ok env) middle (rw (drop_all i xs h) (weaker _ _ middle (done env)))

-- ---- those that don't wait

abbrev pub ready_seen :
    PlainState → PlainFact → Linear → PlainAction → PlainEnv → List closing.MovePart →
    List MovePart → Attempt Matched
ready_seen s f new a env waiting xs = match_ready s f new a env waiting (parts_view xs)

abbrev after-part :
    PlainState → PlainFact → Linear → PlainAction → List closing.MovePart → List MovePart →
    PlainEnv → Attempt Matched
after-part s f new a waiting xs env = ready_seen s f new a env waiting xs

ready-more : (s : PlainState) (f : PlainFact) (new : Linear) (a : PlainAction) (env : PlainEnv) (waiting : List closing.MovePart) (xs : List MovePart) (i : ℕ) (x : MovePart) (b : Bool) → i < length xs → x ≡ get_or xs i x → b ≡ waits env a (part_view x) → ready_seen s f new a env waiting (drop i xs) ≡ (if b then ready_seen s f new a env (waiting ++ part_view x ∷ []) (drop (suc i) xs) else (match_part s f new a env (part_view x) >>= λ env'. ready_seen s f new a env' waiting (drop (suc i) xs)))
ready-more s f new a env waiting xs i x b h e w =
    ap (ready_seen s f new a env waiting) (split-at xs i x h e) ∙ ap (λ d. if d then ready_seen s f new a env (waiting ++ part_view x ∷ []) (drop (suc i) xs) else (match_part s f new a env (part_view x) >>= λ env'. ready_seen s f new a env' waiting (drop (suc i) xs))) (sym w)

pub part-waits : (s : PlainState) (f : PlainFact) (new : Linear) (a : PlainAction) (env : PlainEnv) (waiting more : List closing.MovePart) (xs : List MovePart) (i : ℕ) (x : MovePart) (b : Bool) (before middle : Lists) (whole : Attempt Matched) → i < length xs → x ≡ get_or xs i x → b ≡ waits env a (part_view x) → b ≡ true → more ≡ waiting ++ part_view x ∷ [] → LeadsClaims before middle (ready_seen s f new a env waiting (drop i xs)) whole → LeadsClaims before middle (ready_seen s f new a env more (drop (i + 1) xs)) whole
part-waits s f new a env waiting more xs i x true before middle whole h e w t q l =
    rw (add-one, q) (record { leads = λ r after k. l.leads r after (subst (Claims r middle after) (sym (ready-more s f new a env waiting xs i x true h e w)) k) })
part-waits s f new a env waiting more xs i x false before middle whole h e w t q l = cc

pub part-matched : (s : PlainState) (f : PlainFact) (new : Linear) (a : PlainAction) (env env' : PlainEnv) (waiting : List closing.MovePart) (xs : List MovePart) (i : ℕ) (x : MovePart) (b : Bool) (before middle next : Lists) (whole : Attempt Matched) → i < length xs → x ≡ get_or xs i x → b ≡ waits env a (part_view x) → b ≡ false → Claims (Ok env') middle next (match_part s f new a env (part_view x)) → LeadsClaims before middle (ready_seen s f new a env waiting (drop i xs)) whole → LeadsClaims before next (ready_seen s f new a env' waiting (drop (i + 1) xs)) whole
part-matched s f new a env env' waiting xs i x true before middle next whole h e w t m l = cc
part-matched s f new a env env' waiting xs i x false before middle next whole h e w t m l =
    rw add-one (record { leads = λ r after k. l.leads r after (subst (Claims r middle after) (sym (ready-more s f new a env waiting xs i x false h e w)) (claims_then r (match_part s f new a env (part_view x)) (after-part s f new a waiting (drop (suc i) xs)) env' middle next after m k)) })

pub part-fails : (s : PlainState) (f : PlainFact) (new : Linear) (a : PlainAction) (env : PlainEnv) (waiting : List closing.MovePart) (xs : List MovePart) (i : ℕ) (x : MovePart) (b : Bool) (before middle next : Lists) (whole : Attempt Matched) (u : RuleError) → i < length xs → x ≡ get_or xs i x → b ≡ waits env a (part_view x) → b ≡ false → Claims (Err u) middle next (match_part s f new a env (part_view x)) → LeadsClaims before middle (ready_seen s f new a env waiting (drop i xs)) whole → Claims (Err u) before next whole
part-fails s f new a env waiting xs i x true before middle next whole u h e w t m l = cc
part-fails s f new a env waiting xs i x false before middle next whole u h e w t m l =
    l.leads (Err u) next (subst (Claims (Err u) middle next) (sym (ready-more s f new a env waiting xs i x false h e w)) (claims_fail u (match_part s f new a env (part_view x)) (after-part s f new a waiting (drop (suc i) xs)) middle next m))

pub parts-end : (s : PlainState) (f : PlainFact) (new : Linear) (a : PlainAction) (env : PlainEnv) (waiting : List closing.MovePart) (xs : List MovePart) (i : ℕ) (before middle : Lists) (whole : Attempt Matched) → length xs ≤ i → LeadsClaims before middle (ready_seen s f new a env waiting (drop i xs)) whole → Claims (Ok (record { env = env; waiting = waiting })) before middle whole
parts-end s f new a env waiting xs i before middle whole h l =
    l.leads _ middle (rw (drop_all i xs h) (weaker _ _ middle (done (record { env = env; waiting = waiting }))))

-- a part more
pub one-part : (waiting more : List MovePart) (x : MovePart) → more ≡ waiting ++ x ∷ [] → parts_view more ≡ parts_view waiting ++ part_view x ∷ []
one-part waiting more x e = ap parts_view e ∙ map-append part_view waiting (x ∷ [])
