-- Candidates are rows of whole numbers, over what the fact is over and its later state.
use Rattle.std.proofs.Common.{◌≡◌, ℕ, ◌+◌, List, [], ◌∷◌, ◌++◌, length, Some, Bool, true, false, refl, sym, subst}
use Rattle.std.specs.Prelude.{slice_get, nat_le, flat_map, ◌&&◌, if◌then◌else◌}
use Rattle.std.specs.List.{AllByRecursion, list_any}
use Rattle.cap_lin.specs.Linear.{Linear}
use Rattle.cap_lin.specs.Steps.{Step}
use Rattle.cap_lin.specs.declared.row.Row.{Row}
use Rattle.cap_lin.specs.declared.row.Sort.{Sort}
use Rattle.cap_lin.specs.declared.row.Sort.TheVariants.{Int}
use Rattle.cap_lin.specs.declared.row.Op.TheVariants.{Eq as Equal, Le as AtMost}
use Rattle.cap_gsolve.specs.declared.piece.Form.{Form}
use Rattle.cap_gsolve.specs.declared.piece.Form.TheVariants.{One, Share, Src, Tok, Span}
use Rattle.cap_gsolve.specs.declared.piece.Piece.{Piece}
use Rattle.cap_gsolve.specs.Pieces.{of_guards}
use Rattle.cap_prog.specs.Program.{PlainRegionType}
use Rattle.cap_goal_spec.specs.States.{PlainFact, PlainState}
use Rattle.cap_goal_spec.specs.Environments.{region_env, term_in, term_in_steps}
use Rattle.cap_goal_spec.specs.Candidates.{MadeRow, bounds, is_over_params, bounds_by, action_bounds, form_bounds, piece_bounds, all_candidates, is_made, repeats, without_repeats, later_state, candidates}
use Rattle.cap_rules.specs.Attempts.{Attempt, unit, ◌>>=◌, computed, found}
use Rattle.cap_rules.specs.Resting.{named_candidates}
use Rattle.cap_account_states.specs.Nodes.{Comes}
use Rattle.cap_account_resources.proofs.Lists.{get-first, get-last, all-more, all-both, all-at}
use Rattle.cap_account_states.proofs.Terms.{Over, vars-more, RowOver, row-over}
use Rattle.cap_account_states.proofs.Attempts.{comes-bind, after-found, after-need, after-computed}
use Rattle.cap_account_states.proofs.Meets.{Free, Usable}
use Rattle.cap_account_states.proofs.Environments.{in-env-over, region-env-over}
use Rattle.cap_account_states.proofs.Guarding.{FormOver}
use Rattle.cap_account_states.proofs.Adding.{PieceOver}
use Rattle.cap_account_steps.proofs.Settling.{IsCandidate}

-- ---- lists

all-chosen :
    {X : Type 0} (P : X → Type 0) (b : Bool) (xs ys : List X) → AllByRecursion P xs →
    AllByRecursion P ys → AllByRecursion P (if b then xs else ys)
all-chosen P true xs ys h k = h
all-chosen P false xs ys h k = k

all-flat :
    {X Y : Type 0} (P : Y → Type 0) (g : X → List Y) → ((x : X) → AllByRecursion P (g x)) →
    (xs : List X) → AllByRecursion P (flat_map g xs)
all-flat P g h [] = tt
all-flat P g h (x ∷ xs) = all-both P (g x) (flat_map g xs) (h x) (all-flat P g h xs)

-- ---- all candidates

-- a row of whole numbers, over such variables
abbrev IntOver : (ℕ → Type 0) → Row → Type 0
IntOver R r = (r.sort ≡ Int) × Over R r.term

abbrev MadeOver : (ℕ → Type 0) → MadeRow → Type 0
MadeOver R m = IntOver R m.row

few-over :
    (R : ℕ → Type 0) (seen ms : List MadeRow) → AllByRecursion (MadeOver R) ms →
    AllByRecursion (MadeOver R) (without_repeats seen ms)
few-over R seen [] h = tt
few-over R seen (m ∷ ms) h =
    all-chosen (MadeOver R) (is_made m && list_any (repeats m) seen) (without_repeats seen ms)
    (m ∷ without_repeats (m ∷ seen) ms) (few-over R seen ms h.1)
    (h.0, few-over R (m ∷ seen) ms h.1)

-- the start of a span
abbrev StartOver : (ℕ → Type 0) → Form → Type 0
StartOver R (Span t e) = Over R t
StartOver R f = Unit {0}

module _ (R : ℕ → Type 0) (k : PlainRegionType) (f : PlainFact) (u : Linear)
    (region : Over R f.region) (args : AllByRecursion (Over R) f.args) (later : Over R u) where
  bounds-over : (steps : List Step) (e : Linear) → Over R e →
      AllByRecursion (MadeOver R) (bounds u steps e)
  bounds-over steps e h = (
    (refl, row-over (λ o. R) e AtMost u Int h later),
    ((refl, row-over (λ o. R) u AtMost e Int later h), tt),
  )

  -- a term of the region type, where it has no other name than the region and its arguments
  typed-over : (t : Linear) → AllByRecursion (MadeOver R) (bounds_by k f u t)
  typed-over t =
      let env = region_env f [] in
      let steps = term_in_steps env t in
      all-chosen (MadeOver R) (is_over_params k t) (bounds u steps (term_in env t)) []
      (bounds-over steps (term_in env t)
      (in-env-over R env (region-env-over R f [] region args tt) t)) tt

  all-over : Over R f.state → AllByRecursion (MadeOver R) (all_candidates k f u)
  all-over h =
      let P = MadeOver R in
      let cases = flat_map (λ c. bounds_by k f u c.state) k.cases in
      let actions = flat_map (action_bounds k f u) k.actions in (
        (refl, row-over (λ o. R) u Equal f.state Int later h),
        all-both P (bounds u [] f.state) (cases ++ actions) (bounds-over [] f.state h)
            (all-both P cases actions
            (all-flat P (λ c. bounds_by k f u c.state) (λ c. typed-over c.state) k.cases)
            (all-flat P (action_bounds k f u)
            (λ a. all-both P (bounds_by k f u a.source) (bounds_by k f u a.target)
            (typed-over a.source) (typed-over a.target)) k.actions)),
      )

  -- bounds by the spans of the region's guards
  form-over : (g : Form) → StartOver R g → AllByRecursion (MadeOver R) (form_bounds u g)
  form-over (Span t e) h = bounds-over [] t h
  form-over One h = tt
  form-over (Share t) h = tt
  form-over (Src t) h = tt
  form-over (Tok t) h = tt

  spans-over :
      (qs : List Piece) → AllByRecursion (λ q. StartOver R q.form) qs →
      AllByRecursion (MadeOver R) (flat_map (piece_bounds f u) qs)
  spans-over [] h = tt
  spans-over (q ∷ qs) h =
      all-both (MadeOver R) (piece_bounds f u q) (flat_map (piece_bounds f u) qs)
      (all-chosen (MadeOver R) (of_guards f.region f.kind q) (form_bounds u q.form) []
      (form-over q.form h.0) tt) (spans-over qs h.1)

-- ---- those that are named

named-over :
    (R : ℕ → Type 0) (all : List MadeRow) → AllByRecursion (MadeOver R) all → (low : ℕ)
    (list : List ℕ) (P : List Row → Type 0) → Comes (named_candidates low all list) P →
    (rows : List Row) × AllByRecursion (IntOver R) rows × P rows
named-over R all h low [] P c = ([], tt, c.1)
named-over R all h low (i ∷ list) P c =
    let last = λ (r : Row) (rs : List Row). unit (r ∷ rs) in
    let third : Row → Attempt (List Row) =
    λ r. named_candidates (i + 1) all list >>= last r in
    let second : MadeRow → Attempt (List Row) = λ m. computed m.row m.steps >>= third in
    let first : Unit {0} → Attempt (List Row) = λ x. found (slice_get all i) >>= second in
    let k1 = after-need (nat_le low i) first P c in
    let k2 = after-found (slice_get all i) second P k1.1 in
    let m = k2.0 in
    let k3 = after-computed m.row m.steps third P k2.2 in
    let k4 = named-over R all h (i + 1) list (λ rs. Comes (last m.row rs) P)
    (comes-bind (named_candidates (i + 1) all list) (last m.row) P k3) in
    (m.row ∷ k4.0, (all-at (MadeOver R) all i m h k2.1, k4.1), k4.2.1)

start-over :
    (S : Sort → ℕ → Type 0) (R : ℕ → Type 0) → ((t : Linear) → Over (S Int) t → Over R t) →
    (g : Form) → FormOver S g → StartOver R g
start-over S R more (Span t e) h = more t h.0
start-over S R more One h = tt
start-over S R more (Share t) h = tt
start-over S R more (Src t) h = tt
start-over S R more (Tok t) h = tt

-- the named candidates of a fact in a state
pub record Named (ks : List ℕ) (s : PlainState) (P : List Row → Type 0) : Type 0 where
  pub rows : List Row
  pub are : AllByRecursion (IsCandidate s) rows
  pub over : AllByRecursion (RowOver (Usable ks (s.sorts ++ Int ∷ []))) rows
  pub comes : P rows

pub named-candidates :
    (ks : List ℕ) (k : PlainRegionType) (s : PlainState) (f : PlainFact) (low : ℕ) (list : List ℕ)
    (P : List Row → Type 0) → Free ks (length s.sorts) →
    Over (Usable ks s.sorts Int) f.region → AllByRecursion (Over (Usable ks s.sorts Int)) f.args →
    Over (Usable ks s.sorts Int) f.state → AllByRecursion (PieceOver (Usable ks s.sorts)) s.guards →
    Comes (named_candidates low (candidates k s f) list) P → Named ks s P
named-candidates ks k s f low list P free region args state pieces c =
    let sorts = s.sorts ++ Int ∷ [] in
    let R = Usable ks sorts Int in
    let K = λ (x : ℕ). slice_get sorts x ≡ Some Int in
    let more : (t : Linear) → Over (Usable ks s.sorts Int) t → Over R t =
    λ t. vars-more (Usable ks s.sorts Int) R
    (λ x h. (get-first s.sorts (Int ∷ []) x Int h.0, h.1)) t.parts in
    let all = all-over R k f (later_state s) (more f.region region)
    (all-more (Over (Usable ks s.sorts Int)) (Over R) more f.args args)
    ((get-last s.sorts Int, free), tt) (more f.state state) in
    let u = later_state s in
    let starts = all-more (PieceOver (Usable ks s.sorts)) (λ (q : Piece). StartOver R q.form)
    (λ q h. start-over (Usable ks s.sorts) R more q.form h.1) s.guards pieces in
    let spans = spans-over R k f u (more f.region region)
    (all-more (Over (Usable ks s.sorts Int)) (Over R) more f.args args)
    ((get-last s.sorts Int, free), tt) s.guards starts in
    let n = named-over R (candidates k s f)
    (few-over R [] (all_candidates k f u ++ flat_map (piece_bounds f u) s.guards)
    (all-both (MadeOver R) (all_candidates k f u) (flat_map (piece_bounds f u) s.guards) all spans))
    low list P c in
    record {
      rows = n.0;
      are =
          all-more (IntOver R) (IsCandidate s)
          (λ r h. (h.0, vars-more R K (λ x u. u.0) r.term.parts h.1)) n.0 n.1;
      over =
          all-more (IntOver R) (RowOver (Usable ks sorts))
          (λ r h. subst (λ o. Over (Usable ks sorts o) r.term) (sym h.0) h.1) n.0 n.1;
      comes = n.2;
    }
