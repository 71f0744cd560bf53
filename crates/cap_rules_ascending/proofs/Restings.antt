-- A fact is settled.
use Rattle.std.proofs.Common.{ℕ, ◌+◌, ◌-◌, Bool, true, false, List, [], ◌∷◌, ◌++◌, flat_map, length, Option, Some, None, get_or}
use Rattle.std.specs.Prelude.{slice_get, slice_set, if◌then◌else◌, nat_le}
use Rattle.std.specs.List.{AllByRecursion, list_any}
use Rattle.cap_lin.specs.Linear.{Linear, minus, variable, replaced}
use Rattle.cap_lin.specs.Rows.{row_of}
use Rattle.cap_lin.specs.Steps.{replaced_steps}
use Rattle.cap_lin.specs.declared.row.Row.{Row}
use Rattle.cap_lin.specs.declared.row.Sort.TheVariants.{Int, Perm}
use Rattle.cap_lin.specs.declared.row.Op.TheVariants.{Eq as Equal, Ne as Unequal, Le as AtMost, Ge as AtLeast}
use Rattle.cap_galg.specs.Algebras.{PlainAlgebra}
use Rattle.cap_gsolve.specs.declared.piece.Form.{Form}
use Rattle.cap_gsolve.specs.declared.piece.Form.TheVariants as form
use Rattle.cap_gsolve.specs.declared.piece.Piece.{Piece}
use Rattle.cap_gsolve.specs.Pieces.{piece, is_single, of_guards}
use Rattle.cap_prog.specs.declared.assertion.Comp.{Comp}
use Rattle.cap_prog.specs.declared.assertion.Slot.{Slot}
use Rattle.cap_prog.specs.declared.assertion.Slot.TheVariants.{Any, Is}
use Rattle.cap_prog.specs.declared.assertion.Asked.{Asked}
use Rattle.cap_prog.specs.declared.assertion.Asked.TheVariants.{One, Share, Src, Tok, At, From}
use Rattle.cap_prog.specs.Program.{PlainCase, PlainAction, PlainRegionType}
use Rattle.cap_rules.specs.cap_goal_spec.Terms.{term_over, term_over_steps, variables_from}
use Rattle.cap_rules.specs.cap_goal_spec.States.{PlainFact, PlainState, with_state}
use Rattle.cap_rules.specs.cap_goal_spec.Environments.{zero_value, one_value, region_env}
use Rattle.cap_rules.specs.Attempts.{unit, ◌>>=◌, computed, found, need, comparison_row, prove, prove_that}
use Rattle.cap_rules.specs.Making.{sum, with_sort, with_rows}
use Rattle.cap_rules_ascending.specs.Ascending.{TermAscends, RowAscends, FormAscends, PieceAscends, FactAscends, StateAscends}
use Rattle.cap_rules_ascending.proofs.Lists.{IfSome, all-join, all-cons, all-get-or, all-set, all-flat, all-any}
use Rattle.cap_rules_ascending.proofs.Terms.{variable-ascends, plus-ascends, minus-ascends, over-ascends, replaced-ascends, row-ascends, in-ascends, variables-ascend, region-ascends}
use Rattle.cap_rules_ascending.proofs.Safe.{IsAny, Safe, chain, of-some, of-computed, of-get, need-safe, comparison-safe, prove-safe, prove-that-safe}
use Rattle.cap_rules_ascending.proofs.Makings.{sum-safe, rows-if, beside-ascend, with-sort-safe, with-rows-safe, facts-ascend, state-ascends}
use Rattle.std.specs.Prelude.{◌&&◌}
use Rattle.cap_gsolve.specs.Merge.{zero_term, one_term, there, beside}
use Rattle.cap_gsolve.specs.Compat.{wanted_alone, off_rows, wanted_beside, share_there, fits_rows, one_rows, wanted_rows, clashes_some, compat, compat_steps}
use Rattle.cap_rules.specs.cap_goal_spec.Candidates.{form_bounds, piece_bounds, MadeRow, bounds_by, action_bounds, all_candidates, without_repeats, is_made, repeats, later_state, candidates, is_over_params}
use Rattle.cap_rules.specs.Resting.{Names, names_below, ask_slot, ask, ask_all, first_names, action_names, value_over, rows_over, want_slot, want_form, want_all, joined_rows, system, named_candidates, prove_at, prove_closed, prove_stable, with_settled, settle, prove_same, prove_kept, keep}
use Rattle.cap_rules_ascending.proofs.Makings.{added-ascend, there-ascends}

-- ---- names of an action
record NamesAscend (w : Names) : Type 0 where
  terms : AllByRecursion TermAscends w.terms

below-ascend : (w : Names) (n : ℕ) → NamesAscend w → NamesAscend (names_below w n)
below-ascend w n h = record { terms = all-join TermAscends w.terms (variables_from w.next (n - length w.terms)) h.terms (variables-ascend w.next (n - length w.terms)) }

ask-slot-ascend : (w : Names) (x : Slot) → NamesAscend w → NamesAscend (ask_slot w x)
ask-slot-ascend w Any h = record { terms = h.terms }
ask-slot-ascend w (Is t) h = below-ascend w _ h

ask-ascend : (w : Names) (x : Asked) → NamesAscend w → NamesAscend (ask w x)
ask-ascend w One h = h
ask-ascend w (Share x) h = ask-slot-ascend w x h
ask-ascend w (Src x) h = ask-slot-ascend w x h
ask-ascend w (Tok x) h = ask-slot-ascend w x h
ask-ascend w (At x) h = ask-slot-ascend w x h
ask-ascend w (From x) h = ask-slot-ascend w x h

ask-all-ascend : (w : Names) (gs : List (ℕ × Asked)) → NamesAscend w → NamesAscend (ask_all w gs)
ask-all-ascend w [] h = h
ask-all-ascend w (g ∷ gs) h = ask-all-ascend (ask w g.1) gs (ask-ascend w g.1 h)

first-ascend : (s : PlainState) (f : PlainFact) → FactAscends f → NamesAscend (first_names s f)
first-ascend s f h = record { terms = (h.region, h.args) }

pub action-names-ascend : (k : PlainRegionType) (s : PlainState) (f : PlainFact) (a : PlainAction) → FactAscends f → AllByRecursion TermAscends (action_names k s f a)
action-names-ascend k s f a h = (below-ascend (ask_all (first_names s f) a.guards) (k.params + length a.names) (ask-all-ascend (first_names s f) a.guards (first-ascend s f h))).terms

-- ---- the system of an action
over-safe : (names : List Linear) (t : Linear) → AllByRecursion TermAscends names → Safe TermAscends (value_over names t)
over-safe names t h = of-computed TermAscends (term_over (λ x. get_or names x zero_value) t) (term_over_steps (λ x. get_or names x zero_value) t) (over-ascends (λ x. get_or names x zero_value) t (λ x. all-get-or TermAscends names x zero_value h tt))

rows-over-safe : (names : List Linear) (cs : List Comp) → AllByRecursion TermAscends names → Safe (AllByRecursion RowAscends) (rows_over names cs)
rows-over-safe names [] h = of-some (AllByRecursion RowAscends) [] tt
rows-over-safe names (c ∷ cs) h =
    chain (value_over names c.left) (λ l. value_over names c.right >>= λ r. comparison_row l c.op r c.sort >>= λ q. rows_over names cs >>= λ more. unit (q ∷ more)) (over-safe names c.left h)
    (λ l i. chain (value_over names c.right) (λ r. comparison_row l c.op r c.sort >>= λ q. rows_over names cs >>= λ more. unit (q ∷ more)) (over-safe names c.right h)
    (λ r j. chain (comparison_row l c.op r c.sort) (λ q. rows_over names cs >>= λ more. unit (q ∷ more)) (comparison-safe l c.op r c.sort i j)
    (λ q m. chain (rows_over names cs) (λ more. unit (q ∷ more)) (rows-over-safe names cs h) (λ more n. of-some (AllByRecursion RowAscends) (q ∷ more) (m, n)))))

want-slot-safe : (names : List Linear) (x : ℕ) (t : Slot) → AllByRecursion TermAscends names → Safe TermAscends (want_slot names x t)
want-slot-safe names x Any h = of-some TermAscends (variable x) (variable-ascends x)
want-slot-safe names x (Is t) h = over-safe names t h

want-form-safe : (names : List Linear) (x : ℕ) (a : Asked) → AllByRecursion TermAscends names → Safe FormAscends (want_form names x a)
want-form-safe names x One h = of-some FormAscends form.One tt
want-form-safe names x (Share t) h = chain (want_slot names x t) (λ a. unit (form.Share a)) (want-slot-safe names x t h) (λ a i. of-some FormAscends (form.Share a) i)
want-form-safe names x (Src t) h = chain (want_slot names x t) (λ a. unit (form.Src a)) (want-slot-safe names x t h) (λ a i. of-some FormAscends (form.Src a) i)
want-form-safe names x (Tok t) h = chain (want_slot names x t) (λ a. unit (form.Tok a)) (want-slot-safe names x t h) (λ a i. of-some FormAscends (form.Tok a) i)
want-form-safe names x (At t) h =
    chain (want_slot names x t) (λ i. sum i one_value >>= λ next. unit (form.Span i (Some next))) (want-slot-safe names x t h)
    (λ i j. chain (sum i one_value) (λ next. unit (form.Span i (Some next))) (sum-safe i one_value j tt) (λ next k. of-some FormAscends (form.Span i (Some next)) (j, k)))
want-form-safe names x (From t) h = chain (want_slot names x t) (λ i. unit (form.Span i None)) (want-slot-safe names x t h) (λ i j. of-some FormAscends (form.Span i None) (j, tt))

record WantAscends (w : ℕ × Form) : Type 0 where
  form : FormAscends w.1

want-all-safe : (names : List Linear) (w : Names) (gs : List (ℕ × Asked)) → AllByRecursion TermAscends names → Safe (AllByRecursion WantAscends) (want_all names w gs)
want-all-safe names w [] h = of-some (AllByRecursion WantAscends) [] tt
want-all-safe names w (g ∷ gs) h =
    chain (want_form names w.next g.1) (λ f. want_all names (ask w g.1) gs >>= λ more. unit ((g.0, f) ∷ more)) (want-form-safe names w.next g.1 h)
    (λ f i. chain (want_all names (ask w g.1) gs) (λ more. unit ((g.0, f) ∷ more)) (want-all-safe names (ask w g.1) gs h) (λ more j. of-some (AllByRecursion WantAscends) ((g.0, f) ∷ more) (record { form = i }, j)))

share-there-ascends : (o : Option Form) → IfSome FormAscends o → TermAscends (share_there o)
share-there-ascends None h = tt
share-there-ascends (Some form.One) h = tt
share-there-ascends (Some (form.Share a)) h = h
share-there-ascends (Some (form.Src n)) h = tt
share-there-ascends (Some (form.Tok k)) h = tt
share-there-ascends (Some (form.Span a e)) h = tt

fits-ascend : (o : Option Form) (f : Form) → IfSome FormAscends o → FormAscends f → AllByRecursion RowAscends (fits_rows o f)
fits-ascend o (form.Share e) h k = (row-ascends _ AtMost one_value Perm (plus-ascends e (share_there o) k (share-there-ascends o h)) tt, tt)
fits-ascend (Some (form.Tok m)) (form.Src n) h k = (row-ascends m AtMost n Int h k, tt)
fits-ascend (Some (form.Src m)) (form.Tok n) h k = (row-ascends n AtMost m Int k h, tt)
fits-ascend o f h k = tt

alone-ascend : (f : Form) → FormAscends f → AllByRecursion RowAscends (wanted_alone f)
alone-ascend form.One h = tt
alone-ascend (form.Share a) h = added-ascend (form.Share a) h
alone-ascend (form.Src n) h = added-ascend (form.Src n) h
alone-ascend (form.Tok k) h = added-ascend (form.Tok k) h
alone-ascend (form.Span i e) h = (row-ascends i AtLeast zero_term Int h.0 tt, tt)

off-ascend : (a : Linear) (o : Option Linear) (i : Linear) → TermAscends a → TermAscends i → AllByRecursion RowAscends (off_rows a o i)
off-ascend a None i h k = (row-ascends i AtMost (minus a one_term) Int k (minus-ascends a one_term h tt), tt)
off-ascend a (Some e) i h k = rows-if (is_single a (Some e)) (row_of i Unequal a Int ∷ []) (row-ascends i Unequal a Int k h, tt)

beside-wanted-ascend : (f g : Form) → FormAscends f → FormAscends g → AllByRecursion RowAscends (wanted_beside f g)
beside-wanted-ascend (form.Span a e) (form.Span i d) h k = rows-if (is_single i d) (off_rows a e i) (off-ascend a e i h.0 k.0)
beside-wanted-ascend f g h k = tt

wanted-ascend : (ps : List Piece) (r : Linear) (k : ℕ) (ws : List (ℕ × Form)) → AllByRecursion PieceAscends ps → TermAscends r → AllByRecursion WantAscends ws → AllByRecursion RowAscends (wanted_rows ps r k ws)
unfolding wanted_rows
wanted-ascend ps r k [] h g e = tt
wanted-ascend ps r k (w ∷ ws) h g e =
    let q = piece r k w.0 w.1 in
    let i : PieceAscends (piece r k w.0 w.1) = record { region = g; form = e.0.form } in
    all-join RowAscends (one_rows ps r k w) (wanted_rows ps r k ws) (all-join RowAscends (wanted_alone w.1) (fits_rows (there ps q) w.1 ++ beside wanted_beside ps q) (alone-ascend w.1 e.0.form)
    (all-join RowAscends (fits_rows (there ps q) w.1) (beside wanted_beside ps q) (fits-ascend (there ps q) w.1 (there-ascends ps q h i) e.0.form) (beside-ascend wanted_beside beside-wanted-ascend ps q h i))) (wanted-ascend ps r k ws h g e.1)

compat-if : (b : Bool) (rows : List Row) → AllByRecursion RowAscends rows → IfSome (AllByRecursion RowAscends) (if b then None else Some rows)
compat-if true rows h = tt
compat-if false rows h = h

compat-ascends : (a : PlainAlgebra) (ps : List Piece) (r : Linear) (k : ℕ) (ws : List (ℕ × Form)) → AllByRecursion PieceAscends ps → TermAscends r → AllByRecursion WantAscends ws → IfSome (AllByRecursion RowAscends) (compat a ps r k ws)
unfolding compat
compat-ascends a ps r k ws h g e = compat-if (clashes_some a ps r k ws) (wanted_rows ps r k ws) (wanted-ascend ps r k ws h g e)

joined-ascend : (rows : List Row) (o : Option (List Row)) → AllByRecursion RowAscends rows → IfSome (AllByRecursion RowAscends) o → IfSome (AllByRecursion RowAscends) (joined_rows rows o)
joined-ascend rows None h k = tt
joined-ascend rows (Some more) h k = all-join RowAscends rows more h k

pub system-safe : (k : PlainRegionType) (s : PlainState) (f : PlainFact) (known : List Row) (a : PlainAction) (names : List Linear) → StateAscends s → FactAscends f → AllByRecursion RowAscends known → AllByRecursion TermAscends names → Safe (IfSome (AllByRecursion RowAscends)) (system k s f known a names)
system-safe k s f known a names h g e n =
    chain (value_over names a.source) (λ source. comparison_row source Equal (later_state s) Int >>= λ q. rows_over names a.when >>= λ conditions. want_all names (first_names s f) a.guards >>= λ wanted. computed (compat k.algebra s.guards f.region f.kind wanted) (compat_steps k.algebra s.guards f.region f.kind wanted) >>= λ compatible. unit (joined_rows (s.rows ++ (known ++ q ∷ conditions)) compatible)) (over-safe names a.source n)
    (λ source i. chain (comparison_row source Equal (later_state s) Int) (λ q. rows_over names a.when >>= λ conditions. want_all names (first_names s f) a.guards >>= λ wanted. computed (compat k.algebra s.guards f.region f.kind wanted) (compat_steps k.algebra s.guards f.region f.kind wanted) >>= λ compatible. unit (joined_rows (s.rows ++ (known ++ q ∷ conditions)) compatible)) (comparison-safe source Equal (later_state s) Int i (variable-ascends (length s.sorts)))
    (λ q j. chain (rows_over names a.when) (λ conditions. want_all names (first_names s f) a.guards >>= λ wanted. computed (compat k.algebra s.guards f.region f.kind wanted) (compat_steps k.algebra s.guards f.region f.kind wanted) >>= λ compatible. unit (joined_rows (s.rows ++ (known ++ q ∷ conditions)) compatible)) (rows-over-safe names a.when n)
    (λ conditions l. chain (want_all names (first_names s f) a.guards) (λ wanted. computed (compat k.algebra s.guards f.region f.kind wanted) (compat_steps k.algebra s.guards f.region f.kind wanted) >>= λ compatible. unit (joined_rows (s.rows ++ (known ++ q ∷ conditions)) compatible)) (want-all-safe names (first_names s f) a.guards n)
    (λ wanted m. chain (computed (compat k.algebra s.guards f.region f.kind wanted) (compat_steps k.algebra s.guards f.region f.kind wanted)) (λ compatible. unit (joined_rows (s.rows ++ (known ++ q ∷ conditions)) compatible)) (of-computed (IfSome (AllByRecursion RowAscends)) (compat k.algebra s.guards f.region f.kind wanted) (compat_steps k.algebra s.guards f.region f.kind wanted) (compat-ascends k.algebra s.guards f.region f.kind wanted h.guards g.region m))
    (λ compatible o. of-some (IfSome (AllByRecursion RowAscends)) (joined_rows (s.rows ++ (known ++ q ∷ conditions)) compatible) (joined-ascend (s.rows ++ (known ++ q ∷ conditions)) compatible (all-join RowAscends s.rows (known ++ q ∷ conditions) h.rows (all-join RowAscends known (q ∷ conditions) e (all-cons RowAscends q conditions j l))) o))))))

-- ---- candidates
record MadeAscends (m : MadeRow) : Type 0 where
  row : RowAscends m.row

by-if : (b : Bool) (xs : List MadeRow) → AllByRecursion MadeAscends xs → AllByRecursion MadeAscends (if b then xs else [])
by-if true xs h = h
by-if false xs h = tt

bounds-by-ascend : (k : PlainRegionType) (f : PlainFact) (u t : Linear) → FactAscends f → TermAscends u → AllByRecursion MadeAscends (bounds_by k f u t)
bounds-by-ascend k f u t h g =
    let e = in-ascends (region_env f []) t (region-ascends f [] h tt) in
    by-if (is_over_params k t) _ (record { row = row-ascends _ AtMost u Int e g }, (record { row = row-ascends u AtMost _ Int g e }, tt))

action-bounds-ascend : (k : PlainRegionType) (f : PlainFact) (u : Linear) (a : PlainAction) → FactAscends f → TermAscends u → AllByRecursion MadeAscends (action_bounds k f u a)
action-bounds-ascend k f u a h g = all-join MadeAscends (bounds_by k f u a.source) (bounds_by k f u a.target) (bounds-by-ascend k f u a.source h g) (bounds-by-ascend k f u a.target h g)

all-candidates-ascend : (k : PlainRegionType) (f : PlainFact) (u : Linear) → FactAscends f → TermAscends u → AllByRecursion MadeAscends (all_candidates k f u)
all-candidates-ascend k f u h g =
    let cases = flat_map (λ (c : PlainCase). bounds_by k f u c.state) k.cases in
    let actions = flat_map (action_bounds k f u) k.actions in (
      record { row = row-ascends u Equal f.state Int g h.state },
      (
        record { row = row-ascends f.state AtMost u Int h.state g },
        (
          record { row = row-ascends u AtMost f.state Int g h.state },
          all-join MadeAscends cases actions (all-flat IsAny MadeAscends (λ (c : PlainCase). bounds_by k f u c.state) (λ c i. bounds-by-ascend k f u c.state h g) k.cases (all-any IsAny (λ x. tt) k.cases)) (all-flat IsAny MadeAscends (action_bounds k f u) (λ a i. action-bounds-ascend k f u a h g) k.actions (all-any IsAny (λ x. tt) k.actions)),
        ),
      ),
    )

repeats-if : (b : Bool) (m : MadeRow) (xs ys : List MadeRow) → MadeAscends m → AllByRecursion MadeAscends xs → AllByRecursion MadeAscends ys → AllByRecursion MadeAscends (if b then xs else m ∷ ys)
repeats-if true m xs ys h k g = k
repeats-if false m xs ys h k g = (h, g)

without-repeats-ascend : (earlier ms : List MadeRow) → AllByRecursion MadeAscends ms → AllByRecursion MadeAscends (without_repeats earlier ms)
without-repeats-ascend earlier [] h = tt
without-repeats-ascend earlier (m ∷ ms) h = repeats-if (is_made m && list_any (repeats m) earlier) m (without_repeats earlier ms) (without_repeats (m ∷ earlier) ms) h.0 (without-repeats-ascend earlier ms h.1) (without-repeats-ascend (m ∷ earlier) ms h.1)

form-bounds-ascend : (u : Linear) (f : Form) → TermAscends u → FormAscends f → AllByRecursion MadeAscends (form_bounds u f)
form-bounds-ascend u (form.Span a e) h k = (record { row = row-ascends a AtMost u Int k.0 h }, (record { row = row-ascends u AtMost a Int h k.0 }, tt))
form-bounds-ascend u f h k = tt

candidates-ascend : (k : PlainRegionType) (s : PlainState) (f : PlainFact) → FactAscends f → AllByRecursion PieceAscends s.guards → AllByRecursion MadeAscends (candidates k s f)
candidates-ascend k s f h g =
    let u = later_state s in
    let e = variable-ascends (length s.sorts) in
    without-repeats-ascend [] (all_candidates k f u ++ flat_map (piece_bounds f u) s.guards) (all-join MadeAscends (all_candidates k f u) (flat_map (piece_bounds f u) s.guards) (all-candidates-ascend k f u h e) (all-flat PieceAscends MadeAscends (piece_bounds f u) (λ q i. by-if (of_guards f.region f.kind q) (form_bounds u q.form) (form-bounds-ascend u q.form e i.form)) s.guards g))

named-safe : (low : ℕ) (all : List MadeRow) (is : List ℕ) → AllByRecursion MadeAscends all → Safe (AllByRecursion RowAscends) (named_candidates low all is)
named-safe low all [] h = of-some (AllByRecursion RowAscends) [] tt
named-safe low all (i ∷ is) h =
    chain (need (nat_le low i)) (λ u. found (slice_get all i) >>= λ m. computed m.row m.steps >>= λ r. named_candidates (i + 1) all is >>= λ rs. unit (r ∷ rs)) (need-safe (nat_le low i))
    (λ u j. chain (found (slice_get all i)) (λ m. computed m.row m.steps >>= λ r. named_candidates (i + 1) all is >>= λ rs. unit (r ∷ rs)) (of-get MadeAscends all i h)
    (λ m l. chain (computed m.row m.steps) (λ r. named_candidates (i + 1) all is >>= λ rs. unit (r ∷ rs)) (of-computed RowAscends m.row m.steps l.row)
    (λ r n. chain (named_candidates (i + 1) all is) (λ rs. unit (r ∷ rs)) (named-safe (i + 1) all is h) (λ rs o. of-some (AllByRecursion RowAscends) (r ∷ rs) (n, o)))))

-- ---- settling
pub at-safe : (s : PlainState) (rows : List Row) (t : Linear) (rs : List Row) → AllByRecursion RowAscends rows → TermAscends t → AllByRecursion RowAscends rs → Safe IsAny (prove_at s rows t rs)
at-safe s rows t [] h k g = of-some IsAny tt tt
at-safe s rows t (r ∷ rs) h k g =
    chain (computed (replaced (length s.sorts) t r.term) (replaced_steps (length s.sorts) t r.term)) (λ u. prove rows (record r { term = u }) >>= λ v. prove_at s rows t rs) (of-computed TermAscends (replaced (length s.sorts) t r.term) (replaced_steps (length s.sorts) t r.term) (replaced-ascends (length s.sorts) t r.term k g.0))
    (λ u i. chain (prove rows (record r { term = u })) (λ v. prove_at s rows t rs) (prove-safe rows (record r { term = u }) h i) (λ v j. at-safe s rows t rs h k g.1))

pub closed-under-safe : (s : PlainState) (named : List Row) (a : PlainAction) (names : List Linear) (o : Option (List Row)) → AllByRecursion RowAscends named → AllByRecursion TermAscends names → IfSome (AllByRecursion RowAscends) o → Safe IsAny (prove_closed s named a names o)
closed-under-safe s [] a names o h k g = of-some IsAny tt tt
closed-under-safe s (r ∷ rs) a names None h k g = of-some IsAny tt tt
closed-under-safe s (r ∷ rs) a names (Some rows) h k g = chain (value_over names a.target) (λ t. prove_at s rows t (r ∷ rs)) (over-safe names a.target k) (λ t i. at-safe s rows t (r ∷ rs) g i h)

stable-safe : (k : PlainRegionType) (s : PlainState) (f : PlainFact) (named : List Row) (as' : List PlainAction) → StateAscends s → FactAscends f → AllByRecursion RowAscends named → Safe IsAny (prove_stable k s f named as')
stable-safe k s f named [] h g e = of-some IsAny tt tt
stable-safe k s f named (a ∷ more) h g e =
    let names = action_names k s f a in
    let n = action-names-ascend k s f a g in
    chain (system k s f named a names) (λ rows. prove_closed s named a names rows >>= λ u. prove_stable k s f named more) (system-safe k s f named a names h g e n)
    (λ rows i. chain (prove_closed s named a names rows) (λ u. prove_stable k s f named more) (closed-under-safe s named a names rows e n i) (λ u j. stable-safe k s f named more h g e))

settled-safe : (s : PlainState) (j : ℕ) (f : PlainFact) (named : List Row) → StateAscends s → FactAscends f → AllByRecursion RowAscends named → Safe StateAscends (with_settled s j f named)
settled-safe s j f named h g e =
    let facts = slice_set s.facts j (with_state f (later_state s)) in
    chain (with_sort s Int) (λ t. with_rows (record t { facts = slice_set s.facts j (with_state f (later_state s)) }) named) (with-sort-safe s Int h)
    (λ t i. with-rows-safe (record t { facts = facts }) named (facts-ascend t facts i (all-set FactAscends s.facts j (with_state f (later_state s)) h.facts (state-ascends f (later_state s) g (variable-ascends (length s.sorts))))) e)

pub settle-safe : (k : PlainRegionType) (s : PlainState) (j : ℕ) (f : PlainFact) (list : List ℕ) → StateAscends s → FactAscends f → Safe StateAscends (settle k s j f list)
settle-safe k s j f list h g =
    chain (named_candidates 1 (candidates k s f) list) (λ named. prove_at s s.rows f.state named >>= λ u. prove_stable k s f named k.actions >>= λ v. with_settled s j f named) (named-safe 1 (candidates k s f) list (candidates-ascend k s f g h.guards))
    (λ named i. chain (prove_at s s.rows f.state named) (λ u. prove_stable k s f named k.actions >>= λ v. with_settled s j f named) (at-safe s s.rows f.state named h.rows g.state i)
    (λ u l. chain (prove_stable k s f named k.actions) (λ v. with_settled s j f named) (stable-safe k s f named k.actions h g i) (λ v m. settled-safe s j f named h g i)))

same-safe : (f : PlainFact) (a : PlainAction) (names : List Linear) (o : Option (List Row)) → FactAscends f → AllByRecursion TermAscends names → IfSome (AllByRecursion RowAscends) o → Safe IsAny (prove_same f a names o)
same-safe f a names None h k g = of-some IsAny tt tt
same-safe f a names (Some rows) h k g = chain (value_over names a.target) (λ t. prove_that rows t Equal f.state Int) (over-safe names a.target k) (λ t i. prove-that-safe rows t Equal f.state Int g i h.state)

kept-safe : (k : PlainRegionType) (s : PlainState) (f : PlainFact) (same : Row) (as' : List PlainAction) → StateAscends s → FactAscends f → RowAscends same → Safe IsAny (prove_kept k s f same as')
kept-safe k s f same [] h g e = of-some IsAny tt tt
kept-safe k s f same (a ∷ more) h g e =
    let names = action_names k s f a in
    let n = action-names-ascend k s f a g in
    chain (system k s f (same ∷ []) a names) (λ rows. prove_same f a names rows >>= λ u. prove_kept k s f same more) (system-safe k s f (same ∷ []) a names h g (e, tt) n)
    (λ rows i. chain (prove_same f a names rows) (λ u. prove_kept k s f same more) (same-safe f a names rows g n i) (λ u j. kept-safe k s f same more h g e))

pub keep-safe : (k : PlainRegionType) (s : PlainState) (j : ℕ) (f : PlainFact) → StateAscends s → FactAscends f → Safe StateAscends (keep k s j f)
keep-safe k s j f h g =
    let facts = slice_set s.facts j (with_state f f.state) in
    chain (comparison_row (later_state s) Equal f.state Int) (λ same. prove_kept k s f same k.actions >>= λ u. unit (record s { facts = slice_set s.facts j (with_state f f.state) })) (comparison-safe (later_state s) Equal f.state Int (variable-ascends (length s.sorts)) g.state)
    (λ same i. chain (prove_kept k s f same k.actions) (λ u. unit (record s { facts = slice_set s.facts j (with_state f f.state) })) (kept-safe k s f same k.actions h g i) (λ u l. of-some StateAscends (record s { facts = facts }) (facts-ascend s facts h (all-set FactAscends s.facts j (with_state f f.state) h.facts (state-ascends f f.state g g.state)))))
