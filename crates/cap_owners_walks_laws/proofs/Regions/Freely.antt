-- Where variables are kept free they may have a walk's values: so what is known while regions are
-- closed holds there too. And the variables of marks, to which the table's states are given.
use Rattle.std.proofs.Common.{◌≡◌, ℕ, suc, ◌+◌, ◌<◌, Bool, true, false, List, [], ◌∷◌, ◌++◌, length, Option, Some, None, refl, sym, ap, ◌∙◌, arith}
use Rattle.std.specs.Prelude.{map, slice_get, slice_set, nat_lt, is_some}
use Rattle.std.specs.List.{AllByRecursion, zip}
use Rattle.cap_lin.specs.Linear.{Linear}
use Rattle.cap_lin.specs.Values.{Valuation, value}
use Rattle.cap_lin.specs.declared.row.Op.TheVariants.{Ne as Unequal}
use Rattle.cap_lin.specs.declared.row.Sort.{Sort}
use Rattle.cap_lin.specs.declared.row.Sort.TheVariants.{Int}
use Rattle.cap_farkas.specs.declared.cert.Cert.{Cert}
use Rattle.cap_prog.specs.Program.{PlainProgram, PlainFunction}
use Rattle.cap_goal_spec.specs.States.{longest_list, PlainState, Home}
use Rattle.cap_rules.specs.Attempts.{Attempt, unit, need, comparison_row, ◌>>=◌}
use Rattle.cap_rules.specs.Making.{fresh}
use Rattle.cap_rules.specs.Closing.{Rival, loosened, with_marks}
use Rattle.cap_machine.specs.Machine.{Frame}
use Rattle.cap_machine_accounts.specs.Assertions.{NameValue}
use Rattle.cap_account_resources.specs.Parts.{Table}
use Rattle.cap_account_resources.proofs.Lists.{some-same, none-some, join-nil, join-assoc, all-more, there-is, within}
use Rattle.cap_account_resources.proofs.Stocks.{Stock}
use Rattle.cap_account_states.proofs.Alike.{agree-alike, meets-agree}
use Rattle.cap_account_states.proofs.Facts.{facts-later}
use Rattle.cap_account_states.proofs.KnowsLater.{Steady, usable-steady, backed-at}
use Rattle.cap_account_states.proofs.Meets.{Free, Old, Usable}
use Rattle.cap_account_states.proofs.Terms.{Agree, Over, vars-more, value-agree}
use Rattle.cap_account_steps.proofs.KeptFree.{AllSorted}
use Rattle.cap_account_steps.proofs.StillOpen.{LaterState, if-any, StaysOpen, closing-later}
use Rattle.cap_account_steps.proofs.Stores.{Store, named-same}
use Rattle.cap_account_steps.proofs.Worlds.{IsStillOpen, Closing}
use Rattle.cap_owners_spec.specs.Traced.{number_of, numerator_of, valuation}
use Rattle.cap_owners_walks_laws.proofs.Regions.Entered.{value-first}
use Rattle.cap_owners_walks_laws.proofs.Regions.Marks.{marked_values}
use Rattle.cap_owners_walks_laws.proofs.Regions.Regiven.{AreSorted}

-- ---- at other values of variables that are kept free

pub closing-at :
    (p : PlainProgram) (V W : Table) (part : Stock) (ks : List ℕ) (v w : Valuation)
    (s : PlainState) (held : Stock) → Agree (Steady ks s) v w → AllSorted s.sorts w →
    Closing p V W part ks v s held → Closing p V W part ks w s held
closing-at p V W part ks v w s held agree sorted c =
    let alike = agree-alike (Steady ks s) v w agree in
    let later : LaterState ks ks v w s s = record {
      alike = alike;
      sorts = λ x o e. e;
      count = omega arith;
      less = λ x h. h.1;
      store = refl;
    } in
    closing-later p ks ks v w s s later V W W part held s.opened refl
    (if-any s.opened (s.before ≡ s.before) refl)
    (all-more (IsStillOpen ks v V W s) (StaysOpen p ks ks v w s s later V W W) (λ f i. (i, refl))
    s.opened c.opened) c.differ c.earlier (record {
      grounded = record {
        meets = meets-agree ks v w s agree sorted c.grounded.meets;
        pieces_over = c.grounded.pieces_over;
        pieces_fit = c.grounded.pieces_fit;
      };
      facts = facts-later ks v w W s s (λ x o e. e) refl alike c.facts;
      old = c.old;
      backed = backed-at p s ks (Steady ks s) v w held (usable-steady ks s) alike c.grounded
          c.backed;
      room = c.room;
    })

-- terms over variables that agree keep their values
values-agree :
    (P : ℕ → Type 0) (v w : Valuation) → Agree P v w → (ts : List Linear) →
    AllByRecursion (Over P) ts → map (value w.whole) ts ≡ map (value v.whole) ts
values-agree P v w a [] h = refl
values-agree P v w a (t ∷ ts) h =
    ap (λ z. z ∷ map (value w.whole) ts) (value-agree P v w a t h.0)
    ∙ ap (λ zs. value v.whole t ∷ zs) (values-agree P v w a ts h.1)

-- the frame's locals and fixed names do without variables that are kept free
pub store-at :
    (ks : List ℕ) (v w : Valuation) (s : PlainState) (h : Home) (fn : PlainFunction)
    (fixed : List NameValue) (f : Frame) → Agree (Steady ks s) v w →
    AllByRecursion (Over (Usable ks s.sorts Int)) s.store →
    ((i : ℕ) (o : Sort) → slice_get fn.fixed i ≡ Some o → Free ks (h.fixed + i)) →
    length fixed ≡ length fn.fixed → Store v s h fn fixed f → Store w s h fn fixed f
store-at ks v w s h fn fixed f agree over free size st =
    let R = Usable ks s.sorts Int in
    let S = Steady ks s in
    let steady = all-more (Over R) (Over S) (λ t o. vars-more R S (usable-steady ks s Int) t.parts o)
    s.store over in
    record {
      home = st.home;
      store = values-agree S v w agree s.store steady ∙ st.store;
      fixed_are = named-same S v w h.fixed fixed
          (λ i l.
          let q = there-is fn.fixed i (omega (arith, l, size)) in
          (within s.sorts (h.fixed + i) q.0 (st.fixed_known i q.0 q.1), free i q.0 q.1))
          agree st.fixed_are;
      fixed_known = st.fixed_known;
    }

-- ---- the variables of marks

-- behind those that were there, where only those from then on are kept free
pub marks-agree :
    (js : List ℕ) (s after : PlainState) (w : Valuation) (vs us : List NameValue) →
    length s.sorts ≡ length vs → Agree (Old s) (valuation vs) w →
    ((x : ℕ) → Free js x → x < length after.sorts → x < length s.sorts) →
    Agree (Steady js after) w (valuation (vs ++ us))
marks-agree js s after w vs us count agree kept = record {
  under = sym agree.under;
  whole = λ x h.
      let l = kept x h.1 h.0 in
      ap number_of (value-first vs us x (omega (arith, l, count))) ∙ sym (agree.whole x l);
  share = λ x h.
      let l = kept x h.1 h.0 in
      ap numerator_of (value-first vs us x (omega (arith, l, count))) ∙ sym (agree.share x l);
}

-- the sorts of new variables
abbrev pub mark_sorts : List Bool → List Sort
mark_sorts [] = []
mark_sorts (true ∷ ms) = mark_sorts ms
mark_sorts (false ∷ ms) = Int ∷ mark_sorts ms

-- a pair without a mark, where the state has room for a variable more or not
abbrev pub loosened_at : PlainState → Rival → PlainState
loosened_at s x = record s {
  sorts = s.sorts ++ Int ∷ [];
  facts = slice_set s.facts x.number (loosened x.fact (fresh s));
}

abbrev pub unmarked_as : PlainState → Rival → Bool → Attempt PlainState
unmarked_as s x b =
    comparison_row x.opened.region Unequal x.fact.region Int >>= λ _.
    ((need b >>= λ _. unit (s.sorts ++ Int ∷ [])) >>= λ sorts. unit (record s { sorts = sorts }))
    >>= λ s'. unit (record s' { facts = slice_set s.facts x.number (loosened x.fact (fresh s)) })

pub marks-shape :
    (xs : List Rival) (ms : List Bool) (s t : PlainState) →
    (with_marks s xs ms).value ≡ Some t → t.sorts ≡ s.sorts ++ mark_sorts ms
marks-shape [] [] s t e =
    ap (λ (u : PlainState). u.sorts) (sym (some-same s t e)) ∙ sym (join-nil s.sorts)
marks-shape [] (b ∷ ms) s t e = absurd (none-some e)
marks-shape (x ∷ xs) [] s t e = absurd (none-some e)
marks-shape (x ∷ xs) (true ∷ ms) s t e = marks-shape xs ms s t e
marks-shape (x ∷ xs) (false ∷ ms) s t e =
    by (nat_lt (length s.sorts) longest_list)
    (λ more. marks-shape xs ms (loosened_at s x) t more
    ∙ sym (join-assoc s.sorts (Int ∷ []) (mark_sorts ms))) e
  where
    by :
        (b : Bool) →
        ((with_marks (loosened_at s x) xs ms).value ≡ Some t →
        t.sorts ≡ s.sorts ++ (Int ∷ mark_sorts ms)) →
        (unmarked_as s x b >>= λ s'. with_marks s' xs ms).value ≡ Some t →
        t.sorts ≡ s.sorts ++ (Int ∷ mark_sorts ms)
    by true more q = more q
    by false more q = absurd (none-some q)

-- each pair has a mark or is without one
pub marks-size :
    (xs : List Rival) (ms : List Bool) (s t : PlainState) →
    (with_marks s xs ms).value ≡ Some t → length xs ≡ length ms
marks-size [] [] s t e = refl
marks-size [] (b ∷ ms) s t e = absurd (none-some e)
marks-size (x ∷ xs) [] s t e = absurd (none-some e)
marks-size (x ∷ xs) (true ∷ ms) s t e = ap suc (marks-size xs ms s t e)
marks-size (x ∷ xs) (false ∷ ms) s t e =
    by (nat_lt (length s.sorts) longest_list)
    (λ q. ap suc (marks-size xs ms (loosened_at s x) t q)) e
  where
    by :
        (b : Bool) →
        ((with_marks (loosened_at s x) xs ms).value ≡ Some t →
        suc (length xs) ≡ suc (length ms)) →
        (unmarked_as s x b >>= λ s'. with_marks s' xs ms).value ≡ Some t →
        suc (length xs) ≡ suc (length ms)
    by true more q = more q
    by false more q = absurd (none-some q)

-- a value for each
pub marks-sorted :
    (v : Valuation) (xs : List Rival) (ms : List (Option Cert)) → length xs ≡ length ms →
    AreSorted (mark_sorts (map is_some ms)) (marked_values v (zip xs ms))
marks-sorted v [] [] size = tt
marks-sorted v [] (m ∷ ms) size = absurd (omega (arith, size))
marks-sorted v (x ∷ xs) [] size = absurd (omega (arith, size))
marks-sorted v (x ∷ xs) (Some c ∷ ms) size = marks-sorted v xs ms (omega (arith, size))
marks-sorted v (x ∷ xs) (None ∷ ms) size = (tt, marks-sorted v xs ms (omega (arith, size)))
