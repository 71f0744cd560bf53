-- A guard of an action is matched with a form: what is asked for is cut out of the form's element.
use Rattle.std.proofs.Common.{◌≡◌, ◌⊎◌, inl, inr, ℕ, ℤ, ◌≤ℤ◌, ◌<ℤ◌, false, List, [], ◌∷◌, ◌++◌, map, Option, refl, sym, ap, subst, arith}
use Rattle.std.specs.List.{AllByRecursion}
use Rattle.std.proofs.lemmas.Int.{ints}
use Rattle.cap_lin.specs.Linear.{Linear, plus, minus}
use Rattle.cap_lin.specs.Steps.{Step, plus_steps, minus_steps}
use Rattle.cap_lin.specs.Rows.{row_of, row_of_steps, negations_steps}
use Rattle.cap_lin.specs.Values.{Valuation, amount}
use Rattle.cap_lin.specs.Solves.{Holds, Proves}
use Rattle.cap_lin.specs.declared.row.Row.{Row}
use Rattle.cap_lin.specs.declared.row.Sort.{Sort}
use Rattle.cap_lin.specs.declared.row.Sort.TheVariants.{Int, Perm}
use Rattle.cap_lin.specs.declared.row.Op.{Op}
use Rattle.cap_lin.specs.declared.row.Op.TheVariants.{Eq as Equal, Le as AtMost, Lt as Less, Gt as Greater, Ge as AtLeast}
use Rattle.cap_lin.proofs.Rows.{row_of-means}
use Rattle.cap_galg.specs.Elements.{Element}
use Rattle.cap_galg.specs.Algebras.{PlainAlgebra, divisible, IsElement}
use Rattle.cap_gsolve.specs.declared.piece.Form.{Form}
use Rattle.cap_gsolve.specs.declared.piece.Form.TheVariants as form
use Rattle.cap_gsolve.specs.Meaning.{IsFormElement, Takes}
use Rattle.cap_prog.specs.declared.assertion.Slot.{Slot}
use Rattle.cap_prog.specs.declared.assertion.Asked.{Asked}
use Rattle.cap_prog.specs.declared.assertion.Asked.TheVariants.{One, Share, Src, Tok}
use Rattle.cap_prog.specs.Scopes.{Scope, SlotFits}
use Rattle.cap_goal_spec.specs.States.{PlainEnv, PlainState}
use Rattle.cap_goal_spec.specs.Environments.{zero_value, term_in, term_in_steps, Reading, settled, open_to, stuck, reading, bind_open}
use Rattle.cap_rules.specs.Attempts.{Event, makes, claims, Attempt, unit, ◌>>=◌, computed, prove_that}
use Rattle.cap_rules.specs.Making.{sum, difference}
use Rattle.cap_rules.specs.Taking.{Cut, cut, cut_share, cut_source, cut_tokens, cut_new_tokens, cut_form}
use Rattle.cap_rules.specs.Closing.{match_share, match_source, match_tokens, match_new_tokens, match_form}
use Rattle.cap_account_states.specs.Nodes.{AreTrue, Comes}
use Rattle.cap_account_resources.proofs.Lists.{all-first, all-second}
use Rattle.cap_account_states.proofs.Terms.{Over, RowOver, row-over}
use Rattle.cap_account_states.proofs.Attempts.{row_added, after-computed, after-proved}
use Rattle.cap_account_states.proofs.Meets.{Usable, Old, Meets, meets-row}
use Rattle.cap_account_states.proofs.Alike.{alike-same}
use Rattle.cap_account_states.proofs.Wants.{Wants, share-wants}
use Rattle.cap_account_states.proofs.Naming.{Placed, Means, Stays}
use Rattle.cap_account_states.proofs.Asking.{AskedOver}
use Rattle.cap_gsolve.proofs.CutSpans.{Cuts}
use Rattle.cap_account_states.proofs.Cutting.{cut-all}
use Rattle.cap_account_states.proofs.Guarding.{FormOver, is_open, is_open_reading, CutOk, settled-slot, proved-relates, shared, form-cut}
use Rattle.cap_account_states.proofs.Halving.{binding}

-- ---- attempts that come to something

both-true : (es fs : List Event) → AreTrue es → AreTrue fs → AreTrue (es ++ fs)
both-true [] fs h k = k
both-true (makes x ∷ es) fs h k = both-true es fs h k
both-true (claims c ∷ es) fs h k = (h.0, both-true es fs h.1 k)

made-true : (steps : List Step) (es : List Event) → AreTrue es → AreTrue (map makes steps ++ es)
made-true [] es h = h
made-true (x ∷ steps) es h = made-true steps es h

then-computed :
    {A B : Type 0} (x : A) (steps : List Step) (f : A → Attempt B) (P : B → Type 0) →
    Comes (f x) P → Comes (computed x steps >>= f) P
then-computed x steps f P h = (made-true steps (f x).events h.0, h.1)

then-proved :
    {B : Type 0} (rows : List Row) (l : Linear) (op : Op) (r : Linear) (o : Sort)
    (f : Unit {0} → Attempt B) (P : B → Type 0) → Proves rows (row_of l op r o) →
    Comes (f tt) P → Comes (prove_that rows l op r o >>= f) P
then-proved rows l op r o f P p h = (
  both-true (prove_that rows l op r o).events (f tt).events
      (made-true (row_of_steps l op r o) _
      (made-true (negations_steps (row_of l op r o)) _ (p, tt))) h.0,
  h.1,
)

-- rows with one more prove what they did, and that one
still-proves : (rows : List Row) (r q : Row) → Proves rows q → Proves (rows ++ r ∷ []) q
still-proves rows r q h w s f =
    h w (record {
      fits = all-first _ rows (r ∷ []) s.fits;
      holds = all-first (Holds w) rows (r ∷ []) s.holds;
    }) f

last-proved : (rows : List Row) (r : Row) → Proves (rows ++ r ∷ []) r
last-proved rows r w s f = (all-second (Holds w) rows (r ∷ []) s.holds).0

-- ---- environments that go on

-- the environment goes on to one whose names' values say this
pub record LeadsTo (ks : List ℕ) (sc : Scope) (sorts : List Sort) (v : Valuation) (env : PlainEnv)
    (S : Valuation → Type 0) (Q : PlainEnv → Type 0) : Type 0 where
  pub later : PlainEnv
  pub placed : Placed ks sc sorts later
  pub stays : Stays sc env later
  pub says : (X : Valuation) → Means sc v later X → S X
  pub comes : Q later

-- what is asked at values X is cut out of the form's element at values v
pub record Offers (b : PlainAlgebra) (v X : Valuation) (f : Form) (asked : Asked) : Type 0 where
  pub left : List Form
  pub takes : AllByRecursion (Takes b) left
  pub cut :
      (own : Element) → IsFormElement v f own →
      (y : Element) × Wants X asked y × IsElement b y × Cuts v own y left

or-less : (x y : ℤ) → x ≤ℤ y → (x ≡ y) ⊎ (x <ℤ y)
or-less x y h = grind (arith, ints, h)

module _ (b : PlainAlgebra) (ks : List ℕ) (sc : Scope) (v : Valuation) (s : PlainState)
    (me : Meets ks v s) (env : PlainEnv) (pl : Placed ks sc s.sorts env)
    (Q : PlainEnv → Type 0) where
  abbrev pub FormOffers : Form → Asked → Type 0
  FormOffers f asked = LeadsTo ks sc s.sorts v env (λ X. Offers b v X f asked) Q

  -- the environment of a cut
  abbrev AtEnv : Cut → Type 0
  AtEnv x = Q x.env

  -- what is cut with these rows is offered
  by-cut :
      (rows : List Row) (asked : Asked) (f : Form) → Takes b f →
      CutOk ks sc v (record s { rows = rows }) env asked f AtEnv → FormOffers f asked
  by-cut rows asked f tk k = record {
    later = k.later;
    placed = k.placed;
    stays = k.stays;
    says = λ X m. record {
      left = k.left;
      takes = k.fits b tk;
      cut = λ own w.
          let u = k.cuts own w in
          (u.0, u.1 v (alike-same (Old s) v) X m, u.2 b tk, u.3);
    };
    comes = k.comes;
  }

  -- some way of cutting comes to the same
  cut-by :
      (rows : List Row) → Meets ks v (record s { rows = rows }) → (asked : Asked) (f : Form)
      (way : ℕ) → AskedOver sc asked → FormOver (Usable ks s.sorts) f → Takes b f →
      is_open asked env ≡ false →
      Comes (cut_form (record s { rows = rows }) env asked f way) AtEnv → FormOffers f asked
  cut-by rows meets asked f way h o tk op c =
      by-cut rows asked f tk
      (form-cut ks sc v (record s { rows = rows }) meets env pl AtEnv asked f way h o op c)

  -- ---- counts

  -- of a source one that has at least these tokens out
  source-way :
      (m : Linear) (r : Reading) → Comes (match_source s env m r) Q →
      (way : ℕ) × Comes (cut_source s env m way r) AtEnv
  source-way m stuck c = absurd c.1
  source-way m (open_to y) c = (0, c)
  source-way m (settled t) c =
      let u = term_in env t in
      let asked = λ (w : Linear). prove_that s.rows m AtMost w Int in
      let rest = λ (w : Linear). unit (cut env s (form.Tok w ∷ [])) in
      let more = λ (w : Linear). difference w m >>= rest in
      let h = after-computed u (term_in_steps env t) (λ w. asked w >>= λ _. unit env) Q c in
      let k = after-proved s.rows m AtMost u Int (λ _. unit env) Q h in (
        1,
        then-computed u (term_in_steps env t) (λ w. asked w >>= λ _. more w) AtEnv
            (then-proved s.rows m AtMost u Int (λ _. more u) AtEnv k.0
            (then-computed (minus u m) (minus_steps u m) rest AtEnv (tt, k.1.1))),
      )

  -- of tokens some
  tokens-way :
      (m : Linear) (r : Reading) → Comes (match_tokens s env m r) Q →
      (way : ℕ) × Comes (cut_tokens s env m way r) AtEnv
  tokens-way m stuck c = absurd c.1
  tokens-way m (open_to y) c = (0, c)
  tokens-way m (settled t) c =
      let u = term_in env t in
      let some = λ (w : Linear). prove_that s.rows w AtLeast zero_value Int in
      let low = λ (w : Linear). prove_that s.rows zero_value AtMost w Int in
      let high = λ (w : Linear). prove_that s.rows w AtMost m Int in
      let rest = λ (w : Linear). unit (cut env s (form.Tok w ∷ [])) in
      let more = λ (w : Linear). difference m w >>= rest in
      let h = after-computed u (term_in_steps env t)
      (λ w. some w >>= λ _. (high w >>= λ _. unit env)) Q c in
      let k = after-proved s.rows u AtLeast zero_value Int (λ _. high u >>= λ _. unit env) Q h in
      let l = after-proved s.rows u AtMost m Int (λ _. unit env) Q k.1 in (
        1,
        then-computed u (term_in_steps env t) (λ w. low w >>= λ _. (high w >>= λ _. more w)) AtEnv
            (then-proved s.rows zero_value AtMost u Int (λ _. high u >>= λ _. more u) AtEnv k.0
            (then-proved s.rows u AtMost m Int (λ _. more u) AtEnv l.0
            (then-computed (minus m u) (minus_steps m u) rest AtEnv (tt, l.1.1)))),
      )

  -- new ones of a source
  new-tokens-way :
      (m : Linear) (r : Reading) → Comes (match_new_tokens s env r) Q →
      (way : ℕ) × Comes (cut_new_tokens s env m way r) AtEnv
  new-tokens-way m (settled t) c =
      let u = term_in env t in
      let rest = λ (w : Linear). unit (cut env s (form.Src w ∷ [])) in
      let more = λ (w : Linear). sum m w >>= rest in
      let h = after-computed u (term_in_steps env t)
      (λ w. prove_that s.rows w AtLeast zero_value Int >>= λ _. unit env) Q c in
      let k = after-proved s.rows u AtLeast zero_value Int (λ _. unit env) Q h in (
        1,
        then-computed u (term_in_steps env t)
            (λ w. prove_that s.rows zero_value AtMost w Int >>= λ _. more w) AtEnv
            (then-proved s.rows zero_value AtMost u Int (λ _. more u) AtEnv k.0
            (then-computed (plus m u) (plus_steps m u) rest AtEnv (tt, k.1.1))),
      )
  new-tokens-way m r c = absurd c.1

  -- ---- amounts

  module _ (x : Slot) (a : Linear) (h : SlotFits sc Perm x) (o : Over (Usable ks s.sorts Perm) a)
      (tk : Takes b (form.Share a)) where
    -- a name without a term, and `_`, take all of the share
    all-offered :
        (y : Option ℕ) → reading env x ≡ open_to y → Q (bind_open env y a) →
        FormOffers (form.Share a) (Share x)
    all-offered y e c =
        let k = binding ks sc s.sorts env x y a pl h o e in
        record {
          later = bind_open env y a;
          placed = k.placed;
          stays = k.stays;
          says = λ X m. record {
            left = [];
            takes = tt;
            cut = λ own w. (
              own,
              subst (Wants X (Share x)) (sym w.3)
                  (share-wants X v x a w.0 m.under (k.means v X m) w.1 w.2),
              shared b a own (subst (IsElement divisible) (sym w.3) w.1) tk,
              cut-all v own,
            );
          };
          comes = c;
        }

    -- a term that is at most the share is the share or less: which of them holds at these values
    -- may be taken as a row
    by-row :
        (t : Linear) → reading env x ≡ settled t → (r : Row) → Holds v r →
        RowOver (Usable ks s.sorts) r → (way : ℕ) →
        Comes (cut_share (row_added s r) env a way (settled t)) AtEnv →
        FormOffers (form.Share a) (Share x)
    by-row t e r holds over way c =
        cut-by (s.rows ++ r ∷ []) (meets-row ks v s r me holds over) (Share x) (form.Share a) way h
        o tk (ap is_open_reading e)
        (subst (λ z. Comes (cut_share (row_added s r) env a way z) AtEnv) (sym e) c)

    some-offered :
        (t : Linear) → reading env x ≡ settled t → Comes (match_share s env a (settled t)) Q →
        FormOffers (form.Share a) (Share x)
    some-offered t e c =
        let u = term_in env t in
        let R = Usable ks s.sorts in
        let i = settled-slot ks sc s env x Perm t pl h e in
        let most = λ (w : Linear). prove_that s.rows w AtMost a Perm >>= λ _. unit env in
        let q = after-computed u (term_in_steps env t)
        (λ w. prove_that s.rows w Greater zero_value Perm >>= λ _. most w) Q c in
        let k = after-proved s.rows u Greater zero_value Perm (λ _. most u) Q q in
        let l = after-proved s.rows u AtMost a Perm (λ _. unit env) Q k.1 in
        elim (or-less (amount v.fraction u) (amount v.fraction a)
        (proved-relates ks v s u AtMost a Perm me l.0 i.over o)) [
          | inl same ↦
              let r = row_of a Equal u Perm in
              let t' = row_added s r in
              let rest = λ (z : Unit {0}). unit (cut env t' []) in
              by-row t e r ((row_of-means v a Equal u Perm).1 (sym same))
              (row-over R a Equal u Perm o i.over) 0
              (then-computed u (term_in_steps env t)
              (λ w. prove_that t'.rows a Equal w Perm >>= rest) AtEnv
              (then-proved t'.rows a Equal u Perm rest AtEnv (last-proved s.rows r) (tt, l.1.1)))
          | inr less ↦
              let r = row_of u Less a Perm in
              let t' = row_added s r in
              let rest = λ (w : Linear). unit (cut env t' (form.Share w ∷ [])) in
              let more = λ (w : Linear). difference a w >>= rest in
              let third = λ (w : Linear). prove_that t'.rows w Less a Perm >>= λ _. more w in
              by-row t e r ((row_of-means v u Less a Perm).1 less)
              (row-over R u Less a Perm i.over o) 1
              (then-computed u (term_in_steps env t)
              (λ w. prove_that t'.rows w Greater zero_value Perm >>= λ _. third w) AtEnv
              (then-proved t'.rows u Greater zero_value Perm (λ _. third u) AtEnv
              (still-proves s.rows r (row_of u Greater zero_value Perm) k.0)
              (then-proved t'.rows u Less a Perm (λ _. more u) AtEnv (last-proved s.rows r)
              (then-computed (minus a u) (minus_steps a u) rest AtEnv (tt, l.1.1)))))
        ]

    share-offered :
        (r : Reading) → reading env x ≡ r → Comes (match_share s env a r) Q →
        FormOffers (form.Share a) (Share x)
    share-offered stuck e c = absurd c.1
    share-offered (open_to y) e c = all-offered y e c.1
    share-offered (settled t) e c = some-offered t e c

  -- ---- any form

  pub form-offers :
      (asked : Asked) (f : Form) → AskedOver sc asked → FormOver (Usable ks s.sorts) f →
      Takes b f → Comes (match_form s env asked f) Q → FormOffers f asked
  form-offers One form.One h o tk c = cut-by s.rows me One form.One 0 h o tk refl c
  form-offers (Share x) (form.Share a) h o tk c = share-offered x a h o tk (reading env x) refl c
  form-offers (Src x) (form.Src m) h o tk c =
      let k = source-way m (reading env x) c in
      cut-by s.rows me (Src x) (form.Src m) k.0 h o tk refl k.1
  form-offers (Tok x) (form.Tok m) h o tk c =
      let k = tokens-way m (reading env x) c in
      cut-by s.rows me (Tok x) (form.Tok m) k.0 h o tk refl k.1
  form-offers (Tok x) (form.Src m) h o tk c =
      let k = new-tokens-way m (reading env x) c in
      cut-by s.rows me (Tok x) (form.Src m) k.0 h o tk refl k.1
  form-offers asked f h o tk c = absurd c.1
