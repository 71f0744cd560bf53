-- A walk takes half of a share: the half is a new variable, or there is none over the one
-- denominator.
use Rattle.std.proofs.Common.{◌≡◌, ◌⊎◌, inl, inr, ℕ, zero, suc, ◌<◌, ℤ, pos, negsuc, ◌*ℤ◌, ◌<ℤ◌, Bool, true, false, List, [], ◌∷◌, ◌++◌, length, Option, Some, None, refl, sym, ap, ◌∙◌, subst, arith}
use Rattle.std.specs.Prelude.{slice_get, unwrap_or, if◌then◌else◌, ◌==◌, ◌%◌, ◌/◌, IsSomeAnd}
use Rattle.std.specs.List.{AllZip}
use Rattle.std.proofs.lemmas.Slice.Zip.{AllZip-long}
use Rattle.std.proofs.lemmas.Int.{ints}
use Rattle.cap_lin.specs.Linear.{Linear, variable}
use Rattle.cap_lin.specs.Values.{Valuation, amount}
use Rattle.cap_lin.specs.declared.row.Sort.{Sort}
use Rattle.cap_lin.specs.declared.row.Sort.TheVariants.{Int, Perm}
use Rattle.cap_gsolve.specs.declared.piece.Form.TheVariants as form
use Rattle.cap_gsolve.specs.Meaning.{IsFormElement, IsValueOf}
use Rattle.cap_gsolve.proofs.Amounts.{amount-positive}
use Rattle.cap_farkas.specs.declared.cert.Cert.{Cert}
use Rattle.cap_syntax.specs.declared.place.Place.{Place}
use Rattle.cap_prog.specs.declared.assertion.Slot.{Slot}
use Rattle.cap_prog.specs.declared.assertion.Slot.TheVariants.{Is}
use Rattle.cap_prog.specs.declared.assertion.Asked.TheVariants.{Share}
use Rattle.cap_prog.specs.Program.{atom, Items, item}
use Rattle.cap_prog.specs.Scopes.{Scope, SlotFits}
use Rattle.cap_goal_spec.specs.Terms.{lone_variable}
use Rattle.cap_goal_spec.specs.States.{PlainEnv, PlainState}
use Rattle.cap_goal_spec.specs.Choices.{PlainTrees}
use Rattle.cap_goal_spec.specs.Environments.{zero_value, term_of, open_to, reading}
use Rattle.cap_rules.specs.Making.{env_at}
use Rattle.cap_machine_accounts.specs.Assertions.{NameValue}
use Rattle.cap_account_resources.specs.Parts.{Table}
use Rattle.cap_account_resources.proofs.Interference.{Holding}
use Rattle.cap_account_resources.proofs.Lists.{all-at, push-length, get-first, within}
use Rattle.cap_account_resources.proofs.Stocks.{Stock}
use Rattle.cap_account_states.proofs.Adding.{PieceOver}
use Rattle.cap_account_states.proofs.Alike.{Alike, agree-alike}
use Rattle.cap_account_states.proofs.Brought.{Brings, form_brings, piece_brings}
use Rattle.cap_account_states.proofs.Checked.{Checked}
use Rattle.cap_account_states.proofs.Guarding.{FormOver, OpenGets, is_open, is_open_reading}
use Rattle.cap_account_states.proofs.Guards.{open_sorts}
use Rattle.cap_account_states.proofs.Matching.{met_env}
use Rattle.cap_account_states.proofs.Meets.{Usable, usable-old, Old, with_value, new-whole, new-share, with-agrees}
use Rattle.cap_account_states.proofs.Terms.{Over, Agree, vars-more, value-agree, amount-agree}
use Rattle.cap_account_states.proofs.Wants.{Wants, value-of-alike, share-wants}
use Rattle.cap_account_assertions.proofs.Coarser.{then-alike}
use Rattle.cap_account_assertions.proofs.TakeSteps.{Job}
use Rattle.cap_owners_spec.specs.Traced.{Traced, traced, past_width, untold, ◌>>=◌, a_share, value_at, valuation, amount_in, half_of}
use Rattle.cap_owners_spec.specs.Filling.{met, atom_met}
use Rattle.cap_owners_spec.specs.Walks.{Taking, asked_reading, new_share}
use Rattle.cap_owners_walks_laws.proofs.Values.Numbers.{valuation-share, amount-is, half-is}
use Rattle.cap_owners_walks_laws.proofs.Values.More.{FitsSort, sorted-more}
use Rattle.cap_owners_walks_laws.proofs.Passes.Parted.{own-form}
use Rattle.cap_owners_walks_laws.proofs.Passes.Names.{NamesSo, IsShare, SharesBound, shares-met, shares-more, IsValue, names-so, name-so, met-names, met-terms, lone-term, variable-is, at-last}
use Rattle.cap_owners_walks_laws.proofs.Passes.Elements.{amount-told}
use Rattle.cap_owners_walks_laws.proofs.Passes.Takes.{IsNameTerm, AreNameTerms, more-term}
use Rattle.cap_owners_walks_laws.proofs.Passes.Plain.{Starting}
use Rattle.cap_owners_walks_laws.proofs.Passes.Cuts.{Found, Value}

half-told : (n : ℤ) → pos 0 <ℤ n → half_of n ≡ untold → ⊥
half-told (pos n) l e = by (n % 2 == 0) e
  where
    by : (b : Bool) → (if b then traced (pos (n / 2)) else past_width) ≡ untold → ⊥
    by true e = absurd (cc)
    by false e = absurd (cc)
half-told (negsuc n) l e = omega (arith, ints, l)

-- a variable that was there has its value
share-back :
    (vs : List NameValue) (y : NameValue) (u : ℕ) → u < length vs →
    IsShare (value_at (vs ++ y ∷ []) u) → IsShare (value_at vs u)
share-back [] y u l h = absurd (omega (arith, l))
share-back (v ∷ vs) y zero l h = h
share-back (v ∷ vs) y (suc u) l h = share-back vs y u (omega (arith, l)) h

-- what names stood for they stand for with a variable more
more-names :
    (sc : Scope) (os : List Sort) (vs : List NameValue) (y : NameValue) (env : PlainEnv)
    (ns : List NameValue) → Agree (λ x. x < length os) (valuation vs) (valuation (vs ++ y ∷ [])) →
    length vs ≡ length os → AreNameTerms os env → NamesSo sc vs env ns →
    NamesSo sc (vs ++ y ∷ []) env ns
more-names sc os vs y env ns a count terms so =
    names-so sc (vs ++ y ∷ []) env ns so.size so.fits
    (λ b x t has e. so.shares (λ x t has e. before t (terms x t e) (b x t has e)) x t has e)
    (λ x. by x (term_of env x) refl (name-so sc vs env ns so x))
  where
    u : Valuation
    u = valuation (vs ++ y ∷ [])

    old : (t : Linear) → IsNameTerm os t → Over (λ x. x < length os) t
    old t (inr h) =
        vars-more (λ x. slice_get os x ≡ Some Int) (λ x. x < length os)
        (λ x e. within os x Int e) t.parts h
    old t (inl h) = lone (lone_variable t) refl h
      where
        lone :
            (o : Option ℕ) → lone_variable t ≡ o → IsSomeAnd o (λ x. x < length os) →
            Over (λ x. x < length os) t
        lone None e h = absurd h
        lone (Some x) e h = subst (Over (λ x. x < length os)) (sym (lone-term t x e)) (h, tt)

    -- the variables are the old ones
    before :
        (t : Linear) → IsNameTerm os t →
        IsSomeAnd (lone_variable t) (λ u. IsShare (value_at (vs ++ y ∷ []) u)) →
        IsSomeAnd (lone_variable t) (λ u. IsShare (value_at vs u))
    before t i h = at (lone_variable t) refl h
      where
        at :
            (o : Option ℕ) → lone_variable t ≡ o →
            IsSomeAnd o (λ u. IsShare (value_at (vs ++ y ∷ []) u)) →
            IsSomeAnd o (λ u. IsShare (value_at vs u))
        at None e h = h
        at (Some u) e h =
            let low = (subst (Over (λ x. x < length os)) (lone-term t u e) (old t i)).0 in
            share-back vs y u (omega (arith, low, count)) h

    by :
        (x : ℕ) (o : Option Linear) → term_of env x ≡ o →
        IsValue (valuation vs) (unwrap_or o zero_value) (value_at ns x) →
        IsValue u (unwrap_or o zero_value) (value_at ns x)
    by x None e h = record {
      whole = value-agree (λ x. x < length os) (valuation vs) u a zero_value tt ∙ h.whole;
      share = amount-agree (λ x. x < length os) (valuation vs) u a zero_value tt ∙ h.share;
    }
    by x (Some t) e h =
        let o = old t (terms x t e) in
        record {
          whole = value-agree (λ x. x < length os) (valuation vs) u a t o ∙ h.whole;
          share = amount-agree (λ x. x < length os) (valuation vs) u a t o ∙ h.share;
        }

module _ (p : Checked) (ks : List ℕ) (T : Table) (next : ℤ) (lim : Holding) (j : Job)
    (vs : List NameValue) (s : PlainState) (c : Stock) (top : Taking) (k way : ℕ)
    (cs : List Cert) (place : Place) (n r m : ℕ) (x : Slot) (more : Items) (kids : PlainTrees)
    (f : Starting p ks T next lim j vs s c top (item (atom place n r m (Share x)) more))
    (g : Found p ks T next lim j vs s c top k way cs place n r m (Share x) more kids f)
    (ns : List NameValue) (so : NamesSo j.scope vs (env_at s j.env) ns) (o : Option ℕ)
    (opens : reading (env_at s j.env) x ≡ open_to o) (a : Linear)
    (share : g.piece.form ≡ form.Share a) (fit : SlotFits j.scope Perm x) where
  abbrev v : Valuation
  v = valuation vs

  abbrev env : PlainEnv
  env = env_at s j.env

  abbrev count : ℕ
  count = length s.sorts

  abbrev Here : Type 0
  Here = Value p ks T next lim j vs s c top k way cs place n r m (Share x) more kids f g ns

  size : length vs ≡ length s.sorts
  size = AllZip-long FitsSort s.sorts vs f.sorted

  piece-over : FormOver (Usable ks s.sorts) g.piece.form
  piece-over =
      (all-at (PieceOver (Usable ks s.sorts)) s.guards k g.piece
      f.start.ready.grounded.pieces_over g.at).1

  old-over : Over (λ i. i < length s.sorts) a
  old-over =
      vars-more (Usable ks s.sorts Perm) (λ i. i < length s.sorts) (usable-old ks s.sorts Perm)
      a.parts (subst (FormOver (Usable ks s.sorts)) share piece-over)

  positive : pos 0 <ℤ amount v.fraction a
  positive =
      let own = own-form p.program v s c k g.piece f.start.backed g.at in
      let h = subst (λ l. IsFormElement v l own.0) share own.1 in
      amount-positive v a h.0 h.1 h.2

  module _ (h : ℤ) (half : h *ℤ pos 2 ≡ amount v.fraction a) where
    abbrev new : List NameValue
    new = vs ++ a_share h ∷ []

    abbrev u : Valuation
    u = valuation (vs ++ a_share h ∷ [])

    u-is : u ≡ with_value v (length s.sorts) (pos 0) h
    u-is = valuation-share vs h ∙ ap (λ i. with_value v i (pos 0) h) size

    agrees : Agree (λ i. i < length s.sorts) v u
    agrees =
        subst (Agree (λ i. i < length s.sorts) v) (sym u-is)
        (with-agrees (λ i. i < length s.sorts) v (length s.sorts) (pos 0) h
        (λ i l e. omega (arith, l, e)))

    whole-new : u.whole (length s.sorts) ≡ pos 0
    whole-new =
        ap (λ (w : Valuation). w.whole (length s.sorts)) u-is
        ∙ new-whole v (length s.sorts) (pos 0) h

    share-new : u.fraction.numerator (length s.sorts) ≡ h
    share-new =
        ap (λ (w : Valuation). w.fraction.numerator (length s.sorts)) u-is
        ∙ new-share v (length s.sorts) (pos 0) h

    half-brings :
        Brings u (length s.sorts) (piece_brings (is_open (Share x) env) (slice_get s.guards k))
    half-brings =
        subst (Brings u (length s.sorts))
        (sym ((λ i. piece_brings (is_open_reading (opens i)) (g.at i)) ∙ ap form_brings share)) (
          whole-new,
          ap (λ z. z *ℤ pos 2) share-new ∙ half
              ∙ sym (amount-agree (λ i. i < length s.sorts) v u agrees a old-over),
          old-over,
          tt,
        )

    later : g.later ≡ met_env env (reading env x) (variable (length s.sorts))
    later = g.later_is

    sorts : g.after.sorts ≡ s.sorts ++ Perm ∷ []
    sorts = g.sorts ∙ ap (λ d. s.sorts ++ open_sorts (is_open_reading d)) opens

    alike : Alike (Old s) v u
    alike = agree-alike (Old s) v u agrees

    half-wanted : Wants u (Share (Is (variable (length s.sorts)))) g.taken
    half-wanted =
        let w = g.w in
        let gets = subst
        (λ d. OpenGets g.w (Share x) d (variable (length s.sorts)) g.taken) opens g.gets in
        let now = then-alike s g.after v g.w u
        (piece_brings (is_open (Share x) env) (slice_get s.guards k))
        (record { count = g.brought.count; are = g.brought.are }) g.alike alike half-brings in
        let i : IsValueOf g.w (variable (length s.sorts)) gets.0 =
        sym (ap (λ z. z *ℤ pos gets.0.den) gets.3 ∙ gets.4) in
        let there : length s.sorts < length g.after.sorts =
        (let e = ap length sorts in let l = push-length s.sorts Perm in omega (arith, e, l)) in
        subst (Wants u (Share (Is (variable (length s.sorts))))) (sym gets.5)
        (share-wants u u (Is (variable (length s.sorts))) (variable (length s.sorts)) gets.0 refl
        refl gets.2
        (value-of-alike (Old g.after) g.w u now (variable (length s.sorts)) (there, tt) gets.0 i))

    half-value :
        atom_met vs ns g.piece.form (asked_reading env (Share x)) ≡ traced (a_share h) → Here
    half-value found =
        let y = a_share h in
        let fill = record top.fill { names = ns } in
        let is : IsValue u (variable (length s.sorts)) y =
        subst (λ i. IsValue u (variable i) y) size
        (subst (IsValue u (variable (length vs))) (at-last vs y)
        (variable-is (vs ++ y ∷ []) (length vs))) in
        let names = met-names ks j.scope s.sorts (vs ++ y ∷ []) env Perm x
        (variable (length s.sorts)) y fill f.start.ready.placed fit
        (more-names j.scope s.sorts vs y env ns agrees size f.terms so) is refl (λ e. refl) in
        let bigger = push-length s.sorts Perm in
        record {
          value_is = y;
          new = vs ++ y ∷ [];
          found_it = found;
          new_is = ap (λ d. vs ++ new_share (Share x) d y) opens;
          alike = alike;
          brings = half-brings;
          sorted =
              subst (λ os. AllZip FitsSort os (vs ++ y ∷ [])) (sym sorts)
              (sorted-more s.sorts vs Perm y f.sorted refl);
          terms =
              subst (λ os. AreNameTerms os g.later) (sym sorts)
              (subst (AreNameTerms (s.sorts ++ Perm ∷ [])) (sym later)
              (met-terms (IsNameTerm (s.sorts ++ Perm ∷ [])) env (reading env x)
              (variable (length s.sorts)) (inl (omega (arith, bigger)))
              (λ i t e. more-term s.sorts (s.sorts ++ Perm ∷ [])
              (λ y q e. get-first s.sorts (Perm ∷ []) y q e) (omega (arith, bigger)) t
              (f.terms i t e))));
          names =
              subst (λ e. NamesSo j.scope (vs ++ y ∷ []) e (met (reading env x) y fill).names)
              (sym later) names;
          keeps = λ b.
              subst (SharesBound j.scope (vs ++ y ∷ [])) (sym later)
              (shares-met j.scope (vs ++ y ∷ []) env Perm x (variable (length s.sorts)) fit
              (λ e. subst (λ i. IsShare (value_at (vs ++ y ∷ []) i)) size
              (subst IsShare (sym (at-last vs y)) refl))
              (shares-more j.scope vs (y ∷ []) env b));
          by = vs ++ y ∷ [];
          term = variable (length s.sorts);
          is_value = ap a_share (sym (is.share));
          wants = half-wanted;
        }

  pub share-value :
      (atom_met vs ns g.piece.form (asked_reading env (Share x)) ≡ past_width) ⊎ Here
  share-value = by (amount_in vs a) refl
    where
      at : (z : Traced ℤ) → amount_in vs a ≡ z →
          atom_met vs ns g.piece.form (asked_reading env (Share x))
          ≡ (z >>= λ n. half_of n >>= λ h. traced (a_share h))
      at z e =
          (λ i. atom_met vs ns (share i) (opens i))
          ∙ ap (λ z. z >>= λ n. half_of n >>= λ h. traced (a_share h)) e

      by : (z : Traced ℤ) → amount_in vs a ≡ z →
          (atom_met vs ns g.piece.form (asked_reading env (Share x)) ≡ past_width) ⊎ Here
      by untold e = absurd (amount-told vs a e)
      by past_width e = inl (at past_width e)
      by (traced z) e = halves (half_of z) refl
        where
          is : z ≡ amount v.fraction a
          is = amount-is vs a z e

          halves :
              (q : Traced ℤ) → half_of z ≡ q →
              (atom_met vs ns g.piece.form (asked_reading env (Share x)) ≡ past_width) ⊎ Here
          halves untold q =
              absurd (half-told z (subst (λ y. pos 0 <ℤ y) (sym is) positive) q)
          halves past_width q =
              inl (at (traced z) e ∙ ap (λ o. o >>= λ h. traced (a_share h)) q)
          halves (traced h) q =
              inr (half-value h (half-is z h q ∙ is)
              (at (traced z) e ∙ ap (λ o. o >>= λ h. traced (a_share h)) q))
