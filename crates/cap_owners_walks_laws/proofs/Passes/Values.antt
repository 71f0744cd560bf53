-- By which value an atom is met that a walk takes out of a piece.
use Rattle.std.proofs.Common.{◌≡◌, ◌⊎◌, inl, inr, ℕ, zero, suc, ℤ, Bool, true, false, List, [], ◌++◌, length, Option, Some, None, refl, sym, ap, ◌∙◌, subst}
use Rattle.std.specs.Prelude.{slice_get, if◌then◌else◌}
use Rattle.std.specs.List.{AllZip}
use Rattle.cap_lin.specs.Linear.{Linear}
use Rattle.cap_lin.specs.Values.{Valuation, value}
use Rattle.cap_lin.specs.declared.row.Sort.{Sort}
use Rattle.cap_lin.specs.declared.row.Sort.TheVariants.{Int}
use Rattle.cap_galg.specs.Elements.{Element}
use Rattle.cap_gsolve.specs.declared.piece.Form.{Form}
use Rattle.cap_gsolve.specs.declared.piece.Form.TheVariants as form
use Rattle.cap_farkas.specs.declared.cert.Cert.{Cert}
use Rattle.cap_syntax.specs.declared.place.Place.{Place}
use Rattle.cap_prog.specs.declared.assertion.Slot.{Slot}
use Rattle.cap_prog.specs.declared.assertion.Slot.TheVariants.{Any, Is}
use Rattle.cap_prog.specs.declared.assertion.Asked.{Asked}
use Rattle.cap_prog.specs.declared.assertion.Asked.TheVariants.{One, Share, Src, Tok, At, From}
use Rattle.cap_prog.specs.Program.{atom, Items, item}
use Rattle.cap_prog.specs.Scopes.{SlotFits}
use Rattle.cap_goal_spec.specs.Terms.{lone_variable}
use Rattle.cap_goal_spec.specs.States.{PlainEnv, PlainState}
use Rattle.cap_goal_spec.specs.Choices.{PlainTrees}
use Rattle.cap_goal_spec.specs.Environments.{zero_value, is_determined, Reading, settled, open_to, stuck, read_name, reading, asked_slot}
use Rattle.cap_rules.specs.Making.{env_at}
use Rattle.cap_rules.specs.Taking.{Cut, cut_form, cut_share, cut_source, cut_tokens, cut_new_tokens, cut_index, cut_onwards}
use Rattle.cap_machine_accounts.specs.Assertions.{NameValue, a_number}
use Rattle.cap_account_resources.specs.Parts.{Table}
use Rattle.cap_account_resources.proofs.Lists.{join-nil, all-at}
use Rattle.cap_account_resources.proofs.Interference.{Holding}
use Rattle.cap_account_resources.proofs.Stocks.{Stock}
use Rattle.cap_account_states.specs.Nodes.{Comes}
use Rattle.cap_account_states.proofs.Adding.{PieceOver}
use Rattle.cap_account_states.proofs.Alike.{Alike, alike-same, value-alike}
use Rattle.cap_account_states.proofs.Brought.{Brings, piece_brings}
use Rattle.cap_account_states.proofs.Checked.{Checked}
use Rattle.cap_account_states.proofs.Guarding.{FormOver, asked_of, first_term, open_term, OpenGets, CutFrom, is_open}
use Rattle.cap_account_states.proofs.Guards.{open_sorts}
use Rattle.cap_account_states.proofs.Matching.{met_env}
use Rattle.cap_account_states.proofs.Meets.{Usable, usable-old, Old}
use Rattle.cap_account_states.proofs.Naming.{values_in, values-mean}
use Rattle.cap_account_states.proofs.Terms.{Over, vars-more}
use Rattle.cap_account_states.proofs.Wants.{Wants}
use Rattle.cap_account_assertions.proofs.Coarser.{then-alike}
use Rattle.cap_account_assertions.proofs.TakeSteps.{Job}
use Rattle.cap_owners_spec.specs.Traced.{Traced, traced, past_width, untold, valuation}
use Rattle.cap_owners_spec.specs.Filling.{met, atom_met}
use Rattle.cap_owners_spec.specs.Walks.{Taking, asked_reading, new_share}
use Rattle.cap_owners_laws.specs.Owned.{IsTold}
use Rattle.cap_owners_walks_laws.proofs.Passes.Names.{NamesSo, SharesBound, shares-met, int-only, IsValue, int-term, met-names, met-terms}
use Rattle.cap_owners_walks_laws.proofs.Passes.Elements.{IsAskedValue, IsCounted, settled-found, open-found}
use Rattle.cap_owners_walks_laws.proofs.Passes.Takes.{IsNameTerm, AreNameTerms}
use Rattle.cap_owners_walks_laws.proofs.Passes.Plain.{Starting}
use Rattle.cap_owners_walks_laws.proofs.Passes.Cuts.{Found, Value}
use Rattle.cap_owners_walks_laws.proofs.Values.More.{FitsSort}

-- ---- slots

-- a slot that is settled is a term
settled-is : (env : PlainEnv) (x : Slot) (t : Linear) → reading env x ≡ settled t → x ≡ Is t
settled-is env Any t e = absurd (cc)
settled-is env (Is u) t e = by (is_determined env u) (lone_variable u) e
  where
    by :
        (b : Bool) (o : Option ℕ) → (if b then settled u else read_name o) ≡ settled t →
        Is u ≡ Is t
    by true o e = ap Is (same e)
      where
        same : settled u ≡ settled t → u ≡ t
        same e = cc
    by false None e = absurd (cc)
    by false (Some x) e = absurd (cc)

asked-is : (asked : Asked) (t : Linear) → asked_slot asked ≡ Is t → asked_of asked t ≡ asked
asked-is One t e = refl
asked-is (Share x) t e = ap Share (sym e)
asked-is (Src x) t e = ap Src (sym e)
asked-is (Tok x) t e = ap Tok (sym e)
asked-is (At x) t e = ap At (sym e)
asked-is (From x) t e = ap From (sym e)

-- where the value is a count
first-over :
    (R : Sort → ℕ → Type 0) (asked : Asked) (f : Form) → IsCounted asked → CutFrom asked f →
    FormOver R f → Over (R Int) (first_term f)
first-over R One form.One k c o = tt
first-over R (Src x) (form.Src m) k c o = o
first-over R (Tok x) (form.Tok m) k c o = o
first-over R (Tok x) (form.Src m) k c o = o
first-over R (At x) (form.Span a e) k c o = o.0
first-over R (From x) (form.Span a e) k c o = o.0
first-over R (Share x) f k c o = absurd k
first-over R asked f k c o = absurd c

counted-value :
    (asked : Asked) (v : Valuation) (t : Linear) (y : NameValue) → IsCounted asked →
    (asked ≡ One → ⊥) → IsAskedValue asked v t y → y ≡ a_number (value v.whole t)
counted-value One v t y k ne e = absurd (ne refl)
counted-value (Share x) v t y k ne e = absurd k
counted-value (Src x) v t y k ne e = e
counted-value (Tok x) v t y k ne e = e
counted-value (At x) v t y k ne e = e
counted-value (From x) v t y k ne e = e

-- what is wanted of a count at alike values
wants-back :
    (asked : Asked) (v w : Valuation) (t : Linear) (x : Element) → IsCounted asked →
    value w.whole t ≡ value v.whole t → Wants w (asked_of asked t) x →
    Wants v (asked_of asked t) x
wants-back One v w t x k e h = h
wants-back (Share s) v w t x k e h = absurd k
wants-back (Src s) v w t x k e h = (h.0, sym e ∙ h.1, h.2)
wants-back (Tok s) v w t x k e h = (h.0, sym e ∙ h.1, h.2)
wants-back (At s) v w t x k e h = (h.0, sym e ∙ h.1, h.2)
wants-back (From s) v w t x k e h = (h.0, sym e ∙ h.1, h.2)

-- nothing is cut for a slot that can't be read
pub stuck-none :
    (s : PlainState) (env : PlainEnv) (asked : Asked) (f : Form) (way : ℕ) (P : Cut → Type 0) →
    reading env (asked_slot asked) ≡ stuck → Comes (cut_form s env asked f way) P → ⊥
stuck-none s env One f way P e c = absurd (cc)
stuck-none s env (Share x) (form.Share a) way P e c =
    by way (subst (λ r. Comes (cut_share s env a way r) P) e c)
  where
    by : (way : ℕ) → Comes (cut_share s env a way stuck) P → ⊥
    by zero c = c.1
    by (suc zero) c = c.1
    by (suc (suc n)) c = c.1
stuck-none s env (Src x) (form.Src m) way P e c =
    by way (subst (λ r. Comes (cut_source s env m way r) P) e c)
  where
    by : (way : ℕ) → Comes (cut_source s env m way stuck) P → ⊥
    by zero c = c.1
    by (suc zero) c = c.1
    by (suc (suc n)) c = c.1
stuck-none s env (Tok x) (form.Tok m) way P e c =
    by way (subst (λ r. Comes (cut_tokens s env m way r) P) e c)
  where
    by : (way : ℕ) → Comes (cut_tokens s env m way stuck) P → ⊥
    by zero c = c.1
    by (suc zero) c = c.1
    by (suc (suc n)) c = c.1
stuck-none s env (Tok x) (form.Src m) way P e c =
    by way (subst (λ r. Comes (cut_new_tokens s env m way r) P) e c)
  where
    by : (way : ℕ) → Comes (cut_new_tokens s env m way stuck) P → ⊥
    by zero c = c.1
    by (suc zero) c = c.1
    by (suc (suc n)) c = c.1
stuck-none s env (At x) (form.Span a None) way P e c =
    by way (subst (λ r. Comes (cut_index s env a None way r) P) e c)
  where
    by : (way : ℕ) → Comes (cut_index s env a None way stuck) P → ⊥
    by zero c = c.1
    by (suc zero) c = c.1
    by (suc (suc n)) c = c.1
stuck-none s env (At x) (form.Span a (Some b)) way P e c =
    by way (subst (λ r. Comes (cut_index s env a (Some b) way r) P) e c)
  where
    by : (way : ℕ) → Comes (cut_index s env a (Some b) way stuck) P → ⊥
    by zero c = c.1
    by (suc zero) c = c.1
    by (suc (suc n)) c = c.1
stuck-none s env (From x) (form.Span a None) way P e c =
    by way (subst (λ r. Comes (cut_onwards s env a way r) P) e c)
  where
    by : (way : ℕ) → Comes (cut_onwards s env a way stuck) P → ⊥
    by zero c = c.1
    by (suc zero) c = c.1
    by (suc (suc n)) c = c.1
stuck-none s env asked f way P e c = absurd c.1

-- ---- over the denominator before

module _ (p : Checked) (ks : List ℕ) (T : Table) (next : ℤ) (lim : Holding) (j : Job)
    (vs : List NameValue) (s : PlainState) (c : Stock) (top : Taking) (k way : ℕ)
    (cs : List Cert) (place : Place) (n r m : ℕ) (asked : Asked) (more : Items) (kids : PlainTrees)
    (f : Starting p ks T next lim j vs s c top (item (atom place n r m asked) more))
    (g : Found p ks T next lim j vs s c top k way cs place n r m asked more kids f)
    (ns : List NameValue) (so : NamesSo j.scope vs (env_at s j.env) ns)
    (closed : is_open asked (env_at s j.env) ≡ false) where
  abbrev v : Valuation
  v = valuation vs

  abbrev env : PlainEnv
  env = env_at s j.env

  abbrev Here : Type 0
  Here = Value p ks T next lim j vs s c top k way cs place n r m asked more kids f g ns

  no-sorts : g.after.sorts ≡ s.sorts
  no-sorts = g.sorts ∙ ap (λ b. s.sorts ++ open_sorts b) closed ∙ join-nil s.sorts

  no-brings :
      (u : Valuation) →
      Brings u (length s.sorts) (piece_brings (is_open asked env) (slice_get s.guards k))
  no-brings u =
      subst (λ b. Brings u (length s.sorts) (piece_brings b (slice_get s.guards k))) (sym closed) tt

  same-values : Alike (Old g.after) g.w (valuation vs)
  same-values =
      then-alike s g.after v g.w v (piece_brings (is_open asked env) (slice_get s.guards k))
      (record { count = g.brought.count; are = g.brought.are }) g.alike (alike-same (Old s) v)
      (no-brings v)

  closed-value :
      (y : NameValue) (by : List NameValue) (t : Linear) →
      atom_met vs ns g.piece.form (asked_reading env asked) ≡ traced y →
      new_share asked (asked_reading env asked) y ≡ [] → AreNameTerms s.sorts g.later →
      NamesSo j.scope vs g.later
      (met (asked_reading env asked) y (record top.fill { names = ns })).names →
      (SharesBound j.scope vs env → SharesBound j.scope vs g.later) →
      IsAskedValue asked (valuation by) t y → Wants (valuation by) (asked_of asked t) g.taken →
      Here
  closed-value y by t found none terms names keeps is wants = record {
    value_is = y;
    new = vs;
    found_it = found;
    new_is = ap (λ us. vs ++ us) none ∙ join-nil vs;
    alike = alike-same (Old s) v;
    brings = no-brings v;
    sorted = subst (λ os. AllZip FitsSort os vs) (sym no-sorts) f.sorted;
    terms = subst (λ os. AreNameTerms os g.later) (sym no-sorts) terms;
    names = names;
    keeps = keeps;
    by = by;
    term = t;
    is_value = is;
    wants = wants;
  }

  -- the slot is settled
  pub settled-value :
      (t : Linear) → asked_reading env asked ≡ reading env (asked_slot asked) →
      reading env (asked_slot asked) ≡ settled t →
      ((y : NameValue) → new_share asked (settled t) y ≡ []) →
      (atom_met vs ns g.piece.form (asked_reading env asked) ≡ past_width) ⊎ Here
  settled-value t slot e none =
      by (atom_met vs ns g.piece.form (asked_reading env asked)) refl
      (subst (λ d. IsTold (IsAskedValue asked (valuation ns) t) (atom_met vs ns g.piece.form d))
      (sym (slot ∙ e)) (settled-found vs ns asked g.piece.form t g.cut_from))
    where
      later : g.later ≡ env
      later =
          g.later_is
          ∙ ap (λ d. met_env env d (open_term asked g.piece.form (length s.sorts))) e

      wanted : Wants (valuation ns) (asked_of asked t) g.taken
      wanted =
          subst (λ b. Wants (valuation ns) b g.taken)
          (sym (asked-is asked t (settled-is env (asked_slot asked) t e)))
          (subst (λ X. Wants X asked g.taken)
          (ap (values_in v) later ∙ so.same)
          (g.wanted v same-values (values_in v g.later) (values-mean j.scope v g.later)))

      by :
          (o : Traced NameValue) → atom_met vs ns g.piece.form (asked_reading env asked) ≡ o →
          IsTold (IsAskedValue asked (valuation ns) t) o →
          (atom_met vs ns g.piece.form (asked_reading env asked) ≡ past_width) ⊎ Here
      by untold q h = absurd h
      by past_width q h = inl q
      by (traced y) q h =
          inr (closed-value y ns t q
          (ap (λ d. new_share asked d y) (slot ∙ e) ∙ none y)
          (subst (AreNameTerms s.sorts) (sym later) f.terms)
          (subst (λ d. NamesSo j.scope vs g.later
          (met d y (record top.fill { names = ns })).names) (sym (slot ∙ e))
          (subst (λ u. NamesSo j.scope vs u ns) (sym later) so))
          (subst (SharesBound j.scope vs) (sym later)) h wanted)

  -- a unique guard has no slot
  pub unique-value :
      asked ≡ One →
      (atom_met vs ns g.piece.form (asked_reading env asked) ≡ past_width) ⊎ Here
  unique-value is =
      by (atom_met vs ns g.piece.form (asked_reading env asked)) refl
      (subst (λ d. IsTold (IsAskedValue asked (valuation ns) zero_value)
      (atom_met vs ns g.piece.form d)) (sym read)
      (settled-found vs ns asked g.piece.form zero_value g.cut_from))
    where
      read : asked_reading env asked ≡ settled zero_value
      read = ap (asked_reading env) is

      later : g.later ≡ env
      later =
          g.later_is
          ∙ ap (λ b. met_env env (reading env (asked_slot b))
          (open_term b g.piece.form (length s.sorts))) is

      wanted : Wants (valuation ns) (asked_of asked zero_value) g.taken
      wanted =
          subst (λ b. Wants (valuation ns) (asked_of b zero_value) g.taken) (sym is)
          (subst (λ b. Wants (values_in v g.later) b g.taken) is
          (g.wanted v same-values (values_in v g.later) (values-mean j.scope v g.later)))

      by :
          (o : Traced NameValue) → atom_met vs ns g.piece.form (asked_reading env asked) ≡ o →
          IsTold (IsAskedValue asked (valuation ns) zero_value) o →
          (atom_met vs ns g.piece.form (asked_reading env asked) ≡ past_width) ⊎ Here
      by untold q h = absurd h
      by past_width q h = inl q
      by (traced y) q h =
          inr (closed-value y ns zero_value q (ap (λ b. new_share b (asked_reading env b) y) is)
          (subst (AreNameTerms s.sorts) (sym later) f.terms)
          (subst (λ d. NamesSo j.scope vs g.later
          (met d y (record top.fill { names = ns })).names) (sym read)
          (subst (λ u. NamesSo j.scope vs u ns) (sym later) so))
          (subst (SharesBound j.scope vs) (sym later)) h wanted)

  -- the slot of a count is open
  pub counted-open :
      IsCounted asked → (asked ≡ One → ⊥) →
      asked_reading env asked ≡ reading env (asked_slot asked) →
      open_term asked g.piece.form (length s.sorts) ≡ first_term g.piece.form →
      SlotFits j.scope Int (asked_slot asked) →
      ((d : Reading) (y : NameValue) → new_share asked d y ≡ []) → (o : Option ℕ) →
      reading env (asked_slot asked) ≡ open_to o →
      (atom_met vs ns g.piece.form (asked_reading env asked) ≡ past_width) ⊎ Here
  counted-open count ne slot term fit none o e =
      by (atom_met vs ns g.piece.form (asked_reading env asked)) refl
      (subst (λ d. IsTold (IsAskedValue asked (valuation vs) (first_term g.piece.form))
      (atom_met vs ns g.piece.form d)) (sym (slot ∙ e))
      (open-found vs ns asked g.piece.form o g.cut_from count))
    where
      t : Linear
      t = first_term g.piece.form

      over_it : Over (Usable ks s.sorts Int) (first_term g.piece.form)
      over_it =
          first-over (Usable ks s.sorts) asked g.piece.form count g.cut_from
          (all-at (PieceOver (Usable ks s.sorts)) s.guards k g.piece
          f.start.ready.grounded.pieces_over g.at).1

      int : Over (λ x. slice_get s.sorts x ≡ Some Int) (first_term g.piece.form)
      int =
          vars-more (Usable ks s.sorts Int) (λ x. slice_get s.sorts x ≡ Some Int) (λ x u. u.0)
          (first_term g.piece.form).parts over_it

      later : g.later ≡ met_env env (reading env (asked_slot asked)) (first_term g.piece.form)
      later = g.later_is ∙ ap (met_env env (reading env (asked_slot asked))) term

      wanted : Wants (valuation vs) (asked_of asked (first_term g.piece.form)) g.taken
      wanted =
          wants-back asked v g.w (first_term g.piece.form) g.taken count
          (value-alike (Old s) v g.w g.alike (first_term g.piece.form)
          (vars-more (Usable ks s.sorts Int) (Old s) (usable-old ks s.sorts Int)
          (first_term g.piece.form).parts over_it))
          (subst (λ u. Wants g.w (asked_of asked u) g.taken) term
          (subst (λ d. OpenGets g.w asked d (open_term asked g.piece.form (length s.sorts)) g.taken)
          e g.gets))

      by :
          (q : Traced NameValue) → atom_met vs ns g.piece.form (asked_reading env asked) ≡ q →
          IsTold (IsAskedValue asked (valuation vs) (first_term g.piece.form)) q →
          (atom_met vs ns g.piece.form (asked_reading env asked) ≡ past_width) ⊎ Here
      by untold q h = absurd h
      by past_width q h = inl q
      by (traced y) q h =
          let is = counted-value asked v (first_term g.piece.form) y count ne h in
          let value_is : IsValue v (first_term g.piece.form) y =
          subst (IsValue v (first_term g.piece.form)) (sym is) (record {
            whole = refl;
            share = int-term s.sorts vs f.sorted (first_term g.piece.form) int;
          }) in
          let names = met-names ks j.scope s.sorts vs env Int (asked_slot asked)
          (first_term g.piece.form) y (record top.fill { names = ns }) f.start.ready.placed fit so
          value_is (subst (FitsSort Int) (sym is) tt) (λ e. int-only e) in
          inr (closed-value y vs (first_term g.piece.form) q (none (asked_reading env asked) y)
          (subst (AreNameTerms s.sorts) (sym later)
          (met-terms (IsNameTerm s.sorts) env (reading env (asked_slot asked))
          (first_term g.piece.form) (inr int) f.terms))
          (subst (λ d. NamesSo j.scope vs g.later
          (met d y (record top.fill { names = ns })).names) (sym slot)
          (subst (λ u. NamesSo j.scope vs u
          (met (reading env (asked_slot asked)) y (record top.fill { names = ns })).names)
          (sym later) names))
          (λ b. subst (SharesBound j.scope vs) (sym later)
          (shares-met j.scope vs env Int (asked_slot asked) (first_term g.piece.form) fit
          (λ e. int-only e) b)) h wanted)
