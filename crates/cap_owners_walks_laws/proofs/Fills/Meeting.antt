-- What is met when an item is taken: the fill gets just the values of its `_`.
use Rattle.std.proofs.Common.{◌≡◌, ◌⊎◌, inl, inr, ℕ, ℤ, pos, Bool, true, false, List, [], ◌∷◌, ◌++◌, map, Option, Some, None, refl, sym, ap, ◌∙◌}
use Rattle.std.specs.Prelude.{if◌then◌else◌}
use Rattle.cap_lin.specs.Linear.{Linear}
use Rattle.cap_lin.specs.Values.{Valuation, value}
use Rattle.cap_galg.specs.Elements.{Element}
use Rattle.cap_prog.specs.declared.assertion.Slot.{Slot}
use Rattle.cap_prog.specs.declared.assertion.Slot.TheVariants.{Any, Is}
use Rattle.cap_prog.specs.declared.assertion.Asked.{Asked}
use Rattle.cap_prog.specs.declared.assertion.Asked.TheVariants.{One, Share, Src, Tok, At, From}
use Rattle.cap_goal_spec.specs.Terms.{lone_variable}
use Rattle.cap_goal_spec.specs.States.{PlainEnv}
use Rattle.cap_goal_spec.specs.Environments.{is_determined, settled, open_to, read_name, reading}
use Rattle.cap_machine_accounts.specs.Assertions.{NameValue, a_number}
use Rattle.cap_account_resources.proofs.Lists.{join-nil, join-assoc}
use Rattle.cap_account_states.proofs.Wants.{Wants}
use Rattle.cap_owners_spec.specs.Traced.{Traced, traced, past_width, untold, ◌>>=◌, a_share, valuation, number_in}
use Rattle.cap_owners_spec.specs.Track.{Fill}
use Rattle.cap_owners_spec.specs.Filling.{met_at, met, met_by_term, all_met}
use Rattle.cap_owners_spec.specs.Walks.{asked_reading}
use Rattle.cap_owners_walks_laws.proofs.Values.Numbers.{number-is}
use Rattle.cap_owners_walks_laws.proofs.Values.More.{number-told}
use Rattle.cap_owners_walks_laws.proofs.Fills.Drawn.{slot_met, slots_met, share_met, asked_met}

-- it has got these values of `_`, and no fact
pub record HasMet (f : Fill) (new : List NameValue) (g : Fill) : Type 0 where
  pub wildcards : g.wildcards ≡ f.wildcards ++ new
  pub facts : g.facts ≡ f.facts

-- so, or a number is too wide
abbrev pub MeetsSo : Traced Fill → Fill → List NameValue → Type 0
MeetsSo o f new = (o ≡ past_width) ⊎ ((g : Fill) × (o ≡ traced g) × HasMet f new g)

met-none : (f g : Fill) → g.wildcards ≡ f.wildcards → g.facts ≡ f.facts → HasMet f [] g
met-none f g e h = record { wildcards = e ∙ sym (join-nil f.wildcards); facts = h }

-- ---- one value

-- a slot that is a term
term-met :
    (env : PlainEnv) (t : Linear) (y : NameValue) (f : Fill) →
    HasMet f [] (met (reading env (Is t)) y f)
term-met env t y f = by (is_determined env t) (lone_variable t)
  where
    by :
        (b : Bool) (o : Option ℕ) → HasMet f [] (met (if b then settled t else read_name o) y f)
    by true o = met-none f f refl refl
    by false None = met-none f f refl refl
    by false (Some x) = met-none f (met_at (Some x) y f) refl refl

pub slot-meets :
    (env : PlainEnv) (x : Slot) (z : ℤ) (f : Fill) →
    HasMet f (slot_met x z) (met (reading env x) (a_number z) f)
slot-meets env Any z f = record { wildcards = refl; facts = refl }
slot-meets env (Is t) z f = term-met env t (a_number z) f

pub share-meets :
    (env : PlainEnv) (x : Slot) (n : ℤ) (f : Fill) →
    HasMet f (share_met x n) (met (reading env x) (a_share n) f)
share-meets env Any n f = record { wildcards = refl; facts = refl }
share-meets env (Is t) n f = term-met env t (a_share n) f

-- the value at which the slot of a guard is met
abbrev pub value_asked : (a : Valuation) (asked : Asked) (y : Element) → Wants a asked y → NameValue
value_asked a One y h = a_number (pos 0)
value_asked a (Share s) y h = a_share h.1
value_asked a (Src s) y h = a_number (pos h.0)
value_asked a (Tok s) y h = a_number (pos h.0)
value_asked a (At s) y h = a_number (pos h.0)
value_asked a (From s) y h = a_number (pos h.0)

pub asked-meets :
    (env : PlainEnv) (a : Valuation) (asked : Asked) (y : Element) (h : Wants a asked y)
    (f : Fill) →
    HasMet f (asked_met a asked y h)
    (met (asked_reading env asked) (value_asked a asked y h) f)
asked-meets env a One y h f = met-none f f refl refl
asked-meets env a (Share s) y h f = share-meets env s h.1 f
asked-meets env a (Src s) y h f = slot-meets env s (pos h.0) f
asked-meets env a (Tok s) y h f = slot-meets env s (pos h.0) f
asked-meets env a (At s) y h f = slot-meets env s (pos h.0) f
asked-meets env a (From s) y h f = slot-meets env s (pos h.0) f

-- ---- by terms

module _ (vs : List NameValue) (env : PlainEnv) where
  -- the value of a term
  number-met :
      (x : Option ℕ) (t : Linear) (f : Fill) (new : List NameValue) →
      ((z : ℤ) → z ≡ value (valuation vs).whole t → HasMet f new (met_at x (a_number z) f)) →
      MeetsSo (met_by_term vs (open_to x) t f) f new
  number-met x t f new k = by (number_in vs t) refl
    where
      by :
          (m : Traced ℤ) → number_in vs t ≡ m →
          MeetsSo (m >>= λ z. traced (met_at x (a_number z) f)) f new
      by (traced z) e = inr (met_at x (a_number z) f, refl, k z (number-is vs t z e))
      by past_width e = inl refl
      by untold e = absurd (number-told vs t e)

  term-meets :
      (x : Slot) (t : Linear) (f : Fill) →
      MeetsSo (met_by_term vs (reading env x) t f) f
      (slot_met x (value (valuation vs).whole t))
  term-meets Any t f =
      number-met None t f (slot_met Any (value (valuation vs).whole t))
      (λ z e. record { wildcards = ap (λ y. f.wildcards ++ a_number y ∷ []) e; facts = refl })
  term-meets (Is u) t f = by (is_determined env u) (lone_variable u)
    where
      by :
          (b : Bool) (o : Option ℕ) →
          MeetsSo (met_by_term vs (if b then settled u else read_name o) t f) f []
      by true o = inr (f, refl, met-none f f refl refl)
      by false None = inr (f, refl, met-none f f refl refl)
      by false (Some x) =
          number-met (Some x) t f []
          (λ z e. met-none f (met_at (Some x) (a_number z) f) refl refl)

  -- of as many slots as terms
  pub all-meet :
      (xs : List Slot) (ts : List Linear) (f : Fill) →
      MeetsSo (all_met vs (map (reading env) xs) ts f) f
      (slots_met xs (map (value (valuation vs).whole) ts))
  all-meet [] ts f = inr (f, refl, met-none f f refl refl)
  all-meet (x ∷ xs) [] f = inr (f, refl, met-none f f refl refl)
  all-meet (x ∷ xs) (t ∷ ts) f = elim (term-meets x t f) [
    | inl e ↦ inl (ap (λ o. o >>= all_met vs (map (reading env) xs) ts) e)
    | inr m ↦
        let into = ap (λ o. o >>= all_met vs (map (reading env) xs) ts) m.1 in
        elim (all-meet xs ts m.0) [
          | inl e ↦ inl (into ∙ e)
          | inr k ↦
              inr (
                k.0,
                into ∙ k.1,
                record {
                  wildcards =
                      k.2.wildcards
                      ∙ ap (λ ws. ws ++ slots_met xs (map (value (valuation vs).whole) ts))
                      m.2.wildcards
                      ∙ sym (join-assoc f.wildcards (slot_met x (value (valuation vs).whole t))
                      (slots_met xs (map (value (valuation vs).whole) ts)));
                  facts = k.2.facts ∙ m.2.facts;
                },
              )
        ]
  ]
