-- What a choice gives at each place: a certificate, or a mark 0.
use Rattle.std.proofs.Common.{◌≡◌, ◌∙◌, ap, refl, ℕ, zero, suc, ◌+◌, ◌-◌, ◌<◌, ◌≤◌, arith, Bool, true, List, [], ◌∷◌, ◌++◌, length, map, Option, Some}
use Rattle.std.specs.Prelude.{is_some, option_map, slice_get}
use Rattle.std.proofs.lemmas.List.{length-append, length-map}
use Rattle.std.specs.Global.{Vec}
use Rattle.cap_farkas.specs.declared.cert.Cert.{Cert}
use Rattle.cap_goal_spec.specs.Choices.{certs_of}
use Rattle.cap_rules_marks.specs.Proven.{given}
use Rattle.cap_goal.specs.declared.choice.Choice.{Choice}
use Rattle.cap_goal.specs.declared.choice.Choice.TheVariants as choice
use Rattle.cap_goal.specs.Views.{choice_view}

-- whether a certificate is given at a place, if anything is
abbrev pub given_at : List (Option Cert) → ℕ → Option Bool
given_at os i = option_map is_some (slice_get os i)

-- ---- certificates, and marks behind them

pub cert-at : (cs : List Cert) (ms : List (Option Cert)) (i : ℕ) → i < length cs → given_at (map Some cs ++ ms) i ≡ Some true
cert-at [] ms i l = absurd (omega (arith, l))
cert-at (c ∷ cs) ms zero l = refl
cert-at (c ∷ cs) ms (suc i) l = cert-at cs ms i (omega (arith, l))

pub mark-at : (cs : List Cert) (ms : List (Option Cert)) (i : ℕ) → length cs ≤ i → slice_get (map Some cs ++ ms) i ≡ slice_get ms (i - length cs)
mark-at [] ms i l = let e : i ≡ i - 0 = omega arith in ap (λ k. slice_get ms k) e
mark-at (c ∷ cs) ms zero l = absurd (omega (arith, l))
mark-at (c ∷ cs) ms (suc i) l =
    let e : i - length cs ≡ suc i - suc (length cs) = omega arith in
    mark-at cs ms i (omega (arith, l)) ∙ ap (λ k. slice_get ms k) e

-- a place behind the certificates is one of a mark
pub marks-long : (cs : List Cert) (ms : List (Option Cert)) (i : ℕ) → i < length (map Some cs ++ ms) → i < length cs + length ms
marks-long cs ms i l = let e = length-append (map Some cs) ms in let f = length-map cs Some in omega (arith, e, f, l)

-- ---- certificates alone

all-given : (cs : List Cert) (i : ℕ) → i < length (map Some cs) → given_at (map Some cs) i ≡ Some true
all-given [] i l = absurd (omega (arith, l))
all-given (c ∷ cs) zero l = refl
all-given (c ∷ cs) (suc i) l = all-given cs i (omega (arith, l))

-- whatever the choice is, if only it is no act
pub other-given :
    (c : Choice) → ((j : ℕ) (cs : Vec Cert) (ms : Vec (Option Cert)) → c ≡ choice.Act j cs ms → ⊥) →
    (i : ℕ) → i < length (given (choice_view c)) → given_at (given (choice_view c)) i ≡ Some true
other-given (choice.Act j cs ms) n i l = absurd (n j cs ms refl)
other-given c n i l = all-given (certs_of (choice_view c)) i l
