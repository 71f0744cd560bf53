-- What is written holds no float, so its text is known.
use Rattle.std.proofs.Common.{◌≡◌, ℕ, ◌++◌, Bool, true, false, List, [], ◌∷◌, map, Option, Some, None, Result, Ok, Err, refl, ap, ◌∙◌}
use Rattle.std.specs.Prelude.{OnOk, ◌||◌}
use Rattle.serde_json.specs.Data.{Data}
use Rattle.serde_json.specs.View.{items_of}
use Rattle.serde_json.specs.Written.{has_float, items_have_float}
use Rattle.cap_farkas.specs.declared.cert.Cert.{Cert}
use Rattle.cap_farkas.specs.declared.cert.Cert.TheVariants.{Leaf, Split}
use Rattle.cap_goal_spec.specs.Choices.{PlainChoice, by_absurd, by_clash, by_set, by_alloc, by_assert, by_if, by_loop, by_turn, by_call, by_fork, by_return, by_enter, by_act, by_pick, by_shift, by_settle, by_keep, by_give, by_fact, by_cases, by_cell, by_region, by_guard, by_convert, by_create, by_made}
use Rattle.cap_deriv_write.specs.Forms.{pair_form, cert_form, mark_form, spans_form, choice_form, number_form}
use Rattle.cap_deriv_write.specs.Written.{line_text}

neither : (a b : Bool) → a ≡ false → b ≡ false → (a || b) ≡ false
neither true b p q = p
neither false b p q = q

none_of : {A : Type 0} (f : A → Data) → ((x : A) → has_float (f x) ≡ false) → (xs : List A) → items_have_float (items_of (map f xs)) ≡ false
none_of f each [] = refl
none_of f each (x ∷ xs) = neither (has_float (f x)) _ (each x) (none_of f each xs)

cert_whole : (c : Cert) → has_float (cert_form c) ≡ false
cert_whole (Leaf ps) = neither _ _ (none_of pair_form (λ p. refl) ps) refl
cert_whole (Split k ps qs) = neither _ _ (none_of pair_form (λ p. refl) ps) (neither _ _ (none_of pair_form (λ p. refl) qs) refl)

mark_whole : (m : Option Cert) → has_float (mark_form m) ≡ false
mark_whole None = refl
mark_whole (Some c) = cert_whole c

last_certs : (cs : List Cert) → (items_have_float (items_of (map cert_form cs)) || false) ≡ false
last_certs cs = neither _ _ (none_of cert_form cert_whole cs) refl

last_numbers : (ns : List ℕ) → (items_have_float (items_of (map number_form ns)) || false) ≡ false
last_numbers ns = neither _ _ (none_of number_form (λ n. refl) ns) refl

spans_whole : (ns : List ℕ) → items_have_float (items_of (spans_form ns)) ≡ false
spans_whole [] = refl
spans_whole (n ∷ ns) = last_numbers (n ∷ ns)

pub choice_whole : (c : PlainChoice) → has_float (choice_form c) ≡ false
choice_whole (by_absurd c) = neither _ _ (cert_whole c) refl
choice_whole (by_clash i j cs) = last_certs cs
choice_whole by_set = refl
choice_whole by_alloc = refl
choice_whole (by_assert cs) = last_certs cs
choice_whole by_if = refl
choice_whole by_loop = refl
choice_whole by_turn = refl
choice_whole by_call = refl
choice_whole by_fork = refl
choice_whole by_return = refl
choice_whole (by_enter i cs) = last_certs cs
choice_whole (by_act j cs ms) = neither _ _ (none_of cert_form cert_whole cs) (neither _ _ (none_of mark_form mark_whole ms) refl)
choice_whole (by_pick o c m) = refl
choice_whole (by_shift cs spans) = neither _ _ (none_of cert_form cert_whole cs) (spans_whole spans)
choice_whole (by_settle ns cs) = neither _ _ (none_of number_form (λ n. refl) ns) (last_certs cs)
choice_whole (by_keep cs) = last_certs cs
choice_whole by_give = refl
choice_whole (by_fact cs) = last_certs cs
choice_whole by_cases = refl
choice_whole (by_cell j cs) = last_certs cs
choice_whole (by_region j cs) = last_certs cs
choice_whole (by_guard j way cs) = last_certs cs
choice_whole (by_convert n side cs) = last_certs cs
choice_whole (by_create c) = refl
choice_whole (by_made cs) = last_certs cs

pub written : {A E : Type 0} (r : Result A E) (d form : Data) (old new : List ℕ) → d ≡ form → has_float form ≡ false
    → OnOk r (has_float d ≡ false → new ≡ old ++ line_text d) → OnOk r (new ≡ old ++ line_text form)
written (Ok x) d form old new e h f = f (ap has_float e ∙ h) ∙ ap (λ g. old ++ line_text g) e
written (Err x) d form old new e h f = tt
