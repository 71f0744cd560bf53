-- Certificates are read from the forms that they are written in alone.
use Rattle.std.proofs.Common.{◌≡◌, ℕ, cond, true, inl, inr, List, [], ◌∷◌, Option, Some, None, option_map, option_and_then, refl, ap, subst, ◌∙◌}
use Rattle.std.specs.Prelude.{ℤ, codes, ◌==◌, if◌then◌else◌}
use Rattle.std.specs.Fmt.{signed_decimal}
use Rattle.std.specs.List.{AllByRecursion}
use Rattle.std.specs.Str.{bytes_eq}
use Rattle.std.proofs.lemmas.Bool.{eqb-true}
use Rattle.serde_json.specs.Data.{Data, null, boolean, number, string, array, object, Num}
use Rattle.serde_json.specs.Find.{as_str, as_u64}
use Rattle.cap_farkas.specs.declared.cert.Cert.{Cert}
use Rattle.cap_farkas.specs.declared.cert.Cert.TheVariants.{Leaf, Split}
use Rattle.cap_deriv_choices.specs.Reading.{array_of_json, number_of_json, multiplier_text, multiplier_of_json, pair_of_items, pair_of_json, pairs_of_json, leaf_of_items, split_of_items, cert_of_items, cert_of_json, certs_of_json, mark_of_json, marks_of_json, head_of_json}
use Rattle.cap_deriv_write.specs.Bounds.{IsMultiplier, IsPair, ArePairs, IsCert, AreCerts, IsMark}
use Rattle.cap_deriv_write.specs.Forms.{array_form, number_form, headed_form, pair_form, pairs_form, cert_form, certs_form, mark_form, marks_form}
use Rattle.cap_deriv_write.proofs.Options.{some_same, map_of, then_of, test_of}
use Rattle.cap_deriv_write.proofs.Wide.{multiplier_decimal, multiplier_sound}
use Rattle.cap_deriv_write.proofs.Parts.{number_read, number_sound, array_sound, text_sound, long_sound, head_sound, word_is, list_read, list_sound}

-- ---- what is written is read

pair_read : (p : ℕ × ℤ) → IsPair p → pair_of_json (pair_form p) ≡ Some p
pair_read p h = rw (number_read p.0 h.0, multiplier_decimal p.1 h.1) refl

pairs_read : (ps : List (ℕ × ℤ)) → ArePairs ps → pairs_of_json (pairs_form ps) ≡ Some ps
pairs_read ps h = list_read pair_of_json pair_form IsPair pair_read ps h

pub cert_read : (c : Cert) → IsCert c → cert_of_json (cert_form c) ≡ Some c
cert_read (Leaf ps) h = ap (option_map Leaf) (pairs_read ps h)
cert_read (Split k ps qs) h = rw (number_read k h.0, pairs_read ps h.1, pairs_read qs h.2) refl

pub certs_read : (cs : List Cert) → AreCerts cs → certs_of_json (certs_form cs) ≡ Some cs
certs_read cs h = list_read cert_of_json cert_form IsCert cert_read cs h

mark_read : (m : Option Cert) → IsMark m → mark_of_json (mark_form m) ≡ Some m
mark_read None h = refl
mark_read (Some (Leaf ps)) h = ap (option_map Some) (cert_read (Leaf ps) h)
mark_read (Some (Split k ps qs)) h = ap (option_map Some) (cert_read (Split k ps qs) h)

pub marks_read : (ms : List (Option Cert)) → AllByRecursion IsMark ms → marks_of_json (marks_form ms) ≡ Some ms
marks_read ms h = list_read mark_of_json mark_form IsMark mark_read ms h

-- ---- what is read is of the form

factor_sound : (d : Data) (z : ℤ) → multiplier_of_json d ≡ Some z → (d ≡ string (signed_decimal z)) × IsMultiplier z
factor_sound d z e =
    let t = then_of multiplier_text (as_str d) z e in
    let m = multiplier_sound t.0 z t.2 in
    (text_sound d t.0 t.1 ∙ ap string m.0, m.1)

pair_items_sound : (ds : List Data) (p : ℕ × ℤ) → pair_of_items ds ≡ Some p → (array_form ds ≡ pair_form p) × IsPair p
pair_items_sound [] p e = absurd (cc)
pair_items_sound (a ∷ []) p e = absurd (cc)
pair_items_sound (a ∷ b ∷ []) p e =
    let t = then_of (λ n. option_map (λ z. (n, z)) (multiplier_of_json b)) (number_of_json a) p e in
    let m = map_of (λ z. (t.0, z)) (multiplier_of_json b) p t.2 in
    let x = number_sound a t.0 t.1 in
    let y = factor_sound b m.0 m.1 in
    (ap (λ d. array_form (d ∷ b ∷ [])) x.0 ∙ ap (λ d. array_form (number_form t.0 ∷ d ∷ [])) y.0 ∙ ap pair_form m.2, subst IsPair m.2 (x.1, y.1))
pair_items_sound (a ∷ b ∷ c ∷ ds) p e = absurd (cc)

pair_sound : (d : Data) (p : ℕ × ℤ) → pair_of_json d ≡ Some p → (d ≡ pair_form p) × IsPair p
pair_sound d p e =
    let t = then_of pair_of_items (array_of_json d) p e in
    let x = pair_items_sound t.0 p t.2 in
    (array_sound d t.0 t.1 ∙ x.0, x.1)

pairs_sound : (d : Data) (ps : List (ℕ × ℤ)) → pairs_of_json d ≡ Some ps → (d ≡ pairs_form ps) × ArePairs ps
pairs_sound = list_sound pair_of_json pair_form IsPair pair_sound

leaf_sound : (ds : List Data) (c : Cert) → leaf_of_items ds ≡ Some c → (headed_form (codes "leaf") ds ≡ cert_form c) × IsCert c
leaf_sound [] c e = absurd (cc)
leaf_sound (a ∷ []) c e =
    let m = map_of Leaf (pairs_of_json a) c e in
    let x = pairs_sound a m.0 m.1 in
    (ap (λ d. headed_form (codes "leaf") (d ∷ [])) x.0 ∙ ap cert_form m.2, subst IsCert m.2 x.1)
leaf_sound (a ∷ b ∷ ds) c e = absurd (cc)

split_sound : (ds : List Data) (c : Cert) → split_of_items ds ≡ Some c → (headed_form (codes "split") ds ≡ cert_form c) × IsCert c
split_sound [] c e = absurd (cc)
split_sound (a ∷ []) c e = absurd (cc)
split_sound (a ∷ b ∷ []) c e = absurd (cc)
split_sound (a ∷ b ∷ d ∷ []) c e =
    let t = then_of (λ k. option_and_then (λ ps. option_map (Split k ps) (pairs_of_json d)) (pairs_of_json b)) (number_of_json a) c e in
    let u = then_of (λ ps. option_map (Split t.0 ps) (pairs_of_json d)) (pairs_of_json b) c t.2 in
    let m = map_of (Split t.0 u.0) (pairs_of_json d) c u.2 in
    let x = number_sound a t.0 t.1 in
    let y = pairs_sound b u.0 u.1 in
    let z = pairs_sound d m.0 m.1 in (
      ap (λ v. headed_form (codes "split") (v ∷ b ∷ d ∷ [])) x.0 ∙ ap (λ v. headed_form (codes "split") (number_form t.0 ∷ v ∷ d ∷ [])) y.0
          ∙ ap (λ v. headed_form (codes "split") (number_form t.0 ∷ pairs_form u.0 ∷ v ∷ [])) z.0 ∙ ap cert_form m.2,
      subst IsCert m.2 (x.1, y.1, z.1),
    )
split_sound (a ∷ b ∷ d ∷ f ∷ ds) c e = absurd (cc)

pub headed_as : (s w : List ℕ) (ds : List Data) → bytes_eq s w ≡ true → headed_form s ds ≡ headed_form w ds
headed_as s w ds e = ap (λ t. headed_form t ds) (word_is s w e)

cert_items_sound : (s : List ℕ) (ds : List Data) (c : Cert) → cert_of_items s ds ≡ Some c → (headed_form s ds ≡ cert_form c) × IsCert c
cert_items_sound s ds c e = elim (test_of (bytes_eq s (codes "leaf")) (leaf_of_items ds) (if bytes_eq s (codes "split") then split_of_items ds else None) c e) [
  | inl p ↦ let x = leaf_sound ds c p.1 in (headed_as s (codes "leaf") ds p.0 ∙ x.0, x.1)
  | inr p ↦ elim (test_of (bytes_eq s (codes "split")) (split_of_items ds) None c p.1) [
    | inl q ↦ let x = split_sound ds c q.1 in (headed_as s (codes "split") ds q.0 ∙ x.0, x.1)
    | inr q ↦ let none = q.1 in absurd (cc)
  ]
]

pub cert_sound : (d : Data) (c : Cert) → cert_of_json d ≡ Some c → (d ≡ cert_form c) × IsCert c
cert_sound d c e =
    let t = then_of (λ p. cert_of_items p.0 p.1) (head_of_json d) c e in
    let x = cert_items_sound t.0.0 t.0.1 c t.2 in
    (head_sound d t.0 t.1 ∙ x.0, x.1)

pub certs_sound : (d : Data) (cs : List Cert) → certs_of_json d ≡ Some cs → (d ≡ certs_form cs) × AreCerts cs
certs_sound = list_sound cert_of_json cert_form IsCert cert_sound

kept_mark : (d : Data) (m : Option Cert) → option_map Some (cert_of_json d) ≡ Some m → (d ≡ mark_form m) × IsMark m
kept_mark d m e =
    let t = map_of Some (cert_of_json d) m e in
    let x = cert_sound d t.0 t.1 in
    (x.0 ∙ ap mark_form t.2, subst IsMark t.2 x.1)

abbrev no_mark : Option (Option Cert)
no_mark = Some None

zero_mark : (n : Num) (k : ℕ) (m : Option Cert) → as_u64 n ≡ Some k → cond (k == 0) no_mark None ≡ Some m → (number n ≡ mark_form m) × IsMark m
zero_mark n k m u e = elim (test_of (k == 0) no_mark None m e) [
  | inl p ↦ let same : None ≡ m = some_same _ _ p.1 in
      (long_sound (number n) k u ∙ ap number_form (eqb-true k 0 p.0) ∙ ap mark_form same, subst IsMark same tt)
  | inr p ↦ let none = p.1 in absurd (cc)
]

mark_sound : (d : Data) (m : Option Cert) → mark_of_json d ≡ Some m → (d ≡ mark_form m) × IsMark m
mark_sound null m e = kept_mark null m e
mark_sound (boolean b) m e = kept_mark (boolean b) m e
mark_sound (number n) m e = let t = then_of (λ k. cond (k == 0) no_mark None) (as_u64 n) m e in zero_mark n t.0 m t.1 t.2
mark_sound (string s) m e = kept_mark (string s) m e
mark_sound (array is) m e = kept_mark (array is) m e
mark_sound (object ms) m e = kept_mark (object ms) m e

pub marks_sound : (d : Data) (ms : List (Option Cert)) → marks_of_json d ≡ Some ms → (d ≡ marks_form ms) × AllByRecursion IsMark ms
marks_sound = list_sound mark_of_json mark_form IsMark mark_sound
