-- Texts that are written one by one.
use Rattle.std.proofs.Common.{◌≡◌, ℕ, ◌<◌, ◌/◌, List, [], ◌∷◌, ◌++◌, map, refl, sym, ap, ◌∙◌, arith, Vec, Global, append_assoc, Result, Ok, Err}
use Rattle.std.specs.Prelude.{OnOk, codes}
use Rattle.std.specs.Fmt.{decimal}
use Rattle.std.specs.Int.{IsGcd}
use Rattle.std.specs.List.{join_by}
use Rattle.std.proofs.lemmas.List.{map-append, append-nil}
use Rattle.cap_galg.specs.Fractions.{lowest}
use Rattle.cap_galg.specs.Laws.Fractions.{divisor-positive, lowest-by}
use Rattle.cap_owners_spec.specs.Texts.{fraction_text, or_nothing}
use Rattle.cap_owners_spec.specs.Traced.{over}

-- ---- shares

pub divisor-above : (n g : ℕ) → IsGcd n over g → 0 < g
divisor-above n g h = divisor-positive n over g (omega arith) h

pub fraction_written : {A E : Type 0} (r : Result A E) (n g : ℕ) (t u v w : List ℕ) → IsGcd n over g → u ≡ t ++ decimal (n / g) → v ≡ u ++ codes "/" → OnOk r (w ≡ v ++ decimal (over / g)) → OnOk r (w ≡ t ++ fraction_text (lowest n over))
fraction_written (Err e) n g t u v w h a b c = tt
fraction_written (Ok x) n g t u v w h a b c =
    rw (lowest-by n over g h) (c ∙ (ap (λ l. l ++ decimal (over / g)) (b ∙ ap (λ l. l ++ codes "/") a) ∙ simp append_assoc))

-- ---- loops: what is written and what is left are the whole

abbrev pub written : List (Vec ℕ Global) → List (List ℕ)
written ts = map (λ t. t.items) ts

pub added : {E : Type 0} (f : E → List ℕ) (ts new : List (Vec ℕ Global)) (t : Vec ℕ Global) (left next : List E) (e : E) (whole : List (List ℕ)) → new ≡ ts ++ t ∷ [] → t.items ≡ f e → left ≡ e ∷ next → written ts ++ map f left ≡ whole → written new ++ map f next ≡ whole
added f ts new t left next e whole a b c h =
    let m : written new ≡ written ts ++ (f e ∷ []) = ap written a ∙ (map-append (λ v. v.items) ts (t ∷ []) ∙ ap (λ x. written ts ++ (x ∷ [])) b) in
    let n : written ts ++ (f e ∷ map f next) ≡ whole = ap (λ l. written ts ++ map f l) (sym c) ∙ h in
    rw (m, append_assoc) n

pub all_added : {E : Type 0} (f : E → List ℕ) (ts : List (Vec ℕ Global)) (left : List E) (whole : List (List ℕ)) → left ≡ [] → written ts ++ map f left ≡ whole → written ts ≡ whole
all_added f ts left whole e h = sym (append-nil (written ts)) ∙ (ap (λ l. written ts ++ map f l) (sym e) ∙ h)

-- ---- a part

pub nothing_written : (ts : List (List ℕ)) → ts ≡ [] → or_nothing ts ≡ codes "nothing"
nothing_written ts e = ap or_nothing e

pub joined_written : (ts : List (List ℕ)) (t : List ℕ) (us : List (List ℕ)) → ts ≡ t ∷ us → or_nothing ts ≡ join_by (λ u. u) (codes ", ") ts
joined_written ts t us e = rw e refl
