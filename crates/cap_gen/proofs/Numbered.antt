-- Fragments for one number after the other.
use Rattle.std.proofs.Common.{◌≡◌, ◌∙◌, ap, sym, refl, subst, add-one, ℕ, ◌+◌, List, [], ◌++◌, append_assoc}
use Rattle.std.specs.Prelude.{codes}
use Rattle.std.specs.Fmt.{decimal}
use Rattle.cap_gen.specs.Trial.{PlainFragment, filled, numbered, lock_lines, call_line, trial_text}

last-apart :
    (fs : List PlainFragment) (n : ℕ) →
    numbered fs (n + 1) ≡ numbered fs n ++ filled (decimal (n + 1)) fs
last-apart fs n =
    subst (λ k. numbered fs k ≡ numbered fs n ++ filled (decimal k) fs) (sym (add-one n)) refl

-- behind those of the numbers before, those of this one
pub one-more :
    (fs : List PlainFragment) (old mid new digits : List ℕ) (n : ℕ) →
    mid ≡ old ++ numbered fs n → digits ≡ decimal (n + 1) → new ≡ mid ++ filled digits fs →
    new ≡ old ++ numbered fs (n + 1)
one-more fs old mid new digits n before is one =
    one
    ∙ (ap (λ l. l ++ filled digits fs) before
    ∙ (append_assoc old (numbered fs n) (filled digits fs)
    ∙ ap (λ l. old ++ l) (ap (λ d. numbered fs n ++ filled d fs) is ∙ sym (last-apart fs n))))

-- the parts of the text, one behind the other
pub parts-are-trial :
    (n : ℕ) (none locks begun calls whole : List ℕ) → none ≡ [] →
    locks ≡ none ++ numbered lock_lines n → begun ≡ locks ++ codes "function main() {\n" →
    calls ≡ begun ++ numbered call_line n → whole ≡ calls ++ codes "}\n" → whole ≡ trial_text n
parts-are-trial n none locks begun calls whole a b c d e =
    let to_locks : locks ≡ numbered lock_lines n = b ∙ ap (λ l. l ++ numbered lock_lines n) a in
    e
    ∙ ap (λ l. l ++ codes "}\n")
    (d ∙ ap (λ l. l ++ numbered call_line n)
    (c ∙ ap (λ l. l ++ codes "function main() {\n") to_locks))
