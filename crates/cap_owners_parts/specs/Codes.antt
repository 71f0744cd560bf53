-- How the values of a part are stored: an element as a list of tokens, a part's elements before the
-- whole, from which a stack of elements gives it back.
use Rattle.std.specs.Prelude.{◌≡◌, ℕ, zero, suc, List, [], ◌∷◌, ℤ}
use Rattle.std.proofs.Common.{refl, ap, ◌∙◌}
use Rattle.std.specs.Ordering.{int_cmp}
use Rattle.std.specs.FinMap as map
use Rattle.std.specs.Coded.{Coded, code_by, coded×, coded_ℕ, coded_ℤ, coded_list}
use Rattle.cap_galg.specs.Fractions.{fraction}
use Rattle.cap_galg.specs.Elements.{Element, nothing, one, share, tok, src, indices, both, whole, left, right}
use Rattle.cap_machine_accounts.specs.Parts.{Guard, Part}

abbrev pub Tokens : Type 0
Tokens = List (ℕ × List ℕ)

-- an element's tokens in front of others
abbrev pub tokens_of : Element → Tokens → Tokens
tokens_of nothing ts = (0, []) ∷ ts
tokens_of one ts = (1, []) ∷ ts
tokens_of whole ts = (2, []) ∷ ts
tokens_of (share f) ts = (3, f.num ∷ (f.den ∷ [])) ∷ ts
tokens_of (tok k) ts = (4, k ∷ []) ∷ ts
tokens_of (src n) ts = (5, n ∷ []) ∷ ts
tokens_of (indices xs) ts = (6, xs) ∷ ts
tokens_of (left x) ts = tokens_of x ((7, []) ∷ ts)
tokens_of (right y) ts = tokens_of y ((8, []) ∷ ts)
tokens_of (both x y) ts = tokens_of x (tokens_of y ((9, []) ∷ ts))

abbrev pub first_number : List ℕ → ℕ
first_number [] = 0
first_number (n ∷ ns) = n

abbrev pub second_number : List ℕ → ℕ
second_number [] = 0
second_number (n ∷ ns) = first_number ns

abbrev pub in_left_of : List Element → List Element
in_left_of [] = []
in_left_of (x ∷ xs) = left x ∷ xs

abbrev pub in_right_of : List Element → List Element
in_right_of [] = []
in_right_of (x ∷ xs) = right x ∷ xs

abbrev pub in_both_of : List Element → List Element
in_both_of (y ∷ (x ∷ xs)) = both x y ∷ xs
in_both_of xs = xs

-- what a token makes of the elements before it, the last of them first
abbrev pub token_read : ℕ → List ℕ → List Element → List Element
token_read zero ns xs = nothing ∷ xs
token_read (suc zero) ns xs = one ∷ xs
token_read (suc (suc zero)) ns xs = whole ∷ xs
token_read (suc (suc (suc zero))) ns xs = share (fraction (first_number ns) (second_number ns)) ∷ xs
token_read (suc (suc (suc (suc zero)))) ns xs = tok (first_number ns) ∷ xs
token_read (suc (suc (suc (suc (suc zero))))) ns xs = src (first_number ns) ∷ xs
token_read (suc (suc (suc (suc (suc (suc zero)))))) ns xs = indices ns ∷ xs
token_read (suc (suc (suc (suc (suc (suc (suc zero))))))) ns xs = in_left_of xs
token_read (suc (suc (suc (suc (suc (suc (suc (suc zero)))))))) ns xs = in_right_of xs
token_read (suc (suc (suc (suc (suc (suc (suc (suc (suc n))))))))) ns xs = in_both_of xs

abbrev pub tokens_read : Tokens → List Element → List Element
tokens_read [] xs = xs
tokens_read (t ∷ ts) xs = tokens_read ts (token_read t.0 t.1 xs)

abbrev pub first_element : List Element → Element
first_element [] = nothing
first_element (x ∷ xs) = x

pub element_read : (x : Element) (ts : Tokens) (xs : List Element)
    → tokens_read (tokens_of x ts) xs ≡ tokens_read ts (x ∷ xs)
element_read nothing ts xs = refl
element_read one ts xs = refl
element_read whole ts xs = refl
element_read (share f) ts xs = refl
element_read (tok k) ts xs = refl
element_read (src n) ts xs = refl
element_read (indices ns) ts xs = refl
element_read (left x) ts xs = element_read x ((7, []) ∷ ts) xs
element_read (right y) ts xs = element_read y ((8, []) ∷ ts) xs
element_read (both x y) ts xs =
    element_read x (tokens_of y ((9, []) ∷ ts)) xs ∙ element_read y ((9, []) ∷ ts) (x ∷ xs)

abbrev pub element_code : Coded Element
element_code =
    code_by Tokens (coded_list (coded× coded_ℕ (coded_list coded_ℕ))) (λ x. tokens_of x [])
    (λ ts. first_element (tokens_read ts [])) (λ x. ap first_element (element_read x [] []))

abbrev pub guard_code : Coded Guard
guard_code =
    code_by (ℕ × Element) (coded× coded_ℕ element_code) (λ g. (g.kind, g.element))
    (λ p. record { kind = p.0; element = p.1 }) (λ _. refl)

abbrev pub part_code : Coded Part
part_code =
    code_by (map.FinMap int_cmp ℤ × map.FinMap int_cmp Guard)
    (coded× (map.code coded_ℤ coded_ℤ) (map.code coded_ℤ guard_code)) (λ q. (q.cells, q.guards))
    (λ p. record { cells = p.0; guards = p.1 }) (λ _. refl)
