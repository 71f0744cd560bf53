-- Elements by values: each is made of a whole number that isn't negative.
use Rattle.std.proofs.Common.{◌≡◌, ℕ, ℤ, pos, negsuc, refl}
use Rattle.cap_galg.specs.Elements.{Element, src, tokens, indices, index_set, share}
use Rattle.cap_galg.specs.Fractions.{lowest}
use Rattle.cap_galg_indices.specs.Sets.{one_index, indices_from, index_range}
use Rattle.cap_prog.specs.declared.assertion.Slot.{Slot}
use Rattle.cap_prog.specs.declared.assertion.Asked.TheVariants.{Src, Tok, At, From}
use Rattle.cap_machine_accounts.specs.Assertions.{NameValue, a_number, a_fraction}
use Rattle.cap_owners_spec.specs.Traced.{traced, ◌>>=◌, over}
use Rattle.cap_owners_spec.specs.Filling.{counted, share_element, range_element, asked_element}
use Rattle.cap_owners_parts.specs.Composed.{natural, natural_of}

pub counted_is : (make : ℕ → Element) (z : ℤ) → counted make z ≡ (natural z >>= λ n. traced (make n))
counted_is make (pos n) = refl
counted_is make (negsuc n) = refl

pub share_is : (z : ℤ) → share_element z ≡ (natural z >>= λ n. traced (share (lowest n over)))
share_is (pos n) = refl
share_is (negsuc n) = refl

pub range_is : (z y : ℤ) → range_element z y ≡ (natural z >>= λ i. natural y >>= λ j. traced (index_set (index_range i j)))
range_is (pos i) (pos j) = refl
range_is (pos i) (negsuc j) = refl
range_is (negsuc i) y = refl

pub asked_src : (x : Slot) (v : NameValue) → asked_element (Src x) v ≡ (natural_of v >>= λ n. traced (src n))
asked_src x (a_number z) = counted_is src z
asked_src x (a_fraction n d) = refl

pub asked_tok : (x : Slot) (v : NameValue) → asked_element (Tok x) v ≡ (natural_of v >>= λ n. traced (tokens n))
asked_tok x (a_number z) = counted_is tokens z
asked_tok x (a_fraction n d) = refl

pub asked_at : (x : Slot) (v : NameValue) → asked_element (At x) v ≡ (natural_of v >>= λ n. traced (indices (one_index n)))
asked_at x (a_number z) = counted_is (λ i. indices (one_index i)) z
asked_at x (a_fraction n d) = refl

pub asked_from : (x : Slot) (v : NameValue) → asked_element (From x) v ≡ (natural_of v >>= λ n. traced (indices (indices_from n)))
asked_from x (a_number z) = counted_is (λ i. indices (indices_from i)) z
asked_from x (a_fraction n d) = refl
