-- Full pieces of a side of a sum, and full pieces that go, one after the other.
use Rattle.std.proofs.Common.{◌≡◌, ℕ, suc, ◌+◌, ◌<◌, ◌≤◌, arith, refl, sym, ap, subst, ◌∙◌, List, ◌∷◌, ◌++◌, map, length, get_or, drop, add-one, Option, Some, None}
use Rattle.std.proofs.lemmas.List.{map-append, append-nil, drop_all}
use Rattle.std.specs.Prelude.{Ok, Err, find}
use Rattle.cap_lin.specs.Linear.{Linear}
use Rattle.cap_lin.specs.declared.row.Row.{Row}
use Rattle.cap_galg.specs.Algebras.{PlainAlgebra, unique, divisible, counting, indexed, product, sum as either, atoms}
use Rattle.cap_gsolve.specs.declared.piece.Form.{Form}
use Rattle.cap_gsolve.specs.declared.piece.Form.TheVariants as form
use Rattle.cap_gsolve.specs.declared.piece.Piece.{Piece}
use Rattle.cap_gsolve.specs.Pieces.{piece, full_forms, full_pieces}
use Rattle.cap_rules.specs.Attempts.{Attempt, Event, unit, ◌>>=◌, go_on, found}
use Rattle.cap_rules.specs.Making.{without_first}
use Rattle.cap_rules.specs.Taking.{prove_full, may_be_full, without_full}
use Rattle.cap_rules_steps.specs.Walks.{Claims}
use Rattle.cap_rules_steps.specs.declared.error.RuleError.{RuleError}
use Rattle.cap_rules_steps.proofs.Listing.{LeadsClaims}
use Rattle.cap_rules_steps.proofs.Walking.{split-at, claims_then, claims_fail, weaker, done}
use Rattle.cap_take_guards.specs.Full.{moved, without_one}

-- ---- the full pieces of a side

-- the pieces of these forms
abbrev formed : Linear → ℕ → List (ℕ × Form) → List Piece
formed r k fs = map (λ p. piece r k p.0 p.1) fs

joined : (r : Linear) (k n : ℕ) (xs ys us ws : List (ℕ × Form)) → map (moved n) (formed r k xs) ≡ formed r k us → map (moved n) (formed r k ys) ≡ formed r k ws → map (moved n) (formed r k (xs ++ ys)) ≡ formed r k (us ++ ws)
joined r k n xs ys us ws e q =
    ap (map (moved n)) (map-append (λ p. piece r k p.0 p.1) xs ys)
    ∙ (map-append (moved n) (formed r k xs) (formed r k ys)
    ∙ (ap (λ l. l ++ map (moved n) (formed r k ys)) e
    ∙ (ap (λ l. formed r k us ++ l) q ∙ sym (map-append (λ p. piece r k p.0 p.1) us ws))))

moved-forms : (a : PlainAlgebra) (r : Linear) (k i n : ℕ) → map (moved n) (formed r k (full_forms a i)) ≡ formed r k (full_forms a (i + n))
moved-forms unique r k i n = refl
moved-forms divisible r k i n = refl
moved-forms counting r k i n = refl
moved-forms indexed r k i n = refl
moved-forms (product a b) r k i n =
    let d : i + atoms a + n ≡ i + n + atoms a = omega arith in
    joined r k n (full_forms a i) (full_forms b (i + atoms a)) (full_forms a (i + n)) (full_forms b (i + n + atoms a)) (moved-forms a r k i n) (moved-forms b r k (i + atoms a) n ∙ ap (λ j. formed r k (full_forms b j)) d)
moved-forms (either a b) r k i n = moved-forms a r k i n

pub moved-full : (a : PlainAlgebra) (r : Linear) (k n : ℕ) → map (moved n) (full_pieces a r k) ≡ map (λ p. piece r k p.0 p.1) (full_forms a n)
moved-full a r k n =
    let d : 0 + n ≡ n = omega arith in
    moved-forms a r k 0 n ∙ ap (λ j. formed r k (full_forms a j)) d

-- ---- full pieces that go

abbrev Lists : Type 0
Lists = List (List Row)

-- one full piece, and what follows
record Follows (rows : List Row) (f : Form) (gone : List Piece) (F : List Piece → Attempt (List Piece)) : Type 0 where
  is : (prove_full rows f >>= λ u. F gone) ≡ go_on (prove_full rows f >>= λ u. unit gone).events (prove_full rows f >>= λ u. unit gone).value F

full-follows : (rows : List Row) (f : Form) (gone : List Piece) (F : List Piece → Attempt (List Piece)) → Follows rows f gone F
full-follows rows form.One gone F = record { is = refl }
full-follows rows (form.Share a) gone F = record { is = ap (λ (es : List Event). record { events = es ++ (F gone).events; value = (F gone).value }) (sym (append-nil (prove_full rows (form.Share a)).events)) }
full-follows rows (form.Src m) gone F = record { is = ap (λ (es : List Event). record { events = es ++ (F gone).events; value = (F gone).value }) (sym (append-nil (prove_full rows (form.Src m)).events)) }
full-follows rows (form.Tok m) gone F = record { is = refl }
full-follows rows (form.Span a None) gone F = record { is = ap (λ (es : List Event). record { events = es ++ (F gone).events; value = (F gone).value }) (sym (append-nil (prove_full rows (form.Span a None)).events)) }
full-follows rows (form.Span a (Some e)) gone F = record { is = refl }

part-follows : (rows : List Row) (o : Option Piece) (gone : List Piece) (F : List Piece → Attempt (List Piece)) → (found o >>= λ q. prove_full rows q.form >>= λ u. F gone) ≡ go_on (found o >>= λ q. prove_full rows q.form >>= λ u. unit gone).events (found o >>= λ q. prove_full rows q.form >>= λ u. unit gone).value F
part-follows rows None gone F = refl
part-follows rows (Some q) gone F = (full-follows rows q.form gone F).is

one-goes : (rows : List Row) (ps : List Piece) (x : Piece) (xs : List Piece) → without_full rows ps (x ∷ xs) ≡ go_on (without_one rows ps x).events (without_one rows ps x).value (λ qs. without_full rows qs xs)
one-goes rows ps x xs = part-follows rows (find (may_be_full x) ps) (without_first (may_be_full x) ps) (λ qs. without_full rows qs xs)

unrolled : (rows : List Row) (ps xs : List Piece) (i : ℕ) (x : Piece) → i < length xs → x ≡ get_or xs i x → without_full rows ps (drop i xs) ≡ go_on (without_one rows ps x).events (without_one rows ps x).value (λ qs. without_full rows qs (drop (suc i) xs))
unrolled rows ps xs i x h e = ap (without_full rows ps) (split-at xs i x h e) ∙ one-goes rows ps x (drop (suc i) xs)

pub fulls-next : (rows : List Row) (ps qs xs : List Piece) (i : ℕ) (x : Piece) (before middle next : Lists) (whole : Attempt (List Piece)) → i < length xs → x ≡ get_or xs i x → Claims (Ok qs) middle next (without_one rows ps x) → LeadsClaims before middle (without_full rows ps (drop i xs)) whole → LeadsClaims before next (without_full rows qs (drop (i + 1) xs)) whole
fulls-next rows ps qs xs i x before middle next whole h e m l =
    rw add-one (record { leads = λ r after k. l.leads r after (subst (Claims r middle after) (sym (unrolled rows ps xs i x h e)) (claims_then r (without_one rows ps x) (λ us. without_full rows us (drop (suc i) xs)) qs middle next after m k)) })

pub fulls-stop : (rows : List Row) (ps xs : List Piece) (i : ℕ) (x : Piece) (before middle next : Lists) (whole : Attempt (List Piece)) (f : RuleError) → i < length xs → x ≡ get_or xs i x → Claims (Err f) middle next (without_one rows ps x) → LeadsClaims before middle (without_full rows ps (drop i xs)) whole → Claims (Err f) before next whole
fulls-stop rows ps xs i x before middle next whole f h e m l =
    l.leads (Err f) next (subst (Claims (Err f) middle next) (sym (unrolled rows ps xs i x h e)) (claims_fail f (without_one rows ps x) (λ us. without_full rows us (drop (suc i) xs)) middle next m))

pub fulls-end : (rows : List Row) (ps xs : List Piece) (i : ℕ) (before middle : Lists) (whole : Attempt (List Piece)) → length xs ≤ i → LeadsClaims before middle (without_full rows ps (drop i xs)) whole → Claims (Ok ps) before middle whole
fulls-end rows ps xs i before middle whole h l = l.leads (Ok ps) middle (rw (drop_all i xs h) (weaker _ _ _ (done ps)))
