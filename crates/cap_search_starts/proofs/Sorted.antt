-- Values of which each variable has one, by its sort: rows that are made of terms of a sort hold at
-- them where the comparison does.
use Rattle.std.proofs.Common.{◌≡◌, ℕ, ℤ, ◌*ℤ◌, Option, Some, refl, sym, ap}
use Rattle.std.specs.Prelude.{slice_get}
use Rattle.cap_lin.specs.Linear.{Linear}
use Rattle.cap_lin.specs.Rows.{row_of}
use Rattle.cap_lin.specs.Values.{Valuation, denominator}
use Rattle.cap_lin.specs.Solves.{value_by_sort, Holds, Compares, IsWholeAt, FitsSort}
use Rattle.cap_lin.specs.declared.row.Row.{Row}
use Rattle.cap_lin.specs.declared.row.Sort.{Sort}
use Rattle.cap_lin.specs.declared.row.Sort.TheVariants.{Int, Perm}
use Rattle.cap_lin.specs.declared.row.Op.{Op}
use Rattle.cap_lin.proofs.Rows.{row_of-means}
use Rattle.cap_prog.specs.Scopes.{Scope, HasSort, TermFits}
use Rattle.cap_rules_ascending.specs.Ascending.{TermAscends, RowAscends}
use Rattle.cap_rules_ascending.proofs.Terms.{row-ascends}
use Rattle.cap_account_states.proofs.Terms.{Agree, amount-agree, fits-sort, row-over, relates-same}

abbrev numerator_by : Option (Option Sort) → Valuation → ℕ → ℤ
numerator_by (Some (Some Int)) v x = v.whole x *ℤ denominator v.fraction
numerator_by o v x = v.fraction.numerator x

-- the fraction of a whole number is that number
abbrev pub sorted : Scope → Valuation → Valuation
sorted scope v = record {
  whole = v.whole;
  fraction = record {
    numerator = λ x. numerator_by (slice_get scope x) v x;
    under = v.fraction.under;
  };
}

whole-at : (scope : Scope) (v : Valuation) (x : ℕ) → HasSort scope Int x → IsWholeAt (sorted scope v) x
whole-at scope v x h = ap (λ o. numerator_by o v x) h

shares-agree : (scope : Scope) (v : Valuation) → Agree (HasSort scope Perm) v (sorted scope v)
shares-agree scope v = record {
  under = refl;
  whole = λ x h. refl;
  share = λ x h. ap (λ o. numerator_by o v x) h;
}

number-sorted : (scope : Scope) (v : Valuation) (o : Sort) (t : Linear) → TermFits scope o t → value_by_sort o (sorted scope v) t ≡ value_by_sort o v t
number-sorted scope v Int t h = refl
number-sorted scope v Perm t h = amount-agree (HasSort scope Perm) v (sorted scope v) (shares-agree scope v) t h

-- the row holds at the values, and its term is in order
pub record IsGood (v : Valuation) (r : Row) : Type 0 where
  pub fits : FitsSort v r.sort r.term
  pub holds : Holds v r
  pub ascends : RowAscends r

pub made-good : (scope : Scope) (v : Valuation) (l : Linear) (op : Op) (r : Linear) (o : Sort) → TermFits scope o l → TermFits scope o r → TermAscends l → TermAscends r → Compares v l op r o → IsGood (sorted scope v) (row_of l op r o)
made-good scope v l op r o a b d e h =
    let w = sorted scope v in
    let k = relates-same op (value_by_sort o v l) (value_by_sort o v r) (value_by_sort o w l) (value_by_sort o w r) (sym (number-sorted scope v o l a)) (sym (number-sorted scope v o r b)) h in
    record {
      fits = fits-sort (HasSort scope) w (λ x m. whole-at scope v x m) (row_of l op r o) (row-over (HasSort scope) l op r o a b);
      holds = (row_of-means w l op r o).1 k;
      ascends = row-ascends l op r o d e;
    }
