-- Numbers are written in decimal, and arguments in pieces.
use Rattle.std.proofs.Common.{◌≡◌, ◌∙◌, ◌<◌, ◌≤◌, ◌^◌, ◌&&◌, ◌++◌, ℕ, zero, suc, Bool, cond, true, false, refl, sym, ap, subst, arith, List, [], ◌∷◌, length, get_or, Option, Some, None, true≢false, codes}
use Rattle.std.specs.Prelude.{nat_le}
use Rattle.std.specs.List.{All}
use Rattle.std.specs.Fmt.{decimal}
use Rattle.std.specs.Str.{all_ascii_digits, bytes_eq}
use Rattle.std.specs.Str.Parse.{digits_value}
use Rattle.std.proofs.lemmas.Bool.{le-leb, leb-true}
use Rattle.std.proofs.lemmas.Fmt.{decimal-digits_value, digits_decimal, digits_value-decimal, decimal_digit, decimal_nonempty, first_decimal}
use Rattle.std.proofs.lemmas.List.Elements.{All-cons, All-head, All-nil, All-tail}
use Rattle.clap.proofs.WalkLemmas.{both}
use Rattle.cap_top_words.specs.Number.{begins_number, number_within}
use Rattle.cap_top_words.specs.Meaning.{Arguments, CommandWord, arguments_of, arguments_after_option, begins_option, joined_or_operand, rest_after, with_budget, with_operand}
use Rattle.cap_top_words.specs.Writing.{IsNumber, IsWritable, WrittenArgument, apart, budgets_of, joined, operand, operands_of, words_of}
use Rattle.cap_top_words.proofs.Classes.{rest_after-Some, same_bytes}
use Rattle.cap_top_words.proofs.Numbers.{own, unsigned}

-- ---- numbers

abbrev passes : ℕ → ℕ → CommandWord → Bool
passes least most word = begins_number word && all_ascii_digits word && nat_le least (digits_value 10 word) && nat_le (digits_value 10 word) most

-- a number has no leading zero
zero_alone : (word : CommandWord) → begins_number word ≡ true → get_or word 0 0 ≡ 48 → length word ≡ 1
zero_alone [] b e = absurd (true≢false (sym b))
zero_alone (d ∷ []) b e = refl
zero_alone (d ∷ x ∷ xs) b e = let low = leb-true 49 d (both (nat_le 49 d) (nat_le d 57) b).0 in absurd (omega arith)

pub number_written : (least most : ℕ) (word : CommandWord) (n : ℕ) → most < 2 ^ 64 → number_within least most word ≡ Some n → IsNumber least most word n
number_written least most word n small e = go (passes least most word) refl e
  where
    go : (b : Bool) → passes least most word ≡ b → cond b (Some (digits_value 10 word)) None ≡ Some n → IsNumber least most word n
    go false p h = cc
    go true p h =
        let high = both (begins_number word && all_ascii_digits word && nat_le least (digits_value 10 word)) (nat_le (digits_value 10 word) most) p in
        let low = both (begins_number word && all_ascii_digits word) (nat_le least (digits_value 10 word)) high.0 in
        let digits = both (begins_number word) (all_ascii_digits word) low.0 in
        let above = leb-true least (digits_value 10 word) low.1 in
        let below = leb-true (digits_value 10 word) most high.1 in
        let is : digits_value 10 word ≡ n = cc in
        record {
          decimal_text = sym (decimal-digits_value own word digits.1 (unsigned word digits.0).1 (zero_alone word digits.0) (omega arith)) ∙ ap decimal is;
          low = omega arith;
          high = omega arith;
        }

-- a decimal text begins a number
begins_decimal : (n : ℕ) → n < 2 ^ 64 → begins_number (decimal n) ≡ true
begins_decimal n small = go n small refl
  where
    first : (d : ℕ) (ds : CommandWord) → all_ascii_digits (d ∷ ds) ≡ true → d ≤ 57
    first d ds e = leb-true d 57 (both (nat_le 48 d) (nat_le d 57) (both (nat_le 48 d && nat_le d 57) (all_ascii_digits ds) e).0).1

    begun : (ds : CommandWord) → 0 < length ds → 48 < get_or ds 0 0 → all_ascii_digits ds ≡ true → begins_number ds ≡ true
    begun [] more above digits = absurd (omega arith)
    begun (d ∷ []) more above digits = rw (le-leb 48 d (omega arith), le-leb d 57 (first d [] digits)) refl
    begun (d ∷ x ∷ ds) more above digits = rw (le-leb 49 d (omega arith), le-leb d 57 (first d (x ∷ ds) digits)) refl

    go : (m : ℕ) → m < 2 ^ 64 → n ≡ m → begins_number (decimal m) ≡ true
    go zero h e = rw (decimal_digit 0 (omega arith)) refl
    go (suc m) h e = begun (decimal (suc m)) (decimal_nonempty (suc m) h) (first_decimal (suc m) (omega arith) h) (digits_decimal own (suc m) h)

pub number_read : (least most : ℕ) (word : CommandWord) (n : ℕ) → most < 2 ^ 64 → IsNumber least most word n → number_within least most word ≡ Some n
number_read least most word n small number =
    let low = number.low in
    let high = number.high in
    let fits : n < 2 ^ 64 = omega arith in
    rw (number.decimal_text, begins_decimal n fits, digits_decimal own n fits, digits_value-decimal own n fits, le-leb least n low, le-leb n most high) refl

-- ---- the words after a name

pub record AreWrittenBy (words : List CommandWord) (a : Arguments) : Type 0 where
  pub arguments : List WrittenArgument
  pub ending : Option (List CommandWord)
  pub writable : All IsWritable arguments
  pub spelled : words ≡ words_of arguments ending
  pub budgets : a.budgets ≡ budgets_of arguments
  pub operands : a.operands ≡ operands_of arguments ending

abbrev operand_added : CommandWord → Arguments → Arguments
operand_added w a = record a { operands = w ∷ a.operands }

abbrev budget_added : CommandWord → Arguments → Arguments
budget_added n a = record a { budgets = n ∷ a.budgets }

with_word : (w : CommandWord) (words : List CommandWord) → begins_option w ≡ false → (a : Arguments) → AreWrittenBy words a → AreWrittenBy (w ∷ words) (operand_added w a)
with_word w words begins a p = record {
  arguments = operand w ∷ p.arguments;
  ending = p.ending;
  writable = All-cons IsWritable (operand w) p.arguments begins p.writable;
  spelled = ap (λ (ws : List CommandWord). w ∷ ws) p.spelled;
  budgets = p.budgets;
  operands = ap (λ (ws : List CommandWord). w ∷ ws) p.operands;
}

with_apart : (n : CommandWord) (words : List CommandWord) → begins_option n ≡ false → (a : Arguments) → AreWrittenBy words a → AreWrittenBy (codes "--budget" ∷ n ∷ words) (budget_added n a)
with_apart n words begins a p = record {
  arguments = apart n ∷ p.arguments;
  ending = p.ending;
  writable = All-cons IsWritable (apart n) p.arguments begins p.writable;
  spelled = ap (λ (ws : List CommandWord). codes "--budget" ∷ n ∷ ws) p.spelled;
  budgets = ap (λ (ws : List CommandWord). n ∷ ws) p.budgets;
  operands = p.operands;
}

with_joined : (n : CommandWord) (words : List CommandWord) (a : Arguments) → AreWrittenBy words a → AreWrittenBy ((codes "--budget=" ++ n) ∷ words) (budget_added n a)
with_joined n words a p = record {
  arguments = joined n ∷ p.arguments;
  ending = p.ending;
  writable = All-cons IsWritable (joined n) p.arguments tt p.writable;
  spelled = ap (λ (ws : List CommandWord). (codes "--budget=" ++ n) ∷ ws) p.spelled;
  budgets = ap (λ (ws : List CommandWord). n ∷ ws) p.budgets;
  operands = p.operands;
}

ended : (words : List CommandWord) (ending : Option (List CommandWord)) → words ≡ words_of [] ending → (a : Arguments) → a.budgets ≡ [] → a.operands ≡ operands_of [] ending → AreWrittenBy words a
ended words ending spelled a budgets operands =
    record { arguments = []; ending = ending; writable = All-nil IsWritable; spelled = spelled; budgets = budgets; operands = operands }

-- what is read of these words stands in pieces
abbrev pub AreWritten : List CommandWord → Type 0
AreWritten words = (a : Arguments) → arguments_of words ≡ Some a → AreWrittenBy words a

word_written : (w : CommandWord) (words : List CommandWord) → AreWritten words → ((a : Arguments) → arguments_after_option words ≡ Some a → AreWrittenBy (codes "--budget" ∷ words) a) → AreWritten (w ∷ words)
word_written w words others after a e = go (bytes_eq w (codes "--")) (bytes_eq w (codes "--budget")) (rest_after (codes "--budget=") w) refl refl refl e
  where
    plain : (b : Bool) (o : Option Arguments) → begins_option w ≡ b → arguments_of words ≡ o → cond b None (with_operand w o) ≡ Some a → AreWrittenBy (w ∷ words) a
    plain true o begins is h = cc
    plain false None begins is h = cc
    plain false (Some rest) begins is h = let same : operand_added w rest ≡ a = cc in subst (AreWrittenBy (w ∷ words)) same (with_word w words begins rest (others rest is))

    value : (n : CommandWord) (o : Option Arguments) → w ≡ codes "--budget=" ++ n → arguments_of words ≡ o → with_budget n o ≡ Some a → AreWrittenBy (w ∷ words) a
    value n None spelled is h = cc
    value n (Some rest) spelled is h =
        let same : budget_added n rest ≡ a = cc in
        subst (λ v. AreWrittenBy (v ∷ words) a) (sym spelled) (subst (AreWrittenBy ((codes "--budget=" ++ n) ∷ words)) same (with_joined n words rest (others rest is)))

    go : (x y : Bool) (o : Option CommandWord) → bytes_eq w (codes "--") ≡ x → bytes_eq w (codes "--budget") ≡ y → rest_after (codes "--budget=") w ≡ o
        → cond x (Some (record { budgets = []; operands = words })) (cond y (arguments_after_option words) (joined_or_operand o w (arguments_of words))) ≡ Some a → AreWrittenBy (w ∷ words) a
    go true y o x_is y_is o_is h =
        let same : record { budgets = []; operands = words } ≡ a = cc in
        ended (w ∷ words) (Some words) (ap (λ (v : CommandWord). v ∷ words) (same_bytes w (codes "--") x_is)) a (sym (ap (λ (b : Arguments). b.budgets) same)) (sym (ap (λ (b : Arguments). b.operands) same))
    go false true o x_is y_is o_is h = subst (λ v. AreWrittenBy (v ∷ words) a) (sym (same_bytes w (codes "--budget") y_is)) (after a h)
    go false false (Some n) x_is y_is o_is h = value n (arguments_of words) (rest_after-Some (codes "--budget=") w n o_is) refl h
    go false false None x_is y_is o_is h = plain (begins_option w) (arguments_of words) refl refl h

value_written : (n : CommandWord) (words : List CommandWord) → AreWritten words → (a : Arguments) → arguments_after_option (n ∷ words) ≡ Some a → AreWrittenBy (codes "--budget" ∷ n ∷ words) a
value_written n words others a e = go (begins_option n) (arguments_of words) refl refl e
  where
    go : (b : Bool) (o : Option Arguments) → begins_option n ≡ b → arguments_of words ≡ o → cond b None (with_budget n o) ≡ Some a → AreWrittenBy (codes "--budget" ∷ n ∷ words) a
    go true o begins is h = cc
    go false None begins is h = cc
    go false (Some rest) begins is h = let same : budget_added n rest ≡ a = cc in subst (AreWrittenBy (codes "--budget" ∷ n ∷ words)) same (with_apart n words begins rest (others rest is))

mutual
  pub words_written : (words : List CommandWord) → AreWritten words
  words_written [] a e =
      let same : record { budgets = []; operands = [] } ≡ a = cc in
      ended [] None refl a (sym (ap (λ (b : Arguments). b.budgets) same)) (sym (ap (λ (b : Arguments). b.operands) same))
  words_written (w ∷ words) a e = word_written w words (words_written words) (after_written words) a e

  after_written : (words : List CommandWord) → (a : Arguments) → arguments_after_option words ≡ Some a → AreWrittenBy (codes "--budget" ∷ words) a
  after_written [] a e = cc
  after_written (n ∷ words) a e = value_written n words (words_written words) a e

-- ---- and back

operand_read : (w : CommandWord) (words : List CommandWord) → begins_option w ≡ false → arguments_of (w ∷ words) ≡ with_operand w (arguments_of words)
operand_read [] words e = refl
operand_read (x ∷ xs) words e = simp e refl

pub arguments_read : (arguments : List WrittenArgument) (ending : Option (List CommandWord)) → All IsWritable arguments
    → arguments_of (words_of arguments ending) ≡ Some (record { budgets = budgets_of arguments; operands = operands_of arguments ending })
arguments_read [] None writable = refl
arguments_read [] (Some operands) writable = refl
arguments_read (operand w ∷ arguments) ending writable = operand_read w (words_of arguments ending) (All-head IsWritable (operand w) arguments writable) ∙ ap (with_operand w) (arguments_read arguments ending (All-tail IsWritable _ arguments writable))
arguments_read (apart n ∷ arguments) ending writable = let begins : begins_option n ≡ false = All-head IsWritable (apart n) arguments writable in rw begins (ap (with_budget n) (arguments_read arguments ending (All-tail IsWritable _ arguments writable)))
arguments_read (joined n ∷ arguments) ending writable = ap (with_budget n) (arguments_read arguments ending (All-tail IsWritable _ arguments writable))
