-- Words are a command exactly where they write it.
use Rattle.std.proofs.Common.{◌≡◌, ◌∙◌, ◌↔◌, ℕ, Bool, cond, true, false, refl, sym, ap, subst, inl, inr, arith, List, [], ◌∷◌, Option, Some, None, codes}
use Rattle.std.specs.Prelude.{find, option_and_then, option_map}
use Rattle.std.specs.Str.{bytes_eq}
use Rattle.cap_top_words.specs.Number.{number_within}
use Rattle.cap_top_words.specs.Meaning.{Arguments, Signature, PlainCommand, CommandWord, arguments_of, budget_of, file_and_budget, check, command_of, default_budget, derive, signature_of, signatures, one_operand, replay, show, trial, outline, owners, two_operands, three_operands, verify, stray, stray_of, core}
use Rattle.cap_top_words.specs.Writing.{HasArguments, IsBudget, IsNumber, IsWritten, budgets_of, operands_of}
use Rattle.cap_top_words.proofs.Classes.{same_bytes}
use Rattle.cap_top_words.proofs.Writings.{number_read, number_written, arguments_read, words_written}

-- ---- what a form makes has that form

budget_written : (budgets : List CommandWord) (n : ℕ) → budget_of budgets ≡ Some n → IsBudget budgets n
budget_written [] n e = let is : default_budget ≡ n = cc in inl (refl, sym is)
budget_written (word ∷ []) n e = inr (word, refl, number_written 1 1000000000 word n (omega arith) e)
budget_written (a ∷ b ∷ budgets) n e = cc

budgeted_written : (make : CommandWord → ℕ → PlainCommand) (budgets operands : List CommandWord) (command : PlainCommand) → file_and_budget make budgets operands ≡ Some command
    → (file : CommandWord) × (n : ℕ) × (operands ≡ file ∷ []) × IsBudget budgets n × (make file n ≡ command)
budgeted_written make budgets [] command e = cc
budgeted_written make budgets (a ∷ b ∷ operands) command e = cc
budgeted_written make budgets (file ∷ []) command e = go (budget_of budgets) refl e
  where
    go : (o : Option ℕ) → budget_of budgets ≡ o → option_map (make file) o ≡ Some command
        → (f : CommandWord) × (n : ℕ) × (file ∷ [] ≡ f ∷ []) × IsBudget budgets n × (make f n ≡ command)
    go None is h = cc
    go (Some n) is h = let made : make file n ≡ command = cc in (file, n, refl, budget_written budgets n is, made)

one_written : (make : CommandWord → Option PlainCommand) (budgets operands : List CommandWord) (command : PlainCommand) → one_operand make budgets operands ≡ Some command
    → (a : CommandWord) × (operands ≡ a ∷ []) × (budgets ≡ []) × (make a ≡ Some command)
one_written make (n ∷ budgets) operands command e = cc
one_written make [] [] command e = cc
one_written make [] (a ∷ []) command e = (a, refl, refl, e)
one_written make [] (a ∷ b ∷ operands) command e = cc

two_written : (make : CommandWord → CommandWord → PlainCommand) (budgets operands : List CommandWord) (command : PlainCommand) → two_operands make budgets operands ≡ Some command
    → (a b : CommandWord) × (operands ≡ a ∷ b ∷ []) × (budgets ≡ []) × (Some (make a b) ≡ Some command)
two_written make (n ∷ budgets) operands command e = cc
two_written make [] [] command e = cc
two_written make [] (a ∷ []) command e = cc
two_written make [] (a ∷ b ∷ []) command e = (a, b, refl, refl, e)
two_written make [] (a ∷ b ∷ d ∷ operands) command e = cc

three_written : (make : CommandWord → CommandWord → CommandWord → Option PlainCommand) (budgets operands : List CommandWord) (command : PlainCommand) → three_operands make budgets operands ≡ Some command
    → (a b d : CommandWord) × (operands ≡ a ∷ b ∷ d ∷ []) × (budgets ≡ []) × (make a b d ≡ Some command)
three_written make (n ∷ budgets) operands command e = cc
three_written make [] [] command e = cc
three_written make [] (a ∷ []) command e = cc
three_written make [] (a ∷ b ∷ []) command e = cc
three_written make [] (a ∷ b ∷ d ∷ []) command e = (a, b, d, refl, refl, e)
three_written make [] (a ∷ b ∷ d ∷ f ∷ operands) command e = cc

-- what the form makes is a command of this name
abbrev IsRow : CommandWord × Signature → Type 0
IsRow row = (budgets operands : List CommandWord) (command : PlainCommand) → row.1 budgets operands ≡ Some command → HasArguments command row.0 budgets operands

budgeted_row : (name : CommandWord) (make : CommandWord → ℕ → PlainCommand)
    → ((file : CommandWord) (n : ℕ) (budgets operands : List CommandWord) → operands ≡ file ∷ [] → IsBudget budgets n → HasArguments (make file n) name budgets operands)
    → IsRow (name, file_and_budget make)
budgeted_row name make has budgets operands command e =
    let w = budgeted_written make budgets operands command e in
    subst (λ d. HasArguments d name budgets operands) w.4 (has w.0 w.1 budgets operands w.2 w.3)

two_row : (name : CommandWord) (make : CommandWord → CommandWord → PlainCommand)
    → ((a b : CommandWord) (budgets operands : List CommandWord) → operands ≡ a ∷ b ∷ [] → budgets ≡ [] → HasArguments (make a b) name budgets operands)
    → IsRow (name, two_operands make)
two_row name make has budgets operands command e =
    let w = two_written make budgets operands command e in
    let made : make w.0 w.1 ≡ command = cc in
    subst (λ d. HasArguments d name budgets operands) made (has w.0 w.1 budgets operands w.2 w.3)

file_row : (name : CommandWord) (make : CommandWord → PlainCommand)
    → ((file : CommandWord) (budgets operands : List CommandWord) → operands ≡ file ∷ [] → budgets ≡ [] → HasArguments (make file) name budgets operands)
    → IsRow (name, one_operand (λ file. Some (make file)))
file_row name make has budgets operands command e =
    let w = one_written (λ file. Some (make file)) budgets operands command e in
    let made : make w.0 ≡ command = cc in
    subst (λ d. HasArguments d name budgets operands) made (has w.0 budgets operands w.1 w.2)

three_row : (name : CommandWord) (make : CommandWord → CommandWord → CommandWord → PlainCommand)
    → ((a b d : CommandWord) (budgets operands : List CommandWord) → operands ≡ a ∷ b ∷ d ∷ [] → budgets ≡ [] → HasArguments (make a b d) name budgets operands)
    → IsRow (name, three_operands (λ a b d. Some (make a b d)))
three_row name make has budgets operands command e =
    let w = three_written (λ a b d. Some (make a b d)) budgets operands command e in
    let made : make w.0 w.1 w.2 ≡ command = cc in
    subst (λ d. HasArguments d name budgets operands) made (has w.0 w.1 w.2 budgets operands w.3 w.4)

trial_row : IsRow (codes "trial", one_operand (λ n. option_map trial (number_within 1 50 n)))
trial_row budgets operands command e =
    let w = one_written (λ n. option_map trial (number_within 1 50 n)) budgets operands command e in
    go w.0 w.1 w.2 (number_within 1 50 w.0) refl w.3
  where
    go : (word : CommandWord) → operands ≡ word ∷ [] → budgets ≡ [] → (o : Option ℕ) → number_within 1 50 word ≡ o → option_map trial o ≡ Some command
        → HasArguments command (codes "trial") budgets operands
    go word is none None read h = cc
    go word is none (Some n) read h =
        let made : trial n ≡ command = cc in
        subst (λ d. HasArguments d (codes "trial") budgets operands) made (refl, (word, is, number_written 1 50 word n (omega arith) read), none)

stray_row : IsRow (codes "stray", three_operands stray_of)
stray_row budgets operands command e =
    let w = three_written stray_of budgets operands command e in
    go w.0 w.1 w.2 w.3 w.4 (number_within 0 18446744073709551615 w.1) (number_within 1 1000 w.2) refl refl w.5
  where
    go : (file number count : CommandWord) → operands ≡ file ∷ number ∷ count ∷ [] → budgets ≡ [] → (o p : Option ℕ)
        → number_within 0 18446744073709551615 number ≡ o → number_within 1 1000 count ≡ p → option_and_then (λ n. option_map (stray file n) p) o ≡ Some command
        → HasArguments command (codes "stray") budgets operands
    go file number count is none None p n_read m_read h = cc
    go file number count is none (Some n) None n_read m_read h = cc
    go file number count is none (Some n) (Some m) n_read m_read h =
        let made : stray file n m ≡ command = cc in
        let drawn = number_written 0 18446744073709551615 number n (omega arith) n_read in
        let many = number_written 1 1000 count m (omega arith) m_read in
        subst (λ d. HasArguments d (codes "stray") budgets operands) made (refl, (number, count, is, drawn, many), none)

abbrev AreRows : List (CommandWord × Signature) → Type 0
AreRows [] = Unit {0}
AreRows (row ∷ rows) = IsRow row × AreRows rows

rows : AreRows signatures
rows = (
  budgeted_row (codes "verify") verify (λ file n budgets operands is budget. (refl, is, budget)),
  (
    budgeted_row (codes "derive") derive (λ file n budgets operands is budget. (refl, is, budget)),
    (
      two_row (codes "check") check (λ a b budgets operands is none. (refl, is, none)),
      (
        two_row (codes "replay") replay (λ a b budgets operands is none. (refl, is, none)),
        (
          file_row (codes "show") show (λ file budgets operands is none. (refl, is, none)),
          (
            trial_row,
            (
              two_row (codes "outline") outline (λ a b budgets operands is none. (refl, is, none)),
              (
                three_row (codes "owners") owners (λ a b d budgets operands is none. (refl, is, none)),
                (stray_row, (file_row (codes "core") core (λ file budgets operands is none. (refl, is, none)), tt)),
              ),
            ),
          ),
        ),
      ),
    ),
  ),
)

form_written : (table : List (CommandWord × Signature)) → AreRows table → (name : CommandWord) (form : Signature) → option_map (λ row. row.1) (find (λ row. bytes_eq name row.0) table) ≡ Some form
    → IsRow (name, form)
form_written [] each name form e = cc
form_written (row ∷ table) each name form e = go (bytes_eq name row.0) refl (form_written table each.1 name form) e
  where
    go : (b : Bool) → bytes_eq name row.0 ≡ b → (option_map (λ row. row.1) (find (λ row. bytes_eq name row.0) table) ≡ Some form → IsRow (name, form))
        → option_map (λ row. row.1) (cond b (Some row) (find (λ row. bytes_eq name row.0) table)) ≡ Some form → IsRow (name, form)
    go false t others h = others h
    go true t others h =
        let same : row.1 ≡ form = cc in
        λ budgets operands command made. subst (λ n. HasArguments command n budgets operands) (sym (same_bytes name row.0 t))
        (each.0 budgets operands command (ap (λ (f : Signature). f budgets operands) same ∙ made))

command_written : (words : List CommandWord) (command : PlainCommand) → command_of words ≡ Some command → IsWritten words command
command_written [] command e = cc
command_written (name ∷ rest) command e = go (signature_of name) (arguments_of rest) refl refl e
  where
    go : (f : Option Signature) (o : Option Arguments) → signature_of name ≡ f → arguments_of rest ≡ o
        → option_and_then (λ form. option_and_then (λ a. form a.budgets a.operands) o) f ≡ Some command → IsWritten (name ∷ rest) command
    go None o form_is is h = cc
    go (Some form) None form_is is h = cc
    go (Some form) (Some a) form_is is h =
        let p = words_written rest a is in
        record {
          name = name;
          arguments = p.arguments;
          ending = p.ending;
          writable = p.writable;
          spelled = ap (λ (words : List CommandWord). name ∷ words) p.spelled;
          meant = subst (λ b. HasArguments command name b (operands_of p.arguments p.ending)) p.budgets
              (subst (HasArguments command name a.budgets) p.operands (form_written signatures rows name form form_is a.budgets a.operands command h));
        }

-- ---- and back

budget_read : (budgets : List CommandWord) (n : ℕ) → IsBudget budgets n → budget_of budgets ≡ Some n
budget_read budgets n (inl h) = rw (h.0, h.1) refl
budget_read budgets n (inr h) = rw h.1 (number_read 1 1000000000 h.0 n (omega arith) h.2)

stray_read : (file number count : CommandWord) (n m : ℕ) → IsNumber 0 18446744073709551615 number n → IsNumber 1 1000 count m → stray_of file number count ≡ Some (stray file n m)
stray_read file number count n m drawn many =
    rw (number_read 0 18446744073709551615 number n (omega arith) drawn, number_read 1 1000 count m (omega arith) many) refl

form_read : (command : PlainCommand) (name : CommandWord) (budgets operands : List CommandWord) → HasArguments command name budgets operands
    → option_and_then (λ form. form budgets operands) (signature_of name) ≡ Some command
form_read (verify file n) name budgets operands h = rw (h.0, h.1) (ap (option_map (verify file)) (budget_read budgets n h.2))
form_read (derive file n) name budgets operands h = rw (h.0, h.1) (ap (option_map (derive file)) (budget_read budgets n h.2))
form_read (check file derivation) name budgets operands h = rw (h.0, h.1, h.2) refl
form_read (replay file schedule) name budgets operands h = rw (h.0, h.1, h.2) refl
form_read (show file) name budgets operands h = rw (h.0, h.1, h.2) refl
form_read (trial n) name budgets operands h = rw (h.0, h.1.1, h.2) (ap (option_map trial) (number_read 1 50 h.1.0 n (omega arith) h.1.2))
form_read (outline file derivation) name budgets operands h = rw (h.0, h.1, h.2) refl
form_read (owners file derivation schedule) name budgets operands h = rw (h.0, h.1, h.2) refl
form_read (stray file n m) name budgets operands h = rw (h.0, h.1.2, h.2) (stray_read file h.1.0 h.1.1 n m h.1.3 h.1.4)
form_read (core file) name budgets operands h = rw (h.0, h.1, h.2) refl

written_read : (words : List CommandWord) (command : PlainCommand) → IsWritten words command → command_of words ≡ Some command
written_read words command w =
    ap command_of w.spelled
    ∙ ap (λ (o : Option Arguments). option_and_then (λ form. option_and_then (λ a. form a.budgets a.operands) o) (signature_of w.name)) (arguments_read w.arguments w.ending w.writable)
    ∙ form_read command w.name (budgets_of w.arguments) (operands_of w.arguments w.ending) w.meant

pub commands_are_written : (words : List CommandWord) (command : PlainCommand) → (command_of words ≡ Some command) ↔ IsWritten words command
commands_are_written words command = (command_written words command, written_read words command)
