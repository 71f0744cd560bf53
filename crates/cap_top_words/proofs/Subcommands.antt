-- The subcommands: what each reads is what its form makes of the arguments.
use Rattle.std.proofs.Common.{◌≡◌, ◌∷◌, ◌+◌, ℕ, true, false, min, refl, inl, inr, List, [], map, Option, Some, None, codes}
use Rattle.std.specs.Prelude.{option_and_then, option_map}
use Rattle.std.specs.Str.{bytes_eq}
use Rattle.clap.specs.Lexer.{usize_max}
use Rattle.clap.specs.Walk.{Rule, arg_by_long, arg_by_short, nothing_held, walk_from}
use Rattle.clap.specs.Simple.{Shape, built, filled_from, new_shape}
use Rattle.clap.specs.Faults.{defaults_fault}
use Rattle.cap_top_words.specs.Number.{number_within}
use Rattle.cap_top_words.specs.Meaning.{Signature, signatures, PlainCommand, CommandWord, arguments_of, file_and_budget, one_operand, two_operands, three_operands, owners_of, stray_of, verify, derive, check, replay, show, trial, outline, core}
use Rattle.cap_top_words.specs.Parser.{RowReader, file_and_budget_in, budgeted_rules, caper_app, one_operand_in, operand_rules, row_readers, three_operands_in, two_operands_in}
use Rattle.cap_top_words.proofs.Classes.{WordClasses, equal_bytes}
use Rattle.cap_top_words.proofs.Leaf.{HasOption, has, lacks, leaf, run}
use Rattle.cap_top_words.proofs.Chain.{Chain, Never, Once, made_of, reads_with, reads_without}

-- the subcommand's shape, built
abbrev pub leaf_of : CommandWord → List Rule → Shape
leaf_of name rules = leaf name (filled_from 1 rules)

-- the level above the subcommands
abbrev pub top_level : Shape
top_level = record (new_shape (codes "caper")) {
  is_leaf = false;
  no_binary_name = true;
  disable_help_flag = true;
  disable_help_subcommand = true;
  subcommand_required = true;
  is_built = true;
}

pub record Subcommand : Type 0 where
  pub name : CommandWord
  pub not_ends : bytes_eq name (codes "--") ≡ false
  pub rules : List Rule
  pub reading : RowReader
  pub form : Signature
  pub reads : (words : List CommandWord) → WordClasses words
      → option_and_then reading (run (leaf_of name rules) (walk_from nothing_held) words) ≡ made_of form (arguments_of words)

-- ---- one operand and the option

has_budget : HasOption (filled_from 1 budgeted_rules)
has_budget = record { by_long = refl; by_id = refl }

two_budgets : (make : CommandWord → ℕ → PlainCommand) (n m : CommandWord) (budgets operands : List CommandWord) → file_and_budget make (n ∷ m ∷ budgets) operands ≡ None
two_budgets make n m budgets [] = refl
two_budgets make n m budgets (a ∷ []) = refl
two_budgets make n m budgets (a ∷ b ∷ operands) = refl

module _ (name : CommandWord) (make : CommandWord → ℕ → PlainCommand) where
  budgeted_chain : Chain (file_and_budget_in make) name (filled_from 1 budgeted_rules) (Once (file_and_budget_in make) name (filled_from 1 budgeted_rules)) [] 1 (codes "file" ∷ []) (file_and_budget make)
  unfolding defaults_fault
  budgeted_chain = (
    record { slot = refl; ends = refl },
    record {
      option = has_budget;
      fresh = refl;
      given = λ n. (
        record { slot = refl; ends = refl },
        record { refused = inr (has_budget, refl); none = λ m budgets operands. two_budgets make n m budgets operands },
        record { by_id = refl; fresh = refl },
        λ w. (
          record { slot = refl; ends = refl },
          record { refused = inr (has_budget, refl); none = λ m budgets operands. two_budgets make n m budgets (w ∷ operands) },
          λ budgets v operands. refl,
        ),
      );
    },
    record { by_id = refl; fresh = refl },
    λ w. (
      record { slot = refl; ends = refl },
      record {
        option = has_budget;
        fresh = refl;
        given = λ n. (
          record { slot = refl; ends = refl },
          record { refused = inr (has_budget, refl); none = λ m budgets operands. two_budgets make n m budgets (w ∷ operands) },
          λ budgets v operands. refl,
        );
      },
      λ budgets v operands. refl,
    ),
  )

  pub budgeted_reads : (words : List CommandWord) → WordClasses words
      → option_and_then (file_and_budget_in make) (run (leaf_of name budgeted_rules) (walk_from nothing_held) words) ≡ made_of (file_and_budget make) (arguments_of words)
  budgeted_reads = reads_with (file_and_budget_in make) name (filled_from 1 budgeted_rules) (record { long = λ n e. rw e refl; short = λ x. refl })
      (has has_budget) [] 1 (codes "file" ∷ []) (file_and_budget make) budgeted_chain

-- ---- operands alone

no_long : (i : ℕ) (ids : List CommandWord) (name : CommandWord) → arg_by_long (filled_from i (operand_rules ids)) name ≡ None
no_long i [] name = refl
no_long i (id ∷ ids) name = no_long (min (i + 1) usize_max) ids name

no_short : (i : ℕ) (ids : List CommandWord) (x : ℕ) → arg_by_short (filled_from i (operand_rules ids)) x ≡ None
no_short i [] x = refl
no_short i (id ∷ ids) x = no_short (min (i + 1) usize_max) ids x

operands_reads : (name : CommandWord) (ids : List CommandWord) (reading : RowReader) (form : Signature)
    → Chain reading name (filled_from 1 (operand_rules ids)) (Never reading name (filled_from 1 (operand_rules ids))) [] 1 ids form
    → (words : List CommandWord) → WordClasses words → option_and_then reading (run (leaf_of name (operand_rules ids)) (walk_from nothing_held) words) ≡ made_of form (arguments_of words)
operands_reads name ids reading form = reads_without reading name (filled_from 1 (operand_rules ids))
    (record { long = λ n e. no_long 1 ids n; short = no_short 1 ids }) (lacks (no_long 1 ids (codes "budget"))) [] 1 ids form

one_more : (make : CommandWord → Option PlainCommand) (a b : CommandWord) (budgets operands : List CommandWord) → one_operand make budgets (a ∷ b ∷ operands) ≡ None
one_more make a b [] operands = refl
one_more make a b (n ∷ budgets) operands = refl

two_more : (make : CommandWord → CommandWord → PlainCommand) (a b d : CommandWord) (budgets operands : List CommandWord) → two_operands make budgets (a ∷ b ∷ d ∷ operands) ≡ None
two_more make a b d [] operands = refl
two_more make a b d (n ∷ budgets) operands = refl

three_more : (make : CommandWord → CommandWord → CommandWord → Option PlainCommand) (a b d e : CommandWord) (budgets operands : List CommandWord) → three_operands make budgets (a ∷ b ∷ d ∷ e ∷ operands) ≡ None
three_more make a b d e [] operands = refl
three_more make a b d e (n ∷ budgets) operands = refl

module _ (name id : CommandWord) where
  one_chain : (make : CommandWord → Option PlainCommand)
      → Chain (one_operand_in id make) name (filled_from 1 (operand_rules (id ∷ []))) (Never (one_operand_in id make) name (filled_from 1 (operand_rules (id ∷ [])))) [] 1 (id ∷ []) (one_operand make)
  unfolding defaults_fault
  one_chain make = (
    record { slot = refl; ends = refl },
    record { refused = inl refl; none = λ n budgets operands. refl },
    record { by_id = simp (equal_bytes id) refl; fresh = refl },
    λ w. (
      record { slot = refl; ends = simp (equal_bytes id) refl },
      record { refused = inl refl; none = λ n budgets operands. refl },
      λ budgets v operands. one_more make w v budgets operands,
    ),
  )

  pub one_reads : (make : CommandWord → Option PlainCommand) (words : List CommandWord) → WordClasses words
      → option_and_then (one_operand_in id make) (run (leaf_of name (operand_rules (id ∷ []))) (walk_from nothing_held) words) ≡ made_of (one_operand make) (arguments_of words)
  one_reads make = operands_reads name (id ∷ []) (one_operand_in id make) (one_operand make) (one_chain make)

  module _ (other : CommandWord) (differs : bytes_eq id other ≡ false) (differs_too : bytes_eq other id ≡ false) where
    two_chain : (make : CommandWord → CommandWord → PlainCommand)
        → Chain (two_operands_in id other make) name (filled_from 1 (operand_rules (id ∷ other ∷ []))) (Never (two_operands_in id other make) name (filled_from 1 (operand_rules (id ∷ other ∷ [])))) [] 1 (id ∷ other ∷ []) (two_operands make)
    unfolding defaults_fault
    two_chain make = (
      record { slot = refl; ends = refl },
      record { refused = inl refl; none = λ n budgets operands. refl },
      record { by_id = simp (equal_bytes id) refl; fresh = refl },
      λ w. (
        record { slot = refl; ends = simp (equal_bytes id, differs) refl },
        record { refused = inl refl; none = λ n budgets operands. refl },
        record { by_id = simp (equal_bytes other, differs) refl; fresh = simp differs refl },
        λ v. (
          record { slot = refl; ends = simp (equal_bytes id, equal_bytes other, differs, differs_too) refl },
          record { refused = inl refl; none = λ n budgets operands. refl },
          λ budgets u operands. two_more make w v u budgets operands,
        ),
      ),
    )

    pub two_reads : (make : CommandWord → CommandWord → PlainCommand) (words : List CommandWord) → WordClasses words
        → option_and_then (two_operands_in id other make) (run (leaf_of name (operand_rules (id ∷ other ∷ []))) (walk_from nothing_held) words) ≡ made_of (two_operands make) (arguments_of words)
    two_reads make = operands_reads name (id ∷ other ∷ []) (two_operands_in id other make) (two_operands make) (two_chain make)

module _ (name id other third : CommandWord) (differ : bytes_eq id other ≡ false) (differ_back : bytes_eq other id ≡ false)
    (differ_far : bytes_eq id third ≡ false) (differ_far_back : bytes_eq third id ≡ false)
    (differ_late : bytes_eq other third ≡ false) (differ_late_back : bytes_eq third other ≡ false) where
  abbrev three_ids : List CommandWord
  three_ids = id ∷ other ∷ third ∷ []

  three_chain : (make : CommandWord → CommandWord → CommandWord → Option PlainCommand)
      → Chain (three_operands_in id other third make) name (filled_from 1 (operand_rules three_ids))
      (Never (three_operands_in id other third make) name (filled_from 1 (operand_rules three_ids))) [] 1 three_ids (three_operands make)
  unfolding defaults_fault
  three_chain make = (
    record { slot = refl; ends = refl },
    record { refused = inl refl; none = λ n budgets operands. refl },
    record { by_id = simp (equal_bytes id) refl; fresh = refl },
    λ a. (
      record { slot = refl; ends = simp (equal_bytes id, differ, differ_far) refl },
      record { refused = inl refl; none = λ n budgets operands. refl },
      record { by_id = simp (equal_bytes other, differ) refl; fresh = simp differ refl },
      λ b. (
        record { slot = refl; ends = simp (equal_bytes id, equal_bytes other, differ, differ_back, differ_far, differ_late) refl },
        record { refused = inl refl; none = λ n budgets operands. refl },
        record { by_id = simp (equal_bytes third, differ_far, differ_late) refl; fresh = simp (differ, differ_far, differ_late) refl },
        λ d. (
          record {
            slot = refl;
            ends = simp (equal_bytes id, equal_bytes other, equal_bytes third, differ, differ_back, differ_far, differ_far_back, differ_late, differ_late_back) refl;
          },
          record { refused = inl refl; none = λ n budgets operands. refl },
          λ budgets e operands. three_more make a b d e budgets operands,
        ),
      ),
    ),
  )

  pub three_reads : (make : CommandWord → CommandWord → CommandWord → Option PlainCommand) (words : List CommandWord) → WordClasses words
      → option_and_then (three_operands_in id other third make) (run (leaf_of name (operand_rules three_ids)) (walk_from nothing_held) words)
      ≡ made_of (three_operands make) (arguments_of words)
  three_reads make = operands_reads name three_ids (three_operands_in id other third make) (three_operands make) (three_chain make)

-- ---- the subcommands of the parser

abbrev budgeted_subcommand : (name : CommandWord) → bytes_eq name (codes "--") ≡ false → (CommandWord → ℕ → PlainCommand) → Subcommand
budgeted_subcommand name not_ends make = record {
  name = name;
  not_ends = not_ends;
  rules = budgeted_rules;
  reading = file_and_budget_in make;
  form = file_and_budget make;
  reads = budgeted_reads name make;
}

abbrev one_subcommand : (name : CommandWord) → bytes_eq name (codes "--") ≡ false → CommandWord → (CommandWord → Option PlainCommand) → Subcommand
one_subcommand name not_ends id make = record {
  name = name;
  not_ends = not_ends;
  rules = operand_rules (id ∷ []);
  reading = one_operand_in id make;
  form = one_operand make;
  reads = one_reads name id make;
}

abbrev two_subcommand : (name : CommandWord) → bytes_eq name (codes "--") ≡ false → (id other : CommandWord) → bytes_eq id other ≡ false → bytes_eq other id ≡ false → (CommandWord → CommandWord → PlainCommand) → Subcommand
two_subcommand name not_ends id other differs differs_too make = record {
  name = name;
  not_ends = not_ends;
  rules = operand_rules (id ∷ other ∷ []);
  reading = two_operands_in id other make;
  form = two_operands make;
  reads = two_reads name id other differs differs_too make;
}

-- the name isn't `--`, and no two of the arguments have one name
abbrev three_subcommand : (name : CommandWord) → bytes_eq name (codes "--") ≡ false → (id other third : CommandWord)
    → bytes_eq id other ≡ false → bytes_eq other id ≡ false → bytes_eq id third ≡ false → bytes_eq third id ≡ false
    → bytes_eq other third ≡ false → bytes_eq third other ≡ false
    → (CommandWord → CommandWord → CommandWord → Option PlainCommand) → Subcommand
three_subcommand name not_ends id other third d d_back far far_back late late_back make = record {
  name = name;
  not_ends = not_ends;
  rules = operand_rules (id ∷ other ∷ third ∷ []);
  reading = three_operands_in id other third make;
  form = three_operands make;
  reads = three_reads name id other third d d_back far far_back late late_back make;
}

pub all : List Subcommand
all =
    budgeted_subcommand (codes "verify") refl verify
    ∷ budgeted_subcommand (codes "derive") refl derive
    ∷ two_subcommand (codes "check") refl (codes "file") (codes "derivation") refl refl check
    ∷ two_subcommand (codes "replay") refl (codes "file") (codes "schedule") refl refl replay
    ∷ one_subcommand (codes "show") refl (codes "file") (λ file. Some (show file))
    ∷ one_subcommand (codes "trial") refl (codes "number") (λ n. option_map trial (number_within 1 50 n))
    ∷ two_subcommand (codes "outline") refl (codes "file") (codes "derivation") refl refl outline
    ∷ three_subcommand (codes "owners") refl (codes "file") (codes "derivation") (codes "schedule") refl refl refl refl refl refl owners_of
    ∷ three_subcommand (codes "stray") refl (codes "file") (codes "number") (codes "count") refl refl refl refl refl refl stray_of
    ∷ one_subcommand (codes "core") refl (codes "file") (λ file. Some (core file))
    ∷ []

-- the parser and the tables are made of them

pub parser_is : built caper_app ≡ record { top = top_level; subs = map (λ s. leaf_of s.name s.rules) all }
unfolding all
parser_is = refl

pub row_readers_are : row_readers ≡ map (λ s. (s.name, s.reading)) all
unfolding all
row_readers_are = refl

pub signatures_are : signatures ≡ map (λ s. (s.name, s.form)) all
unfolding all
signatures_are = refl
