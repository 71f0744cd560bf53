use Rattle.std.proofs.Common.{rules, sym, ap, ◌∙◌, ◌≡◌, false, map, true≢false}
use Rattle.std.specs.Prelude.{string_bytes}
use Rattle.clap.specs.Words.{is_simple_and_free, kind_of, subcommand_rows_of}
use Rattle.clap.specs.declared.error.kind.ErrorKind.TheVariants.{OutOfMemory}
use Rattle.cap_top_words.specs.Parser.{has_lone_dash}
use Rattle.cap_top_words.proofs.Exact.{are_texts, is_free, met_as_read, taken, not_taken}
use Rattle.cap_top_words.proofs.Tables.{lone_dash_none}
use Rattle.cap_top_words.proofs.reading.read_command.Goals as goal

pub returns-then-has_lone_dash : goal.returns-then-has_lone_dash
returns-then-has_lone_dash c = sym (lone_dash_none (map string_bytes c.args.words.now) (search rules))

pub returns-in-Ok : goal.returns-in-Ok
returns-in-Ok c =
    let whole : has_lone_dash (map string_bytes c.args.words.now) ≡ false = search rules in
    c.met_command.ensures
    ∙ met_as_read (subcommand_rows_of c.in-Ok.matches)
    ∙ taken c.in_ok-parser.field-0 (map string_bytes c.args.words.now) c.in_ok-parser.ensures (are_texts c.args.words.now) whole c.in-Ok.matches
    (c.in-Ok.ensures.kinds (ap is_simple_and_free c.in_ok-parser.ensures ∙ is_free)) c.in-Ok.ensures.matches

pub returns : goal.returns
returns c =
    let whole : has_lone_dash (map string_bytes c.args.words.now) ≡ false = search rules in
    let other : kind_of c.in-Err.error ≡ OutOfMemory → ⊥ = λ e.
    let k : c.kind.result ≡ OutOfMemory = c.kind.ensures ∙ e in
    let t = rw k at c.eq.ensures in
    true≢false (sym t ∙ c.if-eq.false) in
    not_taken c.in_ok-parser.field-0 (map string_bytes c.args.words.now) c.in_ok-parser.ensures (are_texts c.args.words.now) whole (kind_of c.in-Err.error) other
    (c.in-Err.ensures.kinds (ap is_simple_and_free c.in_ok-parser.ensures ∙ is_free))
