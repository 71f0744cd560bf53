-- Locals are the first of their names.
use Rattle.std.proofs.Common.{◌≡◌, ℕ, Bool, true, false, cond, List, [], ◌∷◌, ◌++◌, fold, filter, refl, sym, ap, ◌∙◌}
use Rattle.std.specs.Prelude.{if◌then◌else◌}
use Rattle.cap_parse_tree.specs.declared.word.Word.{Word}
use Rattle.cap_resolve_spec.specs.Names.{NameScope, knows, whole_numbers, with_first, word_text}
use Rattle.cap_resolve_tables.proofs.Firsts.{whole_among}
use Rattle.cap_resolve_scopes.specs.Lists.{is_known_local, with_wanted}

pub word_kept : (ws : List Word) (w : Word) → knows (whole_numbers ws) w.text ≡ true → ws ≡ with_first word_text ws w
word_kept ws w e = ap (λ b. if b then ws else ws ++ w ∷ []) (sym e ∙ whole_among ws w.text)

pub word_added : (ws : List Word) (w : Word) → knows (whole_numbers ws) w.text ≡ false → ws ++ w ∷ [] ≡ with_first word_text ws w
word_added ws w e = ap (λ b. if b then ws else ws ++ w ∷ []) (sym e ∙ whole_among ws w.text)

pub local_step : (d g : NameScope) (now before : List Word) (w : Word) (rest : List Word) → now ≡ with_wanted (is_known_local d g w) before w → fold (with_first word_text) now (filter (is_known_local d g) rest) ≡ fold (with_first word_text) before (filter (is_known_local d g) (w ∷ rest))
local_step d g now before w rest e = ap (λ ws. fold (with_first word_text) ws (filter (is_known_local d g) rest)) e ∙ by (is_known_local d g w)
  where
    by : (b : Bool) → fold (with_first word_text) (with_wanted b before w) (filter (is_known_local d g) rest) ≡ fold (with_first word_text) before (cond b (w ∷ filter (is_known_local d g) rest) (filter (is_known_local d g) rest))
    by true = refl
    by false = refl
