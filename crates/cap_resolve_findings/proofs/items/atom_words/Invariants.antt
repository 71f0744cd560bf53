use Rattle.std.proofs.Common.{◌≡◌, ◌++◌, drop, map}
use Rattle.cap_resolve_spec.specs.Parts.{atom_word}
use Rattle.cap_resolve_parts.specs.Views.{guards_view, words_view}
use Rattle.cap_resolve_findings.proofs.items.atom_words.Given as goal

abbrev pub invariant-loop-atom : goal.invariant-loop-atom
invariant-loop-atom l =
    words_view l.words.items ++ map atom_word (guards_view (drop l.atom-index l.atoms)) ≡ map atom_word (guards_view l.atoms)
