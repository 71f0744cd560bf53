-- What contracts see of candidates that are still in the list, and of closures.
use Rattle.std.specs.Prelude.{List, map}
use Rattle.cap_offer_spec.specs.Closures.{Listed, listed, PlainClosure, keeps, settles}
use Rattle.cap_closure_decide.specs.Noting.{certs_seen}
use Rattle.cap_closure.specs.declared.starting.Listed as code
use Rattle.cap_closure.specs.declared.closing.Closure.{Closure}
use Rattle.cap_closure.specs.declared.closing.Closure.TheVariants.{Keeps, Settles}

abbrev pub listed_of : code.Listed → Listed
listed_of x = listed x.number x.row

abbrev pub list_view : List code.Listed → List Listed
list_view xs = map listed_of xs

abbrev pub closure_view : Closure → PlainClosure
closure_view (Keeps cs) = keeps cs.items
closure_view (Settles list cs) = settles list.items (certs_seen cs)
