-- What contracts see of a fragment.
use Rattle.cap_gen.specs.declared.trial.Fragment.{Fragment}
use Rattle.cap_gen.specs.declared.trial.Fragment.TheVariants.{Fixed, Number}
use Rattle.cap_gen.specs.Trial.{PlainFragment, fixed, its_number}

abbrev pub fragment_view : Fragment → PlainFragment
fragment_view (Fixed bytes) = fixed bytes.now
fragment_view Number = its_number
