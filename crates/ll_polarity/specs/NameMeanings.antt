-- What a name means, as the code has it.
use Rattle.ll_polarity.specs.declared.scope.Meaning as seen
use Rattle.ll_polarity.specs.declared.scope.Meaning.TheVariants as seen_as
use Rattle.ll_polarity.specs.Scope.{Meaning, Bound, Local, Free, Constant}

-- the meaning that the code names
abbrev pub meant : seen.Meaning → Meaning
meant (seen_as.Bound k) = Bound k
meant (seen_as.Local k) = Local k
meant seen_as.Free = Free
meant seen_as.Constant = Constant
