-- Why a text is refused.
use Rattle.ll_lexer.specs.declared.Fault.{Fault}
use Rattle.ll_lexer.specs.declared.TextFault.{TextFault}
use Rattle.ll_lexer.specs.declared.TextFault.TheVariants as fault

-- the cause is out of memory, or a fault of this kind
abbrev pub IsCauseOf : (Fault → Type 0) → TextFault → Type 0
IsCauseOf IsFault (fault.Text f) = IsFault f
IsCauseOf IsFault fault.OutOfMemory = Unit {0}
