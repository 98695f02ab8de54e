-- The lines of faults, computed on examples.
use Rattle.std.proofs.Common.{◌≡◌, refl}
use Rattle.std.specs.Prelude.{codes}
use Rattle.std.specs.Fmt.{digits}
use Rattle.ll_top.specs.texts.Faults.{Usage, Oversized, OversizedAs, Faulty, fault_text}

usage_line : fault_text (Usage 6) ≡ codes "fault: usage, word 6\n"
unfolding digits
usage_line = refl

kind_line : fault_text (Faulty (codes "prog") (record { at = record { line = 1; column = 8 }; kind = 7 })) ≡ codes "fault: prog 1:8 kind 7 not a clause\n"
unfolding digits
kind_line = refl

long_line : fault_text (Oversized (codes "prog")) ≡ codes "fault: prog has more than 16777216 bytes\n"
long_line = refl

table_line : fault_text (Faulty (codes "proof") (record { at = record { line = 2; column = 1 }; kind = 18 }))
    ≡ codes "fault: proof 2:1 kind 18 not the table of shared terms\n"
unfolding digits
table_line = refl

long_line_as : fault_text (OversizedAs (codes "proof") 1) ≡ codes "fault: proof as version 1 has more than 16777216 bytes\n"
unfolding digits
long_line_as = refl
