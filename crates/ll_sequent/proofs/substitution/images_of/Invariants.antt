use Rattle.std.proofs.Common.{◌≡◌, map, take}
use Rattle.std.specs.Prelude.{slice_index_or}
use Rattle.ll_bank.specs.declared.At.{At}
use Rattle.ll_sequent.proofs.substitution.images_of.Given as goal

abbrev pub invariant-loop-place : goal.invariant-loop-place
invariant-loop-place l = l.images.items ≡ map (λ (a : At). slice_index_or l.terms a.0 a) (take l.place-index l.places)
