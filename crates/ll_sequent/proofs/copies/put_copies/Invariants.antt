use Rattle.std.proofs.Common.{◌≡◌, take}
use Rattle.ll_sequent.specs.Copied.{copied_places}
use Rattle.ll_sequent.proofs.copies.put_copies.Given as goal

abbrev pub invariant-loop-place : goal.invariant-loop-place
invariant-loop-place l = l.found.items ≡ copied_places l.copies (take l.place-index l.places)
