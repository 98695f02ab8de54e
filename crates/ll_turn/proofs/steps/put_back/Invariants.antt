use Rattle.std.proofs.Common.{Some}
use Rattle.ll_turn.proofs.steps.put_back.Given as goal

abbrev pub ghosts-announce : goal.ghosts-announce
ghosts-announce g a = record { value = Some a.noted.now.value }
