use denote.Param.Send.{IsSync, part_keyless}
use Rattle.ll_top.specs.contracts.lines.ghost_event.GhostEvent.{the_row}
use Rattle.ll_top.proofs.lines.ghost_event.GhostEvent.TheSendSync.Send.{send}

pub sync : IsSync the_row
sync = record { shared = λ d b o κ q. part_keyless the_row send q d b o }
