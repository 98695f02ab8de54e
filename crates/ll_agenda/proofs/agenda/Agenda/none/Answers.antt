use Rattle.std.proofs.Common.{refl}
use Rattle.ll_agenda.proofs.Lists.{ShowsItems-none}
use Rattle.ll_agenda.proofs.agenda.Agenda.none.Goals as goal

pub returns : goal.returns
returns g c = λ frames. ShowsItems-none frames _ refl
