use Rattle.std.proofs.Common.{ap, sym, length, ◌∙◌}
use Rattle.ll_bank.specs.Closing.{env_in}
use Rattle.ll_bank.proofs.EnvironmentLemmas.{length-before}
use Rattle.ll_bank.proofs.closes.Values.{length_listed}
use Rattle.ll_bank.proofs.closing.values.Values.count.Goals as goal

pub returns-in-Places : goal.returns-in-Places
returns-in-Places c = λ nodes.
    sym (ap (λ v. length (env_in nodes v)) c.in-Places.is ∙ length_listed nodes c.in-Places.values.now)

pub returns-in-Variables : goal.returns-in-Variables
returns-in-Variables c = λ nodes.
    sym (ap (λ v. length (env_in nodes v)) c.in-Variables.is ∙ length-before c.in-Variables.environment.end c.in-Variables.environment.count)
