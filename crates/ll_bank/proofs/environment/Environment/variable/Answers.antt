use Rattle.ll_bank.proofs.EnvironmentLemmas.{place-before}
use Rattle.ll_bank.proofs.environment.Environment.variable.Goals as goal

pub returns-then-bound-self-clause-is : goal.returns-then-bound-self-clause-is
returns-then-bound-self-clause-is c = λ n. place-before c.args.self.end c.args.self.count c.args.bound n c.if-bound-self.true c.requires
