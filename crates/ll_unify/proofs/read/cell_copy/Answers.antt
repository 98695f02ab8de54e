use Rattle.std.proofs.lemmas.Result.{IfOk-from_err}
use Rattle.ll_bank.proofs.CallerLemmas.{Extends-refl}
use Rattle.ll_unify.proofs.read.cell_copy.Goals as goal

pub returns-in-None-clause-keeps : goal.returns-in-None-clause-keeps
returns-in-None-clause-keeps g c = Extends-refl c.args.bank.now

pub copy_of-requires-clause-at : goal.copy_of-requires-clause-at
copy_of-requires-clause-at g c = c.requires.to c.in-Some.at c.in-Some.is

pub returns-in_err-copy-in-Some-clause-copy : goal.returns-in_err-copy-in-Some-clause-copy
returns-in_err-copy-in-Some-clause-copy g c = IfOk-from_err c.from_residual.result _ c.from_residual.ensures.0

pub returns-in_err-copy-in-Some-clause-known : goal.returns-in_err-copy-in-Some-clause-known
returns-in_err-copy-in-Some-clause-known g c = IfOk-from_err c.from_residual.result _ c.from_residual.ensures.0

pub copy_of-requires-clause-table : goal.copy_of-requires-clause-table
copy_of-requires-clause-table g c = c.requires.table

pub copy_of-requires-clause-known : goal.copy_of-requires-clause-known
copy_of-requires-clause-known g c = c.requires.known

pub returns-in_err-copy-in-Some-clause-keeps : goal.returns-in_err-copy-in-Some-clause-keeps
returns-in_err-copy-in-Some-clause-keeps g c = c.copy_of.ensures.keeps

pub returns-in-None-clause-copy : goal.returns-in-None-clause-copy
returns-in-None-clause-copy g c = rw c.in-None.is tt

pub returns-in-None-clause-known : goal.returns-in-None-clause-known
returns-in-None-clause-known g c = c.requires.known

pub returns-in_ok-copy-in-Some-clause-copy : goal.returns-in_ok-copy-in-Some-clause-copy
returns-in_ok-copy-in-Some-clause-copy g c = rw c.in-Some.is c.in_ok-copy-in-Some.ensures.copy

pub returns-in_ok-copy-in-Some-clause-known : goal.returns-in_ok-copy-in-Some-clause-known
returns-in_ok-copy-in-Some-clause-known g c = c.in_ok-copy-in-Some.ensures.known

pub returns-in_ok-copy-in-Some-clause-keeps : goal.returns-in_ok-copy-in-Some-clause-keeps
returns-in_ok-copy-in-Some-clause-keeps g c = c.copy_of.ensures.keeps
