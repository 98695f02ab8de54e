use Rattle.ll_parser.proofs.stored.Drafting.{marked-next}
use Rattle.std.proofs.lemmas.Result.{IfOk-from_err}
use Rattle.ll_parser.proofs.texts.Draft.step.Goals as goal

pub returns-in_ok-next-in-Marked : goal.returns-in_ok-next-in-Marked
returns-in_ok-next-in-Marked c = marked-next c.args.self.now c.enter.new.self c.in_ok-next-in-Marked.next c.args.phase c.in-Marked.is c.requires.phase
    c.args.symbol c.in_ok-next-in-Marked.ensures

pub begin-requires-clause-clauses : goal.begin-requires-clause-clauses
begin-requires-clause-clauses c = c.requires.clauses

pub begin-requires-clause-idle : goal.begin-requires-clause-idle
begin-requires-clause-idle c = rw c.in-Boundary.is at c.requires.phase

pub enter-requires-clause-clauses : goal.enter-requires-clause-clauses
enter-requires-clause-clauses c = c.requires.clauses

pub enter-requires-clause-mode : goal.enter-requires-clause-mode
enter-requires-clause-mode c = (rw c.in-Marked.is at c.requires.phase).fits

pub go_on-requires-clause-clauses : goal.go_on-requires-clause-clauses
go_on-requires-clause-clauses c = c.requires.clauses

pub go_on-requires-clause-mode : goal.go_on-requires-clause-mode
go_on-requires-clause-mode c = rw c.in-Clause.is at c.requires.phase

pub add_param-requires-clause-clauses : goal.add_param-requires-clause-clauses
add_param-requires-clause-clauses c = c.requires.clauses

pub add_param-requires-clause-idle : goal.add_param-requires-clause-idle
add_param-requires-clause-idle c = rw c.in-Params.is at c.requires.phase

pub add_local-requires-clause-clauses : goal.add_local-requires-clause-clauses
add_local-requires-clause-clauses c = c.requires.clauses

pub add_local-requires-clause-idle : goal.add_local-requires-clause-idle
add_local-requires-clause-idle c = rw c.in-Local.is at c.requires.phase

pub add_local-requires-in-Name-symbol-2-clause-clauses : goal.add_local-requires-in-Name-symbol-2-clause-clauses
add_local-requires-in-Name-symbol-2-clause-clauses c = c.requires.clauses

pub add_local-requires-in-Name-symbol-2-clause-idle : goal.add_local-requires-in-Name-symbol-2-clause-idle
add_local-requires-in-Name-symbol-2-clause-idle c = rw c.in-Locals.is at c.requires.phase

pub returns-in-Boundary : goal.returns-in-Boundary
returns-in-Boundary c = rw c.in-Boundary.is c.begin.ensures

pub returns-in-Clause : goal.returns-in-Clause
returns-in-Clause c = rw c.in-Clause.is c.go_on.ensures

pub returns-in-Variable : goal.returns-in-Variable
returns-in-Variable c = rw (c.in-Params.is, c.in-Variable.is) c.add_param.ensures

pub returns-in-Name-symbol : goal.returns-in-Name-symbol
returns-in-Name-symbol c = rw (c.in-Local.is, c.in-Name-symbol.is) c.add_local.ensures

pub returns-in-Name-symbol-2 : goal.returns-in-Name-symbol-2
returns-in-Name-symbol-2 c = rw (c.in-Locals.is, c.in-Name-symbol-2.is) c.add_local-in-Name-symbol-2.ensures

pub returns-in_err-next-in-Marked : goal.returns-in_err-next-in-Marked
returns-in_err-next-in-Marked c = IfOk-from_err c.from_residual.result _ c.from_residual.ensures.0
