use Rattle.std.proofs.lemmas.Result.{IfOk-from_err}
use Rattle.ll_parser.specs.Flat.{flat_step}
use Rattle.ll_parser.specs.Symbols.{symbol_tok}
use Rattle.ll_parser.specs.Waiting.{mode_view}
use Rattle.ll_parser.proofs.stored.Drafting.{entered}
use Rattle.ll_parser.proofs.texts.Draft.enter.Goals as goal

pub returns-in-Some : goal.returns-in-Some
returns-in-Some c =
    entered c.args.self.now c.step.new.self c.requires.clauses c.in_ok-next.ensures.grows c.args.linear c.in-Some.next
    (λ texts. flat_step (mode_view texts c.args.self.now.waiting c.args.mode) (symbol_tok texts c.args.symbol))
    (rw c.in-Some.is at c.in_ok-next.ensures.gives)

pub returns-in_err-next : goal.returns-in_err-next
returns-in_err-next c = IfOk-from_err c.from_residual.result _ c.from_residual.ensures.0
