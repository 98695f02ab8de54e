use Rattle.std.proofs.Common.{Some, None, option_map, ◌∙◌, ap}
use Rattle.std.proofs.lemmas.Result.{IfOk-from_err}
use Rattle.ll_parser.specs.FlatText.{asking, ended, query_step}
use Rattle.ll_parser.specs.Flat.{flat_step, flat_final}
use Rattle.ll_parser.specs.Symbols.{symbol_tok}
use Rattle.ll_parser.specs.Waiting.{known, mode_view, Gives, GivesTree}
use Rattle.ll_parser.specs.Drafts.{stage_view}
use Rattle.ll_parser.proofs.stored.Drafting.{asks-on, asks-next}
use Rattle.ll_parser.proofs.waiting.Waiting.query_step.Goals as goal

pub returns-in-Some-2 : goal.returns-in-Some-2
returns-in-Some-2 c = asks-next c.args.self.now c.step.new.self c.args.stage c.in-Formula.mode c.in-Formula.is c.in-Some-2.next c.args.symbol
    c.in_default.not-Dot (rw c.in-Some-2.is at c.in_ok-next-in_default.ensures.gives)

pub finish-requires : goal.finish-requires
finish-requires c = rw c.in-Formula.is at c.requires

pub step-requires : goal.step-requires
step-requires c = rw c.in-Formula.is at c.requires

pub returns-in_err-goal-in-Dot : goal.returns-in_err-goal-in-Dot
returns-in_err-goal-in-Dot c = IfOk-from_err c.from_residual.result _ c.from_residual.ensures.0

pub returns-in_err-next-in_default : goal.returns-in_err-next-in_default
returns-in_err-next-in_default c = IfOk-from_err c.from_residual-in_err-next-in_default.result _ c.from_residual-in_err-next-in_default.ensures.0

pub returns-in-Some : goal.returns-in-Some
returns-in-Some c =
    let g : GivesTree c.finish.new.self (Some c.in-Some.goal) (λ texts. flat_final (mode_view texts c.args.self.now c.in-Formula.mode)) =
    rw c.in-Some.is at c.in_ok-goal-in-Dot.ensures.gives in (
      (g.0.0, g.0.1),
      λ texts. (λ i. query_step (stage_view (known texts) c.args.self.now (c.in-Formula.is i)) (symbol_tok (known texts) (c.in-Dot.is i)))
          ∙ ap (option_map ended) (g.1 texts),
    )

pub returns-in-None : goal.returns-in-None
returns-in-None c =
    let g : GivesTree c.finish.new.self None (λ texts. flat_final (mode_view texts c.args.self.now c.in-Formula.mode)) =
    rw c.in-None.is at c.in_ok-goal-in-Dot.ensures.gives in
    λ texts. (λ i. query_step (stage_view (known texts) c.args.self.now (c.in-Formula.is i)) (symbol_tok (known texts) (c.in-Dot.is i)))
    ∙ ap (option_map ended) (g texts)

pub returns-in-None-2 : goal.returns-in-None-2
returns-in-None-2 c =
    let g : Gives c.step.new.self None (λ texts. flat_step (mode_view texts c.args.self.now c.in-Formula.mode) (symbol_tok texts c.args.symbol)) =
    rw c.in-None-2.is at c.in_ok-next-in_default.ensures.gives in
    λ texts. ap (λ z. query_step (stage_view (known texts) c.args.self.now z) (symbol_tok (known texts) c.args.symbol)) c.in-Formula.is
    ∙ asks-on (known texts) (mode_view (known texts) c.args.self.now c.in-Formula.mode) c.args.symbol c.in_default.not-Dot
    ∙ ap (option_map asking) (g texts)

pub returns-in-Ended : goal.returns-in-Ended
returns-in-Ended c = λ texts.
    ap (λ z. query_step (stage_view (known texts) c.args.self.now z) (symbol_tok (known texts) c.args.symbol)) c.in-Ended.is
