use Rattle.std.proofs.lemmas.Result.{IfOk-from_err}
use Rattle.std.proofs.Common.{◌∙◌, ap, false, List, sym}
use Rattle.ll_parser.specs.Flat.{Pending, want, flat_step}
use Rattle.ll_parser.specs.FlatText.{enter, phase_step, boundary}
use Rattle.ll_parser.specs.Symbols.{symbol_tok}
use Rattle.ll_parser.specs.Waiting.{known, waiting}
use Rattle.ll_parser.specs.Drafts.{whole_view, current_view}
use Rattle.ll_parser.proofs.stored.Drafting.{same-phase, begins-idle, begins-clause}
use Rattle.ll_parser.proofs.texts.Draft.begin.Goals as goal

pub returns-in_ok-next-in_default : goal.returns-in_ok-next-in_default
returns-in_ok-next-in_default c =
    same-phase c.enter.new.self c.in_ok-next-in_default.next
    (λ texts. phase_step (whole_view texts c.args.self.now) (current_view texts c.args.self.now) boundary (symbol_tok texts c.args.symbol))
    (λ texts. enter (whole_view texts c.args.self.now) (current_view texts c.args.self.now) false
    (flat_step (want (waiting texts c.args.self.now.waiting)) (symbol_tok texts c.args.symbol)))
    (λ texts. begins-clause (known texts) _ _ c.args.symbol c.in_default.not-Module c.in_default.not-Local c.in_default.not-Linear
    ∙ ap (λ (ps : List Pending). enter (whole_view (known texts) c.args.self.now) (current_view (known texts) c.args.self.now) false
    (flat_step (want ps) (symbol_tok (known texts) c.args.symbol))) (sym (begins-idle c.args.self.now.waiting c.requires.idle (known texts))))
    c.in_ok-next-in_default.ensures

pub returns-in_err-close_module-in-Module : goal.returns-in_err-close_module-in-Module
returns-in_err-close_module-in-Module c = IfOk-from_err c.from_residual.result _ c.from_residual.ensures.0

pub returns-in_err-next-in_default : goal.returns-in_err-next-in_default
returns-in_err-next-in_default c = IfOk-from_err c.from_residual-in_err-next-in_default.result _ c.from_residual-in_err-next-in_default.ensures.0
