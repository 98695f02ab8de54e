use Rattle.std.proofs.Common.{sym, ap, ◌∙◌}
use Rattle.std.proofs.lemmas.Result.{IfOk-from_err, IfOk-weaker}
use Rattle.ll_parser.specs.Raw.{head}
use Rattle.ll_parser.specs.Flat.{part, operate, flat_step}
use Rattle.ll_parser.specs.Symbols.{symbol_tok}
use Rattle.ll_parser.specs.Waiting.{known, word_view, tree, waiting, args_from, waiting_below}
use Rattle.ll_parser.proofs.machines.Dropped.{same-gives}
use Rattle.ll_parser.proofs.machines.Handing.{atom-ends}
use Rattle.ll_parser.proofs.waiting.Waiting.after_atom.Goals as goal

pub returns-in-Name-clause-gives : goal.returns-in-Name-clause-gives
returns-in-Name-clause-gives c = rw c.in-Name.is c.extend_atom.ensures.gives

pub returns-in-Name-clause-grows : goal.returns-in-Name-clause-grows
returns-in-Name-clause-grows c = c.extend_atom.ensures.grows

pub returns-in-Variable-clause-gives : goal.returns-in-Variable-clause-gives
returns-in-Variable-clause-gives c = rw c.in-Variable.is c.extend_atom-in-Variable.ensures.gives

pub returns-in-Variable-clause-grows : goal.returns-in-Variable-clause-grows
returns-in-Variable-clause-grows c = c.extend_atom-in-Variable.ensures.grows

pub returns-in-Any-clause-gives : goal.returns-in-Any-clause-gives
returns-in-Any-clause-gives c = rw c.in-Any.is c.extend_atom-in-Any.ensures.gives

pub returns-in-Any-clause-grows : goal.returns-in-Any-clause-grows
returns-in-Any-clause-grows c = c.extend_atom-in-Any.ensures.grows

pub returns-in-ParenLeft-clause-gives : goal.returns-in-ParenLeft-clause-gives
returns-in-ParenLeft-clause-gives c = rw c.in-ParenLeft.is c.want_term.ensures.gives

pub returns-in-ParenLeft-clause-grows : goal.returns-in-ParenLeft-clause-grows
returns-in-ParenLeft-clause-grows c = c.want_term.ensures.grows

pub returns-in-LoadArrow-clause-gives : goal.returns-in-LoadArrow-clause-gives
returns-in-LoadArrow-clause-gives c = rw c.in-LoadArrow.is c.begin_load.ensures.gives

pub returns-in-LoadArrow-clause-grows : goal.returns-in-LoadArrow-clause-grows
returns-in-LoadArrow-clause-grows c = c.begin_load.ensures.grows

pub returns-in-Number-clause-grows : goal.returns-in-Number-clause-grows
returns-in-Number-clause-grows c = c.extend_atom-in-Number.ensures.grows

pub extend_atom-requires-clause-fits : goal.extend_atom-requires-clause-fits
extend_atom-requires-clause-fits c = c.requires

pub extend_atom-requires-in-Variable-clause-fits : goal.extend_atom-requires-in-Variable-clause-fits
extend_atom-requires-in-Variable-clause-fits c = c.requires

pub extend_atom-requires-in-Any-clause-fits : goal.extend_atom-requires-in-Any-clause-fits
extend_atom-requires-in-Any-clause-fits c = c.requires

pub extend_atom-requires-in-Number-clause-fits : goal.extend_atom-requires-in-Number-clause-fits
extend_atom-requires-in-Number-clause-fits c = c.requires

pub begin_load-requires : goal.begin_load-requires
begin_load-requires c = c.requires

pub after_word-requires : goal.after_word-requires
after_word-requires c = c.requires

pub finish_head-requires : goal.finish_head-requires
finish_head-requires c = c.requires

pub want_term-requires : goal.want_term-requires
want_term-requires c = record { fits = c.requires; frame = c.requires.within }

pub returns-in_err-operand-in_default : goal.returns-in_err-operand-in_default
returns-in_err-operand-in_default c = record {
  gives = IfOk-from_err c.from_residual.result _ c.from_residual.ensures.0;
  grows = IfOk-from_err c.from_residual.result _ c.from_residual.ensures.0;
}

pub after_operand-requires : goal.after_operand-requires
after_operand-requires c = record { fits = c.in_ok-operand-in_default.ensures.gives.fits; operand = c.in_ok-operand-in_default.ensures.gives.inside }

pub returns-in_ok-operand-in_default : goal.returns-in_ok-operand-in_default
returns-in_ok-operand-in_default c =
    let old = c.args.self.now in
    let mid = c.finish_head.new.self in
    let made = c.in_ok-operand-in_default.ensures.gives in
    let not = c.in_default in
    record {
      gives = IfOk-weaker c.after_operand.result _ _
          (same-gives c.after_operand.new.self (λ texts. operate (tree texts mid c.in_ok-operand-in_default.operand) (waiting texts mid)
          (symbol_tok texts c.args.symbol))
          (λ texts. flat_step (part (word_view texts c.args.word) (args_from texts old c.args.from) (waiting_below texts old c.args.from))
          (symbol_tok texts c.args.symbol))
          (λ texts. atom-ends c.args.symbol not.not-Name not.not-Variable not.not-Any not.not-Number not.not-ParenLeft not.not-LoadArrow not.not-Is
          not.not-Most not.not-Less not.not-Plus not.not-Minus not.not-Star (known texts) (word_view (known texts) c.args.word)
          (args_from (known texts) old c.args.from) (waiting_below (known texts) old c.args.from)
          ∙ (λ i. operate (sym (made.is texts ∙ ap (λ n. head n (args_from (known texts) old c.args.from)) (c.named.ensures (known texts))) i)
          (sym (made.waits texts) i) (symbol_tok (known texts) c.args.symbol))))
          c.after_operand.ensures.gives;
      grows = IfOk-weaker c.after_operand.result _ _ (λ o g later e. c.in_ok-operand-in_default.ensures.grows later (g later e)) c.after_operand.ensures.grows;
    }
