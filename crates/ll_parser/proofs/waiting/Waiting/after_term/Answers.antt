use Rattle.std.proofs.Common.{List, ap}
use Rattle.std.proofs.lemmas.Result.{IfOk-from_err, IfOk-weaker}
use Rattle.ll_parser.specs.Raw.{Raw}
use Rattle.ll_parser.specs.Flat.{Pending, term_operate, close_term}
use Rattle.ll_parser.specs.Symbols.{symbol_tok}
use Rattle.ll_parser.specs.Waiting.{known, tree, waiting}
use Rattle.ll_parser.proofs.machines.Dropped.{same-gives}
use Rattle.ll_parser.proofs.machines.Handing.{no-term-operator}
use Rattle.ll_parser.proofs.waiting.Waiting.after_term.Goals as goal

pub want_term-requires : goal.want_term-requires
want_term-requires c = record { fits = c.requires.fits; frame = c.requires.term }

pub gather-requires-clause-fits : goal.gather-requires-clause-fits
gather-requires-clause-fits c = c.requires.fits

pub gather-requires-clause-term : goal.gather-requires-clause-term
gather-requires-clause-term c = c.requires.term

pub returns-in_err-whole-in-ParenRight-clause-gives : goal.returns-in_err-whole-in-ParenRight-clause-gives
returns-in_err-whole-in-ParenRight-clause-gives c = IfOk-from_err c.from_residual.result _ c.from_residual.ensures.0

pub returns-in_err-whole-in-ParenRight-clause-grows : goal.returns-in_err-whole-in-ParenRight-clause-grows
returns-in_err-whole-in-ParenRight-clause-grows c = IfOk-from_err c.from_residual.result _ c.from_residual.ensures.0

pub close_term-requires-clause-fits : goal.close_term-requires-clause-fits
close_term-requires-clause-fits c = c.in_ok-whole-in-ParenRight.ensures.gives.fits

pub close_term-requires-clause-term : goal.close_term-requires-clause-term
close_term-requires-clause-term c = c.in_ok-whole-in-ParenRight.ensures.gives.inside

pub returns-in-Cons-clause-gives : goal.returns-in-Cons-clause-gives
returns-in-Cons-clause-gives c = rw c.in-Cons.is c.want_term.ensures.gives

pub returns-in-Cons-clause-grows : goal.returns-in-Cons-clause-grows
returns-in-Cons-clause-grows c = c.want_term.ensures.grows

pub returns-in_ok-whole-in-ParenRight-clause-gives : goal.returns-in_ok-whole-in-ParenRight-clause-gives
returns-in_ok-whole-in-ParenRight-clause-gives c =
    let old = c.args.self.now in
    let mid = c.gather.new.self in
    IfOk-weaker c.close_term.result _ _
    (same-gives c.close_term.new.self (λ texts. close_term (tree texts mid c.in_ok-whole-in-ParenRight.whole) (waiting texts mid))
    (λ texts. term_operate (tree texts old c.args.term) (waiting texts old) (symbol_tok texts c.args.symbol))
    (λ texts. rw c.in-ParenRight.is
    (ap (λ (q : Raw × List Pending). close_term q.0 q.1) (c.in_ok-whole-in-ParenRight.ensures.gives.gathers texts))))
    c.close_term.ensures.gives

pub returns-in_ok-whole-in-ParenRight-clause-grows : goal.returns-in_ok-whole-in-ParenRight-clause-grows
returns-in_ok-whole-in-ParenRight-clause-grows c = IfOk-weaker c.close_term.result _ _
    (λ o g later e. c.in_ok-whole-in-ParenRight.ensures.grows later (g later e)) c.close_term.ensures.grows

pub returns-in_default : goal.returns-in_default
returns-in_default c = record {
  gives = λ texts. no-term-operator c.args.symbol c.in_default.not-Cons c.in_default.not-ParenRight (known texts)
      (tree (known texts) c.args.self.now c.args.term) (waiting (known texts) c.args.self.now);
  grows = λ later e. e;
}
