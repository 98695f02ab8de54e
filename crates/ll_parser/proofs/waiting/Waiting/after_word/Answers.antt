use Rattle.std.proofs.Common.{◌≡◌, length, ◌∙◌, sym, ap, arith}
use Rattle.std.proofs.lemmas.Result.{IfOk-from_err, IfOk-weaker}
use Rattle.ll_parser.specs.Raw.{head, none}
use Rattle.ll_parser.specs.Grammar.{word_identifier}
use Rattle.ll_parser.specs.Flat.{after_plain, after_word}
use Rattle.ll_parser.specs.Symbols.{symbol_tok}
use Rattle.ll_parser.specs.Waiting.{known, word_view, tree, waiting, args_from, waiting_below}
use Rattle.ll_parser.proofs.machines.Dropped.{same-gives, no-arguments}
use Rattle.ll_parser.proofs.machines.NumberFrames.{has-arguments}
use Rattle.ll_parser.proofs.waiting.Waiting.after_word.Goals as goal

pub returns-else-len-from-clause-gives : goal.returns-else-len-from-clause-gives
returns-else-len-from-clause-gives c = λ texts.
    let n : c.len.result ≡ length c.args.self.now.args.items = omega (arith, c.args.self.now.args.ok.0, c.len.ensures) in
    has-arguments c.args.self.now c.args.from c.requires (λ e. c.if-len-from.false (n ∙ e)) (word_view (known texts) c.args.word)
    (waiting_below (known texts) c.args.self.now c.args.from) (symbol_tok (known texts) c.args.symbol) (known texts)

pub returns-else-len-from-clause-grows : goal.returns-else-len-from-clause-grows
returns-else-len-from-clause-grows c = λ later e. e

pub finish_head-requires : goal.finish_head-requires
finish_head-requires c = c.requires

pub returns-in_err-unit-clause-gives : goal.returns-in_err-unit-clause-gives
returns-in_err-unit-clause-gives c = IfOk-from_err c.from_residual.result _ c.from_residual.ensures.0

pub returns-in_err-unit-clause-grows : goal.returns-in_err-unit-clause-grows
returns-in_err-unit-clause-grows c = IfOk-from_err c.from_residual.result _ c.from_residual.ensures.0

pub after_plain-requires-clause-fits : goal.after_plain-requires-clause-fits
after_plain-requires-clause-fits c = c.in_ok-unit.ensures.gives.fits

pub after_plain-requires-clause-unit : goal.after_plain-requires-clause-unit
after_plain-requires-clause-unit c = c.in_ok-unit.ensures.gives.inside

pub returns-in_ok-unit-clause-gives : goal.returns-in_ok-unit-clause-gives
returns-in_ok-unit-clause-gives c =
    let old = c.args.self.now in
    let mid = c.finish_head.new.self in
    let n : length old.args.items ≡ c.args.from = omega (arith, old.args.ok.0, c.len.ensures, c.if-len-from.true) in
    IfOk-weaker c.after_plain.result _ _
    (same-gives c.after_plain.new.self
    (λ texts. after_plain (tree texts mid c.in_ok-unit.unit) (waiting texts mid) (symbol_tok texts c.args.symbol))
    (λ texts. after_word (word_view texts c.args.word) (args_from texts old c.args.from) (waiting_below texts old c.args.from) (symbol_tok texts c.args.symbol))
    (λ texts.
    let a : args_from (known texts) old c.args.from ≡ none = no-arguments old c.args.from n (known texts) in
    let h : tree (known texts) mid c.in_ok-unit.unit ≡ head (word_identifier (word_view (known texts) c.args.word)) none =
    c.in_ok-unit.ensures.gives.is texts ∙ (λ i. head (c.named.ensures (known texts) i) (a i)) in
    ap (λ rs. after_word (word_view (known texts) c.args.word) rs (waiting_below (known texts) old c.args.from) (symbol_tok (known texts) c.args.symbol)) a
    ∙ (λ i. after_plain (sym h i) (sym (c.in_ok-unit.ensures.gives.waits texts) i) (symbol_tok (known texts) c.args.symbol))))
    c.after_plain.ensures.gives

pub returns-in_ok-unit-clause-grows : goal.returns-in_ok-unit-clause-grows
returns-in_ok-unit-clause-grows c = IfOk-weaker c.after_plain.result _ _
    (λ o g later e. c.in_ok-unit.ensures.grows later (g later e)) c.after_plain.ensures.grows
