use Rattle.std.proofs.lemmas.Result.{IfOk-from_err}
use Rattle.std.proofs.Common.{sym, subst, arith}
use Rattle.ll_parser.specs.declared.formulas.Mode.TheVariants as mode
use Rattle.ll_parser.specs.declared.texts.Stage.TheVariants as stages
use Rattle.ll_parser.specs.Tokens.{toks_of}
use Rattle.ll_parser.specs.Text.{queries}
use Rattle.ll_parser.specs.Reads.{HasFault}
use Rattle.ll_parser.specs.FlatText.{FlatQuery, query_start, query_step, query_final}
use Rattle.ll_parser.specs.Waiting.{tree}
use Rattle.ll_parser.specs.Drafts.{stage_view}
use Rattle.ll_parser.proofs.machines.Queries.{decides-queries}
use Rattle.ll_parser.proofs.spelling.Spelled.{whole-read}
use Rattle.ll_parser.proofs.stored.Drafting.{fits-none, query-none}
use Rattle.ll_parser.proofs.machines.Running.{running-none, bad-token-at, too-many-at, turn, reads, ends-early-at}
use Rattle.ll_parser.proofs.reading.read_query.Goals as goal

pub loop-i-init : goal.loop-i-init
loop-i-init c = (
  fits-none c.args.waiting.now c.requires.waiting.forms c.requires.waiting.args c.requires.waiting.frames,
  running-none queries FlatQuery query_start query_step query_final decides-queries c.args.tokens.now c.args.names.now
      (λ texts. stage_view texts c.args.waiting.now (stages.Formula mode.Operand)) c.requires.names (query-none c.args.waiting.now c.requires.waiting.frames),
)

pub returns-in_default-clause-read : goal.returns-in_default-clause-read
returns-in_default-clause-read c =
    bad-token-at queries FlatQuery query_start query_step query_final decides-queries c.args.tokens.now c.loop-i.i c.loop-i.names
    (λ texts. stage_view texts c.loop-i.waiting c.loop-i.stage) c.loop-i.depth c.loop-i.invariant.1
    c.symbol_at.new.names c.in_ok-symbol.ensures.names c.in_ok-symbol.symbol c.in_ok-symbol.ensures.token c.get.result c.get.ensures.token
    (rw c.in_default.is at c.in_ok-next.ensures)

pub returns-in_default-opened-clause-read : goal.returns-in_default-opened-clause-read
returns-in_default-opened-clause-read c =
    too-many-at queries FlatQuery query_start query_step query_final decides-queries c.args.tokens.now c.loop-i.i c.loop-i.names
    (λ texts. stage_view texts c.loop-i.waiting c.loop-i.stage) c.loop-i.depth c.loop-i.invariant.1
    c.symbol_at.new.names c.in_ok-symbol.ensures.names c.in_ok-symbol.symbol c.in_ok-symbol.ensures.token
    (λ texts. stage_view texts c.query_step.new.self c.in-Some.next) (rw c.in-Some.is at c.in_ok-next.ensures).1 c.get.result c.get.ensures.token
    c.in_default-opened.ensures

pub loop-i-preserved : goal.loop-i-preserved
loop-i-preserved c = (
  (rw c.in-Some.is at c.in_ok-next.ensures).0,
  turn queries FlatQuery query_start query_step query_final decides-queries c.args.tokens.now c.loop-i.i c.loop-i.names
      (λ texts. stage_view texts c.loop-i.waiting c.loop-i.stage) c.loop-i.depth c.loop-i.invariant.1
      c.symbol_at.new.names c.in_ok-symbol.ensures.names c.in_ok-symbol.symbol c.in_ok-symbol.ensures.token
      (λ texts. stage_view texts c.query_step.new.self c.in-Some.next) (rw c.in-Some.is at c.in_ok-next.ensures).1 c.in-Some-opened.now_depth
      c.in-Some-opened.ensures,
)

pub returns-in-Some-2-clause-read : goal.returns-in-Some-2-clause-read
returns-in-Some-2-clause-read c =
    reads queries FlatQuery query_start query_step query_final decides-queries c.args.tokens.now c.loop-i.i (let h = c.loop-i-test.false in
    omega arith) c.loop-i.names (λ texts. stage_view texts c.loop-i.waiting c.loop-i.stage) c.loop-i.depth c.loop-i.invariant.1
    (λ texts. tree texts c.query_finish.new.self c.in-Some-2.goal) (rw c.in-Some-2.is at c.in_ok-goal.ensures).1

pub returns-in-Some-2-clause-whole : goal.returns-in-Some-2-clause-whole
returns-in-Some-2-clause-whole c =
    whole-read queries c.args.tokens.now (tree c.loop-i.names c.query_finish.new.self c.in-Some-2.goal) c.len-i-end.ensures.lexed (let f =
    c.len-i-end.ensures.few in let r = c.requires.text in omega arith)
    (reads queries FlatQuery query_start query_step query_final decides-queries c.args.tokens.now c.loop-i.i (let h = c.loop-i-test.false in
    omega arith) c.loop-i.names (λ texts. stage_view texts c.loop-i.waiting c.loop-i.stage) c.loop-i.depth c.loop-i.invariant.1
    (λ texts. tree texts c.query_finish.new.self c.in-Some-2.goal) (rw c.in-Some-2.is at c.in_ok-goal.ensures).1)

pub returns-in-None-clause-read : goal.returns-in-None-clause-read
returns-in-None-clause-read c =
    subst (λ at. HasFault queries 1000 (toks_of c.args.tokens.now) c.args.tokens.now.end (record { at = at; kind = 5 })) (sym c.end.ensures)
    (ends-early-at queries FlatQuery query_start query_step query_final decides-queries c.args.tokens.now c.loop-i.i (let h = c.loop-i-test.false in
    omega arith) c.loop-i.names (λ texts. stage_view texts c.loop-i.waiting c.loop-i.stage) c.loop-i.depth c.loop-i.invariant.1
    (rw c.in-None.is at c.in_ok-goal.ensures))

pub returns-in_err-symbol-clause-whole : goal.returns-in_err-symbol-clause-whole
returns-in_err-symbol-clause-whole c = IfOk-from_err c.from_residual.result _ c.from_residual.ensures.0

pub returns-in_err-symbol-clause-goal : goal.returns-in_err-symbol-clause-goal
returns-in_err-symbol-clause-goal c = IfOk-from_err c.from_residual.result _ c.from_residual.ensures.0

pub returns-in_err-next-clause-whole : goal.returns-in_err-next-clause-whole
returns-in_err-next-clause-whole c = IfOk-from_err c.from_residual-in_err-next.result _ c.from_residual-in_err-next.ensures.0

pub returns-in_err-next-clause-goal : goal.returns-in_err-next-clause-goal
returns-in_err-next-clause-goal c = IfOk-from_err c.from_residual-in_err-next.result _ c.from_residual-in_err-next.ensures.0

pub returns-in_default-clause-whole : goal.returns-in_default-clause-whole
returns-in_default-clause-whole c = _

pub returns-in_default-clause-goal : goal.returns-in_default-clause-goal
returns-in_default-clause-goal c = _

pub returns-in_default-opened-clause-whole : goal.returns-in_default-opened-clause-whole
returns-in_default-opened-clause-whole c = _

pub returns-in_default-opened-clause-goal : goal.returns-in_default-opened-clause-goal
returns-in_default-opened-clause-goal c = _

pub returns-in_err-goal-clause-whole : goal.returns-in_err-goal-clause-whole
returns-in_err-goal-clause-whole c = IfOk-from_err c.from_residual-in_err-goal.result _ c.from_residual-in_err-goal.ensures.0

pub returns-in_err-goal-clause-goal : goal.returns-in_err-goal-clause-goal
returns-in_err-goal-clause-goal c = IfOk-from_err c.from_residual-in_err-goal.result _ c.from_residual-in_err-goal.ensures.0

pub returns-in-None-clause-whole : goal.returns-in-None-clause-whole
returns-in-None-clause-whole c = _

pub returns-in-None-clause-goal : goal.returns-in-None-clause-goal
returns-in-None-clause-goal c = _
