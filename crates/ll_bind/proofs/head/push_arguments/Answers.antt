use Rattle.std.proofs.lemmas.Result.{IfOk-from_err}
use Rattle.std.proofs.Common.{◌-◌, ◌∙◌, arith}
use Rattle.ll_bind.proofs.Heads.{popped, equate_empty, equate_first, equate_begin, equate_more}
use Rattle.ll_bind.proofs.head.push_arguments.Goals as goal

pub returns-then-left-eq0 : goal.returns-then-left-eq0
returns-then-left-eq0 c =
    popped c.pop.result c.args.equations.now.items c.pop.new.self.items c.pop.ensures.items c.pop.ensures.variant.1
    ∙ equate_empty c.args.places.now c.args.patterns.now c.args.equations.now.items c.requires (omega arith)

pub loop-left-init : goal.loop-left-init
loop-left-init c = record {
  among = omega arith;
  some = omega arith;
  pushed =
      equate_begin c.args.places.now c.args.patterns.now c.args.equations.now.items c.requires;
}

pub loop-left-preserved : goal.loop-left-preserved
loop-left-preserved c = record {
  among = omega arith;
  some = omega arith;
  pushed = equate_more c.args.places.now c.args.patterns.now c.loop-left.left (c.loop-left.left - 1) (record { 0 = 0 }) c.args.equations.now.items
      c.loop-left.equations.items c.push.new.self.items (omega arith) (omega arith) c.requires c.loop-left.invariant.pushed
      c.in_ok-push.ensures.ok;
}

pub returns : goal.returns
returns c =
    equate_first c.args.places.now c.args.patterns.now (record { 0 = 0 }) c.args.equations.now.items c.loop-left.equations.items c.loop-left.left (omega arith)
    (omega arith) c.requires c.loop-left.invariant.pushed

pub returns-in_err-push : goal.returns-in_err-push
returns-in_err-push c = IfOk-from_err c.from_residual.result _ c.from_residual.ensures.0
