use Rattle.std.proofs.lemmas.Result.{IfOk-from_err}
use Rattle.std.proofs.Common.{refl, ap}
use Rattle.ll_bank.specs.Nodes.{form_tree}
use Rattle.ll_index.specs.declared.leaves.Walk.{Walk}
use Rattle.ll_index.specs.Standing.{standing_leaves}
use Rattle.ll_index.specs.Listed.{numbered}
use Rattle.ll_index.proofs.WalkLemmas.{walk-begins, walk-part, walk-smaller, part-taken}
use Rattle.ll_index.proofs.leaves.Walk.add_clause.Goals as goal

pub loop-part-init : goal.loop-part-init
loop-part-init c =
    walk-begins c.args.bank.now c.args.label c.args.self.now c.put.new.self (record { form = c.args.clause; quantifiers = 0; premises = c.none.result })
    c.requires.inside (c.none.ensures c.args.self.now.premises) refl
    c.requires.idle (ap (λ ls. ls.items) c.in_ok-put.ensures.leaves) c.in_ok-put.ensures.premises c.in_ok-put.ensures.waiting

pub take-requires-clause-part : goal.take-requires-clause-part
take-requires-clause-part c = (part-taken c.args.bank.now c.loop-part.self.premises c.loop-part.self.waiting.items c.pop.new.self.items c.in-Some.part
    c.in-Some.ensures.items c.loop-part.invariant.waiting).0

pub take-requires-clause-waiting : goal.take-requires-clause-waiting
take-requires-clause-waiting c = (part-taken c.args.bank.now c.loop-part.self.premises c.loop-part.self.waiting.items c.pop.new.self.items c.in-Some.part
    c.in-Some.ensures.items c.loop-part.invariant.waiting).1

pub loop-part-preserved : goal.loop-part-preserved
loop-part-preserved c =
    let popped : Walk = record { waiting = c.pop.new.self; leaves = c.loop-part.self.leaves; premises = c.loop-part.self.premises } in
    walk-part c.args.bank.now c.args.label (numbered c.args.label 0 (standing_leaves (form_tree c.args.bank.now c.args.clause.0))) c.args.self.now
    c.loop-part.self popped c.take.new.self c.loop-part.leaf c.in_ok-leaf.leaf
    c.in-Some.part c.loop-part.invariant c.in-Some.ensures.items refl refl c.in_ok-leaf.ensures

pub loop-part-smaller : goal.loop-part-smaller
loop-part-smaller c = walk-smaller c.args.bank.now c.loop-part.self.waiting.items c.pop.new.self.items c.in-Some.part _ c.in-Some.ensures.items
    c.in_ok-leaf.ensures.smaller

pub returns-in_err-put-clause-idle : goal.returns-in_err-put-clause-idle
returns-in_err-put-clause-idle c = IfOk-from_err c.from_residual.result _ c.from_residual.ensures.0

pub returns-in_err-put-clause-added : goal.returns-in_err-put-clause-added
returns-in_err-put-clause-added c = IfOk-from_err c.from_residual.result _ c.from_residual.ensures.0

pub returns-in_err-leaf-clause-idle : goal.returns-in_err-leaf-clause-idle
returns-in_err-leaf-clause-idle c = IfOk-from_err c.from_residual-in_err-leaf.result _ c.from_residual-in_err-leaf.ensures.0

pub returns-in_err-leaf-clause-added : goal.returns-in_err-leaf-clause-added
returns-in_err-leaf-clause-added c = IfOk-from_err c.from_residual-in_err-leaf.result _ c.from_residual-in_err-leaf.ensures.0
