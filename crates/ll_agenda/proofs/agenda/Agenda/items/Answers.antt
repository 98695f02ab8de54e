use Rattle.std.proofs.Common.{refl, ap, length, ◌++◌, arith}
use Rattle.std.proofs.lemmas.Result.{IfOk-from_err}
use Rattle.ll_agenda.specs.Frames.{items_at}
use Rattle.ll_agenda.proofs.Lists.{read_more}
use Rattle.ll_agenda.proofs.agenda.Agenda.items.Goals as goal

pub loop-item-init : goal.loop-item-init
loop-item-init g c = (ap (λ items. items ++ items_at c.args.self.now c.args.top) c.new-items.ensures.items, refl, c.requires)

pub item-requires : goal.item-requires
item-requires g c = c.loop-item.invariant.2

pub returns-in_err-push : goal.returns-in_err-push
returns-in_err-push g c = IfOk-from_err c.from_residual.result _ c.from_residual.ensures.0

pub loop-item-smaller : goal.loop-item-smaller
loop-item-smaller g c = let n = ap length c.in-Some.ensures.some.list in omega arith

pub loop-item-preserved : goal.loop-item-preserved
loop-item-preserved g c = (
  read_more c.args.self.now c.loop-item.rest _ _ c.loop-item.items.items c.push.new.self.items
      (items_at c.args.self.now c.args.top) c.in-Some.ensures.some c.in_ok-push.ensures.items c.loop-item.invariant.0,
  refl,
  c.in-Some.ensures.some.inside,
)
