use Rattle.std.proofs.Common.{rules, ◌≡◌, ◌++◌, [], ap, sym, ◌∙◌, length}
use Rattle.std.proofs.lemmas.List.{append-nil}
use Rattle.std.proofs.lemmas.Result.{IfOk-from_err}
use Rattle.ll_agenda.specs.Frames.{items_at}
use Rattle.ll_agenda.proofs.Lists.{built_more}
use Rattle.ll_agenda.proofs.agenda.Agenda.from_items.Goals as goal

pub loop-item-init : goal.loop-item-init
loop-item-init g c =
    let none = c.none-top.ensures c.new-agenda.result in (
      ap (λ items. c.args.items.items ++ items) none.list ∙ append-nil c.args.items.items,
      ap length c.new-agenda.ensures ∙ sym (ap length none.list),
      none.inside,
    )

pub push-requires : goal.push-requires
push-requires g c = c.loop-item.invariant.2

pub returns-in_err-top-clause-list : goal.returns-in_err-top-clause-list
returns-in_err-top-clause-list g c = IfOk-from_err c.from_residual.result _ c.from_residual.ensures.0

pub returns-in_err-top-clause-frames : goal.returns-in_err-top-clause-frames
returns-in_err-top-clause-frames g c = IfOk-from_err c.from_residual.result _ c.from_residual.ensures.0

pub loop-item-preserved : goal.loop-item-preserved
loop-item-preserved g c =
    built_more c.loop-item.agenda c.push.new.self c.loop-item.top c.in_ok-top.top c.in-Some.item c.loop-item.items.items c.pop.new.self.items
    c.args.items.items c.in-Some.ensures.items c.loop-item.invariant.0 c.loop-item.invariant.1 c.in_ok-top.ensures.one_more c.in_ok-top.ensures.list

pub returns-clause-list : goal.returns-clause-list
returns-clause-list g c =
    let empty : c.loop-item.items.items ≡ [] = let h = c.in_default.ensures.cases.0 in search rules in
    record {
      inside = c.loop-item.invariant.2;
      list = ap (λ items. items ++ items_at c.loop-item.agenda c.loop-item.top) (sym empty) ∙ c.loop-item.invariant.0;
    }

pub returns-clause-frames : goal.returns-clause-frames
returns-clause-frames g c =
    let empty : c.loop-item.items.items ≡ [] = let h = c.in_default.ensures.cases.0 in search rules in
    c.loop-item.invariant.1
    ∙ ap length (ap (λ items. items ++ items_at c.loop-item.agenda c.loop-item.top) (sym empty) ∙ c.loop-item.invariant.0)
