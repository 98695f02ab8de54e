use Rattle.std.proofs.Common.{ap, sym, subst, ◌∙◌, ◌∷◌, [], length, length-append}
use Rattle.std.proofs.lemmas.Result.{IfOk-from_err}
use Rattle.ll_agenda.specs.Frames.{IsWellFounded}
use Rattle.ll_agenda.proofs.Lists.{ShowsItems-push, Extends-same, Extends-append, seen_append, IsWellFounded-push}
use Rattle.ll_agenda.proofs.agenda.Agenda.push.Goals as goal

pub invariant_of-self : goal.invariant_of-self
invariant_of-self g c = subst (λ frames. IsWellFounded frames) (sym c.in_err-push.ensures.items) c.self.invariant

pub returns-in_err-push-clause-list : goal.returns-in_err-push-clause-list
returns-in_err-push-clause-list g c = IfOk-from_err c.from_residual.result _ c.from_residual.ensures.0

pub returns-in_err-push-clause-one_more : goal.returns-in_err-push-clause-one_more
returns-in_err-push-clause-one_more g c = IfOk-from_err c.from_residual.result _ c.from_residual.ensures.0

pub returns-in_err-push-clause-keeps : goal.returns-in_err-push-clause-keeps
returns-in_err-push-clause-keeps g c = Extends-same c.args.self.now _ (c.in_err-push.ensures.items ∙ c.self.view_is)

pub invariant_of-self-2 : goal.invariant_of-self-2
invariant_of-self-2 g c = IsWellFounded-push c.self.inside.frames.items c.args.self.now _ c.args.item c.args.rest c.self.invariant c.self.view_is c.requires
    c.in_ok-push.ensures.items

pub returns-clause-one_more : goal.returns-clause-one_more
returns-clause-one_more g c =
    ap length
    (seen_append c.self.inside.frames.items c.args.self.now c.push.new.self.items ((c.args.item, c.args.rest) ∷ []) c.self.view_is c.in_ok-push.ensures.items)
    ∙ length-append c.args.self.now ((c.args.item, c.args.rest) ∷ [])

pub returns-clause-list : goal.returns-clause-list
returns-clause-list g c =
    ShowsItems-push c.args.self.now _ c.args.item c.args.rest _
    (seen_append c.self.inside.frames.items c.args.self.now c.push.new.self.items ((c.args.item, c.args.rest) ∷ []) c.self.view_is c.in_ok-push.ensures.items)
    (c.len.ensures ∙ returns-clause-one_more g c)

pub returns-clause-keeps : goal.returns-clause-keeps
returns-clause-keeps g c =
    Extends-append c.args.self.now ((c.args.item, c.args.rest) ∷ []) _
    (seen_append c.self.inside.frames.items c.args.self.now c.push.new.self.items ((c.args.item, c.args.rest) ∷ []) c.self.view_is c.in_ok-push.ensures.items)
