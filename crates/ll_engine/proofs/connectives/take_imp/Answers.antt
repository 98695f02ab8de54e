use Rattle.std.proofs.Common.{ap, subst, ◌∙◌, ◌∷◌, []}
use Rattle.std.proofs.lemmas.Result.{IfOk-from_err}
use Rattle.ll_laws.specs.declared.Kind.TheVariants.{Unbounded}
use Rattle.ll_resources.specs.Resources.{after_load_keyed}
use Rattle.ll_agenda.specs.Frames.{items_at}
use Rattle.ll_laws.specs.declared.Step.TheVariants.{Plain}
use Rattle.ll_freeze.specs.declared.machine.Item.{Item}
use Rattle.ll_freeze.specs.declared.machine.Item.TheVariants.{ImpEnd}
use Rattle.ll_engine.specs.Rows.{GoesOn}
use Rattle.ll_freeze.specs.Parts.{parts_of}
use Rattle.ll_freeze.proofs.CallerLemmas.{later_then}
use Rattle.ll_engine.proofs.machine.Keeping.{later_context}
use Rattle.ll_engine.proofs.machine.MachineLemmas.{closed_tree}
use Rattle.ll_engine.proofs.inferences.Connecting.{implies}
use Rattle.ll_engine.proofs.connectives.take_imp.Goals as goal

pub returns-clause-attempts : goal.returns-clause-attempts
returns-clause-attempts c candidate =
    let m = parts_of c.args.machine.now in let h = c.requires.front.1 in
    let loaded = c.in_ok-load_keyed.ensures.loaded
    ∙ ap (λ k. after_load_keyed Unbounded c.args.clause k c.args.machine.now.context.present) c.key_of-key.ensures in
    implies m (parts_of c.go_on.new.machine) c.load_keyed.new.self.present h.goal (record { end = c.requires.front.0; count = 0 }) c.args.clause c.args.body
    (items_at m.agenda c.args.rest)
    candidate c.requires.fits h.list (closed_tree m _ c.args.rest c.requires.front) h.seen.parts
    loaded (subst (λ (i : Item). GoesOn (record m { resources = c.load_keyed.new.self.present }) (i ∷ ImpEnd ∷ [])
    (items_at m.agenda c.args.rest) Plain (parts_of c.go_on.new.machine)) c.closed.ensures c.in_ok-go_on.ensures.goes)

pub returns-clause-later : goal.returns-clause-later
returns-clause-later c =
    let m = c.args.machine.now in
    later_then m _ c.go_on.new.machine (later_context m c.load_keyed.new.self c.load_keyed.ensures.marks) c.in_ok-go_on.ensures.later

pub returns-in_err-load_keyed-clause-later : goal.returns-in_err-load_keyed-clause-later
returns-in_err-load_keyed-clause-later c = IfOk-from_err c.from_residual.result _ c.from_residual.ensures.0

pub returns-in_err-go_on-clause-later : goal.returns-in_err-go_on-clause-later
returns-in_err-go_on-clause-later c = IfOk-from_err c.from_residual-in_err-go_on.result _ c.from_residual-in_err-go_on.ensures.0
