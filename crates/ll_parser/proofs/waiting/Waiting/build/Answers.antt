use Rattle.std.proofs.Common.{◌≡◌, length, refl, ap, ◌∙◌, subst}
use Rattle.std.proofs.lemmas.Result.{IfOk-weaker}
use Rattle.ll_parser.specs.declared.Quantifier.TheVariants.{Forall, Exists}
use Rattle.ll_parser.specs.declared.waiting.Prefix.TheVariants as prefix
use Rattle.ll_parser.specs.declared.waiting.Frame.TheVariants as frame
use Rattle.ll_parser.specs.Waiting.{base, PrefixFits, FitsBelow}
use Rattle.ll_parser.proofs.machines.Handing.{front-built}
use Rattle.ll_parser.proofs.waiting.Waiting.build.Goals as goal

pub add-requires : goal.add-requires
add-requires c = (
  subst (PrefixFits (length c.args.self.now.forms) (length c.args.self.now.args.items)) c.in-Operator.is c.requires.front.frame,
  c.requires.operand,
)

pub returns-in-Operator-clause-gives : goal.returns-in-Operator-clause-gives
returns-in-Operator-clause-gives c =
    IfOk-weaker c.add.result _ _
    (λ i a. front-built c.args.self.now c.add.new.self c.args.operand i c.args.front
    (prefix.Operator c.in-Operator.op c.in-Operator.at c.in-Operator.left) c.in-Operator.is refl refl c.requires.front a) c.add.ensures.gives

pub returns-in-Operator-clause-grows : goal.returns-in-Operator-clause-grows
returns-in-Operator-clause-grows c = c.add.ensures.grows

pub finish_load-requires-clause-fits : goal.finish_load-requires-clause-fits
finish_load-requires-clause-fits c =
    subst (λ p. FitsBelow c.args.self.now (base (length c.args.self.now.args.items) (frame.Front p))) c.in-Load.is c.requires.front.fits

pub finish_load-requires-clause-goal : goal.finish_load-requires-clause-goal
finish_load-requires-clause-goal c = c.requires.operand

pub returns-in-Load-clause-gives : goal.returns-in-Load-clause-gives
returns-in-Load-clause-gives c = rw c.in-Load.is c.finish_load.ensures.gives

pub returns-in-Load-clause-grows : goal.returns-in-Load-clause-grows
returns-in-Load-clause-grows c = c.finish_load.ensures.grows

pub add-requires-in-Quantifier-Forall-default-default : goal.add-requires-in-Quantifier-Forall-default-default
add-requires-in-Quantifier-Forall-default-default c = c.requires.operand

pub returns-in-Quantifier-Forall-default-default-clause-gives : goal.returns-in-Quantifier-Forall-default-default-clause-gives
returns-in-Quantifier-Forall-default-default-clause-gives c =
    let arm = c.in-Quantifier-Forall-default-default in
    let e : arm.field-0 ≡ Forall = rw arm.is at arm.field-0-is in
    IfOk-weaker c.add-in-Quantifier-Forall-default-default.result _ _
    (λ i a. front-built c.args.self.now c.add-in-Quantifier-Forall-default-default.new.self c.args.operand i c.args.front
    (prefix.Quantifier Forall arm.at arm.name) (arm.is ∙ ap (λ q. prefix.Quantifier q arm.at arm.name) e) refl refl c.requires.front a)
    c.add-in-Quantifier-Forall-default-default.ensures.gives

pub returns-in-Quantifier-Forall-default-default-clause-grows : goal.returns-in-Quantifier-Forall-default-default-clause-grows
returns-in-Quantifier-Forall-default-default-clause-grows c = c.add-in-Quantifier-Forall-default-default.ensures.grows

pub add-requires-in-Quantifier-Exists-default-default : goal.add-requires-in-Quantifier-Exists-default-default
add-requires-in-Quantifier-Exists-default-default c = c.requires.operand

pub returns-in-Quantifier-Exists-default-default-clause-gives : goal.returns-in-Quantifier-Exists-default-default-clause-gives
returns-in-Quantifier-Exists-default-default-clause-gives c =
    let arm = c.in-Quantifier-Exists-default-default in
    let e : arm.field-0 ≡ Exists = rw arm.is at arm.field-0-is in
    IfOk-weaker c.add-in-Quantifier-Exists-default-default.result _ _
    (λ i a. front-built c.args.self.now c.add-in-Quantifier-Exists-default-default.new.self c.args.operand i c.args.front
    (prefix.Quantifier Exists arm.at arm.name) (arm.is ∙ ap (λ q. prefix.Quantifier q arm.at arm.name) e) refl refl c.requires.front a)
    c.add-in-Quantifier-Exists-default-default.ensures.gives

pub returns-in-Quantifier-Exists-default-default-clause-grows : goal.returns-in-Quantifier-Exists-default-default-clause-grows
returns-in-Quantifier-Exists-default-default-clause-grows c = c.add-in-Quantifier-Exists-default-default.ensures.grows
