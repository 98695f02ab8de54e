use Rattle.std.proofs.Common.{ap, sym, true}
use Rattle.std.proofs.lemmas.List.{append-nil}
use Rattle.std.proofs.lemmas.Result.{on_ok_weaker, IfOk-from_err}
use Rattle.ll_bank.specs.declared.FormNode.TheVariants.{Top as TopView, One as OneView, Atom as AtomView, With as WithView, Tensor as TensorView}
use Rattle.ll_bank.specs.declared.FormNode.TheVariants.{Plus as PlusView, Bang as BangView, Lolli as LolliView, Imp as ImpView, Forall as ForallView}
use Rattle.ll_bank.specs.declared.FormNode.TheVariants.{Exists as ExistsView, Use as UseView, Is as IsView, Less as LessView, Most as MostView}
use Rattle.ll_bank.specs.Nodes.{node_of}
use Rattle.ll_bank.specs.Opened.{form_parts, form_parts_at, ArePartsOf, form_size_at}
use Rattle.ll_bank.specs.Instantiated.{IsFormGood}
use Rattle.ll_bank.proofs.OpenLemmas.{pushed, form_parts_small}
use Rattle.ll_bank.proofs.PartLemmas.{form_node_seen}
use Rattle.ll_bank.proofs.open.push_form.Goals as goal

pub returns-in_err-push-clause-parts : goal.returns-in_err-push-clause-parts
returns-in_err-push-clause-parts c =
    IfOk-from_err c.from_residual.result (λ _. ArePartsOf (form_size_at c.args.bank.now) (IsFormGood c.args.bank.now) (c.args.task.place, c.args.task.level)
    (form_parts_at c.args.bank.now (c.args.task.place, c.args.task.level))) c.from_residual.ensures.0

pub returns-in-Top-clause-pushed : goal.returns-in-Top-clause-pushed
returns-in-Top-clause-pushed c =
    pushed (form_parts_at c.args.bank.now (c.args.task.place, c.args.task.level)) (form_parts (node_of TopView) c.args.task.level) c.args.tasks.now.items
    c.push.new.self.items c.push.new.self.items (record { place = c.args.task.place; level = c.args.task.level; ready = true })
    (ap (λ node. form_parts node c.args.task.level) (form_node_seen c.args.bank.now c.args.task.place (node_of TopView) c.in-Top.ensures.node))
    c.in_ok-push.ensures.items (sym (append-nil c.push.new.self.items))

pub returns-in-Top-clause-parts : goal.returns-in-Top-clause-parts
returns-in-Top-clause-parts c =
    form_parts_small c.args.bank.now c.args.task.place c.args.task.level TopView c.in-Top.ensures.node c.in-Top.ensures.shown

pub returns-in-One-clause-pushed : goal.returns-in-One-clause-pushed
returns-in-One-clause-pushed c =
    pushed (form_parts_at c.args.bank.now (c.args.task.place, c.args.task.level)) (form_parts (node_of OneView) c.args.task.level) c.args.tasks.now.items
    c.push.new.self.items c.push.new.self.items (record { place = c.args.task.place; level = c.args.task.level; ready = true })
    (ap (λ node. form_parts node c.args.task.level) (form_node_seen c.args.bank.now c.args.task.place (node_of OneView) c.in-One.ensures.node))
    c.in_ok-push.ensures.items (sym (append-nil c.push.new.self.items))

pub returns-in-One-clause-parts : goal.returns-in-One-clause-parts
returns-in-One-clause-parts c =
    form_parts_small c.args.bank.now c.args.task.place c.args.task.level OneView c.in-One.ensures.node c.in-One.ensures.shown

pub returns-in-Atom-clause-pushed : goal.returns-in-Atom-clause-pushed
returns-in-Atom-clause-pushed c =
    pushed (form_parts_at c.args.bank.now (c.args.task.place, c.args.task.level)) (form_parts (node_of (AtomView c.in-Atom.field-0)) c.args.task.level)
    c.args.tasks.now.items c.push.new.self.items c.push.new.self.items (record { place = c.args.task.place; level = c.args.task.level; ready = true })
    (ap (λ node. form_parts node c.args.task.level) (form_node_seen c.args.bank.now c.args.task.place (node_of (AtomView c.in-Atom.field-0))
    c.in-Atom.ensures.node)) c.in_ok-push.ensures.items (sym (append-nil c.push.new.self.items))

pub returns-in-Atom-clause-parts : goal.returns-in-Atom-clause-parts
returns-in-Atom-clause-parts c =
    form_parts_small c.args.bank.now c.args.task.place c.args.task.level (AtomView c.in-Atom.field-0) c.in-Atom.ensures.node c.in-Atom.ensures.shown

pub returns-in-With-clause-pushed : goal.returns-in-With-clause-pushed
returns-in-With-clause-pushed c =
    on_ok_weaker c.push_two.result (pushed (form_parts_at c.args.bank.now (c.args.task.place, c.args.task.level))
    (form_parts (node_of (WithView c.in-With.f c.in-With.g)) c.args.task.level) c.args.tasks.now.items c.push.new.self.items c.push_two.new.tasks.items
    (record { place = c.args.task.place; level = c.args.task.level; ready = true })
    (ap (λ node. form_parts node c.args.task.level) (form_node_seen c.args.bank.now c.args.task.place (node_of (WithView c.in-With.f c.in-With.g))
    c.in-With.ensures.node)) c.in_ok-push.ensures.items) c.push_two.ensures

pub returns-in-With-clause-parts : goal.returns-in-With-clause-parts
returns-in-With-clause-parts c =
    on_ok_weaker c.push_two.result (λ _. form_parts_small c.args.bank.now c.args.task.place c.args.task.level (WithView c.in-With.f c.in-With.g)
    c.in-With.ensures.node c.in-With.ensures.shown) c.push_two.ensures

pub returns-in-Tensor-clause-pushed : goal.returns-in-Tensor-clause-pushed
returns-in-Tensor-clause-pushed c =
    on_ok_weaker c.push_two-in-Tensor.result (pushed (form_parts_at c.args.bank.now (c.args.task.place, c.args.task.level))
    (form_parts (node_of (TensorView c.in-Tensor.f c.in-Tensor.g)) c.args.task.level) c.args.tasks.now.items c.push.new.self.items
    c.push_two-in-Tensor.new.tasks.items (record { place = c.args.task.place; level = c.args.task.level; ready = true })
    (ap (λ node. form_parts node c.args.task.level) (form_node_seen c.args.bank.now c.args.task.place (node_of (TensorView c.in-Tensor.f c.in-Tensor.g))
    c.in-Tensor.ensures.node)) c.in_ok-push.ensures.items) c.push_two-in-Tensor.ensures

pub returns-in-Tensor-clause-parts : goal.returns-in-Tensor-clause-parts
returns-in-Tensor-clause-parts c =
    on_ok_weaker c.push_two-in-Tensor.result (λ _. form_parts_small c.args.bank.now c.args.task.place c.args.task.level (TensorView c.in-Tensor.f c.in-Tensor.g)
    c.in-Tensor.ensures.node c.in-Tensor.ensures.shown) c.push_two-in-Tensor.ensures

pub returns-in-Plus-clause-pushed : goal.returns-in-Plus-clause-pushed
returns-in-Plus-clause-pushed c =
    on_ok_weaker c.push_two-in-Plus.result (pushed (form_parts_at c.args.bank.now (c.args.task.place, c.args.task.level))
    (form_parts (node_of (PlusView c.in-Plus.f c.in-Plus.g)) c.args.task.level) c.args.tasks.now.items c.push.new.self.items
    c.push_two-in-Plus.new.tasks.items (record { place = c.args.task.place; level = c.args.task.level; ready = true })
    (ap (λ node. form_parts node c.args.task.level) (form_node_seen c.args.bank.now c.args.task.place (node_of (PlusView c.in-Plus.f c.in-Plus.g))
    c.in-Plus.ensures.node)) c.in_ok-push.ensures.items) c.push_two-in-Plus.ensures

pub returns-in-Plus-clause-parts : goal.returns-in-Plus-clause-parts
returns-in-Plus-clause-parts c =
    on_ok_weaker c.push_two-in-Plus.result (λ _. form_parts_small c.args.bank.now c.args.task.place c.args.task.level (PlusView c.in-Plus.f c.in-Plus.g)
    c.in-Plus.ensures.node c.in-Plus.ensures.shown) c.push_two-in-Plus.ensures

pub returns-in-Bang-clause-pushed : goal.returns-in-Bang-clause-pushed
returns-in-Bang-clause-pushed c =
    on_ok_weaker c.push_one.result (pushed (form_parts_at c.args.bank.now (c.args.task.place, c.args.task.level))
    (form_parts (node_of (BangView c.in-Bang.f)) c.args.task.level) c.args.tasks.now.items c.push.new.self.items c.push_one.new.tasks.items
    (record { place = c.args.task.place; level = c.args.task.level; ready = true })
    (ap (λ node. form_parts node c.args.task.level) (form_node_seen c.args.bank.now c.args.task.place (node_of (BangView c.in-Bang.f))
    c.in-Bang.ensures.node)) c.in_ok-push.ensures.items) c.push_one.ensures

pub returns-in-Bang-clause-parts : goal.returns-in-Bang-clause-parts
returns-in-Bang-clause-parts c =
    on_ok_weaker c.push_one.result (λ _. form_parts_small c.args.bank.now c.args.task.place c.args.task.level (BangView c.in-Bang.f) c.in-Bang.ensures.node
    c.in-Bang.ensures.shown) c.push_one.ensures

pub returns-in-Lolli-clause-pushed : goal.returns-in-Lolli-clause-pushed
returns-in-Lolli-clause-pushed c =
    on_ok_weaker c.push_two-in-Lolli.result (pushed (form_parts_at c.args.bank.now (c.args.task.place, c.args.task.level))
    (form_parts (node_of (LolliView c.in-Lolli.f c.in-Lolli.g)) c.args.task.level) c.args.tasks.now.items c.push.new.self.items
    c.push_two-in-Lolli.new.tasks.items (record { place = c.args.task.place; level = c.args.task.level; ready = true })
    (ap (λ node. form_parts node c.args.task.level) (form_node_seen c.args.bank.now c.args.task.place (node_of (LolliView c.in-Lolli.f c.in-Lolli.g))
    c.in-Lolli.ensures.node)) c.in_ok-push.ensures.items) c.push_two-in-Lolli.ensures

pub returns-in-Lolli-clause-parts : goal.returns-in-Lolli-clause-parts
returns-in-Lolli-clause-parts c =
    on_ok_weaker c.push_two-in-Lolli.result (λ _. form_parts_small c.args.bank.now c.args.task.place c.args.task.level (LolliView c.in-Lolli.f c.in-Lolli.g)
    c.in-Lolli.ensures.node c.in-Lolli.ensures.shown) c.push_two-in-Lolli.ensures

pub returns-in-Imp-clause-pushed : goal.returns-in-Imp-clause-pushed
returns-in-Imp-clause-pushed c =
    on_ok_weaker c.push_two-in-Imp.result (pushed (form_parts_at c.args.bank.now (c.args.task.place, c.args.task.level))
    (form_parts (node_of (ImpView c.in-Imp.f c.in-Imp.g)) c.args.task.level) c.args.tasks.now.items c.push.new.self.items c.push_two-in-Imp.new.tasks.items
    (record { place = c.args.task.place; level = c.args.task.level; ready = true })
    (ap (λ node. form_parts node c.args.task.level) (form_node_seen c.args.bank.now c.args.task.place (node_of (ImpView c.in-Imp.f c.in-Imp.g))
    c.in-Imp.ensures.node)) c.in_ok-push.ensures.items) c.push_two-in-Imp.ensures

pub returns-in-Imp-clause-parts : goal.returns-in-Imp-clause-parts
returns-in-Imp-clause-parts c =
    on_ok_weaker c.push_two-in-Imp.result (λ _. form_parts_small c.args.bank.now c.args.task.place c.args.task.level (ImpView c.in-Imp.f c.in-Imp.g)
    c.in-Imp.ensures.node c.in-Imp.ensures.shown) c.push_two-in-Imp.ensures

pub returns-in-Forall-clause-pushed : goal.returns-in-Forall-clause-pushed
returns-in-Forall-clause-pushed c =
    on_ok_weaker c.push_one-in-Forall.result (pushed (form_parts_at c.args.bank.now (c.args.task.place, c.args.task.level))
    (form_parts (node_of (ForallView c.in-Forall.f)) c.args.task.level) c.args.tasks.now.items c.push.new.self.items c.push_one-in-Forall.new.tasks.items
    (record { place = c.args.task.place; level = c.args.task.level; ready = true })
    (ap (λ node. form_parts node c.args.task.level) (form_node_seen c.args.bank.now c.args.task.place (node_of (ForallView c.in-Forall.f))
    c.in-Forall.ensures.node)) c.in_ok-push.ensures.items) c.push_one-in-Forall.ensures

pub returns-in-Forall-clause-parts : goal.returns-in-Forall-clause-parts
returns-in-Forall-clause-parts c =
    on_ok_weaker c.push_one-in-Forall.result (λ _. form_parts_small c.args.bank.now c.args.task.place c.args.task.level (ForallView c.in-Forall.f)
    c.in-Forall.ensures.node c.in-Forall.ensures.shown) c.push_one-in-Forall.ensures

pub returns-in-Exists-clause-pushed : goal.returns-in-Exists-clause-pushed
returns-in-Exists-clause-pushed c =
    on_ok_weaker c.push_one-in-Exists.result (pushed (form_parts_at c.args.bank.now (c.args.task.place, c.args.task.level))
    (form_parts (node_of (ExistsView c.in-Exists.f)) c.args.task.level) c.args.tasks.now.items c.push.new.self.items c.push_one-in-Exists.new.tasks.items
    (record { place = c.args.task.place; level = c.args.task.level; ready = true })
    (ap (λ node. form_parts node c.args.task.level) (form_node_seen c.args.bank.now c.args.task.place (node_of (ExistsView c.in-Exists.f))
    c.in-Exists.ensures.node)) c.in_ok-push.ensures.items) c.push_one-in-Exists.ensures

pub returns-in-Exists-clause-parts : goal.returns-in-Exists-clause-parts
returns-in-Exists-clause-parts c =
    on_ok_weaker c.push_one-in-Exists.result (λ _. form_parts_small c.args.bank.now c.args.task.place c.args.task.level (ExistsView c.in-Exists.f)
    c.in-Exists.ensures.node c.in-Exists.ensures.shown) c.push_one-in-Exists.ensures

pub returns-in-Use-clause-pushed : goal.returns-in-Use-clause-pushed
returns-in-Use-clause-pushed c =
    on_ok_weaker c.push_one-in-Use.result (pushed (form_parts_at c.args.bank.now (c.args.task.place, c.args.task.level))
    (form_parts (node_of (UseView c.in-Use.field-0 c.in-Use.field-1 c.in-Use.f)) c.args.task.level) c.args.tasks.now.items c.push.new.self.items
    c.push_one-in-Use.new.tasks.items (record { place = c.args.task.place; level = c.args.task.level; ready = true })
    (ap (λ node. form_parts node c.args.task.level) (form_node_seen c.args.bank.now c.args.task.place
    (node_of (UseView c.in-Use.field-0 c.in-Use.field-1 c.in-Use.f)) c.in-Use.ensures.node)) c.in_ok-push.ensures.items) c.push_one-in-Use.ensures

pub returns-in-Use-clause-parts : goal.returns-in-Use-clause-parts
returns-in-Use-clause-parts c =
    on_ok_weaker c.push_one-in-Use.result (λ _. form_parts_small c.args.bank.now c.args.task.place c.args.task.level
    (UseView c.in-Use.field-0 c.in-Use.field-1 c.in-Use.f) c.in-Use.ensures.node c.in-Use.ensures.shown) c.push_one-in-Use.ensures

pub returns-in-Is-clause-pushed : goal.returns-in-Is-clause-pushed
returns-in-Is-clause-pushed c =
    pushed (form_parts_at c.args.bank.now (c.args.task.place, c.args.task.level))
    (form_parts (node_of (IsView c.in-Is.field-0 c.in-Is.field-1)) c.args.task.level)
    c.args.tasks.now.items c.push.new.self.items c.push.new.self.items (record { place = c.args.task.place; level = c.args.task.level; ready = true })
    (ap (λ node. form_parts node c.args.task.level) (form_node_seen c.args.bank.now c.args.task.place (node_of (IsView c.in-Is.field-0 c.in-Is.field-1))
    c.in-Is.ensures.node)) c.in_ok-push.ensures.items (sym (append-nil c.push.new.self.items))

pub returns-in-Is-clause-parts : goal.returns-in-Is-clause-parts
returns-in-Is-clause-parts c =
    form_parts_small c.args.bank.now c.args.task.place c.args.task.level (IsView c.in-Is.field-0 c.in-Is.field-1) c.in-Is.ensures.node
    c.in-Is.ensures.shown

pub returns-in-Less-clause-pushed : goal.returns-in-Less-clause-pushed
returns-in-Less-clause-pushed c =
    pushed (form_parts_at c.args.bank.now (c.args.task.place, c.args.task.level))
    (form_parts (node_of (LessView c.in-Less.field-0 c.in-Less.field-1)) c.args.task.level)
    c.args.tasks.now.items c.push.new.self.items c.push.new.self.items (record { place = c.args.task.place; level = c.args.task.level; ready = true })
    (ap (λ node. form_parts node c.args.task.level) (form_node_seen c.args.bank.now c.args.task.place (node_of (LessView c.in-Less.field-0 c.in-Less.field-1))
    c.in-Less.ensures.node)) c.in_ok-push.ensures.items (sym (append-nil c.push.new.self.items))

pub returns-in-Less-clause-parts : goal.returns-in-Less-clause-parts
returns-in-Less-clause-parts c =
    form_parts_small c.args.bank.now c.args.task.place c.args.task.level (LessView c.in-Less.field-0 c.in-Less.field-1) c.in-Less.ensures.node
    c.in-Less.ensures.shown

pub returns-in-Most-clause-pushed : goal.returns-in-Most-clause-pushed
returns-in-Most-clause-pushed c =
    pushed (form_parts_at c.args.bank.now (c.args.task.place, c.args.task.level))
    (form_parts (node_of (MostView c.in-Most.field-0 c.in-Most.field-1)) c.args.task.level)
    c.args.tasks.now.items c.push.new.self.items c.push.new.self.items (record { place = c.args.task.place; level = c.args.task.level; ready = true })
    (ap (λ node. form_parts node c.args.task.level) (form_node_seen c.args.bank.now c.args.task.place (node_of (MostView c.in-Most.field-0 c.in-Most.field-1))
    c.in-Most.ensures.node)) c.in_ok-push.ensures.items (sym (append-nil c.push.new.self.items))

pub returns-in-Most-clause-parts : goal.returns-in-Most-clause-parts
returns-in-Most-clause-parts c =
    form_parts_small c.args.bank.now c.args.task.place c.args.task.level (MostView c.in-Most.field-0 c.in-Most.field-1) c.in-Most.ensures.node
    c.in-Most.ensures.shown

pub returns-in_err-push-clause-pushed : goal.returns-in_err-push-clause-pushed
returns-in_err-push-clause-pushed c = IfOk-from_err c.from_residual.result _ c.from_residual.ensures.0
