use Rattle.std.proofs.Common.{refl, ap, ◌∙◌, arith}
use Rattle.ll_laws.specs.declared.Kind.TheVariants.{Linear, Unbounded}
use Rattle.ll_index.specs.Standing.{leaves_under}
use Rattle.ll_index.specs.Walks.{walk_size}
use Rattle.ll_index.proofs.WalkLemmas.{takes-both, takes-forall, takes-under}
use Rattle.ll_index.proofs.leaves.Walk.take.Goals as goal

pub returns-in_ok-put-in-With-2 : goal.returns-in_ok-put-in-With-2
returns-in_ok-put-in-With-2 c =
    let below = c.in-With.ensures.shown.parts in
    let inside = c.requires.part.form in
    takes-both c.args.bank.now c.args.label c.args.leaf c.args.part c.args.self.now c.put-in-With.new.self c.requires.part c.requires.waiting c.in-With.left
    c.in-With.right _ _ c.put.new.self.waiting.items
    c.in-With.ensures.shown.tree (let a = below.0 in omega arith) (let a = below.1 in
    omega arith) refl refl c.in_ok-put-in-With.ensures.waiting c.in_ok-put-in-With-2.ensures.waiting
    (ap (λ ls. ls.items) (c.in_ok-put-in-With-2.ensures.leaves ∙ c.in_ok-put-in-With.ensures.leaves))
    (c.in_ok-put-in-With-2.ensures.premises ∙ c.in_ok-put-in-With.ensures.premises)

pub returns-in_ok-put_under-in-Lolli : goal.returns-in_ok-put_under-in-Lolli
returns-in_ok-put_under-in-Lolli c =
    let below = c.in-Lolli.ensures.shown.parts in
    let inside = c.requires.part.form in
    let size = ap walk_size c.in-Lolli.ensures.shown.tree in
    takes-under c.args.bank.now c.args.label c.args.leaf c.args.part c.args.self.now c.put_under.new.self c.requires.part c.requires.waiting
    (record { goal = c.in-Lolli.goal; kind = Linear; quantifiers = c.args.part.quantifiers }) c.in-Lolli.rest
    (λ n ps. ap (leaves_under n ps) c.in-Lolli.ensures.shown.tree)
    (omega arith) (let a = below.0 in omega arith) (let a = below.1 in omega arith) refl c.in_ok-put_under-in-Lolli.ensures

pub returns-in_ok-put_under-in-Imp : goal.returns-in_ok-put_under-in-Imp
returns-in_ok-put_under-in-Imp c =
    let below = c.in-Imp.ensures.shown.parts in
    let inside = c.requires.part.form in
    let size = ap walk_size c.in-Imp.ensures.shown.tree in
    takes-under c.args.bank.now c.args.label c.args.leaf c.args.part c.args.self.now c.put_under-in-Imp.new.self c.requires.part c.requires.waiting
    (record { goal = c.in-Imp.goal; kind = Unbounded; quantifiers = c.args.part.quantifiers }) c.in-Imp.rest
    (λ n ps. ap (leaves_under n ps) c.in-Imp.ensures.shown.tree)
    (omega arith) (let a = below.0 in omega arith) (let a = below.1 in omega arith) refl c.in_ok-put_under-in-Imp.ensures

pub returns-in_ok-put-in-Forall : goal.returns-in_ok-put-in-Forall
returns-in_ok-put-in-Forall c =
    let below = c.in-Forall.ensures.shown.parts in
    let inside = c.requires.part.form in
    takes-forall c.args.bank.now c.args.label c.args.leaf c.args.part c.args.self.now c.put-in-Forall.new.self c.requires.part c.requires.waiting
    c.in-Forall.rest
    (record { form = c.in-Forall.rest; quantifiers = c.in_ok-one_more-in-Forall.field-0; premises = c.args.part.premises })
    c.in-Forall.ensures.shown.tree (omega arith) refl c.in_ok-one_more-in-Forall.ensures refl (ap (λ ls. ls.items) c.in_ok-put-in-Forall.ensures.leaves)
    c.in_ok-put-in-Forall.ensures.waiting
    c.in_ok-put-in-Forall.ensures.premises
