use Rattle.std.proofs.Common.{refl, ap, sym, subst, arith, length, inl, inr, ℕ}
use Rattle.std.proofs.lemmas.Result.{IfOk-from_err}
use Rattle.std.proofs.lemmas.Bool.{cases_lt}
use Rattle.ll_bank.specs.declared.FormAt.{FormAt}
use Rattle.ll_bank.specs.Nodes.{form_tree}
use Rattle.ll_laws.specs.declared.Part.TheVariants.{Bounded, Unbounded}
use Rattle.ll_laws.specs.Leaf.{Needs, NeedsFree, ways}
use Rattle.ll_laws.specs.Line.{Labels}
use Rattle.ll_trace.specs.declared.walk.Goal.TheVariants.{Plain, Free}
use Rattle.ll_trace.specs.Bare.{bare, premises_at}
use Rattle.ll_trace.specs.Opening.{IsOnWay}
use Rattle.ll_trace.proofs.LeafLemmas.{way_start, way_left, way_right, way_past, way_in, way_end}
use Rattle.ll_trace.proofs.leaf.open_leaf.Goals as goal

pub loop-parts-init : goal.loop-parts-init
loop-parts-init c = way_start c.args.forms.now c.args.clause.0 c.args.leaf c.args.goals.now.items c.requires.inside c.requires.among c.new-parts.result.items
    c.new-parts.ensures.items

pub returns-in-Atom : goal.returns-in-Atom
returns-in-Atom c =
    let w = c.loop-parts.invariant in
    way_end c.args.forms.now c.args.clause.0 c.args.leaf c.args.goals.now.items c.loop-parts.form.0 c.loop-parts.leaf c.loop-parts.quantifiers
    c.loop-parts.goals.items c.loop-parts.parts.items w _ _ c.in-Atom.ensures.shown.tree refl
    c.reverse.ensures.items

pub loop-parts-preserved-in-With : goal.loop-parts-preserved-in-With
loop-parts-preserved-in-With c =
    let w = c.loop-parts.invariant in
    let h = w.inside in
    let p = c.in-With.ensures.shown.parts.0 in
    let q = c.in-With.ensures.shown.parts.1 in
    let side = c.in_ok-side-in-With.side in
    let forms = c.args.forms.now in
    let clause = c.args.clause.0 in
    let k = c.args.leaf in
    let old = c.args.goals.now.items in
    let n = c.loop-parts.quantifiers in
    let new = c.loop-parts.goals.items in
    let parts = c.loop-parts.parts.items in
    let l = c.in-With.left in
    let r = c.in-With.right in
    elim (cases_lt c.loop-parts.leaf (length (ways (form_tree forms l.0)))) [
      | inl less ↦ let s = c.in_ok-side-in-With.ensures.0 less in
          subst (λ (f : FormAt). IsOnWay forms clause k old f.0 side.leaf n new parts) (sym s.0)
          (subst (λ (j : ℕ). IsOnWay forms clause k old l.0 j n new parts) (sym s.1)
          (way_left forms clause k old c.loop-parts.form.0 c.loop-parts.leaf n new parts w l r c.in-With.ensures.shown.tree (omega (arith, h, p)) less))
      | inr past ↦ let s = c.in_ok-side-in-With.ensures.1 past in
          subst (λ (f : FormAt). IsOnWay forms clause k old f.0 side.leaf n new parts) (sym s.0)
          (way_right forms clause k old c.loop-parts.form.0 c.loop-parts.leaf n new parts w l r side.leaf c.in-With.ensures.shown.tree (omega (arith, h, q))
          past s.1)
    ]

pub loop-parts-preserved-in-Lolli : goal.loop-parts-preserved-in-Lolli
loop-parts-preserved-in-Lolli c =
    let w = c.loop-parts.invariant in
    let h = w.inside in
    let p = c.in-Lolli.ensures.shown.parts.0 in
    let q = c.in-Lolli.ensures.shown.parts.1 in
    let forms = c.args.forms.now in
    let tree = c.in-Lolli.ensures.shown.tree in
    let at = c.loop-parts.leaf in
    way_past forms c.args.clause.0 c.args.leaf c.args.goals.now.items c.loop-parts.form.0 at c.loop-parts.quantifiers c.loop-parts.goals.items
    c.loop-parts.parts.items w
    (Needs (bare (form_tree forms c.in-Lolli.goal.0))) (Plain c.in-Lolli.goal) (bare (form_tree forms c.in-Lolli.next.0)) c.in-Lolli.next.0
    (Bounded c.new.result) c.push.new.self.items c.push-in-Lolli.new.self.items refl
    (omega (arith, h, q)) (ap (λ t. premises_at (bare t) at) tree) (ap (λ t. ways (bare t)) tree) (λ n. omega (arith, h, p)) (λ ms. refl)
    (ap (λ xs. Labels xs) c.new.ensures.items) c.in_ok-push-in-Lolli.ensures.items
    c.in_ok-push-in-Lolli-2.ensures.items

pub loop-parts-preserved-in-Imp : goal.loop-parts-preserved-in-Imp
loop-parts-preserved-in-Imp c =
    let w = c.loop-parts.invariant in
    let h = w.inside in
    let p = c.in-Imp.ensures.shown.parts.0 in
    let q = c.in-Imp.ensures.shown.parts.1 in
    let forms = c.args.forms.now in
    let tree = c.in-Imp.ensures.shown.tree in
    let at = c.loop-parts.leaf in
    way_past forms c.args.clause.0 c.args.leaf c.args.goals.now.items c.loop-parts.form.0 at c.loop-parts.quantifiers c.loop-parts.goals.items
    c.loop-parts.parts.items w
    (NeedsFree (bare (form_tree forms c.in-Imp.goal.0))) (Free c.in-Imp.goal) (bare (form_tree forms c.in-Imp.next.0)) c.in-Imp.next.0 Unbounded
    c.push-in-Imp.new.self.items c.push-in-Imp-2.new.self.items refl
    (omega (arith, h, q)) (ap (λ t. premises_at (bare t) at) tree) (ap (λ t. ways (bare t)) tree) (λ n. omega (arith, h, p)) (λ ms. refl) refl
    c.in_ok-push-in-Imp.ensures.items c.in_ok-push-in-Imp-2.ensures.items

pub loop-parts-preserved : goal.loop-parts-preserved
loop-parts-preserved c =
    let w = c.loop-parts.invariant in
    let h = w.inside in
    let p = c.in-Forall.ensures.shown.parts in
    way_in c.args.forms.now c.args.clause.0 c.args.leaf c.args.goals.now.items c.loop-parts.form.0 c.loop-parts.leaf c.loop-parts.quantifiers
    c.loop-parts.goals.items c.loop-parts.parts.items w c.in-Forall.body.0
    c.in_ok-quantifiers-in-Forall.quantifiers c.in-Forall.ensures.shown.tree (omega (arith, h, p)) c.in_ok-quantifiers-in-Forall.ensures

pub returns-in_err-push-in-Imp : goal.returns-in_err-push-in-Imp
returns-in_err-push-in-Imp c = IfOk-from_err c.from_residual-in_err-push-in-Imp.result _ c.from_residual-in_err-push-in-Imp.ensures.0

pub returns-in_err-push-in-Imp-2 : goal.returns-in_err-push-in-Imp-2
returns-in_err-push-in-Imp-2 c = IfOk-from_err c.from_residual-in_err-push-in-Imp-2.result _ c.from_residual-in_err-push-in-Imp-2.ensures.0

pub returns-in_err-push-in-Lolli : goal.returns-in_err-push-in-Lolli
returns-in_err-push-in-Lolli c = IfOk-from_err c.from_residual-in_err-push-in-Lolli.result _ c.from_residual-in_err-push-in-Lolli.ensures.0

pub returns-in_err-push-in-Lolli-2 : goal.returns-in_err-push-in-Lolli-2
returns-in_err-push-in-Lolli-2 c = IfOk-from_err c.from_residual-in_err-push-in-Lolli-2.result _ c.from_residual-in_err-push-in-Lolli-2.ensures.0

pub returns-in_err-quantifiers-in-Forall : goal.returns-in_err-quantifiers-in-Forall
returns-in_err-quantifiers-in-Forall c =
    IfOk-from_err c.from_residual-in_err-quantifiers-in-Forall.result _ c.from_residual-in_err-quantifiers-in-Forall.ensures.0

pub returns-in_err-side-in-With : goal.returns-in_err-side-in-With
returns-in_err-side-in-With c = IfOk-from_err c.from_residual.result _ c.from_residual.ensures.0
