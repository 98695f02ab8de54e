use Rattle.std.proofs.lemmas.List.{append-nil}
use Rattle.std.proofs.Common.{refl, ap, sym, subst, ◌∙◌, arith, length, [], ◌∷◌, ◌++◌}
use Rattle.std.proofs.lemmas.Result.{IfOk-from_err}
use Rattle.std.proofs.lemmas.List.Elements.{All-nil, All-cons}
use Rattle.ll_bank.specs.Form.{Form, Atom, With, Tensor, Plus, Bang, Lolli, Imp, Forall, Exists, Use, One, Top}
use Rattle.ll_bank.specs.Nodes.{form_tree, term_trees}
use Rattle.ll_laws.specs.declared.Module.{Module}
use Rattle.ll_laws.specs.declared.Rule.TheVariants.{Tensor as TensorRule, With as WithRule, Bang as BangRule, Lolli as LolliRule, Imp as ImpRule}
use Rattle.ll_laws.specs.declared.Rule.TheVariants.{Forall as ForallRule, Exists as ExistsRule, Use as UseRule, One as OneRule, Erase as EraseRule}
use Rattle.ll_laws.specs.Line.{TensorLine, WithLine, BangLine, LolliLine, ImpLine, ForallLine, OneLine, EraseLine}
use Rattle.ll_trace.specs.declared.walk.Goal.{Goal}
use Rattle.ll_trace.specs.declared.walk.Goal.TheVariants.{Plain, Loading as LoadingGoal}
use Rattle.ll_trace.specs.declared.walk.Loading.{Loading}
use Rattle.ll_trace.specs.Bare.{bare}
use Rattle.ll_trace.specs.Goals.{HasGoal}
use Rattle.ll_trace.specs.Walker.{TellsGoal, MayTake, TakesSide}
use Rattle.ll_trace.proofs.TakeLemmas.{if_ok, takes_tree, takes_goals, takes_load, label_is, takes_open, takes_fill, takes_use}
use Rattle.ll_trace.proofs.SideLemmas.{takes_side}
use Rattle.ll_trace.proofs.walk.Walker.take_form.Goals as goal

pub returns-in_ok-push_two-in-Tensor : goal.returns-in_ok-push_two-in-Tensor
returns-in_ok-push_two-in-Tensor c =
    let forms = c.args.forms.now in
    let old = c.args.self.now in
    let p = c.in-Tensor.ensures.shown.parts.0 in
    let q = c.in-Tensor.ensures.shown.parts.1 in
    let f = c.in-Tensor.first in
    let g = c.in-Tensor.second in
    let h = c.requires.form in
    let n = length c.args.modules.now in
    let P : Goal → Type 0 = HasGoal forms n in
    let rule = TensorRule c.new.result c.new-in-Tensor.result in
    takes_tree forms c.args.modules.now c.args.terms.now old c.args.step c.requires.inside c.requires.used c.args.form.0
    (Tensor (form_tree forms f.0) (form_tree forms g.0)) rule _ c.in-Tensor.ensures.shown.tree
    (takes_goals forms c.args.modules.now c.args.terms.now old c.args.step c.requires.inside c.requires.used
    (Tensor (bare (form_tree forms f.0)) (bare (form_tree forms g.0))) rule (TensorLine [] []) (Plain g ∷ Plain f ∷ [])
    (record old { goals = c.push_two.new.goals }) c.in_ok-push_two-in-Tensor.ensures refl refl refl
    (All-cons P (Plain g) (Plain f ∷ []) (omega (arith, h, q)) (All-cons P (Plain f) [] (omega (arith, h, p)) (All-nil P)))
    (λ bank. λ i. TensorLine (c.new.ensures.items i) (c.new-in-Tensor.ensures.items i)) (λ all. refl) (λ bank k. tt))

pub returns-in_ok-push_two-in-With : goal.returns-in_ok-push_two-in-With
returns-in_ok-push_two-in-With c =
    let forms = c.args.forms.now in
    let old = c.args.self.now in
    let p = c.in-With.ensures.shown.parts.0 in
    let q = c.in-With.ensures.shown.parts.1 in
    let f = c.in-With.first in
    let g = c.in-With.second in
    let h = c.requires.form in
    let n = length c.args.modules.now in
    let P : Goal → Type 0 = HasGoal forms n in
    takes_tree forms c.args.modules.now c.args.terms.now old c.args.step c.requires.inside c.requires.used c.args.form.0
    (With (form_tree forms f.0) (form_tree forms g.0)) WithRule _ c.in-With.ensures.shown.tree
    (takes_goals forms c.args.modules.now c.args.terms.now old c.args.step c.requires.inside c.requires.used
    (With (bare (form_tree forms f.0)) (bare (form_tree forms g.0))) WithRule WithLine (Plain g ∷ Plain f ∷ [])
    (record old { goals = c.push_two-in-With.new.goals }) c.in_ok-push_two-in-With.ensures refl refl refl
    (All-cons P (Plain g) (Plain f ∷ []) (omega (arith, h, q)) (All-cons P (Plain f) [] (omega (arith, h, p)) (All-nil P)))
    (λ bank. refl) (λ all. refl) (λ bank k. tt))

pub returns-in-Plus : goal.returns-in-Plus
returns-in-Plus c =
    let forms = c.args.forms.now in
    let old = c.args.self.now in
    let p = c.in-Plus.ensures.shown.parts.0 in
    let q = c.in-Plus.ensures.shown.parts.1 in
    let h = c.requires.form in
    let f = c.in-Plus.left in
    let g = c.in-Plus.right in
    if_ok (λ rule. TakesSide old f g c.args.step rule c.take_side.new.self)
    (λ rule. TellsGoal forms c.args.modules.now c.args.terms.now old (bare (form_tree forms c.args.form.0)) c.args.step rule c.take_side.new.self)
    (λ rule s.
    takes_tree forms c.args.modules.now c.args.terms.now old c.args.step c.requires.inside c.requires.used c.args.form.0
    (Plus (form_tree forms f.0) (form_tree forms g.0)) rule c.take_side.new.self
    c.in-Plus.ensures.shown.tree
    (takes_side forms c.args.modules.now c.args.terms.now old c.requires.inside c.requires.used f g c.args.step rule c.take_side.new.self (omega (arith, h, p))
    (omega (arith, h, q)) s))
    c.take_side.result c.take_side.ensures

pub returns-in_ok-push-in-Bang : goal.returns-in_ok-push-in-Bang
returns-in_ok-push-in-Bang c =
    let forms = c.args.forms.now in
    let old = c.args.self.now in
    let p = c.in-Bang.ensures.shown.parts in
    let g = c.in-Bang.goal in
    let h = c.requires.form in
    let P : Goal → Type 0 = HasGoal forms (length c.args.modules.now) in
    takes_tree forms c.args.modules.now c.args.terms.now old c.args.step c.requires.inside c.requires.used c.args.form.0 (Bang (form_tree forms g.0)) BangRule _
    c.in-Bang.ensures.shown.tree
    (takes_goals forms c.args.modules.now c.args.terms.now old c.args.step c.requires.inside c.requires.used (Bang (bare (form_tree forms g.0))) BangRule
    BangLine (Plain g ∷ []) (record old { goals = c.push.new.self })
    c.in_ok-push-in-Bang.ensures.items refl refl refl (All-cons P (Plain g) [] (omega (arith, h, p)) (All-nil P)) (λ bank. refl) (λ all. refl) (λ bank k. tt))

pub returns-in_ok-load-in-Lolli : goal.returns-in_ok-load-in-Lolli
returns-in_ok-load-in-Lolli c =
    let forms = c.args.forms.now in
    let old = c.args.self.now in
    let p = c.in-Lolli.ensures.shown.parts.0 in
    let q = c.in-Lolli.ensures.shown.parts.1 in
    let h = c.requires.form in
    let r = c.in-Lolli.clause in
    let g = c.in-Lolli.goal in
    let rule = LolliRule c.in_ok-load-in-Lolli.field-0 in
    let lab = label_is forms c.args.modules.now c.args.terms.now old c.args.step c.requires.inside c.requires.used c.in_ok-load-in-Lolli.field-0
    c.in_ok-load-in-Lolli.ensures.label in
    takes_tree forms c.args.modules.now c.args.terms.now old c.args.step c.requires.inside c.requires.used c.args.form.0
    (Lolli (form_tree forms r.0) (form_tree forms g.0)) rule _ c.in-Lolli.ensures.shown.tree
    (takes_load forms c.args.modules.now c.args.terms.now old c.args.step c.requires.inside c.requires.used
    (Lolli (bare (form_tree forms r.0)) (bare (form_tree forms g.0))) (Plain g) r rule _ c.load.new.self
    c.in_ok-load-in-Lolli.ensures.pushed (omega (arith, h, q)) (omega (arith, h, p)) (λ bank. ap LolliLine lab) (λ all. refl) (λ bank k. tt))

pub returns-in_ok-load-in-Imp : goal.returns-in_ok-load-in-Imp
returns-in_ok-load-in-Imp c =
    let forms = c.args.forms.now in
    let old = c.args.self.now in
    let p = c.in-Imp.ensures.shown.parts.0 in
    let q = c.in-Imp.ensures.shown.parts.1 in
    let h = c.requires.form in
    let r = c.in-Imp.clause in
    let g = c.in-Imp.goal in
    let rule = ImpRule c.in_ok-load-in-Imp.field-0 in
    let lab = label_is forms c.args.modules.now c.args.terms.now old c.args.step c.requires.inside c.requires.used c.in_ok-load-in-Imp.field-0
    c.in_ok-load-in-Imp.ensures.label in
    takes_tree forms c.args.modules.now c.args.terms.now old c.args.step c.requires.inside c.requires.used c.args.form.0
    (Imp (form_tree forms r.0) (form_tree forms g.0)) rule _ c.in-Imp.ensures.shown.tree
    (takes_load forms c.args.modules.now c.args.terms.now old c.args.step c.requires.inside c.requires.used
    (Imp (bare (form_tree forms r.0)) (bare (form_tree forms g.0))) (Plain g) r rule _ c.load-in-Imp.new.self
    c.in_ok-load-in-Imp.ensures.pushed (omega (arith, h, q)) (omega (arith, h, p)) (λ bank. ap ImpLine lab) (λ all. refl) (λ bank k. tt))

pub returns-in_ok-open-in-Forall : goal.returns-in_ok-open-in-Forall
returns-in_ok-open-in-Forall c =
    let forms = c.args.forms.now in
    let old = c.args.self.now in
    let p = c.in-Forall.ensures.shown.parts in
    let h = c.requires.form in
    let g = c.in-Forall.body in
    let rule = ForallRule c.in_ok-open-in-Forall.field-0 in
    takes_tree forms c.args.modules.now c.args.terms.now old c.args.step c.requires.inside c.requires.used c.args.form.0 (Forall (form_tree forms g.0)) rule _
    c.in-Forall.ensures.shown.tree
    (takes_open forms c.args.modules.now c.args.terms.now old c.args.step c.requires.inside c.requires.used (Forall (bare (form_tree forms g.0))) (Plain g) rule
    c.open.new.self c.in_ok-open-in-Forall.ensures.pushed
    (omega (arith, h, p)) (λ bank. ap ForallLine c.in_ok-open-in-Forall.ensures.eigen) (λ all. refl) (λ bank k. tt))

pub returns-in_ok-fill-in-Exists : goal.returns-in_ok-fill-in-Exists
returns-in_ok-fill-in-Exists c =
    let forms = c.args.forms.now in
    let old = c.args.self.now in
    let p = c.in-Exists.ensures.shown.parts in
    let h = c.requires.form in
    let g = c.in-Exists.body in
    let rule = ExistsRule c.in_ok-fill-in-Exists.field-0 in
    takes_tree forms c.args.modules.now c.args.terms.now old c.args.step c.requires.inside c.requires.used c.args.form.0 (Exists (form_tree forms g.0)) rule _
    c.in-Exists.ensures.shown.tree
    (takes_fill forms c.args.modules.now c.args.terms.now old c.args.step c.requires.inside c.requires.used (bare (form_tree forms g.0)) g
    c.in_ok-fill-in-Exists.field-0 c.fill.new.self c.in_ok-fill-in-Exists.ensures.pushed
    (omega (arith, h, p)) c.in_ok-fill-in-Exists.ensures.term refl)

pub returns-in_ok-push-in-Use : goal.returns-in_ok-push-in-Use
returns-in_ok-push-in-Use c =
    let forms = c.args.forms.now in
    let old = c.args.self.now in
    let p = c.in-Use.ensures.shown.parts.1 in
    let h = c.requires.form in
    let g = c.in-Use.goal in
    let k = c.in-Use.«module» in
    let d = c.index-modules-module.result in
    let may : MayTake forms c.args.modules.now c.args.terms.now old (bare (Use k (term_trees forms c.in-Use.field-1.now) (form_tree forms g.0))) c.args.step =
    subst (λ (t : Form). MayTake forms c.args.modules.now c.args.terms.now old (bare t) c.args.step) c.in-Use.ensures.shown.tree c.requires.may
    in
    takes_tree forms c.args.modules.now c.args.terms.now old c.args.step c.requires.inside c.requires.used c.args.form.0
    (Use k (term_trees forms c.in-Use.field-1.now) (form_tree forms g.0)) UseRule _ c.in-Use.ensures.shown.tree
    (takes_use forms c.args.modules.now c.args.terms.now old c.args.step c.requires.inside c.requires.used k d g []
    (record old { goals = c.push-in-Use.new.self }) may c.index-modules-module.is (omega (arith, h, p))
    (c.in_ok-push-in-Use.ensures.items
    ∙ ap (λ (x : Loading). old.goals.items ++ LoadingGoal x ∷ []) c.new-loading.ensures
    ∙ ap (λ (x : Module). old.goals.items ++ LoadingGoal (record { locals = x.locals; «module» = k; next = 0; goal = g }) ∷ []) (sym c.index-modules-module.is))
    refl refl refl)

pub returns-in-Atom : goal.returns-in-Atom
returns-in-Atom c =
    let forms = c.args.forms.now in
    let old = c.args.self.now in
    if_ok _ (λ rule. TellsGoal forms c.args.modules.now c.args.terms.now old (bare (form_tree forms c.args.form.0)) c.args.step rule c.take_atom.new.self)
    (λ rule s.
    takes_tree forms c.args.modules.now c.args.terms.now old c.args.step c.requires.inside c.requires.used c.args.form.0 (Atom _) rule c.take_atom.new.self
    c.in-Atom.ensures.shown.tree
    (s c.args.modules.now c.requires.inside))
    c.take_atom.result c.take_atom.ensures

pub returns-in_err-fill-in-Exists : goal.returns-in_err-fill-in-Exists
returns-in_err-fill-in-Exists c = IfOk-from_err c.from_residual-in_err-fill-in-Exists.result _ c.from_residual-in_err-fill-in-Exists.ensures.0

pub returns-in_err-load-in-Imp : goal.returns-in_err-load-in-Imp
returns-in_err-load-in-Imp c = IfOk-from_err c.from_residual-in_err-load-in-Imp.result _ c.from_residual-in_err-load-in-Imp.ensures.0

pub returns-in_err-load-in-Lolli : goal.returns-in_err-load-in-Lolli
returns-in_err-load-in-Lolli c = IfOk-from_err c.from_residual-in_err-load-in-Lolli.result _ c.from_residual-in_err-load-in-Lolli.ensures.0

pub returns-in_err-open-in-Forall : goal.returns-in_err-open-in-Forall
returns-in_err-open-in-Forall c = IfOk-from_err c.from_residual-in_err-open-in-Forall.result _ c.from_residual-in_err-open-in-Forall.ensures.0

pub returns-in_err-push-in-Bang : goal.returns-in_err-push-in-Bang
returns-in_err-push-in-Bang c = IfOk-from_err c.from_residual-in_err-push-in-Bang.result _ c.from_residual-in_err-push-in-Bang.ensures.0

pub returns-in_err-push-in-Use : goal.returns-in_err-push-in-Use
returns-in_err-push-in-Use c = IfOk-from_err c.from_residual-in_err-push-in-Use.result _ c.from_residual-in_err-push-in-Use.ensures.0

pub returns-in_err-push_two-in-Tensor : goal.returns-in_err-push_two-in-Tensor
returns-in_err-push_two-in-Tensor c = IfOk-from_err c.from_residual.result _ c.from_residual.ensures.0

pub returns-in_err-push_two-in-With : goal.returns-in_err-push_two-in-With
returns-in_err-push_two-in-With c = IfOk-from_err c.from_residual-in_err-push_two-in-With.result _ c.from_residual-in_err-push_two-in-With.ensures.0

pub form_at-requires : goal.form_at-requires
form_at-requires c = c.requires.form

pub take_atom-requires-clause-used : goal.take_atom-requires-clause-used
take_atom-requires-clause-used c = c.requires.used

pub take_atom-requires-clause-clauses : goal.take_atom-requires-clause-clauses
take_atom-requires-clause-clauses c = c.requires.inside.clauses

pub returns-in-One : goal.returns-in-One
returns-in-One c =
    takes_tree c.args.forms.now c.args.modules.now c.args.terms.now c.args.self.now c.args.step c.requires.inside c.requires.used c.args.form.0
    One OneRule c.args.self.now c.in-One.ensures.shown.tree
    (takes_goals c.args.forms.now c.args.modules.now c.args.terms.now c.args.self.now c.args.step c.requires.inside c.requires.used One OneRule OneLine []
    c.args.self.now (sym (append-nil _)) refl refl refl (All-nil (HasGoal c.args.forms.now (length c.args.modules.now))) (λ bank. refl) (λ all. refl)
    (λ bank k. tt))

pub returns-in-Top : goal.returns-in-Top
returns-in-Top c =
    takes_tree c.args.forms.now c.args.modules.now c.args.terms.now c.args.self.now c.args.step c.requires.inside c.requires.used c.args.form.0
    Top EraseRule c.args.self.now c.in-Top.ensures.shown.tree
    (takes_goals c.args.forms.now c.args.modules.now c.args.terms.now c.args.self.now c.args.step c.requires.inside c.requires.used Top EraseRule EraseLine []
    c.args.self.now (sym (append-nil _)) refl refl refl (All-nil (HasGoal c.args.forms.now (length c.args.modules.now))) (λ bank. refl) (λ all. refl)
    (λ bank k. tt))
