use Rattle.std.proofs.Common.{refl, ap, ◌∙◌, length, [], ◌∷◌, ◌++◌}
use Rattle.std.proofs.lemmas.Result.{IfOk-from_err}
use Rattle.std.proofs.lemmas.List.Elements.{All-nil, All-cons, All-pop}
use Rattle.std.specs.Prelude.{Some}
use Rattle.ll_bank.specs.Form.{Bang}
use Rattle.ll_bank.specs.Nodes.{form_tree}
use Rattle.ll_laws.specs.declared.Rule.TheVariants.{Bang as BangRule}
use Rattle.ll_laws.specs.Line.{BangLine}
use Rattle.ll_trace.specs.declared.walk.Goal.{Goal}
use Rattle.ll_trace.specs.declared.walk.Goal.TheVariants.{Plain, Free, Loading as LoadingGoal}
use Rattle.ll_trace.specs.declared.walk.Walker.{Walker}
use Rattle.ll_trace.specs.Bare.{bare}
use Rattle.ll_trace.specs.Goals.{HasGoal, shown_goal}
use Rattle.ll_trace.specs.Walker.{trees, TellsGoal, Steps}
use Rattle.ll_trace.proofs.TakeLemmas.{if_ok, takes_goals, steps_of, may_take}
use Rattle.ll_trace.proofs.walk.Walker.next.Goals as goal

pub take_form-requires-clause-may : goal.take_form-requires-clause-may
take_form-requires-clause-may c =
    may_take c.args.forms.now c.args.modules.now c.args.terms.now c.args.self.now (record c.args.self.now { goals = c.pop.new.self }) (Plain c.in-Plain.form)
    c.args.step
    (c.in-Some.ensures.items ∙ ap (λ g. c.pop.new.self.items ++ g ∷ []) c.in-Plain.is) refl refl refl c.requires.may

pub take_loading-requires-clause-may : goal.take_loading-requires-clause-may
take_loading-requires-clause-may c =
    may_take c.args.forms.now c.args.modules.now c.args.terms.now c.args.self.now (record c.args.self.now { goals = c.pop.new.self })
    (LoadingGoal c.in-Loading.loading) c.args.step
    (c.in-Some.ensures.items ∙ ap (λ g. c.pop.new.self.items ++ g ∷ []) c.in-Loading.is) refl refl refl c.requires.may

pub returns-in-Plain : goal.returns-in-Plain
returns-in-Plain c =
    let popped : Walker = record c.args.self.now { goals = c.pop.new.self } in
    if_ok (λ rule. TellsGoal c.args.forms.now c.args.modules.now c.args.terms.now popped (bare (form_tree c.args.forms.now c.in-Plain.form.0)) c.args.step rule
    c.take_form.new.self)
    (λ rule. Steps c.args.forms.now c.args.modules.now c.args.terms.now c.args.self.now c.args.step rule c.take_form.new.self)
    (λ rule s.
    steps_of c.args.forms.now c.args.modules.now c.args.terms.now c.args.self.now popped c.take_form.new.self (Plain c.in-Plain.form) c.args.step rule
    (c.in-Some.ensures.items ∙ ap (λ g. c.pop.new.self.items ++ g ∷ []) c.in-Plain.is) refl refl refl s)
    c.take_form.result c.take_form.ensures

pub returns-in-Loading : goal.returns-in-Loading
returns-in-Loading c =
    let popped : Walker = record c.args.self.now { goals = c.pop.new.self } in
    if_ok (λ rule. TellsGoal c.args.forms.now c.args.modules.now c.args.terms.now popped
    (shown_goal c.args.forms.now (trees c.args.forms.now c.args.modules.now) (LoadingGoal c.in-Loading.loading)) c.args.step rule c.take_loading.new.self)
    (λ rule. Steps c.args.forms.now c.args.modules.now c.args.terms.now c.args.self.now c.args.step rule c.take_loading.new.self)
    (λ rule s.
    steps_of c.args.forms.now c.args.modules.now c.args.terms.now c.args.self.now popped c.take_loading.new.self (LoadingGoal c.in-Loading.loading) c.args.step
    rule
    (c.in-Some.ensures.items ∙ ap (λ g. c.pop.new.self.items ++ g ∷ []) c.in-Loading.is) refl refl refl s)
    c.take_loading.result c.take_loading.ensures

pub returns-in_ok-push-in-Free : goal.returns-in_ok-push-in-Free
returns-in_ok-push-in-Free c =
    let forms = c.args.forms.now in
    let n = length c.args.modules.now in
    let P : Goal → Type 0 = HasGoal forms n in
    let popped : Walker = record c.args.self.now { goals = c.pop.new.self } in
    let new : Walker = record c.args.self.now { goals = c.push.new.self } in
    let f = c.in-Free.form in
    let e = c.in-Some.ensures.items ∙ ap (λ g. c.pop.new.self.items ++ g ∷ []) c.in-Free.is in
    let a = All-pop P c.args.self.now.goals.items c.pop.new.self.items (Some (Free f)) e c.requires.inside.goals in
    steps_of forms c.args.modules.now c.args.terms.now c.args.self.now popped new (Free f) c.args.step BangRule e refl refl refl
    (takes_goals forms c.args.modules.now c.args.terms.now popped c.args.step (record { goals = a.0; clauses = c.requires.inside.clauses }) c.requires.used
    (Bang (bare (form_tree forms f.0))) BangRule BangLine (Plain f ∷ []) new
    c.in_ok-push-in-Free.ensures.items refl refl refl (All-cons P (Plain f) [] a.1 (All-nil P)) (λ bank. refl) (λ all. refl) (λ bank k. tt))

pub returns-in_err-push-in-Free : goal.returns-in_err-push-in-Free
returns-in_err-push-in-Free c = IfOk-from_err c.from_residual.result _ c.from_residual.ensures.0

pub take_form-requires-clause-modules : goal.take_form-requires-clause-modules
take_form-requires-clause-modules c = c.requires.modules

pub take_form-requires-clause-inside : goal.take_form-requires-clause-inside
take_form-requires-clause-inside c =
    let P : Goal → Type 0 = HasGoal c.args.forms.now (length c.args.modules.now) in
    let f = c.in-Plain.form in
    let e = c.in-Some.ensures.items ∙ ap (λ g. c.pop.new.self.items ++ g ∷ []) c.in-Plain.is in
    record {
      goals = (All-pop P c.args.self.now.goals.items c.pop.new.self.items (Some (Plain f)) e c.requires.inside.goals).0;
      clauses = c.requires.inside.clauses;
    }

pub take_form-requires-clause-used : goal.take_form-requires-clause-used
take_form-requires-clause-used c = c.requires.used

pub take_form-requires-clause-form : goal.take_form-requires-clause-form
take_form-requires-clause-form c =
    let P : Goal → Type 0 = HasGoal c.args.forms.now (length c.args.modules.now) in
    let f = c.in-Plain.form in
    let e = c.in-Some.ensures.items ∙ ap (λ g. c.pop.new.self.items ++ g ∷ []) c.in-Plain.is in
    (All-pop P c.args.self.now.goals.items c.pop.new.self.items (Some (Plain f)) e c.requires.inside.goals).1

pub take_loading-requires-clause-modules : goal.take_loading-requires-clause-modules
take_loading-requires-clause-modules c = c.requires.modules

pub take_loading-requires-clause-inside : goal.take_loading-requires-clause-inside
take_loading-requires-clause-inside c =
    let P : Goal → Type 0 = HasGoal c.args.forms.now (length c.args.modules.now) in
    let e = c.in-Some.ensures.items ∙ ap (λ g. c.pop.new.self.items ++ g ∷ []) c.in-Loading.is in
    record {
      goals = (All-pop P c.args.self.now.goals.items c.pop.new.self.items (Some (LoadingGoal c.in-Loading.loading)) e c.requires.inside.goals).0;
      clauses = c.requires.inside.clauses;
    }

pub take_loading-requires-clause-used : goal.take_loading-requires-clause-used
take_loading-requires-clause-used c = c.requires.used

pub take_loading-requires-clause-goal : goal.take_loading-requires-clause-goal
take_loading-requires-clause-goal c =
    let P : Goal → Type 0 = HasGoal c.args.forms.now (length c.args.modules.now) in
    let e = c.in-Some.ensures.items ∙ ap (λ g. c.pop.new.self.items ++ g ∷ []) c.in-Loading.is in
    (All-pop P c.args.self.now.goals.items c.pop.new.self.items (Some (LoadingGoal c.in-Loading.loading)) e c.requires.inside.goals).1.0

pub take_loading-requires-clause-known : goal.take_loading-requires-clause-known
take_loading-requires-clause-known c =
    let P : Goal → Type 0 = HasGoal c.args.forms.now (length c.args.modules.now) in
    let e = c.in-Some.ensures.items ∙ ap (λ g. c.pop.new.self.items ++ g ∷ []) c.in-Loading.is in
    (All-pop P c.args.self.now.goals.items c.pop.new.self.items (Some (LoadingGoal c.in-Loading.loading)) e c.requires.inside.goals).1.1
