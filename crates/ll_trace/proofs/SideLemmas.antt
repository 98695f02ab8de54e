-- The side of a `;` that a step takes.
use Rattle.std.proofs.Common.{◌≡◌, ◌≤◌, refl, sym, subst, ◌∙◌, arith, List, [], ◌∷◌, length}
use Rattle.std.proofs.lemmas.List.{append-nil}
use Rattle.std.proofs.lemmas.List.Elements.{All-nil, All-cons}
use Rattle.ll_bank.specs.declared.At.{At}
use Rattle.ll_bank.specs.declared.FormAt.{FormAt}
use Rattle.ll_bank.specs.Term.{Term}
use Rattle.ll_bank.specs.Form.{Form, Plus}
use Rattle.ll_bank.specs.Nodes.{Nodes, HasForm, AllInTerms, form_tree}
use Rattle.ll_laws.specs.declared.Module.{Module}
use Rattle.ll_laws.specs.declared.Rule.{Rule}
use Rattle.ll_laws.specs.declared.Rule.TheVariants.{Left as LeftRule, Right as RightRule}
use Rattle.ll_laws.specs.declared.Step.{Step}
use Rattle.ll_laws.specs.declared.Step.TheVariants.{Plain as PlainStep, Left, Right, Clause}
use Rattle.ll_laws.specs.Line.{Line, LeftLine, RightLine}
use Rattle.ll_laws.specs.ShownLines.{line_of, HasLine}
use Rattle.ll_trace.specs.declared.walk.Goal.TheVariants.{Plain}
use Rattle.ll_trace.specs.declared.walk.Walker.{Walker}
use Rattle.ll_trace.specs.Bare.{bare}
use Rattle.ll_trace.specs.Walk.{Tells, to_prove, tell_goal}
use Rattle.ll_trace.specs.Goals.{HasGoal, stacked}
use Rattle.ll_trace.specs.Walker.{trees, walk_of, IsInside, TellsGoal, Pushes, TakesSide}
use Rattle.ll_trace.proofs.TakeLemmas.{takes_goals}

module _ (forms : Nodes) (modules : List Module) (terms : List At) (old : Walker) (i : IsInside forms (length modules) old) (u : old.used ≤ length terms)
    (f g : FormAt) where
  abbrev sum : Form
  sum = Plus (bare (form_tree forms f.0)) (bare (form_tree forms g.0))

  one_side : (at : FormAt) (c : Step) (r : Rule) (n : Line) (rule : Rule) (new : Walker) → HasForm forms at.0 → (rule ≡ r) × Pushes old (Plain at) [] 0 0 new
      → ((bank : Nodes) → line_of bank r ≡ n)
      → ((bank : Nodes) → AllInTerms bank terms → HasLine bank r)
      → ((all : List Term) → tell_goal (trees forms modules) all (walk_of forms (trees forms modules) old) sum
      (stacked forms (trees forms modules) old.goals.items []) c
      ≡ Tells n (to_prove (walk_of forms (trees forms modules) old) (bare (form_tree forms at.0) ∷ stacked forms (trees forms modules) old.goals.items [])))
      → TellsGoal forms modules terms old sum c rule new
  one_side at c r n rule new h s l p t =
      let q = s.1 in
      let e3 = q.eigens in
      let e4 = q.used in
      subst (λ (x : Rule). TellsGoal forms modules terms old sum c x new) (sym s.0)
      (takes_goals forms modules terms old c i u sum r n (Plain at ∷ []) new q.goals (q.clauses ∙ append-nil old.clauses.items) (omega (arith, e3))
      (omega (arith, e4))
      (All-cons (HasGoal forms (length modules)) (Plain at) [] h (All-nil (HasGoal forms (length modules)))) l t p)

  pub takes_side : (c : Step) (rule : Rule) (new : Walker) → HasForm forms f.0 → HasForm forms g.0 → TakesSide old f g c rule new
      → TellsGoal forms modules terms old sum c rule new
  takes_side Right rule new hf hg s = one_side g Right RightRule RightLine rule new hg s (λ bank. refl) (λ bank k. tt) (λ all. refl)
  takes_side PlainStep rule new hf hg s = one_side f PlainStep LeftRule LeftLine rule new hf s (λ bank. refl) (λ bank k. tt) (λ all. refl)
  takes_side Left rule new hf hg s = one_side f Left LeftRule LeftLine rule new hf s (λ bank. refl) (λ bank k. tt) (λ all. refl)
  takes_side (Clause label k) rule new hf hg s = one_side f (Clause label k) LeftRule LeftLine rule new hf s (λ bank. refl) (λ bank k. tt) (λ all. refl)
