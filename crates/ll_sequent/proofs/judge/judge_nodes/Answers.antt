use Rattle.std.proofs.Common.{◌≡◌, ℕ, suc, ◌+◌, ◌++◌, ◌∷◌, [], map, drop, List, subst, sym, refl, ap, ◌∙◌, arith}
use Rattle.std.proofs.lemmas.Result.{IfOk-from_err}
use Rattle.ll_bank.proofs.CallerLemmas.{Extends-refl, Extends-trans, AllInTerms-extends}
use Rattle.ll_laws.specs.Module.{ModuleTree}
use Rattle.ll_laws.specs.Number.{operators_of}
use Rattle.ll_laws.specs.Shown.{module_tree}
use Rattle.ll_laws.specs.Line.{Line, is_line}
use Rattle.ll_laws.specs.Fault.{Fault}
use Rattle.ll_sequent.specs.declared.sequents.Sequent.{Sequent}
use Rattle.ll_sequent.specs.declared.sequents.Step.{Step}
use Rattle.ll_sequent.specs.Judging.{beside, fault_at, AreModulesSound, Holds, IsStep}
use Rattle.ll_sequent.specs.Sequents.{sequent_in, waiting_in}
use Rattle.ll_sequent.specs.Steps.{Owes}
use Rattle.ll_sequent.specs.Copied.{copied_line}
use Rattle.ll_sequent.specs.Named.{IsLeaving}
use Rattle.ll_sequent.proofs.CopyLemmas.{below_here, line_here}
use Rattle.ll_sequent.proofs.Stepping.{none_waits, none_left}
use Rattle.ll_sequent.proofs.Waiting.{same_modules, has_modules-extends}
use Rattle.ll_sequent.proofs.Passing.{root_waits, root_owes, line_at, lines_from, lines_end, Taken, taken, taken_owes, step_refused, step_waits, step_owes}
use Rattle.ll_sequent.proofs.judge.judge_nodes.Goals as goal

pub loop-node-init : goal.loop-node-init
loop-node-init c =
    let ops = operators_of c.args.names.now in
    let modules = map (module_tree c.args.bank.now) c.args.modules.now in
    let items : c.push.new.self.items ≡ c.args.root ∷ [] =
    c.in_ok-push.ensures.items ∙ ap (λ ss. ss ++ c.args.root ∷ []) c.new-waiting.ensures.items in
    record {
      keeps = Extends-refl c.args.bank.now;
      waiting = root_waits modules c.args.bank.now c.args.free.now.items c.args.root c.push.new.self.items items c.requires.holds;
      free = c.requires.holds.unbounded;
      owes = λ x e. root_owes ops modules c.args.bank.now c.args.free.now.items c.args.root c.push.new.self.items items c.requires.holds
          (map (copied_line c.args.bank.now c.args.copies.now) c.args.rules.now) x e;
    }

pub returns-in_default : goal.returns-in_default
returns-in_default c = λ x e.
    let empty : c.loop-node.waiting.items ≡ [] = grind arith in
    let ops = operators_of c.args.names.now in
    let modules = map (module_tree c.args.bank.now) c.args.modules.now in
    let P : List Sequent → Type 0 = λ ss. Owes (beside ops modules)
    (fault_at ops modules x (sequent_in c.args.bank.now c.args.free.now.items c.args.root)) (suc c.loop-node.node)
    (drop c.loop-node.node (map (copied_line c.args.bank.now c.args.copies.now) c.args.rules.now))
    (waiting_in c.loop-node.bank c.loop-node.free.items ss) in
    (suc c.loop-node.node, none_waits (subst P empty (c.loop-node.invariant.owes x e)))

pub step-requires-clause-has : goal.step-requires-clause-has
step-requires-clause-has c = has_modules-extends c.loop-node.invariant.keeps c.args.modules.now c.requires.has

pub step-requires-clause-modules : goal.step-requires-clause-modules
step-requires-clause-modules c =
    let P : List ModuleTree → Type 0 = AreModulesSound in subst P (sym (same_modules c.loop-node.invariant.keeps c.args.modules.now c.requires.has))
    c.requires.modules

pub step-requires-clause-holds : goal.step-requires-clause-holds
step-requires-clause-holds c =
    let t = taken (map (module_tree c.args.bank.now) c.args.modules.now) c.loop-node.bank c.loop-node.free.items c.truncate.new.self.items
    c.loop-node.waiting.items c.pop.new.self.items c.in-Some.sequent c.in-Some.ensures.items c.truncate.ensures.items c.loop-node.invariant.waiting
    c.loop-node.invariant.free in
    let P : List ModuleTree → Type 0 = λ ms. Holds ms c.loop-node.bank c.truncate.new.self.items c.in-Some.sequent in
    subst P (sym (same_modules c.loop-node.invariant.keeps c.args.modules.now c.requires.has)) t.holds

pub step-requires-clause-inside : goal.step-requires-clause-inside
step-requires-clause-inside c = AllInTerms-extends c.loop-node.invariant.keeps c.args.copies.now c.requires.inside

pub step-requires-clause-reach : goal.step-requires-clause-reach
step-requires-clause-reach c = below_here c.args.copies.now c.args.rules.now c.loop-node.node c.index-rules-node.result c.index-rules-node.is
    c.loop-node-test.true c.requires.reach

pub step-requires-clause-line : goal.step-requires-clause-line
step-requires-clause-line c =
    ap is_line (line_here c.loop-node.invariant.keeps c.args.copies.now c.args.copies.now refl c.requires.inside c.args.rules.now
    c.loop-node.node c.index-rules-node.result c.index-rules-node.is c.loop-node-test.true c.requires.reach)
    ∙ (ap (λ r. is_line (copied_line c.args.bank.now c.args.copies.now r)) c.index-rules-node.is
    ∙ line_at (copied_line c.args.bank.now c.args.copies.now) c.args.rules.now c.loop-node.node c.index-rules-node.result c.loop-node-test.true
    c.requires.whole)

pub returns-in-Refused : goal.returns-in-Refused
returns-in-Refused c = λ x e.
    let ops = operators_of c.args.names.now in
    let modules = map (module_tree c.args.bank.now) c.args.modules.now in
    let lines = map (copied_line c.args.bank.now c.args.copies.now) c.args.rules.now in
    let line = copied_line c.args.bank.now c.args.copies.now c.index-rules-node.result in
    let whole = fault_at ops modules x (sequent_in c.args.bank.now c.args.free.now.items c.args.root) in
    let t : Taken modules c.loop-node.bank c.truncate.new.self.items c.in-Some.sequent c.pop.new.self.items =
    taken modules c.loop-node.bank c.loop-node.free.items c.truncate.new.self.items c.loop-node.waiting.items c.pop.new.self.items c.in-Some.sequent
    c.in-Some.ensures.items c.truncate.ensures.items c.loop-node.invariant.waiting c.loop-node.invariant.free in
    let P : Line → List ModuleTree → Type 0 = λ ln ms. IsStep ops ms ln (sequent_in c.loop-node.bank c.truncate.new.self.items c.in-Some.sequent)
    c.step.new.bank c.truncate.new.self.items c.step.new.free.items c.in_ok-reason.field-0 in
    let here : copied_line c.loop-node.bank c.args.copies.now c.index-rules-node.result ≡ line =
    line_here c.loop-node.invariant.keeps c.args.copies.now c.args.copies.now refl c.requires.inside c.args.rules.now
    c.loop-node.node c.index-rules-node.result c.index-rules-node.is c.loop-node-test.true c.requires.reach in
    let is : P line modules = subst (λ ln. P ln modules) here
    (subst (P (copied_line c.loop-node.bank c.args.copies.now c.index-rules-node.result))
    (same_modules c.loop-node.invariant.keeps c.args.modules.now c.requires.has) c.in_ok-reason.ensures.is) in
    let split : drop c.loop-node.node lines ≡ line ∷ drop (suc c.loop-node.node) lines =
    lines_from (copied_line c.args.bank.now c.args.copies.now) c.args.rules.now c.loop-node.node c.index-rules-node.result c.loop-node-test.true
    ∙ ap (λ r. copied_line c.args.bank.now c.args.copies.now r ∷ drop (suc c.loop-node.node) lines) (sym c.index-rules-node.is) in
    let Q : List Line → Type 0 = λ ls. Owes (beside ops modules) whole (suc c.loop-node.node) ls
    (waiting_in c.loop-node.bank c.loop-node.free.items c.loop-node.waiting.items) in
    let o : Q (line ∷ drop (suc c.loop-node.node) lines) = subst Q split (c.loop-node.invariant.owes x e) in
    let next : suc c.loop-node.node ≡ c.loop-node.node + 1 = omega arith in
    step_refused ops modules c.truncate.new.self.items c.step.new.free.items c.in-Some.sequent c.pop.new.self.items line c.in_ok-reason.field-0
    c.in_ok-reason.ensures.keeps t is whole (suc c.loop-node.node) c.in-Refused.reason (drop (suc c.loop-node.node) lines) c.in-Refused.is
    (taken_owes modules c.loop-node.bank c.loop-node.free.items c.truncate.new.self.items c.loop-node.waiting.items c.pop.new.self.items c.in-Some.sequent
    c.in-Some.ensures.items c.truncate.ensures.items c.loop-node.invariant.waiting c.loop-node.invariant.free (beside ops modules) whole
    (suc c.loop-node.node) (line ∷ drop (suc c.loop-node.node) lines) o)
    ∙ ap (λ n. Fault n c.in-Refused.reason) next

pub loop-node-preserved : goal.loop-node-preserved
loop-node-preserved c =
    let ops = operators_of c.args.names.now in
    let modules = map (module_tree c.args.bank.now) c.args.modules.now in
    let lines = map (copied_line c.args.bank.now c.args.copies.now) c.args.rules.now in
    let line = copied_line c.args.bank.now c.args.copies.now c.index-rules-node.result in
    let t : Taken modules c.loop-node.bank c.truncate.new.self.items c.in-Some.sequent c.pop.new.self.items =
    taken modules c.loop-node.bank c.loop-node.free.items c.truncate.new.self.items c.loop-node.waiting.items c.pop.new.self.items c.in-Some.sequent
    c.in-Some.ensures.items c.truncate.ensures.items c.loop-node.invariant.waiting c.loop-node.invariant.free in
    let P : Line → List ModuleTree → Type 0 = λ ln ms. IsStep ops ms ln (sequent_in c.loop-node.bank c.truncate.new.self.items c.in-Some.sequent)
    c.step.new.bank c.truncate.new.self.items c.step.new.free.items c.in_ok-reason.field-0 in
    let here : copied_line c.loop-node.bank c.args.copies.now c.index-rules-node.result ≡ line =
    line_here c.loop-node.invariant.keeps c.args.copies.now c.args.copies.now refl c.requires.inside c.args.rules.now
    c.loop-node.node c.index-rules-node.result c.index-rules-node.is c.loop-node-test.true c.requires.reach in
    let is : P line modules = subst (λ ln. P ln modules) here
    (subst (P (copied_line c.loop-node.bank c.args.copies.now c.index-rules-node.result))
    (same_modules c.loop-node.invariant.keeps c.args.modules.now c.requires.has) c.in_ok-reason.ensures.is) in
    let split : drop c.loop-node.node lines ≡ line ∷ drop (suc c.loop-node.node) lines =
    lines_from (copied_line c.args.bank.now c.args.copies.now) c.args.rules.now c.loop-node.node c.index-rules-node.result c.loop-node-test.true
    ∙ ap (λ r. copied_line c.args.bank.now c.args.copies.now r ∷ drop (suc c.loop-node.node) lines) (sym c.index-rules-node.is) in
    let next : suc c.loop-node.node ≡ c.loop-node.node + 1 = omega arith in
    let L : Step → Type 0 = IsLeaving c.in-Leaves.premises.items in
    let leaving : L c.in_ok-reason.field-0 = subst L (sym c.in-Leaves.is) refl in
    record {
      keeps = Extends-trans c.loop-node.invariant.keeps c.in_ok-reason.ensures.keeps;
      waiting = step_waits ops modules c.truncate.new.self.items c.step.new.free.items c.in-Some.sequent c.pop.new.self.items line c.in_ok-reason.field-0
          c.in_ok-reason.ensures.keeps t is c.in-Leaves.premises.items c.put_in_front.new.waiting.items leaving c.in_ok-put_in_front-in-Leaves.ensures;
      free = is.free;
      owes = λ x e.
          let whole = fault_at ops modules x (sequent_in c.args.bank.now c.args.free.now.items c.args.root) in
          let Q : List Line → Type 0 = λ ls. Owes (beside ops modules) whole (suc c.loop-node.node) ls
          (waiting_in c.loop-node.bank c.loop-node.free.items c.loop-node.waiting.items) in
          let o : Q (line ∷ drop (suc c.loop-node.node) lines) = subst Q split (c.loop-node.invariant.owes x e) in
          let R : ℕ → Type 0 = λ n. Owes (beside ops modules) whole (suc n) (drop n lines)
          (waiting_in c.step.new.bank c.step.new.free.items c.put_in_front.new.waiting.items) in
          subst R next (step_owes ops modules c.truncate.new.self.items c.step.new.free.items c.in-Some.sequent c.pop.new.self.items line c.in_ok-reason.field-0
          c.in_ok-reason.ensures.keeps t is c.in-Leaves.premises.items c.put_in_front.new.waiting.items leaving c.in_ok-put_in_front-in-Leaves.ensures whole
          (suc c.loop-node.node) (drop (suc c.loop-node.node) lines)
          (taken_owes modules c.loop-node.bank c.loop-node.free.items c.truncate.new.self.items c.loop-node.waiting.items c.pop.new.self.items c.in-Some.sequent
          c.in-Some.ensures.items c.truncate.ensures.items c.loop-node.invariant.waiting c.loop-node.invariant.free (beside ops modules) whole
          (suc c.loop-node.node) (line ∷ drop (suc c.loop-node.node) lines) o));
    }

pub returns : goal.returns
returns c = λ x e.
    let ops = operators_of c.args.names.now in
    let modules = map (module_tree c.args.bank.now) c.args.modules.now in
    let P : List Line → Type 0 = λ ls. Owes (beside ops modules)
    (fault_at ops modules x (sequent_in c.args.bank.now c.args.free.now.items c.args.root)) (suc c.loop-node.node) ls
    (waiting_in c.loop-node.bank c.loop-node.free.items c.loop-node.waiting.items) in (
      suc c.loop-node.node,
      none_left (subst P (lines_end (copied_line c.args.bank.now c.args.copies.now) c.args.rules.now c.loop-node.node c.loop-node-test.false)
          (c.loop-node.invariant.owes x e)),
    )

pub returns-in_err-push : goal.returns-in_err-push
returns-in_err-push c = IfOk-from_err c.from_residual.result _ c.from_residual.ensures.0

pub returns-in_err-reason : goal.returns-in_err-reason
returns-in_err-reason c = IfOk-from_err c.from_residual-in_err-reason.result _ c.from_residual-in_err-reason.ensures.0

pub returns-in_err-put_in_front-in-Leaves : goal.returns-in_err-put_in_front-in-Leaves
returns-in_err-put_in_front-in-Leaves c =
    IfOk-from_err c.from_residual-in_err-put_in_front-in-Leaves.result _ c.from_residual-in_err-put_in_front-in-Leaves.ensures.0
