use Rattle.std.proofs.lemmas.Result.{IfOk-from_err}
use Rattle.std.proofs.Common.{refl, ap, ◌∙◌, ◌+◌, ◌≡◌, suc, arith}
use Rattle.ll_bank.specs.declared.Head.TheVariants.{Eigen}
use Rattle.ll_bank.specs.Term.{Con}
use Rattle.ll_bank.specs.Form.{instantiate}
use Rattle.ll_bank.specs.Nodes.{form_tree}
use Rattle.ll_bank.proofs.CallerLemmas.{Extends-trans}
use Rattle.ll_agenda.specs.Frames.{items_at}
use Rattle.ll_store.specs.declared.store.Store.{Store}
use Rattle.ll_freeze.specs.declared.machine.Machine.{Machine}
use Rattle.ll_freeze.specs.Parts.{Parts, parts_of}
use Rattle.ll_freeze.proofs.CallerLemmas.{later_then}
use Rattle.ll_engine.proofs.machine.Keeping.{store_extends, later_store}
use Rattle.ll_engine.proofs.inferences.Quantifying.{opens_shown, body_shown}
use Rattle.ll_engine.proofs.quantifiers.take_forall.Goals as goal

pub returns : goal.returns
returns c =
    let m = c.args.machine.now in let new = c.go_on.new.machine in let e = m.eigens in
    let store : Store = record (m.store) { bank = c.instantiate.new.self } in
    let mid : Machine = record m { store = store; eigens = e + 1 } in
    let go = c.in_ok-go_on.ensures.goes in let keeps = Extends-trans c.in_ok-value.ensures.keeps c.in_ok-goal.ensures.keeps in
    record {
      opens = record {
        opens =
            opens_shown (parts_of m) (parts_of mid) (parts_of new) refl refl refl refl refl c.in_ok-goal.goal
            (instantiate (form_tree m.store.bank c.args.body.0) (Con (Eigen e))) (items_at m.agenda c.args.rest)
            keeps
            (body_shown m.store.bank c.app.new.self c.instantiate.new.self c.args.body.0 c.in_ok-goal.goal.0 c.in_ok-value.value.0 (Con (Eigen e))
            c.in_ok-value.ensures.keeps c.requires.body
            c.in_ok-value.ensures.shows c.in_ok-goal.ensures.shows) _ go c.closed.ensures;
        bound = ap (λ (x : Parts). x.bound) go.same;
        levels = ap (λ (x : Parts). x.levels) go.same;
        terms = ap (λ (x : Parts). x.terms) go.same;
        eigens = ap (λ (x : Parts). x.eigens) go.same ∙ (let q : e + 1 ≡ suc e = omega arith in q);
      };
      later = later_then m mid new (later_store m mid refl refl (store_extends m.store store keeps refl) refl refl refl refl) c.in_ok-go_on.ensures.later;
    }

pub returns-in_err-value-clause-opens : goal.returns-in_err-value-clause-opens
returns-in_err-value-clause-opens c = IfOk-from_err c.from_residual.result _ c.from_residual.ensures.0

pub returns-in_err-value-clause-later : goal.returns-in_err-value-clause-later
returns-in_err-value-clause-later c = IfOk-from_err c.from_residual.result _ c.from_residual.ensures.0

pub returns-in_err-goal-clause-opens : goal.returns-in_err-goal-clause-opens
returns-in_err-goal-clause-opens c = IfOk-from_err c.from_residual-in_err-goal.result _ c.from_residual-in_err-goal.ensures.0

pub returns-in_err-goal-clause-later : goal.returns-in_err-goal-clause-later
returns-in_err-goal-clause-later c = IfOk-from_err c.from_residual-in_err-goal.result _ c.from_residual-in_err-goal.ensures.0

pub returns-in_err-go_on-clause-opens : goal.returns-in_err-go_on-clause-opens
returns-in_err-go_on-clause-opens c = IfOk-from_err c.from_residual-in_err-go_on.result _ c.from_residual-in_err-go_on.ensures.0

pub returns-in_err-go_on-clause-later : goal.returns-in_err-go_on-clause-later
returns-in_err-go_on-clause-later c = IfOk-from_err c.from_residual-in_err-go_on.result _ c.from_residual-in_err-go_on.ensures.0
