use Rattle.std.proofs.lemmas.Result.{IfOk-from_err}
use Rattle.std.proofs.Common.{refl, ap}
use Rattle.ll_bank.specs.Nodes.{term_trees, form_tree}
use Rattle.ll_laws.specs.Module.{unfold_load}
use Rattle.ll_laws.specs.Shown.{module_tree}
use Rattle.ll_agenda.specs.Frames.{items_at}
use Rattle.ll_store.specs.declared.store.Store.{Store}
use Rattle.ll_freeze.specs.declared.machine.Machine.{Machine}
use Rattle.ll_freeze.specs.Parts.{Parts, parts_of}
use Rattle.ll_freeze.proofs.CallerLemmas.{later_then}
use Rattle.ll_engine.proofs.machine.Keeping.{store_extends, later_store}
use Rattle.ll_engine.proofs.inferences.Quantifying.{opens_shown}
use Rattle.ll_engine.proofs.quantifiers.take_load.Goals as goal

pub returns : goal.returns
returns c =
    let m = c.args.machine.now in let store : Store = record (m.store) { bank = c.unfold.new.bank } in
    let mid : Machine = record m { store = store } in let go = c.in_ok-go_on.ensures.goes in
    record {
      loads = record {
        opens =
            opens_shown (parts_of m) (parts_of mid) (parts_of c.go_on.new.machine) refl refl refl refl refl c.in_ok-goal.goal
            (unfold_load (module_tree m.store.bank c.args.«module».now) (term_trees m.store.bank c.args.args.now) (form_tree m.store.bank c.args.body.0))
            (items_at m.agenda c.args.rest) c.in_ok-goal.ensures.keeps
            c.in_ok-goal.ensures.shows _ go c.closed.ensures;
        bound = ap (λ (x : Parts). x.bound) go.same;
        levels = ap (λ (x : Parts). x.levels) go.same;
        terms = ap (λ (x : Parts). x.terms) go.same;
        eigens = ap (λ (x : Parts). x.eigens) go.same;
      };
      later = later_then m mid c.go_on.new.machine (later_store m mid refl refl (store_extends m.store store c.in_ok-goal.ensures.keeps refl) refl refl refl
          refl) c.in_ok-go_on.ensures.later;
    }

pub returns-in_err-goal-clause-loads : goal.returns-in_err-goal-clause-loads
returns-in_err-goal-clause-loads c = IfOk-from_err c.from_residual.result _ c.from_residual.ensures.0

pub returns-in_err-goal-clause-later : goal.returns-in_err-goal-clause-later
returns-in_err-goal-clause-later c = IfOk-from_err c.from_residual.result _ c.from_residual.ensures.0

pub returns-in_err-go_on-clause-loads : goal.returns-in_err-go_on-clause-loads
returns-in_err-go_on-clause-loads c = IfOk-from_err c.from_residual-in_err-go_on.result _ c.from_residual-in_err-go_on.ensures.0

pub returns-in_err-go_on-clause-later : goal.returns-in_err-go_on-clause-later
returns-in_err-go_on-clause-later c = IfOk-from_err c.from_residual-in_err-go_on.result _ c.from_residual-in_err-go_on.ensures.0
