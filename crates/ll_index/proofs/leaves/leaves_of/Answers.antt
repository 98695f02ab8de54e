use Rattle.std.proofs.lemmas.Result.{IfOk-from_err}
use Rattle.std.proofs.Common.{arith, ◌≡◌, ◌<◌, ℕ, List, [], length, map, ap, ◌∙◌}
use Rattle.ll_index.proofs.WalkLemmas.{clause-stored, clause-leaves}
use Rattle.std.proofs.lemmas.List.{take_all}
use Rattle.ll_laws.specs.Shown.{clause_tree}
use Rattle.ll_index.specs.Listed.{listed, program_leaves}
use Rattle.ll_index.proofs.leaves.leaves_of.Goals as goal

none-inside : {X : Type 0} {xs : List X} {k : ℕ} → xs ≡ [] → k < length xs → ⊥
none-inside e l = let n = ap length e in omega (arith, n, l)

pub loop-place-preserved : goal.loop-place-preserved
loop-place-preserved c = record {
  idle = c.in_ok-add_clause.ensures.idle;
  stored = clause-stored c.args.bank.now c.args.clauses.now c.loop-place.place c.in_ok-label.label _ c.loop-place.walk c.add_clause.new.self (omega arith)
      c.in_ok-label.ensures.same c.in_ok-add_clause.ensures.added c.loop-place.invariant.stored;
  leaves = clause-leaves c.args.bank.now c.args.clauses.now c.loop-place.place c.in_ok-label.label _ c.loop-place.walk c.add_clause.new.self (omega arith)
      c.in_ok-label.ensures.same c.in_ok-add_clause.ensures.added c.loop-place.invariant.stored
      c.loop-place.invariant.leaves;
}

pub returns-in_err-label-clause-leaves : goal.returns-in_err-label-clause-leaves
returns-in_err-label-clause-leaves c = IfOk-from_err c.from_residual.result _ c.from_residual.ensures.0

pub returns-in_err-label-clause-stored : goal.returns-in_err-label-clause-stored
returns-in_err-label-clause-stored c = IfOk-from_err c.from_residual.result _ c.from_residual.ensures.0

pub returns-in_err-add_clause-clause-leaves : goal.returns-in_err-add_clause-clause-leaves
returns-in_err-add_clause-clause-leaves c = IfOk-from_err c.from_residual-in_err-add_clause.result _ c.from_residual-in_err-add_clause.ensures.0

pub returns-in_err-add_clause-clause-stored : goal.returns-in_err-add_clause-clause-stored
returns-in_err-add_clause-clause-stored c = IfOk-from_err c.from_residual-in_err-add_clause.result _ c.from_residual-in_err-add_clause.ensures.0

pub loop-place-init : goal.loop-place-init
loop-place-init c = record {
  idle = c.new.ensures.items;
  stored = λ k d l. absurd (none-inside c.new-2.ensures.items l);
  leaves = ap (map (listed c.args.bank.now c.new-3.result)) c.new-2.ensures.items;
}

pub add_clause-requires-clause-inside : goal.add_clause-requires-clause-inside
add_clause-requires-clause-inside c = c.requires c.loop-place.place _ c.loop-place-test.true

pub returns-clause-leaves : goal.returns-clause-leaves
returns-clause-leaves c =
    c.loop-place.invariant.leaves
    ∙ ap (λ cs. program_leaves 0 (map (clause_tree c.args.bank.now) cs)) (take_all c.loop-place.place c.args.clauses.now c.loop-place-test.false)

pub returns-clause-stored : goal.returns-clause-stored
returns-clause-stored c = c.loop-place.invariant.stored
