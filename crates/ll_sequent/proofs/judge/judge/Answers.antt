use Rattle.std.proofs.Common.{◌≡◌, ◌∷◌, [], map, length, List, All, Some, true, subst, sym}
use Rattle.std.specs.Prelude.{IfOk}
use Rattle.std.specs.List.{list_all}
use Rattle.ll_bank.specs.declared.At.{At}
use Rattle.ll_bank.specs.Nodes.{AllInTerms}
use Rattle.ll_laws.specs.Number.{operators_of}
use Rattle.ll_laws.specs.Shown.{module_tree}
use Rattle.ll_laws.specs.Line.{is_line, trees_of}
use Rattle.ll_laws.specs.Shows.{Tree}
use Rattle.ll_sequent.specs.Copied.{IsLineBelow, copied_line}
use Rattle.ll_sequent.specs.Judging.{fault_at}
use Rattle.ll_sequent.specs.Sequents.{sequent_in}
use Rattle.ll_sequent.specs.Told.{Tells}
use Rattle.ll_sequent.proofs.judge.judge.Goals as goal

pub judge_nodes-requires-clause-inside : goal.judge_nodes-requires-clause-inside
judge_nodes-requires-clause-inside c =
    let P : List At → Type 0 = AllInTerms c.args.start.bank in subst P (sym c.deref.ensures.value) c.requires.inside

pub judge_nodes-requires-clause-reach : goal.judge_nodes-requires-clause-reach
judge_nodes-requires-clause-reach c =
    let P : List At → Type 0 = λ cs. All (IsLineBelow (length cs)) c.args.rules.now in subst P (sym c.deref.ensures.value) c.requires.reach

pub judge_nodes-requires-clause-whole : goal.judge_nodes-requires-clause-whole
judge_nodes-requires-clause-whole c =
    let P : List At → Type 0 = λ cs. list_all is_line (map (copied_line c.args.start.bank cs) c.args.rules.now) ≡ true in
    subst P (sym c.deref.ensures.value) c.requires.whole

pub returns : goal.returns
returns c =
    let P : List At → Type 0 = λ cs. IfOk c.judge_nodes.result (λ verdict. (x : Tree)
    → trees_of (map (copied_line c.args.start.bank cs) c.args.rules.now) ≡ Some (x ∷ [])
    → Tells verdict (fault_at (operators_of c.args.names.now) (map (module_tree c.args.start.bank) c.args.modules.now) x
    (sequent_in c.args.start.bank c.args.start.free.items c.args.start.root))) in
    subst P c.deref.ensures.value c.judge_nodes.ensures

pub judge_nodes-requires-clause-has : goal.judge_nodes-requires-clause-has
judge_nodes-requires-clause-has c = c.requires.has

pub judge_nodes-requires-clause-modules : goal.judge_nodes-requires-clause-modules
judge_nodes-requires-clause-modules c = c.requires.modules

pub judge_nodes-requires-clause-holds : goal.judge_nodes-requires-clause-holds
judge_nodes-requires-clause-holds c = c.requires.holds
