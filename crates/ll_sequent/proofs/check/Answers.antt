use Rattle.std.proofs.Common.{◌≡◌, List, length, map, All, subst, sym, ap, ◌∙◌, arith}
use Rattle.std.proofs.lemmas.Result.{IfOk-from_err}
use Rattle.std.specs.List.{list_all}
use Rattle.std.proofs.lemmas.List.{length-map}
use Rattle.ll_bank.specs.declared.At.{At}
use Rattle.ll_bank.specs.Nodes.{term_tree, term_trees, form_tree}
use Rattle.ll_laws.specs.Number.{operators_of}
use Rattle.ll_laws.specs.Module.{ModuleTree}
use Rattle.ll_laws.specs.Problem.{ProblemTree, setting_of}
use Rattle.ll_laws.specs.Shown.{clause_tree, module_tree, HasModules}
use Rattle.ll_laws.specs.ShownLines.{line_of}
use Rattle.ll_laws.specs.declared.Rule.{Rule}
use Rattle.ll_laws.specs.Line.{DerivationLines, is_line, trees_of}
use Rattle.ll_laws.specs.Fault.{Checked, fault}
use Rattle.ll_laws.specs.Verdict.{root_free, root_bounded, instantiated_goal}
use Rattle.ll_sequent.specs.Copied.{IsLineBelow, copied_line}
use Rattle.ll_sequent.specs.Sequents.{sequent_in}
use Rattle.ll_sequent.specs.Judging.{fault_at, AreModulesSound, Holds}
use Rattle.ll_sequent.specs.Starting.{root_of}
use Rattle.ll_sequent.specs.Told.{Tells}
use Rattle.ll_laws.specs.declared.Module.{Module}
use Rattle.ll_sequent.proofs.Waiting.{same_modules, has_modules-extends}
use Rattle.ll_sequent.proofs.Verdicts.{valid_modules, valid_root, sound_along, verdict_told}
use Rattle.ll_sequent.proofs.check.Goals as goal

pub judge-requires-clause-modules : goal.judge-requires-clause-modules
judge-requires-clause-modules c =
    let bank = c.in_ok-start.start.bank in
    let same : map (module_tree bank) c.deref-4.result.now ≡ c.args.problem.now.modules =
    ap (map (module_tree bank)) c.deref-4.ensures.value
    ∙ (same_modules c.in_ok-start.ensures.keeps c.problem.inside.modules.items c.problem.invariant.0 ∙ ap (λ (p : ProblemTree). p.modules) c.problem.view_is) in
    let P : List ModuleTree → Type 0 = AreModulesSound in
    subst P (sym same) (valid_modules c.args.problem.now c.requires.valid)

pub judge-requires-clause-holds : goal.judge-requires-clause-holds
judge-requires-clause-holds c =
    let bank = c.in_ok-start.start.bank in
    let same : map (module_tree bank) c.deref-4.result.now ≡ c.args.problem.now.modules =
    ap (map (module_tree bank)) c.deref-4.ensures.value
    ∙ (same_modules c.in_ok-start.ensures.keeps c.problem.inside.modules.items c.problem.invariant.0 ∙ ap (λ (p : ProblemTree). p.modules) c.problem.view_is) in
    let clauses : map (clause_tree c.problem.inside.bank) c.deref.result.now ≡ c.args.problem.now.clauses =
    ap (map (clause_tree c.problem.inside.bank)) c.deref.ensures.value ∙ ap (λ (p : ProblemTree). p.clauses) c.problem.view_is in
    let query : form_tree c.problem.inside.bank c.problem.inside.goal.0 ≡ c.args.problem.now.goal = ap (λ (p : ProblemTree). p.goal) c.problem.view_is in
    let root = c.in_ok-start.ensures.root c.args.problem.now.modules
    (sound_along c.args.problem.now.modules _ _ _ _ clauses query (valid_root c.args.problem.now c.requires.valid)) in
    let P : List ModuleTree → Type 0 = λ ms. Holds ms bank c.in_ok-start.start.free.items c.in_ok-start.start.root in
    subst P (sym same) root.holds

pub returns : goal.returns
returns c =
    let bank = c.in_ok-start.start.bank in
    let same : map (module_tree bank) c.deref-4.result.now ≡ c.args.problem.now.modules =
    ap (map (module_tree bank)) c.deref-4.ensures.value
    ∙ (same_modules c.in_ok-start.ensures.keeps c.problem.inside.modules.items c.problem.invariant.0 ∙ ap (λ (p : ProblemTree). p.modules) c.problem.view_is) in
    let clauses : map (clause_tree c.problem.inside.bank) c.deref.result.now ≡ c.args.problem.now.clauses =
    ap (map (clause_tree c.problem.inside.bank)) c.deref.ensures.value ∙ ap (λ (p : ProblemTree). p.clauses) c.problem.view_is in
    let query : form_tree c.problem.inside.bank c.problem.inside.goal.0 ≡ c.args.problem.now.goal = ap (λ (p : ProblemTree). p.goal) c.problem.view_is in
    let asked : term_trees c.derivation.inside.bank c.deref-2.result.now ≡ c.args.derivation.now.asked =
    ap (term_trees c.derivation.inside.bank) c.deref-2.ensures.value ∙ ap (λ (d : DerivationLines). d.asked) c.derivation.view_is in
    let nodes : map (copied_line bank c.in_ok-start.start.copies.items) c.deref-5.result.now ≡ c.args.derivation.now.nodes =
    ap (map (copied_line bank c.in_ok-start.start.copies.items)) (c.deref-5.ensures.value ∙ sym c.deref-3.ensures.value)
    ∙ (c.in_ok-start.ensures.lines ∙ (ap (map (line_of c.derivation.inside.bank)) c.deref-3.ensures.value
    ∙ ap (λ (d : DerivationLines). d.nodes) c.derivation.view_is)) in
    let root = c.in_ok-start.ensures.root c.args.problem.now.modules
    (sound_along c.args.problem.now.modules _ _ _ _ clauses query (valid_root c.args.problem.now c.requires.valid)) in
    let shows : sequent_in bank c.in_ok-start.start.free.items c.in_ok-start.start.root
    ≡ root_of c.args.problem.now.clauses c.args.problem.now.goal c.args.derivation.now.asked =
    root.shows ∙ (λ i. root_of (clauses i) (query i) (asked i)) in
    let count : length c.derivation.inside.asked.items ≡ length c.problem.inside.asked.items = grind arith in
    let number : length c.args.derivation.now.asked ≡ length c.args.problem.now.asked =
    sym (ap (λ (d : DerivationLines). length d.asked) c.derivation.view_is)
    ∙ (length-map c.derivation.inside.asked.items (λ (a : At). term_tree c.derivation.inside.bank a.0)
    ∙ (count ∙ ap (λ (p : ProblemTree). length p.asked) c.problem.view_is)) in
    verdict_told c.args.problem.now c.args.derivation.now c.in_ok-verdict.verdict c.requires.whole number
    (λ x e.
    let P : Checked → Type 0 = Tells c.in_ok-verdict.verdict in
    let names : c.problem.inside.names ≡ c.args.problem.now.names = ap (λ (p : ProblemTree). p.names) c.problem.view_is in
    let told : fault_at (operators_of c.problem.inside.names) (map (module_tree bank) c.deref-4.result.now) x
    (sequent_in bank c.in_ok-start.start.free.items c.in_ok-start.start.root)
    ≡ fault (setting_of c.args.problem.now) 1 x (root_free c.args.problem.now) (root_bounded c.args.problem.now)
    (instantiated_goal c.args.problem.now c.args.derivation.now.asked) =
    λ i. fault_at (operators_of (names i)) (same i) x (shows i) in
    subst P told (c.in_ok-verdict.ensures x (ap trees_of nodes ∙ e)))

pub judge-requires-clause-has : goal.judge-requires-clause-has
judge-requires-clause-has c =
    let P : List Module → Type 0 = HasModules c.in_ok-start.start.bank in
    subst P (sym c.deref-4.ensures.value) (has_modules-extends c.in_ok-start.ensures.keeps c.problem.inside.modules.items c.problem.invariant.0)

pub judge-requires-clause-reach : goal.judge-requires-clause-reach
judge-requires-clause-reach c =
    let P : List Rule → Type 0 = All (IsLineBelow (length c.in_ok-start.start.copies.items)) in
    subst P (c.deref-3.ensures.value ∙ sym c.deref-5.ensures.value) c.in_ok-start.ensures.reach

pub judge-requires-clause-whole : goal.judge-requires-clause-whole
judge-requires-clause-whole c =
    let bank = c.in_ok-start.start.bank in
    let nodes : map (copied_line bank c.in_ok-start.start.copies.items) c.deref-5.result.now ≡ c.args.derivation.now.nodes =
    ap (map (copied_line bank c.in_ok-start.start.copies.items)) (c.deref-5.ensures.value ∙ sym c.deref-3.ensures.value)
    ∙ (c.in_ok-start.ensures.lines ∙ (ap (map (line_of c.derivation.inside.bank)) c.deref-3.ensures.value
    ∙ ap (λ (d : DerivationLines). d.nodes) c.derivation.view_is)) in
    ap (list_all is_line) nodes ∙ c.requires.whole.nodes

pub returns-in_err-start : goal.returns-in_err-start
returns-in_err-start c = IfOk-from_err c.from_residual.result _ c.from_residual.ensures.0

pub returns-in_err-verdict : goal.returns-in_err-verdict
returns-in_err-verdict c = IfOk-from_err c.from_residual-in_err-verdict.result _ c.from_residual-in_err-verdict.ensures.0

pub judge-requires-clause-inside : goal.judge-requires-clause-inside
judge-requires-clause-inside c = c.in_ok-start.ensures.inside
