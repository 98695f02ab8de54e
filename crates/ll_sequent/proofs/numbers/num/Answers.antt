use Rattle.std.proofs.Common.{refl}
use Rattle.std.proofs.lemmas.Result.{IfOk-from_err}
use Rattle.ll_bank.specs.Nodes.{term_tree}
use Rattle.ll_bank.specs.Form.{Is, Less, Most}
use Rattle.ll_bank.specs.declared.FormNode.TheVariants.{Is as IsView, Less as LessView, Most as MostView}
use Rattle.ll_laws.specs.Number.{operators_of}
use Rattle.ll_sequent.proofs.NumberLemmas.{tested_makes}
use Rattle.ll_sequent.proofs.numbers.num.Goals as goal

pub returns-in_ok-test-in-Is : goal.returns-in_ok-test-in-Is
returns-in_ok-test-in-Is c =
    tested_makes (operators_of c.args.names.now) c.args.bank.now c.args.sequent (IsView c.in-Is.left c.in-Is.right) Is
    (term_tree c.args.bank.now c.in-Is.left.0) (term_tree c.args.bank.now c.in-Is.right.0) c.in_ok-test-in-Is.test c.tested.result c.in-Is.ensures.shown
    refl c.in_ok-test-in-Is.ensures c.tested.ensures

pub returns-in_ok-test-in-Less : goal.returns-in_ok-test-in-Less
returns-in_ok-test-in-Less c =
    tested_makes (operators_of c.args.names.now) c.args.bank.now c.args.sequent (LessView c.in-Less.left c.in-Less.right) Less
    (term_tree c.args.bank.now c.in-Less.left.0) (term_tree c.args.bank.now c.in-Less.right.0) c.in_ok-test-in-Less.test c.tested-in-Less.result
    c.in-Less.ensures.shown refl c.in_ok-test-in-Less.ensures c.tested-in-Less.ensures

pub returns-in_ok-test-in-Most : goal.returns-in_ok-test-in-Most
returns-in_ok-test-in-Most c =
    tested_makes (operators_of c.args.names.now) c.args.bank.now c.args.sequent (MostView c.in-Most.left c.in-Most.right) Most
    (term_tree c.args.bank.now c.in-Most.left.0) (term_tree c.args.bank.now c.in-Most.right.0) c.in_ok-test-in-Most.test c.tested-in-Most.result
    c.in-Most.ensures.shown refl c.in_ok-test-in-Most.ensures c.tested-in-Most.ensures

pub returns-in_err-test-in-Is : goal.returns-in_err-test-in-Is
returns-in_err-test-in-Is c = IfOk-from_err c.from_residual.result _ c.from_residual.ensures.0

pub returns-in_err-test-in-Less : goal.returns-in_err-test-in-Less
returns-in_err-test-in-Less c = IfOk-from_err c.from_residual-in_err-test-in-Less.result _ c.from_residual-in_err-test-in-Less.ensures.0

pub returns-in_err-test-in-Most : goal.returns-in_err-test-in-Most
returns-in_err-test-in-Most c = IfOk-from_err c.from_residual-in_err-test-in-Most.result _ c.from_residual-in_err-test-in-Most.ensures.0
