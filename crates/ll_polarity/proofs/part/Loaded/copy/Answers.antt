use Rattle.std.proofs.Common.{◌∙◌, ap, map}
use Rattle.std.proofs.lemmas.Result.{IfOk-from_err}
use Rattle.ll_polarity.specs.Copied.{module_row}
use Rattle.ll_polarity.proofs.putting.Copies.{whole_image, copied_fits, copied_part}
use Rattle.ll_polarity.proofs.part.Loaded.copy.Goals as goal

pub invariant_of-result : goal.invariant_of-result
invariant_of-result c =
    let same = whole_image c.self.inside.bank c.in_ok-bank.bank (rw c.size-size.ensures.is at c.in_ok-bank.ensures) in
    copied_fits c.self.inside.bank c.in_ok-bank.bank c.self.inside.names c.in_ok-names.names c.self.inside.modules.items c.in_ok-modules.modules.items
    c.self.inside.clauses.items c.in_ok-clauses.clauses.items same c.in_ok-names.ensures
    (c.in_ok-modules.ensures ∙ ap (map module_row) c.deref-2.ensures.value) (c.in_ok-clauses.ensures.items ∙ c.deref.ensures.value) c.self.invariant.0
    c.self.invariant.1 c.self.invariant.2

pub returns : goal.returns
returns c =
    let same = whole_image c.self.inside.bank c.in_ok-bank.bank (rw c.size-size.ensures.is at c.in_ok-bank.ensures) in
    copied_part c.self.inside.bank c.in_ok-bank.bank c.self.inside.names c.in_ok-names.names c.self.inside.modules.items c.in_ok-modules.modules.items
    c.self.inside.clauses.items c.in_ok-clauses.clauses.items same c.in_ok-names.ensures
    (c.in_ok-modules.ensures ∙ ap (map module_row) c.deref-2.ensures.value) (c.in_ok-clauses.ensures.items ∙ c.deref.ensures.value)
    ∙ c.self.view_is

pub returns-in_err-clauses : goal.returns-in_err-clauses
returns-in_err-clauses c = IfOk-from_err c.from_residual.result _ c.from_residual.ensures.0

pub returns-in_err-modules : goal.returns-in_err-modules
returns-in_err-modules c = IfOk-from_err c.from_residual-in_err-modules.result _ c.from_residual-in_err-modules.ensures.0

pub returns-in_err-names : goal.returns-in_err-names
returns-in_err-names c = IfOk-from_err c.from_residual-in_err-names.result _ c.from_residual-in_err-names.ensures.0

pub returns-in_err-bank : goal.returns-in_err-bank
returns-in_err-bank c = IfOk-from_err c.from_residual-in_err-bank.result _ c.from_residual-in_err-bank.ensures.0
