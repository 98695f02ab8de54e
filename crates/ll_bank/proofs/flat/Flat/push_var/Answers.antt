use Rattle.std.proofs.lemmas.Result.{IfOk-from_err}
use Rattle.std.proofs.Common.{refl}
use Rattle.ll_bank.specs.declared.flat.StoredTerm.TheVariants.{Var}
use Rattle.ll_bank.proofs.FlatLemmas.{stored_leaf}
use Rattle.ll_bank.proofs.flat.Flat.push_var.Goals as goal

pub invariant_of-self-2 : goal.invariant_of-self-2
invariant_of-self-2 c =
    stored_leaf c.self.inside.arguments.items c.self.inside.load_arguments.items c.self.inside.terms.items c.self.inside.forms.items c.self.invariant
    (Var c.args.number)
    c.push.new.self.items c.in_ok-push.ensures.items tt refl

pub returns-in_err-push-clause-added : goal.returns-in_err-push-clause-added
returns-in_err-push-clause-added c = IfOk-from_err c.from_residual.result _ c.from_residual.ensures.0

pub returns-clause-refused : goal.returns-clause-refused
returns-clause-refused c = _
