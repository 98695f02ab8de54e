use Rattle.std.proofs.lemmas.Result.{IfOk-from_err}
use Rattle.std.proofs.Common.{rules, refl}
use Rattle.ll_bank.specs.declared.flat.StoredTerm.TheVariants.{Int}
use Rattle.ll_bank.proofs.FlatLemmas.{stored_leaf, pushed_int}
use Rattle.ll_bank.proofs.flat.Flat.push_int.Goals as goal

pub invariant_of-self-2 : goal.invariant_of-self-2
invariant_of-self-2 c =
    stored_leaf c.self.inside.arguments.items c.self.inside.load_arguments.items c.self.inside.terms.items c.self.inside.forms.items c.self.invariant
    (Int c.args.value)
    c.push.new.self.items (pushed_int c.self.inside.terms.items c.push.new.self.items c.args.value (search rules) c.in_ok-push.ensures.items) (search rules)
    refl

pub returns-in_err-push-clause-added : goal.returns-in_err-push-clause-added
returns-in_err-push-clause-added c = IfOk-from_err c.from_residual.result _ c.from_residual.ensures.0

pub returns-clause-refused : goal.returns-clause-refused
returns-clause-refused c = _
