use Rattle.std.proofs.lemmas.Result.{IfOk-from_err}
use Rattle.std.proofs.Common.{◌≡◌, List, [], ◌++◌, length, sym, ap, ◌∙◌}
use Rattle.std.proofs.lemmas.List.{append-nil}
use Rattle.ll_bank.specs.declared.At.{At}
use Rattle.ll_bank.specs.Storage.{stored_as, load_arguments_of}
use Rattle.ll_bank.proofs.flat.stored_form.Goals as goal

nothing-behind : (children arguments : List At) → arguments ≡ [] → children ≡ children ++ arguments
nothing-behind children arguments e = sym (append-nil children) ∙ ap (λ xs. children ++ xs) (sym e)

pub returns-in-Top-clause-refused : goal.returns-in-Top-clause-refused
returns-in-Top-clause-refused c = _

pub returns-in-One-clause-refused : goal.returns-in-One-clause-refused
returns-in-One-clause-refused c = _

pub returns-in-Atom-clause-refused : goal.returns-in-Atom-clause-refused
returns-in-Atom-clause-refused c = _

pub returns-in-With-clause-refused : goal.returns-in-With-clause-refused
returns-in-With-clause-refused c = _

pub returns-in-Tensor-clause-refused : goal.returns-in-Tensor-clause-refused
returns-in-Tensor-clause-refused c = _

pub returns-in-Plus-clause-refused : goal.returns-in-Plus-clause-refused
returns-in-Plus-clause-refused c = _

pub returns-in-Bang-clause-refused : goal.returns-in-Bang-clause-refused
returns-in-Bang-clause-refused c = _

pub returns-in-Lolli-clause-refused : goal.returns-in-Lolli-clause-refused
returns-in-Lolli-clause-refused c = _

pub returns-in-Imp-clause-refused : goal.returns-in-Imp-clause-refused
returns-in-Imp-clause-refused c = _

pub returns-in-Forall-clause-refused : goal.returns-in-Forall-clause-refused
returns-in-Forall-clause-refused c = _

pub returns-in-Exists-clause-refused : goal.returns-in-Exists-clause-refused
returns-in-Exists-clause-refused c = _

pub returns-in-Is-clause-refused : goal.returns-in-Is-clause-refused
returns-in-Is-clause-refused c = _

pub returns-in-Less-clause-refused : goal.returns-in-Less-clause-refused
returns-in-Less-clause-refused c = _

pub returns-in-Most-clause-refused : goal.returns-in-Most-clause-refused
returns-in-Most-clause-refused c = _

pub returns-in_ok-extend_from_slice-in-Use-clause-refused : goal.returns-in_ok-extend_from_slice-in-Use-clause-refused
returns-in_ok-extend_from_slice-in-Use-clause-refused c = _

pub returns-in_err-span-in-Use-clause-stored : goal.returns-in_err-span-in-Use-clause-stored
returns-in_err-span-in-Use-clause-stored c = IfOk-from_err c.from_residual.result _ c.from_residual.ensures.0

pub returns-in_err-span-in-Use-clause-behind : goal.returns-in_err-span-in-Use-clause-behind
returns-in_err-span-in-Use-clause-behind c = IfOk-from_err c.from_residual.result _ c.from_residual.ensures.0

pub returns-in_err-extend_from_slice-in-Use-clause-stored : goal.returns-in_err-extend_from_slice-in-Use-clause-stored
returns-in_err-extend_from_slice-in-Use-clause-stored c =
    IfOk-from_err c.from_residual-in_err-extend_from_slice-in-Use.result _ c.from_residual-in_err-extend_from_slice-in-Use.ensures.0

pub returns-in_err-extend_from_slice-in-Use-clause-behind : goal.returns-in_err-extend_from_slice-in-Use-clause-behind
returns-in_err-extend_from_slice-in-Use-clause-behind c =
    IfOk-from_err c.from_residual-in_err-extend_from_slice-in-Use.result _ c.from_residual-in_err-extend_from_slice-in-Use.ensures.0

pub returns-in-Top-clause-stored : goal.returns-in-Top-clause-stored
returns-in-Top-clause-stored c = sym (ap (stored_as (length c.args.arguments.now.items)) c.in-Top.is)

pub returns-in-Top-clause-behind : goal.returns-in-Top-clause-behind
returns-in-Top-clause-behind c = nothing-behind c.args.arguments.now.items _ (ap load_arguments_of c.in-Top.is)

pub returns-in-One-clause-stored : goal.returns-in-One-clause-stored
returns-in-One-clause-stored c = sym (ap (stored_as (length c.args.arguments.now.items)) c.in-One.is)

pub returns-in-One-clause-behind : goal.returns-in-One-clause-behind
returns-in-One-clause-behind c = nothing-behind c.args.arguments.now.items _ (ap load_arguments_of c.in-One.is)

pub returns-in-Atom-clause-stored : goal.returns-in-Atom-clause-stored
returns-in-Atom-clause-stored c = sym (ap (stored_as (length c.args.arguments.now.items)) c.in-Atom.is)

pub returns-in-Atom-clause-behind : goal.returns-in-Atom-clause-behind
returns-in-Atom-clause-behind c = nothing-behind c.args.arguments.now.items _ (ap load_arguments_of c.in-Atom.is)

pub returns-in-With-clause-behind : goal.returns-in-With-clause-behind
returns-in-With-clause-behind c = nothing-behind c.args.arguments.now.items _ (ap load_arguments_of c.in-With.is)

pub returns-in-Tensor-clause-stored : goal.returns-in-Tensor-clause-stored
returns-in-Tensor-clause-stored c = sym (ap (stored_as (length c.args.arguments.now.items)) c.in-Tensor.is)

pub returns-in-Tensor-clause-behind : goal.returns-in-Tensor-clause-behind
returns-in-Tensor-clause-behind c = nothing-behind c.args.arguments.now.items _ (ap load_arguments_of c.in-Tensor.is)

pub returns-in-Plus-clause-stored : goal.returns-in-Plus-clause-stored
returns-in-Plus-clause-stored c = sym (ap (stored_as (length c.args.arguments.now.items)) c.in-Plus.is)

pub returns-in-Plus-clause-behind : goal.returns-in-Plus-clause-behind
returns-in-Plus-clause-behind c = nothing-behind c.args.arguments.now.items _ (ap load_arguments_of c.in-Plus.is)

pub returns-in-Bang-clause-stored : goal.returns-in-Bang-clause-stored
returns-in-Bang-clause-stored c = sym (ap (stored_as (length c.args.arguments.now.items)) c.in-Bang.is)

pub returns-in-Bang-clause-behind : goal.returns-in-Bang-clause-behind
returns-in-Bang-clause-behind c = nothing-behind c.args.arguments.now.items _ (ap load_arguments_of c.in-Bang.is)

pub returns-in-Lolli-clause-stored : goal.returns-in-Lolli-clause-stored
returns-in-Lolli-clause-stored c = sym (ap (stored_as (length c.args.arguments.now.items)) c.in-Lolli.is)

pub returns-in-Lolli-clause-behind : goal.returns-in-Lolli-clause-behind
returns-in-Lolli-clause-behind c = nothing-behind c.args.arguments.now.items _ (ap load_arguments_of c.in-Lolli.is)

pub returns-in-Imp-clause-stored : goal.returns-in-Imp-clause-stored
returns-in-Imp-clause-stored c = sym (ap (stored_as (length c.args.arguments.now.items)) c.in-Imp.is)

pub returns-in-Imp-clause-behind : goal.returns-in-Imp-clause-behind
returns-in-Imp-clause-behind c = nothing-behind c.args.arguments.now.items _ (ap load_arguments_of c.in-Imp.is)

pub returns-in-Forall-clause-stored : goal.returns-in-Forall-clause-stored
returns-in-Forall-clause-stored c = sym (ap (stored_as (length c.args.arguments.now.items)) c.in-Forall.is)

pub returns-in-Forall-clause-behind : goal.returns-in-Forall-clause-behind
returns-in-Forall-clause-behind c = nothing-behind c.args.arguments.now.items _ (ap load_arguments_of c.in-Forall.is)

pub returns-in-Exists-clause-stored : goal.returns-in-Exists-clause-stored
returns-in-Exists-clause-stored c = sym (ap (stored_as (length c.args.arguments.now.items)) c.in-Exists.is)

pub returns-in-Exists-clause-behind : goal.returns-in-Exists-clause-behind
returns-in-Exists-clause-behind c = nothing-behind c.args.arguments.now.items _ (ap load_arguments_of c.in-Exists.is)

pub returns-in-Is-clause-stored : goal.returns-in-Is-clause-stored
returns-in-Is-clause-stored c = sym (ap (stored_as (length c.args.arguments.now.items)) c.in-Is.is)

pub returns-in-Is-clause-behind : goal.returns-in-Is-clause-behind
returns-in-Is-clause-behind c = nothing-behind c.args.arguments.now.items _ (ap load_arguments_of c.in-Is.is)

pub returns-in-Less-clause-stored : goal.returns-in-Less-clause-stored
returns-in-Less-clause-stored c = sym (ap (stored_as (length c.args.arguments.now.items)) c.in-Less.is)

pub returns-in-Less-clause-behind : goal.returns-in-Less-clause-behind
returns-in-Less-clause-behind c = nothing-behind c.args.arguments.now.items _ (ap load_arguments_of c.in-Less.is)

pub returns-in-Most-clause-stored : goal.returns-in-Most-clause-stored
returns-in-Most-clause-stored c = sym (ap (stored_as (length c.args.arguments.now.items)) c.in-Most.is)

pub returns-in-Most-clause-behind : goal.returns-in-Most-clause-behind
returns-in-Most-clause-behind c = nothing-behind c.args.arguments.now.items _ (ap load_arguments_of c.in-Most.is)
