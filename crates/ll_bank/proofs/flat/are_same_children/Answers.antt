use Rattle.std.proofs.Common.{sym, ◌∙◌, eqb}
use Rattle.ll_bank.specs.declared.At.{At}
use Rattle.ll_bank.proofs.SameLemmas.{same_list, same_at}
use Rattle.ll_bank.proofs.flat.are_same_children.Goals as goal

pub returns : goal.returns
returns c = λ e. same_list (λ (x y : At). eqb x.0 y.0) same_at c.args.children.now c.args.others.now (sym c.eq.ensures ∙ e)
