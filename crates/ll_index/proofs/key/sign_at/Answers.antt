use Rattle.std.proofs.Common.{ap, sym, ◌∙◌, length}
use Rattle.std.specs.Prelude.{Some}
use Rattle.ll_bank.specs.Nodes.{term_tree}
use Rattle.ll_index.specs.declared.laws.First.TheVariants.{Head as NameSign}
use Rattle.ll_index.specs.First.{name_sign}
use Rattle.ll_index.proofs.KeyLemmas.{sign_of-read}
use Rattle.ll_index.proofs.key.sign_at.Goals as goal

pub returns-in_ok-arity-in-App-Name-default : goal.returns-in_ok-arity-in-App-Name-default
returns-in_ok-arity-in-App-Name-default c =
    ap (NameSign c.in-App-Name-default.name) c.in_ok-arity-in-App-Name-default.ensures.same
    ∙ sym (sign_of-read c.args.bank.now (term_tree c.args.bank.now c.args.at.0) c.in-App-Name-default.field-0 c.in-App-Name-default.args.now
    c.in-App-Name-default.ensures.shown.0
    ∙ ap (λ h. name_sign (Some h) (length c.in-App-Name-default.args.now)) c.in-App-Name-default.field-0-is)

pub returns-in-App-Eigen-default : goal.returns-in-App-Eigen-default
returns-in-App-Eigen-default c =
    sym (sign_of-read c.args.bank.now (term_tree c.args.bank.now c.args.at.0) c.in-App-Eigen-default.field-0 c.in-App-Eigen-default.field-1.now
    c.in-App-Eigen-default.ensures.shown.0
    ∙ ap (λ h. name_sign (Some h) (length c.in-App-Eigen-default.field-1.now)) c.in-App-Eigen-default.field-0-is)

pub returns-in-App-Bound-default : goal.returns-in-App-Bound-default
returns-in-App-Bound-default c =
    sym (sign_of-read c.args.bank.now (term_tree c.args.bank.now c.args.at.0) c.in-App-Bound-default.field-0 c.in-App-Bound-default.field-1.now
    c.in-App-Bound-default.ensures.shown.0
    ∙ ap (λ h. name_sign (Some h) (length c.in-App-Bound-default.field-1.now)) c.in-App-Bound-default.field-0-is)
