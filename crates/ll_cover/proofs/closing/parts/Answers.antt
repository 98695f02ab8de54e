use Rattle.std.proofs.Common.{ap, ◌∙◌, ◌&&◌}
use Rattle.std.specs.List.{list_all}
use Rattle.ll_bank.specs.Term.{is_closed, not_bound}
use Rattle.ll_bank.specs.Nodes.{term_trees}
use Rattle.ll_cover.proofs.Applied.{closed-app}
use Rattle.ll_cover.proofs.closing.parts.Goals as goal

pub returns-in-App-Bound-default : goal.returns-in-App-Bound-default
returns-in-App-Bound-default c =
    let v = c.in-App-Bound-default in ap is_closed v.ensures.shown.0
    ∙ (closed-app v.field-0 (term_trees c.args.bank.now v.field-1.now)
    ∙ ap (λ h. not_bound h && list_all is_closed (term_trees c.args.bank.now v.field-1.now)) v.field-0-is)

pub returns-in-App-Name-default : goal.returns-in-App-Name-default
returns-in-App-Name-default c =
    let v = c.in-App-Name-default in
    record {
      closed = ap is_closed v.ensures.shown.0 ∙ (closed-app v.field-0 (term_trees c.args.bank.now v.args.now)
          ∙ ap (λ h. not_bound h && list_all is_closed (term_trees c.args.bank.now v.args.now)) v.field-0-is);
      lower = v.ensures.shown.1;
    }

pub returns-in-App-Eigen-default : goal.returns-in-App-Eigen-default
returns-in-App-Eigen-default c =
    let v = c.in-App-Eigen-default in
    record {
      closed = ap is_closed v.ensures.shown.0 ∙ (closed-app v.field-0 (term_trees c.args.bank.now v.args.now)
          ∙ ap (λ h. not_bound h && list_all is_closed (term_trees c.args.bank.now v.args.now)) v.field-0-is);
      lower = v.ensures.shown.1;
    }
