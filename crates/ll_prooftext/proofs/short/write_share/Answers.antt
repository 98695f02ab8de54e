use Rattle.std.proofs.lemmas.Result.{IfOk-from_err}
use Rattle.std.proofs.Common.{get_or, ap, ◌∙◌, arith}
use Rattle.ll_bank.specs.Nodes.{term_tree, term_trees}
use Rattle.ll_prooftext.specs.ProofText2.{spine_text}
use Rattle.ll_prooftext.proofs.writing.ShortLines.{share_bare, share_full}
use Rattle.ll_prooftext.proofs.tabling.TableSteps.{argument_numbered}
use Rattle.ll_prooftext.proofs.short.write_share.Goals as goal
use Rattle.ll_prooftext.proofs.short.write_share.Goals.{in-Var, in-Int, in-App+in_ok-write_head-in-App+in_ok-write_fields-in-App}

pub returns : goal.returns
returns c =
    let names = c.args.names.now in
    let bank = c.args.bank.now in
    let rows = term_trees bank c.args.table.now.rows.items in
    let tree = term_tree bank c.args.at.0 in
    elim c.match-term_at.branch [
      | in-Var w ↦
          share_bare names rows tree c.args.out.now.items c.match-term_at.out.items c.push.new.self.items
          ((λ i. (w.out-is i).items) ∙ c.in_ok-extend_from_slice.ensures.items) (ap (spine_text names rows) w.in-Var.ensures.shown)
          c.in_ok-push.ensures.items
      | in-Int w ↦
          share_bare names rows tree c.args.out.now.items c.match-term_at.out.items c.push.new.self.items
          ((λ i. (w.out-is i).items) ∙ c.in_ok-extend_from_slice.ensures.items) (ap (spine_text names rows) w.in-Int.ensures.shown)
          c.in_ok-push.ensures.items
      | in-App+in_ok-write_head-in-App+in_ok-write_fields-in-App w ↦
          share_full names rows w.in-App.head (term_trees bank w.in-App.args.now) tree c.args.out.now.items c.extend_from_slice.new.self.items
          w.write_head.new.out.items c.match-term_at.out.items c.push.new.self.items
          c.in_ok-extend_from_slice.ensures.items w.in_ok-write_head-in-App.ensures ((λ i. (w.out-is i).items) ∙ w.in_ok-write_fields-in-App.ensures)
          w.in-App.ensures.shown.0 c.in_ok-push.ensures.items
    ]

pub write_fields-requires-clause-numbered : goal.write_fields-requires-clause-numbered
write_fields-requires-clause-numbered c =
    λ k d l. argument_numbered c.args.bank.now c.args.table.now (term_trees c.args.bank.now c.args.table.now.rows.items) c.requires.table
    (get_or c.in-App.args.now k d).0
    (let low = c.in-App.ensures.shown.1 k d l in let here = c.requires.numbered.inside in omega arith)

pub returns-in_err-extend_from_slice : goal.returns-in_err-extend_from_slice
returns-in_err-extend_from_slice c = IfOk-from_err c.from_residual.result _ c.from_residual.ensures.0

pub returns-in_err-write_head-in-App : goal.returns-in_err-write_head-in-App
returns-in_err-write_head-in-App c = IfOk-from_err c.from_residual-in_err-write_head-in-App.result _ c.from_residual-in_err-write_head-in-App.ensures.0

pub returns-in_err-write_fields-in-App : goal.returns-in_err-write_fields-in-App
returns-in_err-write_fields-in-App c = IfOk-from_err c.from_residual-in_err-write_fields-in-App.result _ c.from_residual-in_err-write_fields-in-App.ensures.0

pub returns-in_err-push : goal.returns-in_err-push
returns-in_err-push c = IfOk-from_err c.from_residual-in_err-push.result _ c.from_residual-in_err-push.ensures.0
