use Rattle.std.proofs.Common.{◌≡◌, List, sym, ap, subst, map}
use Rattle.std.proofs.lemmas.Result.{IfOk-from_err}
use Rattle.std.specs.Prelude.{Some}
use Rattle.ll_list_laws.proofs.CallerLemmas.{IfOk-each as if_ok-more}
use Rattle.ll_bank.specs.Nodes.{Nodes, term_trees}
use Rattle.ll_laws.specs.declared.Part.{Part}
use Rattle.ll_laws.specs.declared.Rule.{Rule}
use Rattle.ll_laws.specs.Line.{put, ClauseLine, WithLine, BangLine, LolliLine}
use Rattle.ll_laws.specs.ShownLines.{line_of, part_line, HasLine}
use Rattle.ll_trace.proofs.Sharing.{one-step, num-step, erase-step, passing-step, passing-rule, given-tensor, given-anywhere}
use Rattle.ll_trace.specs.Shares.{GivesTensor, GivesAnywhere, GivesRule, KeepsTerms}
use Rattle.ll_trace.proofs.deal.deal_node.Goals as goal

pub returns-in-One-clause-dealt : goal.returns-in-One-clause-dealt
returns-in-One-clause-dealt c = λ bank ts vs h f1 f2 d.
    one-step c.args.outline.now c.args.at c.args.share c.args.pending.now.items ts vs (subst (λ (r : Rule). put (line_of bank r) ts ≡ Some vs) c.in-One.is h) d

pub returns-in-Num-clause-dealt : goal.returns-in-Num-clause-dealt
returns-in-Num-clause-dealt c = λ bank ts vs h f1 f2 d.
    num-step c.args.outline.now c.args.at c.args.share c.args.pending.now.items ts vs (subst (λ (r : Rule). put (line_of bank r) ts ≡ Some vs) c.in-Num.is h) d

pub returns-in-Erase-clause-dealt : goal.returns-in-Erase-clause-dealt
returns-in-Erase-clause-dealt c = λ bank ts vs h f1 f2 d.
    erase-step c.args.outline.now c.args.at c.args.share c.args.pending.now.items ts vs
    (subst (λ (r : Rule). put (line_of bank r) ts ≡ Some vs) c.in-Erase.is h) d

pub returns-in-Tensor-clause-dealt : goal.returns-in-Tensor-clause-dealt
returns-in-Tensor-clause-dealt c =
    if_ok-more c.deal_tensor.result (λ (r : Rule). GivesTensor c.args.outline.now c.args.at c.args.share c.args.pending.now.items
    c.deal_tensor.new.pending.items r)
    (λ (r : Rule). GivesRule c.args.outline.now c.args.at c.args.rule c.args.share c.args.pending.now.items c.deal_tensor.new.pending.items r)
    (λ r g. given-tensor c.args.outline.now c.args.at c.args.rule c.args.share c.args.pending.now.items c.deal_tensor.new.pending.items r c.in-Tensor.field-0
    c.in-Tensor.field-1 c.in-Tensor.is g) c.deal_tensor.ensures.dealt

pub returns-in-With-clause-dealt : goal.returns-in-With-clause-dealt
returns-in-With-clause-dealt c =
    let old = c.args.pending.now.items in
    let new = c.deal_with.new.pending.items in
    let line = WithLine in
    if_ok-more c.deal_with.result (GivesAnywhere line c.args.share old new) (GivesRule c.args.outline.now c.args.at c.args.rule c.args.share old new)
    (λ r g. given-anywhere c.args.outline.now c.args.at c.args.rule c.args.share old new r line (λ bank. ap (line_of bank) c.in-With.is) g)
    c.deal_with.ensures.dealt

pub returns-in-Bang-clause-dealt : goal.returns-in-Bang-clause-dealt
returns-in-Bang-clause-dealt c =
    let old = c.args.pending.now.items in
    let new = c.deal_bang.new.pending.items in
    let line = BangLine in
    if_ok-more c.deal_bang.result (GivesAnywhere line c.args.share old new) (GivesRule c.args.outline.now c.args.at c.args.rule c.args.share old new)
    (λ r g. given-anywhere c.args.outline.now c.args.at c.args.rule c.args.share old new r line (λ bank. ap (line_of bank) c.in-Bang.is) g)
    c.deal_bang.ensures.dealt

pub returns-in-Lolli-clause-dealt : goal.returns-in-Lolli-clause-dealt
returns-in-Lolli-clause-dealt c =
    let old = c.args.pending.now.items in
    let new = c.deal_lolli.new.pending.items in
    let line = LolliLine c.in-Lolli.label in
    if_ok-more c.deal_lolli.result (GivesAnywhere line c.args.share old new) (GivesRule c.args.outline.now c.args.at c.args.rule c.args.share old new)
    (λ r g. given-anywhere c.args.outline.now c.args.at c.args.rule c.args.share old new r line (λ bank. ap (line_of bank) c.in-Lolli.is) g)
    c.deal_lolli.ensures.dealt

pub returns-in_ok-parts-in-Clause-clause-dealt : goal.returns-in_ok-parts-in-Clause-clause-dealt
returns-in_ok-parts-in-Clause-clause-dealt c = λ bank ts vs h f1 f2 d.
    c.in_ok-parts-in-Clause.ensures c.in-Clause.leaf (λ b. term_trees b c.in-Clause.terms.items) bank ts vs
    (subst (λ (ps : List Part). put (ClauseLine c.in-Clause.label c.in-Clause.leaf (term_trees bank c.in-Clause.terms.items) (map part_line ps)) ts ≡ Some vs)
    (sym c.deref.ensures.value)
    (subst (λ (r : Rule). put (line_of bank r) ts ≡ Some vs) c.in-Clause.is h)) f1 f2 d

pub returns-in_ok-push-in_default-clause-dealt : goal.returns-in_ok-push-in_default-clause-dealt
returns-in_ok-push-in_default-clause-dealt c = λ bank ts vs h f1 f2 d.
    let p = passing-rule c.args.rule c.in_default.not-Num c.in_default.not-One c.in_default.not-Erase c.in_default.not-Tensor c.in_default.not-With
    c.in_default.not-Bang c.in_default.not-Lolli c.in_default.not-Clause in
    passing-step (line_of bank c.args.rule) (p.mk bank) (p.passing bank) c.args.outline.now c.args.at c.args.share c.args.pending.now.items
    c.push.new.self.items ts vs c.in_ok-push-in_default.ensures.items h d

pub returns-in_err-parts-in-Clause-clause-dealt : goal.returns-in_err-parts-in-Clause-clause-dealt
returns-in_err-parts-in-Clause-clause-dealt c = IfOk-from_err c.from_residual.result _ c.from_residual.ensures.0

pub returns-in_err-parts-in-Clause-clause-keeps : goal.returns-in_err-parts-in-Clause-clause-keeps
returns-in_err-parts-in-Clause-clause-keeps c = IfOk-from_err c.from_residual.result _ c.from_residual.ensures.0

pub returns-in_err-push-in_default-clause-dealt : goal.returns-in_err-push-in_default-clause-dealt
returns-in_err-push-in_default-clause-dealt c = IfOk-from_err c.from_residual-in_err-push-in_default.result _ c.from_residual-in_err-push-in_default.ensures.0

pub returns-in_err-push-in_default-clause-keeps : goal.returns-in_err-push-in_default-clause-keeps
returns-in_err-push-in_default-clause-keeps c = IfOk-from_err c.from_residual-in_err-push-in_default.result _ c.from_residual-in_err-push-in_default.ensures.0

pub returns-in-One-clause-keeps : goal.returns-in-One-clause-keeps
returns-in-One-clause-keeps c = λ bank h. tt

pub returns-in-Num-clause-keeps : goal.returns-in-Num-clause-keeps
returns-in-Num-clause-keeps c = λ bank h. tt

pub returns-in-Erase-clause-keeps : goal.returns-in-Erase-clause-keeps
returns-in-Erase-clause-keeps c = λ bank h. tt

pub returns-in-Tensor-clause-keeps : goal.returns-in-Tensor-clause-keeps
returns-in-Tensor-clause-keeps c =
    if_ok-more c.deal_tensor.result (λ (r : Rule). (bank : Nodes) → HasLine bank r) (λ (r : Rule). KeepsTerms c.args.rule r) (λ r k. λ bank h. k bank)
    c.deal_tensor.ensures.keeps

pub returns-in-With-clause-keeps : goal.returns-in-With-clause-keeps
returns-in-With-clause-keeps c =
    if_ok-more c.deal_with.result (λ (r : Rule). (bank : Nodes) → HasLine bank r) (λ (r : Rule). KeepsTerms c.args.rule r) (λ r k. λ bank h. k bank)
    c.deal_with.ensures.keeps

pub returns-in-Bang-clause-keeps : goal.returns-in-Bang-clause-keeps
returns-in-Bang-clause-keeps c =
    if_ok-more c.deal_bang.result (λ (r : Rule). (bank : Nodes) → HasLine bank r) (λ (r : Rule). KeepsTerms c.args.rule r) (λ r k. λ bank h. k bank)
    c.deal_bang.ensures.keeps

pub returns-in-Lolli-clause-keeps : goal.returns-in-Lolli-clause-keeps
returns-in-Lolli-clause-keeps c =
    if_ok-more c.deal_lolli.result (λ (r : Rule). (bank : Nodes) → HasLine bank r) (λ (r : Rule). KeepsTerms c.args.rule r) (λ r k. λ bank h. k bank)
    c.deal_lolli.ensures.keeps
