use Rattle.std.proofs.Common.{◌≡◌, ℕ, List, [], ◌∷◌, ◌++◌, ◌+◌, ap, sym, subst, refl, ◌∙◌, length, length-append, drop, map, arith, Vec, Global}
use Rattle.std.proofs.lemmas.Result.{IfOk-from_err}
use Rattle.std.proofs.lemmas.List.Elements.{All-nil, All-push, All-head, All-drop}
use Rattle.ll_laws.specs.declared.Rule.{Rule}
use Rattle.ll_laws.specs.Line.{trees_of}
use Rattle.ll_laws.specs.ShownLines.{line_of, HasLine, HasLines}
use Rattle.ll_trace.specs.declared.deal.Share.{Share}
use Rattle.ll_trace.specs.Shares.{GivesRule}
use Rattle.ll_trace.proofs.Sharing.{DealLeft, deal-start, deal-more, deal-end}
use Rattle.std.proofs.lemmas.List.{drop-drop}
use Rattle.ll_list_laws.proofs.CallerLemmas.{empty_from_length as no_items}
use Rattle.ll_trace.proofs.deal.deal_by.Goals as goal

pub loop-node-init : goal.loop-node-init
loop-node-init c =
    let none : c.replace-nodes.new.dest.items ≡ [] = ap (λ (v : Vec Rule Global). v.items) c.replace-nodes.ensures.after ∙ c.new.ensures.items in
    let all : c.into_iter-node-iterator.result.rest.items ≡ c.args.rules.now.items =
    c.into_iter-node-iterator.ensures.into_iter_gives.0 ∙ ap (λ (v : Vec Rule Global). v.items) c.replace-nodes.ensures.value in
    record {
      dealt = λ bank x h.
          deal-start (map (line_of bank) c.into_iter-node-iterator.result.rest.items) x c.args.labels.items (map (line_of bank) c.replace-nodes.new.dest.items)
          c.push.new.self.items (drop (length c.replace-nodes.new.dest.items) c.args.outline.now.uses)
          (record { labels = c.args.labels; level = 0 }) (ap (map (line_of bank)) none)
          (c.in_ok-push.ensures.items ∙ ap (λ (ss : List Share). ss ++ record { labels = c.args.labels; level = 0 } ∷ []) c.new-pending.ensures.items) refl
          (ap (λ (rs : List Rule). drop (length rs) c.args.outline.now.uses) none
          ∙ c.requires.picks bank x h)
          (ap (λ (rs : List Rule). trees_of (map (line_of bank) rs)) all ∙ h);
      left = ap (λ (rs : List Rule). drop (length rs) c.args.rules.now.items) none ∙ sym all;
      done = λ bank h. subst (λ (rs : List Rule). HasLines bank rs) (sym none) (All-nil (HasLine bank));
    }

pub loop-node-preserved : goal.loop-node-preserved
loop-node-preserved c =
    let i = c.loop-node.invariant in
    let first : c.loop-node.node-iterator.rest.items ≡ c.in-Some.node ∷ c.next.new.self.rest.items = c.in-Some.ensures.steps.0 in
    let at : c.len.result ≡ length c.loop-node.rules.items = let k = c.loop-node.rules.ok.0 in let e = c.len.ensures in omega (arith, k, e) in
    let more : c.push-in-loop-node.new.self.items ≡ c.loop-node.rules.items ++ c.in_ok-dealt.dealt ∷ [] = c.in_ok-push-2.ensures.items in
    let size : length c.loop-node.rules.items + 1 ≡ length c.push-in-loop-node.new.self.items = let l = ap length more in
    let n = length-append c.loop-node.rules.items (c.in_ok-dealt.dealt ∷ []) in omega (arith, l, n) in
    let here : drop (length c.loop-node.rules.items) c.args.rules.now.items ≡ c.in-Some.node ∷ c.next.new.self.rest.items = i.left ∙ first in
    record {
      dealt = λ bank x h.
          subst (λ (n : ℕ). DealLeft (map (line_of bank) c.next.new.self.rest.items) x c.args.labels.items
          (map (line_of bank) c.push-in-loop-node.new.self.items) c.deal_node.new.pending.items (drop n c.args.outline.now.uses)) size
          (deal-more bank c.args.rules.now.items c.args.outline.now (length c.loop-node.rules.items)
          c.in-Some.node c.in_ok-dealt.dealt c.next.new.self.rest.items x c.args.labels.items c.loop-node.rules.items c.push-in-loop-node.new.self.items
          c.loop-node.pending.items c.pop.new.self.items c.deal_node.new.pending.items c.pop.result c.unwrap_or-share.result _ c.requires.spans here
          c.pop.ensures.items
          c.unwrap_or-share.ensures
          (λ p. let k = c.loop-node.pending.ok.0 in c.pop.ensures.variant.1 (omega (arith, p, k)))
          (subst (λ (n : ℕ). GivesRule c.args.outline.now n c.in-Some.node c.unwrap_or-share.result
          c.pop.new.self.items c.deal_node.new.pending.items c.in_ok-dealt.dealt) at c.in_ok-dealt.ensures.dealt)
          more
          (subst (λ (rs : List Rule). DealLeft (map (line_of bank) rs) x c.args.labels.items (map (line_of bank) c.loop-node.rules.items)
          c.loop-node.pending.items (drop (length c.loop-node.rules.items) c.args.outline.now.uses)) first (i.dealt bank x h)));
      left = ap (λ n. drop n c.args.rules.now.items) (sym size)
          ∙ (sym (drop-drop 1 (length c.loop-node.rules.items) c.args.rules.now.items) ∙ ap (λ (rs : List Rule). drop 1 rs) here);
      done = λ bank h.
          subst (λ (rs : List Rule). HasLines bank rs) (sym more) (All-push (HasLine bank) c.loop-node.rules.items c.in_ok-dealt.dealt (i.done bank h)
          (c.in_ok-dealt.ensures.keeps bank (All-head (HasLine bank) c.in-Some.node c.next.new.self.rest.items
          (subst (λ (rs : List Rule). HasLines bank rs) here (All-drop (HasLine bank) (length c.loop-node.rules.items) c.args.rules.now.items h)))));
    }

pub returns-clause-dealt : goal.returns-clause-dealt
returns-clause-dealt c = λ bank x h.
    let none : c.loop-node.node-iterator.rest.items ≡ [] = no_items c.loop-node.node-iterator.rest.items (let k = c.in-None.ensures.steps.0 in
    let o = c.loop-node.node-iterator.rest.ok in omega (arith, k, o)) in
    deal-end x c.args.labels.items (map (line_of bank) c.loop-node.rules.items) c.loop-node.pending.items
    (drop (length c.loop-node.rules.items) c.args.outline.now.uses)
    (subst (λ (rs : List Rule). DealLeft (map (line_of bank) rs) x c.args.labels.items (map (line_of bank) c.loop-node.rules.items) c.loop-node.pending.items
    (drop (length c.loop-node.rules.items) c.args.outline.now.uses)) none (c.loop-node.invariant.dealt bank x h))

pub returns-clause-places : goal.returns-clause-places
returns-clause-places c = λ bank h. c.loop-node.invariant.done bank h

pub returns-in_err-dealt-clause-dealt : goal.returns-in_err-dealt-clause-dealt
returns-in_err-dealt-clause-dealt c = IfOk-from_err c.from_residual-in_err-dealt.result _ c.from_residual-in_err-dealt.ensures.0

pub returns-in_err-dealt-clause-places : goal.returns-in_err-dealt-clause-places
returns-in_err-dealt-clause-places c = IfOk-from_err c.from_residual-in_err-dealt.result _ c.from_residual-in_err-dealt.ensures.0

pub returns-in_err-push-2-clause-dealt : goal.returns-in_err-push-2-clause-dealt
returns-in_err-push-2-clause-dealt c = IfOk-from_err c.from_residual-in_err-push-2.result _ c.from_residual-in_err-push-2.ensures.0

pub returns-in_err-push-2-clause-places : goal.returns-in_err-push-2-clause-places
returns-in_err-push-2-clause-places c = IfOk-from_err c.from_residual-in_err-push-2.result _ c.from_residual-in_err-push-2.ensures.0

pub returns-in_err-push-clause-dealt : goal.returns-in_err-push-clause-dealt
returns-in_err-push-clause-dealt c = IfOk-from_err c.from_residual.result _ c.from_residual.ensures.0

pub returns-in_err-push-clause-places : goal.returns-in_err-push-clause-places
returns-in_err-push-clause-places c = IfOk-from_err c.from_residual.result _ c.from_residual.ensures.0
