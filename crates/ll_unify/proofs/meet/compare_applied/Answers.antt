use Rattle.std.proofs.Common.{refl, sym, ◌∙◌}
use Rattle.ll_bank.specs.Nodes.{term_tree}
use Rattle.ll_unify.proofs.Pairs.{shape-same, shape-other_head, shape-other_length}
use Rattle.ll_unify.proofs.meet.compare_applied.Goals as goal

pub returns-then-args-others : goal.returns-then-args-others
returns-then-args-others c = (
  refl,
  refl,
  shape-same c.args.bank.now (term_tree c.args.bank.now c.args.left.0) (term_tree c.args.bank.now c.args.right.0) c.in-App.head c.in-App-term_at.other
      c.in-App.args.now c.in-App-term_at.others.now
      c.in-App.ensures.shown.0 c.in-App-term_at.ensures.shown.0 (sym c.is_same_head.ensures ∙ c.if-not-is_same_head.false) c.if-args-others.true,
)

pub returns-else-args-others : goal.returns-else-args-others
returns-else-args-others c =
    shape-other_length c.args.bank.now (term_tree c.args.bank.now c.args.left.0) (term_tree c.args.bank.now c.args.right.0) c.in-App.head c.in-App-term_at.other
    c.in-App.args.now c.in-App-term_at.others.now
    c.in-App.ensures.shown.0 c.in-App-term_at.ensures.shown.0 c.if-args-others.false

pub returns-then-not-is_same_head : goal.returns-then-not-is_same_head
returns-then-not-is_same_head c =
    shape-other_head c.args.bank.now (term_tree c.args.bank.now c.args.left.0) (term_tree c.args.bank.now c.args.right.0) c.in-App.head c.in-App-term_at.other
    c.in-App.args.now c.in-App-term_at.others.now
    c.in-App.ensures.shown.0 c.in-App-term_at.ensures.shown.0 (sym c.is_same_head.ensures ∙ c.if-not-is_same_head.true)
