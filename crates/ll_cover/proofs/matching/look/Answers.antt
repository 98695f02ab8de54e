use Rattle.std.proofs.Common.{rules, ap}
use Rattle.ll_bank.specs.Term.{head_of}
use Rattle.ll_bank.specs.Nodes.{term_trees}
use Rattle.ll_cover.proofs.Looking.{look_variable, number_not_head, head_not_leaf, other_head, other_count, look_applied}
use Rattle.ll_cover.proofs.matching.look.Goals as goal
use Rattle.ll_cover.proofs.matching.look.Goals.{else-is_same_head-via-then-is_same_head+else-args-others, else-is_same_head-via-else-is_same_head}

pub returns-in-Var : goal.returns-in-Var
returns-in-Var c = look_variable _ _ _ _ _ _ _ _ c.in-Var.ensures.shown c.requires.waiting c.meet_variable.ensures.met c.meet_variable.ensures.values
    c.meet_variable.ensures.closed

pub returns-in-App-term_at : goal.returns-in-App-term_at
returns-in-App-term_at c = λ g closing h.
    number_not_head c.args.bank.now c.args.place.0 c.args.other.now c.args.image.0 c.args.found.now c.in-Int.value c.in-App-term_at.field-0
    (term_trees c.args.other.now c.in-App-term_at.field-1.now)
    c.in-Int.ensures.shown c.in-App-term_at.ensures.shown.0 g

pub returns-then-args-others : goal.returns-then-args-others
returns-then-args-others c =
    look_applied _ _ _ _ _ _ _ _ _ _ _ c.in-App.ensures.shown.0 c.in-App.ensures.shown.1 c.in-App-term_at-2.ensures.shown.0 (search rules) (search rules)
    c.requires.values
    c.meet_all.ensures.met c.meet_all.ensures.images c.meet_all.ensures.below

pub returns-in-Var-term_at-2 : goal.returns-in-Var-term_at-2
returns-in-Var-term_at-2 c = λ g closing h.
    head_not_leaf c.args.bank.now c.args.place.0 c.args.other.now c.args.image.0 c.args.found.now c.in-App.head (term_trees c.args.bank.now c.in-App.args.now)
    c.in-App.ensures.shown.0
    (ap head_of c.in-Var-term_at-2.ensures.shown) g

pub returns-in-Int-term_at-2 : goal.returns-in-Int-term_at-2
returns-in-Int-term_at-2 c = λ g closing h.
    head_not_leaf c.args.bank.now c.args.place.0 c.args.other.now c.args.image.0 c.args.found.now c.in-App.head (term_trees c.args.bank.now c.in-App.args.now)
    c.in-App.ensures.shown.0
    (ap head_of c.in-Int-term_at-2.ensures.shown) g

pub returns-else-is_same_head : goal.returns-else-is_same_head
returns-else-is_same_head c = λ g closing h. elim c.else-is_same_head.branch [
  | else-is_same_head-via-then-is_same_head+else-args-others w ↦
      other_count c.args.bank.now c.args.place.0 c.args.other.now c.args.image.0 c.args.found.now c.in-App.head c.in-App-term_at-2.seen c.in-App.args.now
      c.in-App-term_at-2.others.now
      c.in-App.ensures.shown.0 c.in-App-term_at-2.ensures.shown.0 (search rules) g
  | else-is_same_head-via-else-is_same_head w ↦
      other_head c.args.bank.now c.args.place.0 c.args.other.now c.args.image.0 c.args.found.now c.in-App.head c.in-App-term_at-2.seen
      (term_trees c.args.bank.now c.in-App.args.now)
      (term_trees c.args.other.now c.in-App-term_at-2.others.now) c.in-App.ensures.shown.0 c.in-App-term_at-2.ensures.shown.0 (search rules) g
]

pub meet_variable-requires-clause-inside : goal.meet_variable-requires-clause-inside
meet_variable-requires-clause-inside c = c.requires.image

pub meet_variable-requires-clause-values : goal.meet_variable-requires-clause-values
meet_variable-requires-clause-values c = c.requires.values

pub term_at-requires : goal.term_at-requires
term_at-requires c = c.requires.place

pub term_at-requires-in-Int : goal.term_at-requires-in-Int
term_at-requires-in-Int c = c.requires.image

pub term_at-requires-in-App : goal.term_at-requires-in-App
term_at-requires-in-App c = c.requires.image

pub meet_all-requires-clause-images : goal.meet_all-requires-clause-images
meet_all-requires-clause-images c = c.requires.waiting
