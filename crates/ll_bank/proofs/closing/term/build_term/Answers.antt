use Rattle.std.proofs.lemmas.Result.{IfOk-from_err}
use Rattle.std.proofs.Common.{◌≡◌, ap, sym, subst, ◌∙◌, arith, length, take, ◌-◌, rules}
use Rattle.ll_bank.specs.declared.TermView.TheVariants.{Var as VarView, Int as IntView}
use Rattle.ll_bank.specs.Term.{applies_heads}
use Rattle.ll_bank.specs.Nodes.{term_tree, term_trees, AllInTerms, ShowsTerm, node_of_term}
use Rattle.ll_bank.specs.Opened.{term_parts, term_parts_at}
use Rattle.ll_bank.proofs.Trees.{Extends-refl}
use Rattle.ll_bank.proofs.PartLemmas.{node_seen, opened_app}
use Rattle.ll_bank.specs.Closing.{env_in, under}
use Rattle.ll_bank.proofs.closes.Stacks.{take_none}
use Rattle.ll_bank.proofs.closes.Parts.{args_made, args_count}
use Rattle.ll_bank.proofs.closing.term.build_term.Goals as goal

pub overflow_sub-from : goal.overflow_sub-from
overflow_sub-from c =
    let bank = c.args.bank.now in
    let env = env_in bank c.args.values in
    let f = args_made bank env c.args.task.place c.args.task.level c.in-App.head c.in-App.args.now c.in-App.ensures.node c.requires.parts in
    let l = f.enough in
    omega arith

pub closed_head-requires-clause-places : goal.closed_head-requires-clause-places
closed_head-requires-clause-places c =
    let bank = c.args.bank.now in
    let env = env_in bank c.args.values in
    let f = args_made bank env c.args.task.place c.args.task.level c.in-App.head c.in-App.args.now c.in-App.ensures.node c.requires.parts in
    subst (AllInTerms bank) (sym (f.read c.deref.result.now _ c.deref.ensures.value (search rules))) f.inside

pub closed_head-requires-clause-heads : goal.closed_head-requires-clause-heads
closed_head-requires-clause-heads c =
    let bank = c.args.bank.now in
    let env = env_in bank c.args.values in
    let f = args_made bank env c.args.task.place c.args.task.level c.in-App.head c.in-App.args.now c.in-App.ensures.node c.requires.parts in
    let s = f.read c.deref.result.now _ c.deref.ensures.value (search rules) in
    sym (ap applies_heads (opened_app (under env c.args.task.level) (term_tree bank c.args.task.place) c.in-App.head (term_trees bank c.in-App.args.now) _
    c.in-App.ensures.shown.0 (ap (term_trees bank) s ∙ f.closed))) ∙ c.requires.heads

pub returns-in-Var-clause-made : goal.returns-in-Var-clause-made
returns-in-Var-clause-made c =
    take_none c.args.made.now.items (term_parts_at c.args.bank.now (c.args.task.place, c.args.task.level))
    (ap (λ node. term_parts node c.args.task.level) (node_seen c.args.bank.now c.args.task.place (node_of_term (VarView c.in-Var.field-0))
    c.in-Var.ensures.node))

pub returns-in-Var-clause-keeps : goal.returns-in-Var-clause-keeps
returns-in-Var-clause-keeps c = Extends-refl c.args.bank.now

pub returns-in-Int-clause-made : goal.returns-in-Int-clause-made
returns-in-Int-clause-made c =
    take_none c.args.made.now.items (term_parts_at c.args.bank.now (c.args.task.place, c.args.task.level))
    (ap (λ node. term_parts node c.args.task.level) (node_seen c.args.bank.now c.args.task.place (node_of_term (IntView c.in-Int.field-0))
    c.in-Int.ensures.node))

pub returns-in-Int-clause-keeps : goal.returns-in-Int-clause-keeps
returns-in-Int-clause-keeps c = Extends-refl c.args.bank.now

pub returns-in_ok-image-in-App-clause-shows : goal.returns-in_ok-image-in-App-clause-shows
returns-in_ok-image-in-App-clause-shows c =
    let bank = c.args.bank.now in
    let env = env_in bank c.args.values in
    let f = args_made bank env c.args.task.place c.args.task.level c.in-App.head c.in-App.args.now c.in-App.ensures.node c.requires.parts in
    let s = f.read c.deref.result.now _ c.deref.ensures.value (search rules) in
    subst (λ t. ShowsTerm c.closed_head.new.bank c.in_ok-image-in-App.image.0 t)
    (sym (opened_app (under env c.args.task.level) (term_tree bank c.args.task.place) c.in-App.head (term_trees bank c.in-App.args.now) _
    c.in-App.ensures.shown.0 (ap (term_trees bank) s ∙ f.closed))) c.in_ok-image-in-App.ensures.shows

pub returns-in_ok-image-in-App-clause-made : goal.returns-in_ok-image-in-App-clause-made
returns-in_ok-image-in-App-clause-made c =
    let n = args_count c.args.bank.now (env_in c.args.bank.now c.args.values) c.args.task.place c.args.task.level c.in-App.head c.in-App.args.now
    c.in-App.ensures.node in
    let q : c.len.result - length c.in-App.args.now ≡ length c.args.made.now.items - length c.in-App.args.now = search rules in
    c.truncate.ensures.items ∙ ap (λ m. take m c.args.made.now.items) (q ∙ ap (λ m. length c.args.made.now.items - m) (sym n))

pub returns-in_err-image-in-App-clause-shows : goal.returns-in_err-image-in-App-clause-shows
returns-in_err-image-in-App-clause-shows c = IfOk-from_err c.from_residual.result _ c.from_residual.ensures.0

pub returns-in_err-image-in-App-clause-made : goal.returns-in_err-image-in-App-clause-made
returns-in_err-image-in-App-clause-made c = IfOk-from_err c.from_residual.result _ c.from_residual.ensures.0

pub closed_head-requires-clause-inside : goal.closed_head-requires-clause-inside
closed_head-requires-clause-inside c = c.requires.inside

pub closed_head-requires-clause-values : goal.closed_head-requires-clause-values
closed_head-requires-clause-values c = c.requires.values
