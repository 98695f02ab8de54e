use Rattle.std.proofs.lemmas.Result.{IfOk-from_err}
use Rattle.std.proofs.Common.{ap, sym, subst, ◌∙◌, ◌++◌, true≢false}
use Rattle.std.specs.Prelude.{IfOk}
use Rattle.ll_bank.specs.Term.{is_spine}
use Rattle.ll_bank.specs.Nodes.{term_tree, ShowsTerm}
use Rattle.ll_bank.proofs.Trees.{Extends-refl}
use Rattle.ll_bank.proofs.PartLemmas.{spine_of_value, more_args}
use Rattle.ll_bank.proofs.open.put_value.Goals as goal

pub returns-then-is_empty-clause-keeps : goal.returns-then-is_empty-clause-keeps
returns-then-is_empty-clause-keeps c =
    Extends-refl c.args.bank.now

pub unreachable-requires : goal.unreachable-requires
unreachable-requires c =
    true≢false (sym (spine_of_value c.args.bank.now (term_tree c.args.bank.now c.args.value.0) c.args.args.now (sym c.is_empty.ensures ∙ c.if-is_empty.false)
    c.requires.heads) ∙ ap is_spine c.in-Var.ensures.shown)

pub unreachable-requires-in-Int : goal.unreachable-requires-in-Int
unreachable-requires-in-Int c =
    true≢false (sym (spine_of_value c.args.bank.now (term_tree c.args.bank.now c.args.value.0) c.args.args.now (sym c.is_empty.ensures ∙ c.if-is_empty.false)
    c.requires.heads) ∙ ap is_spine c.in-Int.ensures.shown)

pub returns-in_err-all-in-App-clause-keeps : goal.returns-in_err-all-in-App-clause-keeps
returns-in_err-all-in-App-clause-keeps c =
    Extends-refl c.args.bank.now

pub returns-in_err-extend_from_slice-in-App-clause-keeps : goal.returns-in_err-extend_from_slice-in-App-clause-keeps
returns-in_err-extend_from_slice-in-App-clause-keeps c =
    Extends-refl c.args.bank.now

pub returns-clause-shows : goal.returns-clause-shows
returns-clause-shows c =
    subst (λ t. IfOk c.app.result (λ image. ShowsTerm c.app.new.self image.0 t))
    (more_args c.args.bank.now (term_tree c.args.bank.now c.args.value.0) c.in-App.head c.in-App.own.now c.args.args.now c.deref.result.now
    c.in-App.ensures.shown.0 (c.deref.ensures.value ∙ (c.in_ok-extend_from_slice-in-App.ensures.items
    ∙ ap (λ xs. xs ++ c.args.args.now) c.in_ok-all-in-App.ensures.items))) c.app.ensures.shows

pub returns-in_err-all-in-App-clause-shows : goal.returns-in_err-all-in-App-clause-shows
returns-in_err-all-in-App-clause-shows c = IfOk-from_err c.from_residual.result _ c.from_residual.ensures.0

pub returns-in_err-extend_from_slice-in-App-clause-shows : goal.returns-in_err-extend_from_slice-in-App-clause-shows
returns-in_err-extend_from_slice-in-App-clause-shows c =
    IfOk-from_err c.from_residual-in_err-extend_from_slice-in-App.result _ c.from_residual-in_err-extend_from_slice-in-App.ensures.0

pub term_at-requires : goal.term_at-requires
term_at-requires c = c.requires.value

pub returns-clause-keeps : goal.returns-clause-keeps
returns-clause-keeps c = c.app.ensures.keeps
