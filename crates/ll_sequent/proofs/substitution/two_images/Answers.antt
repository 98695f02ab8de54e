use Rattle.std.proofs.Common.{subst, List}
use Rattle.std.proofs.lemmas.Result.{IfOk-from_err}
use Rattle.ll_bank.specs.Term.{Term, sub}
use Rattle.ll_bank.specs.Nodes.{term_tree, term_trees, ShowsTerm}
use Rattle.ll_bank.proofs.CallerLemmas.{Extends-refl, Extends-trans, HasTerm-extends, AllInTerms-extends, ShowsTerm-extends}
use Rattle.ll_bank.proofs.CallerLemmas.{term_tree-extends, term_trees-extends}
use Rattle.ll_sequent.specs.Starting.{values}
use Rattle.ll_sequent.proofs.Substitutions.{terms_now, terms_then}
use Rattle.ll_sequent.proofs.substitution.two_images.Goals as goal

pub term_image-requires-2-clause-terms : goal.term_image-requires-2-clause-terms
term_image-requires-2-clause-terms c =
    terms_now c.args.bank.now c.term_image.new.bank c.term_image.new.bank c.term_image.ensures.keeps (Extends-refl c.term_image.new.bank) c.args.values.now
    c.requires.values c.term_image.new.terms.items c.in_ok-first.ensures.terms

pub returns-clause-left : goal.returns-clause-left
returns-clause-left c = ShowsTerm-extends c.term_image-2.ensures.keeps c.in_ok-first.ensures.shows

pub returns-clause-right : goal.returns-clause-right
returns-clause-right c =
    let P : List Term → Type 0 = λ ts. ShowsTerm c.term_image-2.new.bank c.in_ok-second.second.0 (sub (values ts) (term_tree c.args.bank.now c.args.right.0)) in
    let Q : Term → Type 0 = λ t. ShowsTerm c.term_image-2.new.bank c.in_ok-second.second.0 (sub (values (term_trees c.term_image.new.bank c.args.values.now)) t)
    in
    subst P (term_trees-extends c.term_image.ensures.keeps c.args.values.now c.requires.values)
    (subst Q (term_tree-extends c.term_image.ensures.keeps c.args.right.0 c.requires.right) c.in_ok-second.ensures.shows)

pub returns-clause-terms : goal.returns-clause-terms
returns-clause-terms c =
    terms_then c.args.bank.now c.term_image.new.bank c.term_image-2.new.bank c.term_image.ensures.keeps c.term_image-2.ensures.keeps c.args.values.now
    c.requires.values c.term_image-2.new.terms.items c.in_ok-second.ensures.terms

pub term_image-requires-2-clause-term : goal.term_image-requires-2-clause-term
term_image-requires-2-clause-term c = HasTerm-extends c.term_image.ensures.keeps c.args.right.0 c.requires.right

pub term_image-requires-2-clause-values : goal.term_image-requires-2-clause-values
term_image-requires-2-clause-values c = AllInTerms-extends c.term_image.ensures.keeps c.args.values.now c.requires.values

pub returns-in_err-first-clause-keeps : goal.returns-in_err-first-clause-keeps
returns-in_err-first-clause-keeps c = c.term_image.ensures.keeps

pub returns-in_err-second-clause-keeps : goal.returns-in_err-second-clause-keeps
returns-in_err-second-clause-keeps c = Extends-trans c.term_image.ensures.keeps c.term_image-2.ensures.keeps

pub returns-clause-keeps : goal.returns-clause-keeps
returns-clause-keeps c = Extends-trans c.term_image.ensures.keeps c.term_image-2.ensures.keeps

pub returns-in_err-first-clause-left : goal.returns-in_err-first-clause-left
returns-in_err-first-clause-left c = IfOk-from_err c.from_residual.result _ c.from_residual.ensures.0

pub returns-in_err-first-clause-right : goal.returns-in_err-first-clause-right
returns-in_err-first-clause-right c = IfOk-from_err c.from_residual.result _ c.from_residual.ensures.0

pub returns-in_err-first-clause-terms : goal.returns-in_err-first-clause-terms
returns-in_err-first-clause-terms c = IfOk-from_err c.from_residual.result _ c.from_residual.ensures.0

pub returns-in_err-second-clause-left : goal.returns-in_err-second-clause-left
returns-in_err-second-clause-left c = IfOk-from_err c.from_residual-in_err-second.result _ c.from_residual-in_err-second.ensures.0

pub returns-in_err-second-clause-right : goal.returns-in_err-second-clause-right
returns-in_err-second-clause-right c = IfOk-from_err c.from_residual-in_err-second.result _ c.from_residual-in_err-second.ensures.0

pub returns-in_err-second-clause-terms : goal.returns-in_err-second-clause-terms
returns-in_err-second-clause-terms c = IfOk-from_err c.from_residual-in_err-second.result _ c.from_residual-in_err-second.ensures.0

pub term_image-requires-clause-values : goal.term_image-requires-clause-values
term_image-requires-clause-values c = c.requires.values

pub term_image-requires-clause-terms : goal.term_image-requires-clause-terms
term_image-requires-clause-terms c = c.requires.terms
