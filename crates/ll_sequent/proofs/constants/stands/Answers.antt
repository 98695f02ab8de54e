use Rattle.std.proofs.Common.{ℕ, Bool, ◌||◌}
use Rattle.std.proofs.lemmas.Result.{IfOk-from_err}
use Rattle.ll_list_laws.proofs.CallerLemmas.{IfOk-each}
use Rattle.std.specs.Ordering.{nat_cmp}
use Rattle.std.specs.BTreeSet.{contains}
use Rattle.ll_bank.specs.Nodes.{form_tree}
use Rattle.ll_bank.specs.Form.{form_has_eigen}
use Rattle.ll_bank.proofs.CallerLemmas.{none_in}
use Rattle.ll_sequent.specs.Constants.{is_in_each, forms_of}
use Rattle.ll_sequent.proofs.ConstantLemmas.{gathers_both, found_in}
use Rattle.ll_sequent.proofs.constants.stands.Goals as goal

pub is_in_terms-requires : goal.is_in_terms-requires
is_in_terms-requires c =
    c.in_ok-gather_all-2.ensures.inside (c.in_ok-gather_all.ensures.inside
    (c.in_ok-gather.ensures.inside (λ k e. absurd (none_in c.new-terms.result.keys c.new-terms.ensures.len k e))))

pub returns : goal.returns
returns c =
    let bank = c.args.bank.now in
    let old = contains nat_cmp c.new-terms.result in
    let one = contains nat_cmp c.gather.new.terms in
    let two = contains nat_cmp c.gather_all.new.terms in
    let three = contains nat_cmp c.gather_all-2.new.terms in
    let goal_has : ℕ → Bool = λ k. form_has_eigen k (form_tree bank c.args.goal.0) in
    let free_has : ℕ → Bool = λ k. is_in_each k bank (forms_of c.args.free.now) in
    let bounded_has : ℕ → Bool = λ k. is_in_each k bank (forms_of c.args.bounded.now) in
    let g = gathers_both bank old one three goal_has (λ k. free_has k || bounded_has k) c.in_ok-gather.ensures
    (gathers_both bank one two three free_has bounded_has c.in_ok-gather_all.ensures c.in_ok-gather_all-2.ensures) in
    IfOk-each c.is_in_terms.result _ _ (λ found among.
    found_in c.args.constant bank old three (λ k. goal_has k || (free_has k || bounded_has k)) found g
    (λ k e. none_in c.new-terms.result.keys c.new-terms.ensures.len k e) among) c.is_in_terms.ensures

pub returns-in_err-gather : goal.returns-in_err-gather
returns-in_err-gather c = IfOk-from_err c.from_residual.result _ c.from_residual.ensures.0

pub returns-in_err-gather_all : goal.returns-in_err-gather_all
returns-in_err-gather_all c = IfOk-from_err c.from_residual-in_err-gather_all.result _ c.from_residual-in_err-gather_all.ensures.0

pub returns-in_err-gather_all-2 : goal.returns-in_err-gather_all-2
returns-in_err-gather_all-2 c = IfOk-from_err c.from_residual-in_err-gather_all-2.result _ c.from_residual-in_err-gather_all-2.ensures.0
