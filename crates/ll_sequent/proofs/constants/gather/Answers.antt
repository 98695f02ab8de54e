use Rattle.std.proofs.Common.{[], ◌∷◌, ◌++◌, ap, sym, ◌∙◌}
use Rattle.std.proofs.lemmas.Result.{IfOk-from_err}
use Rattle.std.specs.Ordering.{nat_cmp}
use Rattle.std.specs.BTreeSet.{contains}
use Rattle.ll_sequent.proofs.FormConstants.{gathering_begins, gathering_on, gathering_ends, form_sizes_less}
use Rattle.ll_sequent.proofs.constants.gather.Goals as goal

pub loop-next-init : goal.loop-next-init
loop-next-init c = gathering_begins c.args.bank.now (contains nat_cmp c.args.terms.now) c.args.form c.push.new.self.items
    (c.in_ok-push.ensures.items ∙ ap (λ xs. xs ++ c.args.form ∷ []) c.new-waiting.ensures.items) c.requires

pub loop-next-smaller : goal.loop-next-smaller
loop-next-smaller c =
    form_sizes_less c.args.bank.now c.args.form.0 (contains nat_cmp c.args.terms.now) (contains nat_cmp c.loop-next.terms)
    (contains nat_cmp c.look_into.new.terms) c.loop-next.waiting.items
    c.pop.new.self.items c.look_into.new.waiting.items c.in-Some.next c.in-Some.ensures.items c.in_ok-look_into.ensures

pub loop-next-preserved : goal.loop-next-preserved
loop-next-preserved c =
    gathering_on c.args.bank.now c.args.form.0 (contains nat_cmp c.args.terms.now) (contains nat_cmp c.loop-next.terms) (contains nat_cmp c.look_into.new.terms)
    c.loop-next.waiting.items
    c.pop.new.self.items c.look_into.new.waiting.items c.in-Some.next c.in-Some.ensures.items c.in_ok-look_into.ensures c.loop-next.invariant

pub returns : goal.returns
returns c = gathering_ends c.args.bank.now c.args.form.0 (contains nat_cmp c.args.terms.now) (contains nat_cmp c.loop-next.terms) c.loop-next.waiting.items
    (sym c.loop-next.waiting.ok.0 ∙ c.in_default.ensures.cases.0) c.loop-next.invariant

pub returns-in_err-push : goal.returns-in_err-push
returns-in_err-push c = IfOk-from_err c.from_residual.result _ c.from_residual.ensures.0

pub returns-in_err-look_into : goal.returns-in_err-look_into
returns-in_err-look_into c = IfOk-from_err c.from_residual-in_err-look_into.result _ c.from_residual-in_err-look_into.ensures.0
