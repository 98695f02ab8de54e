use Rattle.std.proofs.Common.{◌+◌, ◌∷◌, map, drop, [], sym, ap, ◌∙◌, slice_index_or, rules}
use Rattle.std.proofs.lemmas.Result.{IfOk-from_err}
use Rattle.std.specs.List.{list_any}
use Rattle.std.specs.Str.{bytes_eq}
use Rattle.std.proofs.lemmas.List.{drop_all}
use Rattle.ll_parser.specs.Nodes.{shown_module}
use Rattle.ll_polarity.specs.Scope.{Binder, Scoped}
use Rattle.ll_polarity.specs.Faults.{modules_faults}
use Rattle.ll_polarity.proofs.faults.Judging.{first-along, head-along, name-repeated, fault-inside, module-done, where-none}
use Rattle.ll_polarity.proofs.judge.fault_among.Goals as goal

pub returns-then-has : goal.returns-then-has
returns-then-has c = λ ms known.
    let earlier = map (λ (b : Binder). b.text) c.loop-module.earlier.scope in
    first-along _ _ _ (sym (c.loop-module.invariant.faults ms known))
    (name-repeated c.args.source.now.names.now c.args.source.now.forms.now ms c.args.modules.now c.loop-module.module-index c.module-item.result
    c.loop-module-test.true c.module-item.is earlier
    (ap (λ ts. list_any (bytes_eq (slice_index_or ts c.module-item.result.name.name [])) earlier) (sym c.loop-module.invariant.texts)
    ∙ (sym c.has.ensures ∙ c.if-has.true)))

pub returns-then-is_some : goal.returns-then-is_some
returns-then-is_some c = λ ms known.
    let earlier = map (λ (b : Binder). b.text) c.loop-module.earlier.scope in
    head-along c.in_ok-fault.fault _ _ (sym (c.loop-module.invariant.faults ms known))
    (fault-inside c.args.source.now.names.now c.args.source.now.forms.now ms c.args.modules.now c.loop-module.module-index c.module-item.result
    c.loop-module-test.true c.module-item.is earlier c.in_ok-fault.fault
    (ap (λ ts. list_any (bytes_eq (slice_index_or ts c.module-item.result.name.name [])) earlier) (sym c.loop-module.invariant.texts)
    ∙ (sym c.has.ensures ∙ c.if-has.false)) (sym c.is_some.ensures ∙ c.if-is_some.true)
    (c.in_ok-fault.ensures.first ms known))

pub loop-module-preserved : goal.loop-module-preserved
loop-module-preserved c =
    let earlier = map (λ (b : Binder). b.text) c.loop-module.earlier.scope in
    let item = c.module-item.result in
    let none = sym c.is_some.ensures ∙ c.if-is_some.false in
    record {
      faults = λ ms known.
          let rest = map (shown_module c.args.source.now.names.now c.args.source.now.forms.now) (drop (c.loop-module.module-index + 1) c.args.modules.now) in
          ap (λ (b : Scoped). modules_faults ms (map (λ (x : Binder). x.text) b.scope) rest) c.in_ok-open.ensures.opened
          ∙ (ap (λ ts. modules_faults ms (slice_index_or ts item.name.name [] ∷ earlier) rest) c.loop-module.invariant.texts
          ∙ (sym (module-done c.args.source.now.names.now c.args.source.now.forms.now ms c.args.modules.now c.loop-module.module-index item
          c.loop-module-test.true c.module-item.is earlier c.in_ok-fault.fault
          (ap (λ ts. list_any (bytes_eq (slice_index_or ts item.name.name [])) earlier) (sym c.loop-module.invariant.texts)
          ∙ (sym c.has.ensures ∙ c.if-has.false)) none (c.in_ok-fault.ensures.first ms known))
          ∙ c.loop-module.invariant.faults ms known));
      texts = ap (λ (b : Scoped). b.texts) c.in_ok-open.ensures.opened ∙ c.loop-module.invariant.texts;
      binders = where-none c.in_ok-fault.fault _ none c.in_ok-fault.ensures.binders ∙ c.loop-module.invariant.binders;
    }

pub returns : goal.returns
returns c = λ ms known.
    sym (c.loop-module.invariant.faults ms known)
    ∙ ap (λ rs. modules_faults ms (map (λ (b : Binder). b.text) c.loop-module.earlier.scope)
    (map (shown_module c.args.source.now.names.now c.args.source.now.forms.now) rs))
    (drop_all c.loop-module.module-index c.args.modules.now c.loop-module-test.false)

pub returns-in_err-fault : goal.returns-in_err-fault
returns-in_err-fault c = IfOk-from_err c.from_residual-in_err-fault.result _ c.from_residual-in_err-fault.ensures.0

pub returns-in_err-open : goal.returns-in_err-open
returns-in_err-open c = IfOk-from_err c.from_residual.result _ c.from_residual.ensures.0

pub loop-module-init : goal.loop-module-init
loop-module-init c = search rules

pub has-requires : goal.has-requires
has-requires c = search rules

pub open-requires : goal.open-requires
open-requires c = search rules
