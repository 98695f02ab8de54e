use Rattle.std.proofs.Common.{◌<◌, [], length, map, subst, sym, ap, ◌∙◌}
use Rattle.std.proofs.lemmas.Result.{IfOk-from_err}
use Rattle.std.proofs.lemmas.List.{take_all}
use Rattle.std.specs.String.{string_bytes}
use Rattle.ll_laws.specs.declared.Module.{Module}
use Rattle.std.proofs.lemmas.Option.{get_or_from_slice_get}
use Rattle.ll_polarity.specs.Numbered.{text_of}
use Rattle.ll_polarity.proofs.problems.QueryParts.{texts_more}
use Rattle.ll_polarity.proofs.asking.module_texts.Goals as goal

pub loop-module-preserved : goal.loop-module-preserved
loop-module-preserved c =
    let item = c.module-item.result in
    texts_more (λ m. text_of c.args.names.now m.name) string_bytes c.args.modules.now c.loop-module.module-index item c.text.result.now
    c.loop-module.texts.items c.push.new.self.items c.in_ok-text.text c.loop-module-test.true c.module-item.is
    (get_or_from_slice_get c.args.names.now item.name c.text.result.now [] c.text.ensures) c.in_ok-text.ensures.ok c.loop-module.invariant
    c.in_ok-push.ensures.items

pub returns-in_err-push : goal.returns-in_err-push
returns-in_err-push c = IfOk-from_err c.from_residual-in_err-push.result _ c.from_residual-in_err-push.ensures.0

pub returns-in_err-text : goal.returns-in_err-text
returns-in_err-text c = IfOk-from_err c.from_residual.result _ c.from_residual.ensures.0

pub text-requires : goal.text-requires
text-requires c =
    subst (λ (m : Module). m.name < length c.args.names.now) (sym c.module-item.is)
    (c.requires c.loop-module.module-index c.module-item.result c.loop-module-test.true)

pub loop-module-init : goal.loop-module-init
loop-module-init c = ap (map string_bytes) c.new-texts.ensures.items

pub returns : goal.returns
returns c =
    c.loop-module.invariant
    ∙ ap (map (λ (m : Module). text_of c.args.names.now m.name)) (take_all c.loop-module.module-index c.args.modules.now c.loop-module-test.false)
