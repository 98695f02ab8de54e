use Rattle.std.proofs.lemmas.Result.{IfOk-from_err}
use Rattle.std.proofs.Common.{[], ◌∷◌, ◌++◌, ap, sym, ◌∙◌, map, take, append_assoc, get_or}
use Rattle.std.proofs.lemmas.List.{append-nil, map_more, take_all}
use Rattle.ll_bank.specs.declared.At.{At}
use Rattle.ll_bank.specs.Instantiated.{visit}
use Rattle.ll_bank.proofs.open.push_arguments.Goals as goal

pub loop-arg-init : goal.loop-arg-init
loop-arg-init c = sym (append-nil c.args.tasks.now.items)

pub loop-arg-preserved : goal.loop-arg-preserved
loop-arg-preserved c =
    let old = c.args.tasks.now.items in let i = c.loop-arg.arg-index in let d : At = record { 0 = 0 } in
    let task = visit ((get_or c.args.args.now i d).0, c.args.level) in
    c.in_ok-push.ensures.items
    ∙ (ap (λ xs. xs ++ task ∷ []) c.loop-arg.invariant
    ∙ (append_assoc old (map (λ (a : At). visit (a.0, c.args.level)) (take i c.args.args.now)) (task ∷ [])
    ∙ ap (λ xs. old ++ xs) (sym (map_more (λ (a : At). visit (a.0, c.args.level)) c.args.args.now i d c.loop-arg-test.true))))

pub returns : goal.returns
returns c =
    c.loop-arg.invariant
    ∙ ap (λ xs. c.args.tasks.now.items ++ map (λ (a : At). visit (a.0, c.args.level)) xs)
    (take_all c.loop-arg.arg-index c.args.args.now c.loop-arg-test.false)

pub returns-in_err-push : goal.returns-in_err-push
returns-in_err-push c = IfOk-from_err c.from_residual.result _ c.from_residual.ensures.0
