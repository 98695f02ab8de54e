use Rattle.std.proofs.lemmas.Result.{IfOk-from_err}
use Rattle.std.proofs.Common.{ap, ◌∙◌, sym, arith, [], ◌∷◌, ◌++◌, map, Some}
use Rattle.std.specs.Prelude.{Option}
use Rattle.std.specs.BTreeMap.{get}
use Rattle.std.proofs.lemmas.List.{map-append, map_more, take_all}
use Rattle.ll_bank.specs.declared.At.{At}
use Rattle.ll_bank.specs.Instantiated.{by_spot}
use Rattle.std.proofs.Common.{refl}
use Rattle.ll_list_laws.proofs.CallerLemmas.{fewer_left}
use Rattle.ll_bank.proofs.open.term_images.Goals as goal

pub loop-term-preserved : goal.loop-term-preserved
loop-term-preserved c =
    ap (map (λ (v : At). let o : Option At = Some v in o)) c.in_ok-push.ensures.items
    ∙ (map-append (λ (v : At). let o : Option At = Some v in o) c.loop-term.found.items (c.term_image.result ∷ [])
    ∙ ((λ j. c.loop-term.invariant j ++ sym c.term_image.ensures j ∷ [])
    ∙ sym (map_more (λ (a : At). get by_spot c.args.images.now (a.0, c.args.level)) c.args.terms.now c.loop-term.term-index (record { 0 = 0 })
    (omega arith))))

pub returns-in_err-push : goal.returns-in_err-push
returns-in_err-push c = IfOk-from_err c.from_residual.result _ c.from_residual.ensures.0

pub loop-term-init : goal.loop-term-init
loop-term-init c = rw c.new-found.ensures.items refl

pub term_image-requires : goal.term_image-requires
term_image-requires c = c.requires c.loop-term.term-index (record { 0 = 0 }) c.loop-term-test.true

pub loop-term-smaller : goal.loop-term-smaller
loop-term-smaller c = fewer_left _ _ c.loop-term-test.true

pub returns : goal.returns
returns c =
    c.loop-term.invariant
    ∙ ap (map (λ (a : At). get by_spot c.args.images.now (a.0, c.args.level))) (take_all c.loop-term.term-index c.args.terms.now c.loop-term-test.false)
