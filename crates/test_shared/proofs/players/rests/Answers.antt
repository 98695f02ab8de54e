use Rattle.std.proofs.Common.{◌≡◌, sym, ap, ◌∙◌}
use Rattle.std.proofs.lemmas.Bool.{false≢true, eqb-true}
use Rattle.ll_laws.specs.CoreEvents.{Overview}
use Rattle.ll_laws.specs.Sound.{is_open}
use Rattle.ll_core.proofs.CallerLemmas.{closed_all}
use Rattle.test_shared.proofs.players.rests.Goals as goal

pub returns : goal.returns
returns c = λ t i x e o w.
    let seen = c.look.ensures.event in
    let busy : c.args.pool.now.busy ≡ 0 = sym (ap (λ (v : Overview). v.busy) seen.0) ∙ eqb-true c.look.result.busy 0 t in
    false≢true (sym (closed_all _ c.args.pool.now c.look.ensures.shaped busy i x e) ∙ ap is_open o)
