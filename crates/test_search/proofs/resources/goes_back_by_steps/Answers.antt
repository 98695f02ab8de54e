use Rattle.std.proofs.Common.{◌≡◌, ℕ, ap, ◌∙◌, arith}
use Rattle.ll_resources.specs.Resources.{Resources}
use Rattle.ll_resources.specs.History.{History, state_at}
use Rattle.test_search.proofs.resources.goes_back_by_steps.Goals as goal

pub undo-requires-2 : goal.undo-requires-2
undo-requires-2 g c =
    let mark = c.mark-loaded.result in
    let erased = (c.erase.ensures.marks mark c.mark-loaded.ensures.good).good in
    let closed = (c.close.ensures.marks mark erased).good in
    let undone = (c.undo.ensures.marks mark (c.mark-erased.ensures.last mark erased) closed).good in
    (c.bang.ensures.marks mark undone).good

pub load-requires-2 : goal.load-requires-2
load-requires-2 g c =
    let mark = c.mark-loaded.result in
    let erased = c.erase.ensures.marks mark c.mark-loaded.ensures.good in
    let closed = c.close.ensures.marks mark erased.good in
    let undone = c.undo.ensures.marks mark (c.mark-erased.ensures.last mark erased.good) closed.good in
    let banged = c.bang.ensures.marks mark undone.good in
    let same : c.undo-2.new.self.present ≡ c.load.new.self.present =
    c.undo-2.ensures.state ∙ (banged.state ∙ (undone.state ∙ (closed.state ∙ (erased.state ∙ c.mark-loaded.ensures.state)))) in
    let loaded = ap (λ (r : Resources ℕ). r.next) c.in_ok-load.ensures.loaded in
    let started = ap (λ (h : History ℕ). h.present.next) c.in_ok-context.ensures in
    let next = ap (λ (r : Resources ℕ). r.next) same in
    omega (arith, loaded, started, next)
