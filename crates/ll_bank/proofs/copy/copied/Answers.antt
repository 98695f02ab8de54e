use Rattle.std.proofs.lemmas.Result.{IfOk-from_err}
use Rattle.std.proofs.Common.{◌<◌, ap, sym, subst, ◌∙◌, All, length}
use Rattle.std.specs.Prelude.{IfOk}
use Rattle.std.specs.Ordering.{nat_cmp}
use Rattle.std.specs.BTreeMap.{get}
use Rattle.ll_bank.specs.Term.{app}
use Rattle.ll_bank.specs.Nodes.{term_tree, term_trees, ShowsTerm}
use Rattle.ll_bank.specs.Walk.{ShowsAt}
use Rattle.ll_bank.proofs.Trees.{Extends-refl}
use Rattle.ll_bank.proofs.ImageLemmas.{shown_images, some_images, each_image}
use Rattle.ll_bank.proofs.copy.copied.Goals as goal

pub images_of-requires : goal.images_of-requires
images_of-requires c =
    some_images c.args.bank.now (ShowsAt c.args.other.now) (get nat_cmp c.args.images.now) (term_tree c.args.bank.now) c.args.at.0 c.in-App.head
    c.in-App.args.now c.in-App.ensures.node c.requires.images

pub returns-in_err-args-in-App-clause-keeps : goal.returns-in_err-args-in-App-clause-keeps
returns-in_err-args-in-App-clause-keeps c = Extends-refl c.args.other.now

pub app-requires : goal.app-requires
app-requires c =
    let s = shown_images c.args.other.now (get nat_cmp c.args.images.now) (term_tree c.args.bank.now) c.in-App.args.now c.in_ok-args-in-App.args.items
    c.in_ok-args-in-App.ensures
    (each_image c.args.bank.now (ShowsAt c.args.other.now) (get nat_cmp c.args.images.now) (term_tree c.args.bank.now) c.args.at.0 c.in-App.head
    c.in-App.args.now c.in-App.ensures.node c.requires.images) in
    subst (All (λ a. a.0 < length c.args.other.now.terms)) (sym c.deref.ensures.value) s.0

pub returns-in_ok-args-in-App-clause-shows : goal.returns-in_ok-args-in-App-clause-shows
returns-in_ok-args-in-App-clause-shows c =
    let s = shown_images c.args.other.now (get nat_cmp c.args.images.now) (term_tree c.args.bank.now) c.in-App.args.now c.in_ok-args-in-App.args.items
    c.in_ok-args-in-App.ensures
    (each_image c.args.bank.now (ShowsAt c.args.other.now) (get nat_cmp c.args.images.now) (term_tree c.args.bank.now) c.args.at.0 c.in-App.head
    c.in-App.args.now c.in-App.ensures.node c.requires.images) in
    subst (λ t. IfOk c.app.result (λ copy. ShowsTerm c.app.new.self copy.0 t))
    (ap (λ xs. app c.in-App.head (term_trees c.args.other.now xs)) c.deref.ensures.value ∙ (ap (app c.in-App.head) s.1 ∙ sym c.in-App.ensures.shown.0))
    c.app.ensures.shows

pub returns-in_err-args-in-App-clause-shows : goal.returns-in_err-args-in-App-clause-shows
returns-in_err-args-in-App-clause-shows c = IfOk-from_err c.from_residual.result _ c.from_residual.ensures.0
