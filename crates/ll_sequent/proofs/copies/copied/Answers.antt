use Rattle.std.proofs.Common.{◌<◌, List, length, subst, sym, ap, ◌∙◌, arith}
use Rattle.std.proofs.lemmas.Result.{IfOk-weaker, IfOk-from_err}
use Rattle.std.proofs.lemmas.List.Elements.{All-weaker}
use Rattle.ll_bank.specs.declared.At.{At}
use Rattle.ll_bank.specs.Term.{app}
use Rattle.ll_bank.specs.Nodes.{term_trees, AllInTerms}
use Rattle.ll_bank.proofs.CallerLemmas.{Extends-refl}
use Rattle.ll_sequent.proofs.CopyLemmas.{copies_inside, copied_inside, copied_trees}
use Rattle.ll_sequent.proofs.copies.copied.Goals as goal

pub returns-in_err-put_copies-in-App-clause-keeps : goal.returns-in_err-put_copies-in-App-clause-keeps
returns-in_err-put_copies-in-App-clause-keeps c = Extends-refl c.args.bank.now

pub app-requires : goal.app-requires
app-requires c =
    let below = All-weaker (λ (a : At). a.0 < c.args.at.0) (λ (a : At). a.0 < length c.args.copies.now) (λ a h. let n = c.requires.next in
    omega arith) c.in-App.places.now c.in-App.ensures.shown.1 in
    let P : List At → Type 0 = AllInTerms c.args.bank.now in
    subst P (sym (c.deref.ensures.value ∙ c.in_ok-put_copies-in-App.ensures))
    (copied_inside c.args.bank.now c.args.copies.now c.in-App.places.now (copies_inside c.args.terms.now c.args.bank.now c.args.copies.now c.requires.copies)
    below)

pub returns-in_ok-put_copies-in-App-clause-shows : goal.returns-in_ok-put_copies-in-App-clause-shows
returns-in_ok-put_copies-in-App-clause-shows c =
    let below = All-weaker (λ (a : At). a.0 < c.args.at.0) (λ (a : At). a.0 < length c.args.copies.now) (λ a h. let n = c.requires.next in
    omega arith) c.in-App.places.now c.in-App.ensures.shown.1 in
    let trees = ap (term_trees c.args.bank.now) (c.deref.ensures.value ∙ c.in_ok-put_copies-in-App.ensures)
    ∙ copied_trees c.args.terms.now c.args.bank.now c.args.copies.now c.requires.copies c.in-App.places.now below in
    let same = ap (λ ts. app c.in-App.head ts) trees ∙ sym c.in-App.ensures.shown.0 in
    IfOk-weaker c.app.result _ _ (λ a h. record { inside = h.inside; tree = h.tree ∙ same }) c.app.ensures.shows

pub returns-in_err-put_copies-in-App-clause-shows : goal.returns-in_err-put_copies-in-App-clause-shows
returns-in_err-put_copies-in-App-clause-shows c = IfOk-from_err c.from_residual.result _ c.from_residual.ensures.0
