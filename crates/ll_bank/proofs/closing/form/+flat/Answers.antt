use Rattle.std.proofs.Common.{◌+◌, add-one, ap, sym, subst, ◌∙◌, rules}
use Rattle.std.specs.Prelude.{IfOk, IfSome}
use Rattle.std.proofs.lemmas.Bool.{and_parts}
use Rattle.ll_bank.specs.Form.{Form, Forall, Exists, close_form, form_applies_heads}
use Rattle.ll_bank.specs.Nodes.{form_tree, ShowsForm}
use Rattle.ll_bank.proofs.Trees.{Extends-refl, HasForm-extends}
use Rattle.ll_bank.specs.Closing.{env_in, under}
use Rattle.ll_bank.proofs.closes.Values.{HasValues-extends}
use Rattle.ll_bank.proofs.closes.Steps.{form_heads_kept, form_shown}
use Rattle.ll_bank.proofs.closing.form.+flat.Goals as goal

pub closed_flat-returns-then-depth-eq0-clause-keeps : goal.closed_flat-returns-then-depth-eq0-clause-keeps
closed_flat-returns-then-depth-eq0-clause-keeps t c = Extends-refl c.args.bank.now

pub closed_flat-returns-in-Top-clause-keeps : goal.closed_flat-returns-in-Top-clause-keeps
closed_flat-returns-in-Top-clause-keeps t c = Extends-refl c.args.bank.now

pub closed_flat-returns-in-One-clause-keeps : goal.closed_flat-returns-in-One-clause-keeps
closed_flat-returns-in-One-clause-keeps t c = Extends-refl c.args.bank.now

pub closed_pair-closed_flat-requires-2 : goal.closed_pair-closed_flat-requires-2
closed_pair-closed_flat-requires-2 t c =
    let first = c.args.bank.now in
    let env = env_in first c.args.values in
    let image : Form → _ = λ f. close_form (under env c.args.level) f in
    let more = c.closed_flat.ensures.keeps in
    let inside = HasForm-extends more c.args.right.0 c.requires.right in
    let values = HasValues-extends more c.args.values c.requires.values in
    let heads = form_heads_kept first c.closed_flat.new.bank more c.args.values c.requires.values (c.args.right.0, c.args.level) c.requires.right
    (and_parts (form_applies_heads (image (form_tree first c.args.left.0))) (form_applies_heads (image (form_tree first c.args.right.0))) c.requires.heads).1 in
    search rules

pub closed_pair-returns-in-Some-2-clause-right : goal.closed_pair-returns-in-Some-2-clause-right
closed_pair-returns-in-Some-2-clause-right t c =
    let first = c.args.bank.now in
    let now = c.closed_flat.new.bank in
    let next = c.closed_flat-2.new.bank in
    let here = subst (λ made. IfSome made (λ image. ShowsForm next image.0 (close_form (under (env_in now c.args.values) c.args.level)
    (form_tree now c.args.right.0)))) c.in-Some-2.is c.in_ok-second.ensures.shows in
    form_shown first now c.closed_flat.ensures.keeps c.args.values c.requires.values (c.args.right.0, c.args.level) next c.in-Some-2.second.0
    c.requires.right here

pub closed_under-returns-in-Some-2-clause-shows : goal.closed_under-returns-in-Some-2-clause-shows
closed_under-returns-in-Some-2-clause-shows t c =
    let bank = c.args.bank.now in
    let env = env_in bank c.args.values in
    let level = c.args.level in
    let body = form_tree bank c.in-Forall.f.0 in
    let here = subst (λ made. IfSome made (λ image. ShowsForm c.closed_flat-in-Forall.new.bank image.0 (close_form (under env (level + 1)) body)))
    c.in-Some-2.is c.in_ok-part-in-Forall.ensures.shows in
    subst (λ u. IfOk c.some_shared-in-Some-2.result (λ made. IfSome made (λ image. ShowsForm c.some_shared-in-Some-2.new.bank image.0 u)))
    (ap Forall here.tree ∙ sym (ap (close_form (under env level)) c.in-Forall.ensures.shown.tree
    ∙ ap (λ m. Forall (close_form (under env m) body)) (sym (add-one level)))) c.some_shared-in-Some-2.ensures.shows

pub closed_under-returns-in-Some-3-clause-shows : goal.closed_under-returns-in-Some-3-clause-shows
closed_under-returns-in-Some-3-clause-shows t c =
    let bank = c.args.bank.now in
    let env = env_in bank c.args.values in
    let level = c.args.level in
    let body = form_tree bank c.in-Exists.f.0 in
    let here = subst (λ made. IfSome made (λ image. ShowsForm c.closed_flat-in-Exists.new.bank image.0 (close_form (under env (level + 1)) body)))
    c.in-Some-3.is c.in_ok-part-in-Exists.ensures.shows in
    subst (λ u. IfOk c.some_shared-in-Some-3.result (λ made. IfSome made (λ image. ShowsForm c.some_shared-in-Some-3.new.bank image.0 u)))
    (ap Exists here.tree ∙ sym (ap (close_form (under env level)) c.in-Exists.ensures.shown.tree
    ∙ ap (λ m. Exists (close_form (under env m) body)) (sym (add-one level)))) c.some_shared-in-Some-3.ensures.shows

pub closed_under-returns-in_default : goal.closed_under-returns-in_default
closed_under-returns-in_default t c = record { shows = _; keeps = Extends-refl c.args.bank.now }
