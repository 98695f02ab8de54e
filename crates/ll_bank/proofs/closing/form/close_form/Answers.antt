use Rattle.std.proofs.Common.{ap, sym, subst, ◌∙◌}
use Rattle.std.specs.Prelude.{IfOk}
use Rattle.std.proofs.lemmas.Result.{IfOk-from_err, IfOk-weaker}
use Rattle.ll_bank.specs.Form.{Atom, close_form, form_applies_heads}
use Rattle.ll_bank.specs.Nodes.{form_tree, ShowsForm}
use Rattle.ll_bank.proofs.Trees.{Extends-refl, Extends-trans, HasForm-extends}
use Rattle.ll_bank.specs.Closing.{env_in}
use Rattle.ll_bank.proofs.closes.Values.{HasValues-extends, form_empty}
use Rattle.ll_bank.proofs.closes.Steps.{form_heads_kept, form_shown}
use Rattle.ll_bank.proofs.closing.form.close_form.Goals as goal

pub returns-then-count-eq0-clause-shows : goal.returns-then-count-eq0-clause-shows
returns-then-count-eq0-clause-shows c =
    record {
      inside = c.requires.inside;
      tree = sym (form_empty (env_in c.args.bank.now c.args.values) (form_tree c.args.bank.now c.args.form.0)
          (sym (c.count.ensures c.args.bank.now) ∙ c.if-count-eq0.true));
    }

pub returns-then-count-eq0-clause-keeps : goal.returns-then-count-eq0-clause-keeps
returns-then-count-eq0-clause-keeps c =
    Extends-refl c.args.bank.now

pub form_at-requires : goal.form_at-requires
form_at-requires c = c.requires.inside

pub close_term-requires-clause-inside : goal.close_term-requires-clause-inside
close_term-requires-clause-inside c = c.in-Atom.ensures.shown.parts

pub close_term-requires-clause-values : goal.close_term-requires-clause-values
close_term-requires-clause-values c = c.requires.values

pub close_term-requires-clause-heads : goal.close_term-requires-clause-heads
close_term-requires-clause-heads c =
    let env = env_in c.args.bank.now c.args.values in
    sym (ap (λ f. form_applies_heads (close_form env f)) c.in-Atom.ensures.shown.tree) ∙ c.requires.heads

pub returns-in_err-atom-in-Atom-clause-shows : goal.returns-in_err-atom-in-Atom-clause-shows
returns-in_err-atom-in-Atom-clause-shows c = IfOk-from_err c.from_residual.result _ c.from_residual.ensures.0

pub returns-in_err-atom-in-Atom-clause-keeps : goal.returns-in_err-atom-in-Atom-clause-keeps
returns-in_err-atom-in-Atom-clause-keeps c = c.close_term.ensures.keeps

pub share_form-requires-clause-inside : goal.share_form-requires-clause-inside
share_form-requires-clause-inside c = HasForm-extends c.close_term.ensures.keeps c.args.form.0 c.requires.inside

pub share_form-requires-clause-parts : goal.share_form-requires-clause-parts
share_form-requires-clause-parts c = c.in_ok-atom-in-Atom.ensures.shows.inside

pub close_deep-requires : goal.close_deep-requires
close_deep-requires c =
    let more = c.closed_flat.ensures.keeps in
    record {
      inside = HasForm-extends more c.args.form.0 c.requires.inside;
      values = HasValues-extends more c.args.values c.requires.values;
      heads = form_heads_kept c.args.bank.now c.closed_flat.new.bank more c.args.values c.requires.values (c.args.form.0, 0) c.requires.inside
          c.requires.heads;
    }

pub returns-in_ok-atom-in-Atom-clause-shows : goal.returns-in_ok-atom-in-Atom-clause-shows
returns-in_ok-atom-in-Atom-clause-shows c =
    let env = env_in c.args.bank.now c.args.values in
    subst (λ f. IfOk c.share_form.result (λ made. ShowsForm c.share_form.new.bank made.0 f))
    (ap Atom c.in_ok-atom-in-Atom.ensures.shows.tree ∙ sym (ap (close_form env) c.in-Atom.ensures.shown.tree)) c.share_form.ensures.shows

pub returns-in_ok-atom-in-Atom-clause-keeps : goal.returns-in_ok-atom-in-Atom-clause-keeps
returns-in_ok-atom-in-Atom-clause-keeps c = Extends-trans c.close_term.ensures.keeps c.share_form.ensures.keeps

pub returns-in-None : goal.returns-in-None
returns-in-None c =
    let more = c.closed_flat.ensures.keeps in
    record {
      shows = IfOk-weaker c.close_deep.result _ _ (λ made h. form_shown c.args.bank.now c.closed_flat.new.bank more c.args.values c.requires.values
          (c.args.form.0, 0) c.close_deep.new.bank made.0 c.requires.inside h) c.close_deep.ensures.shows;
      keeps = Extends-trans more c.close_deep.ensures.keeps;
    }
