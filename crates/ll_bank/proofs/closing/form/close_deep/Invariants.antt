use Rattle.std.specs.Prelude.{reverse}
use Rattle.std.specs.HashMap.{get}
use Rattle.ll_bank.specs.declared.FormAt.{FormAt}
use Rattle.ll_bank.specs.Nodes.{Extends}
use Rattle.ll_bank.specs.Opened.{AreImages, form_parts_at, form_size_at}
use Rattle.ll_bank.specs.Closing.{env_in, same_spot, IsTermImage, IsFormImage, IsGoodForm}
use Rattle.ll_bank.specs.Stacks.{IsClosing, work_left}
use Rattle.ll_bank.proofs.closing.form.close_deep.Given as goal

abbrev pub invariant-loop-task : goal.invariant-loop-task
invariant-loop-task l = record {
  keeps : Extends l.fn.bank l.bank;
  terms : AreImages (IsTermImage l.bank (env_in l.fn.bank l.values)) (get same_spot l.terms.places);
  forms : AreImages (IsFormImage l.bank (env_in l.fn.bank l.values)) (get same_spot l.forms.places);
  closing : IsClosing (λ k (x : FormAt). IsFormImage l.bank (env_in l.fn.bank l.values) k x.0) (form_parts_at l.fn.bank)
      (IsGoodForm l.fn.bank (env_in l.fn.bank l.values, l.fn.form.0)) (l.fn.form.0, 0) l.made.items l.tasks.items;
}

abbrev pub decreases-loop-task : goal.decreases-loop-task
decreases-loop-task l = work_left (form_size_at l.fn.bank) (reverse l.tasks.items)
