use Rattle.std.proofs.lemmas.Result.{IfOk-from_err}
use Rattle.std.proofs.Common.{◌≡◌, ◌-◌, length, take, length-append, ap, sym, subst, ◌∙◌, arith, rules}
use Rattle.ll_bank.specs.declared.FormAt.{FormAt}
use Rattle.ll_bank.specs.Opened.{form_parts_at}
use Rattle.ll_bank.specs.Closing.{env_in, IsFormImage}
use Rattle.ll_bank.specs.Stacks.{AreImagesOf}
use Rattle.ll_bank.proofs.closes.Stacks.{images_length, slice_own}
use Rattle.ll_bank.proofs.closing.form.build_form.Goals as goal

pub closed_node-requires-clause-parts : goal.closed_node-requires-clause-parts
closed_node-requires-clause-parts c =
    let bank = c.args.bank.now in
    let env = env_in bank c.args.values in
    let parts = form_parts_at bank (c.args.task.place, c.args.task.level) in
    let p = c.requires.parts in
    let l = images_length (λ k (x : FormAt). IsFormImage bank env k x.0) parts p.own p.images in
    let s = slice_own c.deref.result.now c.args.made.now.items p.below p.own _ c.part_count.result c.deref.ensures.value p.is
    (l ∙ sym (c.part_count.ensures c.args.task.level)) (search rules) in
    subst (AreImagesOf (λ k (x : FormAt). IsFormImage bank env k x.0) parts) (sym s) p.images

pub returns-in_err-image-clause-shows : goal.returns-in_err-image-clause-shows
returns-in_err-image-clause-shows c = IfOk-from_err c.from_residual.result _ c.from_residual.ensures.0

pub returns-in_err-image-clause-terms : goal.returns-in_err-image-clause-terms
returns-in_err-image-clause-terms c = IfOk-from_err c.from_residual.result _ c.from_residual.ensures.0

pub returns-in_err-image-clause-made : goal.returns-in_err-image-clause-made
returns-in_err-image-clause-made c = IfOk-from_err c.from_residual.result _ c.from_residual.ensures.0

pub closed_node-requires-clause-inside : goal.closed_node-requires-clause-inside
closed_node-requires-clause-inside c = c.requires.inside

pub closed_node-requires-clause-values : goal.closed_node-requires-clause-values
closed_node-requires-clause-values c = c.requires.values

pub closed_node-requires-clause-heads : goal.closed_node-requires-clause-heads
closed_node-requires-clause-heads c = c.requires.heads

pub closed_node-requires-clause-terms : goal.closed_node-requires-clause-terms
closed_node-requires-clause-terms c = c.requires.terms

pub returns-in_err-image-clause-keeps : goal.returns-in_err-image-clause-keeps
returns-in_err-image-clause-keeps c = c.closed_node.ensures.keeps

pub returns-clause-shows : goal.returns-clause-shows
returns-clause-shows c = c.in_ok-image.ensures.shows

pub returns-clause-terms : goal.returns-clause-terms
returns-clause-terms c = c.in_ok-image.ensures.terms

pub returns-clause-keeps : goal.returns-clause-keeps
returns-clause-keeps c = c.closed_node.ensures.keeps

pub returns-clause-made : goal.returns-clause-made
returns-clause-made c =
    let n : c.len.result ≡ length c.args.made.now.items = omega (arith, c.args.made.now.ok.0, c.len.ensures) in
    c.truncate.ensures.items ∙ (λ i. take (n i - c.part_count.ensures c.args.task.level i) c.args.made.now.items)

pub overflow_sub-from : goal.overflow_sub-from
overflow_sub-from c =
    let bank = c.args.bank.now in
    let p = c.requires.parts in
    let n : c.len.result ≡ length c.args.made.now.items = omega (arith, c.args.made.now.ok.0, c.len.ensures) in
    omega (
      arith,
      n,
      c.part_count.ensures c.args.task.level,
      images_length (λ k (x : FormAt). IsFormImage bank (env_in bank c.args.values) k x.0)
          (form_parts_at bank (c.args.task.place, c.args.task.level)) p.own p.images,
      length-append p.below p.own,
      ap length p.is,
    )

pub slice_bounds-closed_node-count : goal.slice_bounds-closed_node-count
slice_bounds-closed_node-count c =
    let n : c.len.result ≡ length c.args.made.now.items = omega (arith, c.args.made.now.ok.0, c.len.ensures) in
    omega (arith, n, ap length c.deref.ensures.value)
