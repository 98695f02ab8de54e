use Rattle.std.proofs.lemmas.Result.{IfOk-from_err}
use Rattle.std.proofs.Common.{◌≡◌, ℕ, ◌+◌, ◌<◌, ◌≤◌, ◌-◌, List, ◌++◌, ◌∷◌, [], sym, length, take, map, ap, ◌∙◌, arith, rules}
use Rattle.std.specs.Prelude.{reverse}
use Rattle.std.specs.HashMap.{get}
use Rattle.ll_bank.specs.declared.FormAt.{FormAt}
use Rattle.ll_bank.specs.Nodes.{form_tree}
use Rattle.ll_bank.specs.Opened.{Spot, form_parts_at, form_size_at}
use Rattle.ll_bank.proofs.Trees.{Extends-refl, Extends-trans}
use Rattle.ll_bank.proofs.PartLemmas.{form_size-some}
use Rattle.ll_bank.specs.Closing.{env_in, same_spot, IsTermImage, IsFormImage, IsGoodForm}
use Rattle.ll_bank.specs.Stacks.{visit, ready}
use Rattle.ll_bank.proofs.closes.Values.{HasValues-extends}
use Rattle.ll_bank.proofs.closes.Known.{images_add, images_none, form_image_extends, form_images_extend}
use Rattle.ll_bank.proofs.closes.Stacks.{closing_begins, closing_builds, closing_found, closing_expands, closing_ends, take_none, ends_with_none}
use Rattle.ll_bank.proofs.closes.Stacks.{work_pops, work_expands}
use Rattle.ll_bank.proofs.closes.Parts.{form_parts_first}
use Rattle.ll_bank.proofs.closes.Steps.{form_turn, form_left, images_now, images_then}
use Rattle.ll_bank.proofs.closing.form.close_deep.Goals as goal

at_root : (n : ℕ) → n + 0 ≤ n
at_root n = omega arith

level_fits : (n root place : ℕ) → n ≤ root → place ≤ 18446744073709551615 → place ≡ root → n ≤ 18446744073709551615
level_fits n root place l fits is = omega arith

one_left : {made : List FormAt} {x : FormAt} (n : ℕ) → n ≡ length made → made ≡ x ∷ [] → 0 < n
one_left n q e = let l = ap length e in omega arith

pub returns-in_err-push_part-clause-keeps : goal.returns-in_err-push_part-clause-keeps
returns-in_err-push_part-clause-keeps c =
    Extends-refl c.args.bank.now

pub loop-task-init : goal.loop-task-init
loop-task-init c =
    let first = c.args.bank.now in
    let env = env_in first c.args.values in
    record {
      keeps = Extends-refl first;
      terms = images_none (IsTermImage first env) (get same_spot c.new-terms.result.places) c.new-terms.ensures;
      forms = images_none (IsFormImage first env) (get same_spot c.new-forms.result.places) c.new-forms.ensures;
      closing = closing_begins (form_parts_at first) (IsGoodForm first (env, c.args.form.0)) (c.args.form.0, 0) (λ q (x : FormAt). IsFormImage first env q x.0)
          c.new-made.result.items c.new-tasks.result.items c.push_part.new.tasks.items
          c.new-made.ensures.items c.new-tasks.ensures.items
          (c.in_ok-push_part.ensures ∙ ap (λ p. visit (p, 0) ∷ reverse c.new-tasks.result.items) c.place_of.ensures.is)
          (record { inside = c.requires.inside; heads = c.requires.heads; level = at_root c.args.form.0 });
    }

pub build_form-requires-clause-heads : goal.build_form-requires-clause-heads
build_form-requires-clause-heads c =
    let f = form_turn c.args.values c.pop.new.self.items c.in-Some.task c.loop-task.invariant.keeps c.requires.values c.in-Some.ensures.items
    c.loop-task.invariant.closing in
    f.heads

pub build_form-requires-clause-parts : goal.build_form-requires-clause-parts
build_form-requires-clause-parts c =
    let f = form_turn c.args.values c.pop.new.self.items c.in-Some.task c.loop-task.invariant.keeps c.requires.values c.in-Some.ensures.items
    c.loop-task.invariant.closing in
    f.ends c.if-task.true

pub returns-in_err-remember-clause-keeps : goal.returns-in_err-remember-clause-keeps
returns-in_err-remember-clause-keeps c =
    Extends-trans c.loop-task.invariant.keeps c.in_ok-image.ensures.keeps

pub returns-in_err-push-clause-keeps : goal.returns-in_err-push-clause-keeps
returns-in_err-push-clause-keeps c =
    Extends-trans c.loop-task.invariant.keeps c.in_ok-image.ensures.keeps

pub loop-task-preserved-in-Continue-branch-4 : goal.loop-task-preserved-in-Continue-branch-4
loop-task-preserved-in-Continue-branch-4 c =
    let f = form_turn c.args.values c.pop.new.self.items c.in-Some.task c.loop-task.invariant.keeps c.requires.values c.in-Some.ensures.items
    c.loop-task.invariant.closing in
    let first = c.args.bank.now in
    let now = c.loop-task.bank in
    let vs = c.args.values in
    let env = env_in first vs in
    let inv = c.loop-task.invariant in
    let rest = c.pop.new.self.items in
    let task = c.in-Some.task in
    let k : Spot = (task.place, task.level) in
    let e = c.in-Some.ensures.items in
    let next = c.build_form.new.bank in
    let more = c.in_ok-image.ensures.keeps in
    let here = f.image next c.in_ok-image.image.0 more c.in_ok-image.ensures.shows in
    record {
      keeps = Extends-trans inv.keeps more;
      terms = images_then first now inv.keeps vs c.requires.values next (get same_spot c.build_form.new.terms.places) c.in_ok-image.ensures.terms;
      forms = images_add (IsFormImage next env) (get same_spot c.loop-task.forms.places) (get same_spot c.remember.new.self.places) k c.in_ok-image.image.0
          (form_images_extend now next more env (get same_spot c.loop-task.forms.places) inv.forms) here c.in_ok-remember.ensures;
      closing = closing_builds rest task e inv.closing (λ q x. form_image_extends now next more env q x.0) c.in_ok-image.image here c.push.new.self.items
          c.build_form.new.made.items c.if-task.true
          (c.in_ok-image.ensures.made ∙ ap (λ ps. take (length c.loop-task.made.items - length ps) c.loop-task.made.items) f.parts)
          c.in_ok-push.ensures.items;
    }

pub loop-task-smaller-in-Continue-branch-5 : goal.loop-task-smaller-in-Continue-branch-5
loop-task-smaller-in-Continue-branch-5 c =
    work_pops (form_size_at c.args.bank.now) c.loop-task.tasks.items c.pop.new.self.items c.in-Some.task c.in-Some.ensures.items
    (form_size-some (form_tree c.args.bank.now c.in-Some.task.place))

pub loop-task-preserved-in-Continue-branch-5 : goal.loop-task-preserved-in-Continue-branch-5
loop-task-preserved-in-Continue-branch-5 c =
    let inv = c.loop-task.invariant in
    let rest = c.pop.new.self.items in
    let task = c.in-Some.task in
    let k : Spot = (task.place, task.level) in
    let e = c.in-Some.ensures.items in
    record {
      keeps = inv.keeps;
      terms = inv.terms;
      forms = inv.forms;
      closing = closing_found rest task e inv.closing (λ q x h. h) (record { 0 = c.in-Some-find.image })
          (inv.forms k c.in-Some-find.image c.in-Some-find.ensures) c.push-in-Some-find.new.self.items c.if-task.false c.in_ok-push-2.ensures.items;
    }

pub loop-task-smaller : goal.loop-task-smaller
loop-task-smaller c =
    let f = form_turn c.args.values c.pop.new.self.items c.in-Some.task c.loop-task.invariant.keeps c.requires.values c.in-Some.ensures.items
    c.loop-task.invariant.closing in
    let first = c.args.bank.now in
    let now = c.loop-task.bank in
    let inv = c.loop-task.invariant in
    let items = c.loop-task.tasks.items in
    let rest = c.pop.new.self.items in
    let task = c.in-Some.task in
    let k : Spot = (task.place, task.level) in
    let e = c.in-Some.ensures.items in
    let pushed = c.in_ok-push_form.ensures.pushed ∙ ap (λ ps. map visit ps ++ ready k ∷ reverse rest) f.parts in
    let parts = form_parts_first first now inv.keeps k f.good.inside c.in_ok-push_form.ensures.parts in
    work_expands (form_size_at first) items rest c.push_form.new.tasks.items task (form_parts_at first k) e pushed c.if-task.false parts.smaller

pub loop-task-preserved : goal.loop-task-preserved
loop-task-preserved c =
    let f = form_turn c.args.values c.pop.new.self.items c.in-Some.task c.loop-task.invariant.keeps c.requires.values c.in-Some.ensures.items
    c.loop-task.invariant.closing in
    let first = c.args.bank.now in
    let now = c.loop-task.bank in
    let vs = c.args.values in
    let env = env_in first vs in
    let inv = c.loop-task.invariant in
    let rest = c.pop.new.self.items in
    let task = c.in-Some.task in
    let k : Spot = (task.place, task.level) in
    let e = c.in-Some.ensures.items in
    let pushed = c.in_ok-push_form.ensures.pushed ∙ ap (λ ps. map visit ps ++ ready k ∷ reverse rest) f.parts in
    let parts = form_parts_first first now inv.keeps k f.good.inside c.in_ok-push_form.ensures.parts in
    record {
      keeps = inv.keeps;
      terms = inv.terms;
      forms = inv.forms;
      closing = closing_expands rest task e inv.closing c.push_form.new.tasks.items c.if-task.false pushed (parts.still_good (env, c.args.form.0));
    }

pub returns-clause-shows : goal.returns-clause-shows
returns-clause-shows c =
    let first = c.args.bank.now in
    let now = c.loop-task.bank in
    let env = env_in first c.args.values in
    let inv = c.loop-task.invariant in
    form_left first now inv.keeps c.args.values c.requires.values (c.args.form.0, 0) c.loop-task.made.items c.index.result.now c.index.ensures
    c.requires.inside
    (closing_ends (form_parts_at first) (IsGoodForm first (env, c.args.form.0)) (c.args.form.0, 0) (λ q (x : FormAt). IsFormImage now env q x.0)
    c.loop-task.made.items c.loop-task.tasks.items (let h = c.in_default.ensures.cases.0 in search rules) inv.closing)

pub build_form-requires-clause-terms : goal.build_form-requires-clause-terms
build_form-requires-clause-terms c =
    images_now c.args.bank.now c.loop-task.bank c.loop-task.invariant.keeps c.args.values c.requires.values
    (get same_spot c.loop-task.terms.places) c.loop-task.invariant.terms

pub push_form-requires-clause-inside : goal.push_form-requires-clause-inside
push_form-requires-clause-inside c =
    let f = form_turn c.args.values c.pop.new.self.items c.in-Some.task c.loop-task.invariant.keeps c.requires.values c.in-Some.ensures.items
    c.loop-task.invariant.closing in
    f.inside

pub push_form-requires-clause-level : goal.push_form-requires-clause-level
push_form-requires-clause-level c =
    let f = form_turn c.args.values c.pop.new.self.items c.in-Some.task c.loop-task.invariant.keeps c.requires.values c.in-Some.ensures.items
    c.loop-task.invariant.closing in
    level_fits _ c.args.form.0 c.place_of.result f.good.level c.place_of.ensures.fits c.place_of.ensures.is

pub returns-in_err-image-clause-keeps : goal.returns-in_err-image-clause-keeps
returns-in_err-image-clause-keeps c =
    Extends-trans c.loop-task.invariant.keeps c.build_form.ensures.keeps

pub build_form-requires-then-is_single-clause-heads : goal.build_form-requires-then-is_single-clause-heads
build_form-requires-then-is_single-clause-heads c =
    let f = form_turn c.args.values c.pop.new.self.items c.in-Some.task c.loop-task.invariant.keeps c.requires.values c.in-Some.ensures.items
    c.loop-task.invariant.closing in
    f.heads

pub build_form-requires-then-is_single-clause-terms : goal.build_form-requires-then-is_single-clause-terms
build_form-requires-then-is_single-clause-terms c =
    images_now c.args.bank.now c.loop-task.bank c.loop-task.invariant.keeps c.args.values c.requires.values
    (get same_spot c.loop-task.terms.places) c.loop-task.invariant.terms

pub returns-in_err-image-2-clause-keeps : goal.returns-in_err-image-2-clause-keeps
returns-in_err-image-2-clause-keeps c =
    Extends-trans c.loop-task.invariant.keeps c.build_form-then-is_single.ensures.keeps

pub returns-in_err-push-3-clause-keeps : goal.returns-in_err-push-3-clause-keeps
returns-in_err-push-3-clause-keeps c =
    Extends-trans c.loop-task.invariant.keeps c.build_form-then-is_single.ensures.keeps

pub loop-task-smaller-in-Continue-branch-7 : goal.loop-task-smaller-in-Continue-branch-7
loop-task-smaller-in-Continue-branch-7 c =
    work_pops (form_size_at c.args.bank.now) c.loop-task.tasks.items c.pop.new.self.items c.in-Some.task c.in-Some.ensures.items
    (form_size-some (form_tree c.args.bank.now c.in-Some.task.place))

pub loop-task-preserved-in-Continue-branch-7 : goal.loop-task-preserved-in-Continue-branch-7
loop-task-preserved-in-Continue-branch-7 c =
    let f = form_turn c.args.values c.pop.new.self.items c.in-Some.task c.loop-task.invariant.keeps c.requires.values c.in-Some.ensures.items
    c.loop-task.invariant.closing in
    let first = c.args.bank.now in
    let now = c.loop-task.bank in
    let vs = c.args.values in
    let env = env_in first vs in
    let inv = c.loop-task.invariant in
    let rest = c.pop.new.self.items in
    let task = c.in-Some.task in
    let k : Spot = (task.place, task.level) in
    let e = c.in-Some.ensures.items in
    let next = c.build_form-then-is_single.new.bank in
    let more = c.build_form-then-is_single.ensures.keeps in
    let here = f.image next c.in_ok-image-2.image.0 more c.in_ok-image-2.ensures.shows in
    let same = c.in_ok-image-2.ensures.made ∙ sym (take_none c.loop-task.made.items (form_parts_at now k) (c.is_single.ensures c.if-is_single.true)) in
    record {
      keeps = Extends-trans inv.keeps more;
      terms = images_then first now inv.keeps vs c.requires.values next (get same_spot c.build_form-then-is_single.new.terms.places)
          c.in_ok-image-2.ensures.terms;
      forms = form_images_extend now next more env (get same_spot c.loop-task.forms.places) inv.forms;
      closing = closing_found rest task e inv.closing (λ q x. form_image_extends now next more env q x.0) c.in_ok-image-2.image here
          c.push-then-is_single.new.self.items c.if-task.false
          (c.in_ok-push-3.ensures.items ∙ ap (λ z. z ++ c.in_ok-image-2.image ∷ []) same);
    }

pub build_form-requires-clause-inside : goal.build_form-requires-clause-inside
build_form-requires-clause-inside c =
    let f = form_turn c.args.values c.pop.new.self.items c.in-Some.task c.loop-task.invariant.keeps c.requires.values c.in-Some.ensures.items
    c.loop-task.invariant.closing in
    f.inside

pub build_form-requires-clause-values : goal.build_form-requires-clause-values
build_form-requires-clause-values c =
    HasValues-extends c.loop-task.invariant.keeps c.args.values c.requires.values

pub build_form-requires-then-is_single-clause-inside : goal.build_form-requires-then-is_single-clause-inside
build_form-requires-then-is_single-clause-inside c =
    let f = form_turn c.args.values c.pop.new.self.items c.in-Some.task c.loop-task.invariant.keeps c.requires.values c.in-Some.ensures.items
    c.loop-task.invariant.closing in
    f.inside

pub build_form-requires-then-is_single-clause-values : goal.build_form-requires-then-is_single-clause-values
build_form-requires-then-is_single-clause-values c =
    HasValues-extends c.loop-task.invariant.keeps c.args.values c.requires.values

pub build_form-requires-then-is_single-clause-parts : goal.build_form-requires-then-is_single-clause-parts
build_form-requires-then-is_single-clause-parts c =
    let now = c.loop-task.bank in
    ends_with_none (λ k (x : FormAt). IsFormImage now (env_in now c.args.values) k x.0)
    (form_parts_at now (c.in-Some.task.place, c.in-Some.task.level)) c.loop-task.made.items (c.is_single.ensures c.if-is_single.true)

pub is_single-requires : goal.is_single-requires
is_single-requires c =
    let f = form_turn c.args.values c.pop.new.self.items c.in-Some.task c.loop-task.invariant.keeps c.requires.values c.in-Some.ensures.items
    c.loop-task.invariant.closing in
    f.inside

pub loop-task-smaller-in-Continue-branch-4 : goal.loop-task-smaller-in-Continue-branch-4
loop-task-smaller-in-Continue-branch-4 c =
    work_pops (form_size_at c.args.bank.now) c.loop-task.tasks.items c.pop.new.self.items c.in-Some.task c.in-Some.ensures.items
    (form_size-some (form_tree c.args.bank.now c.in-Some.task.place))

pub returns-in_err-push-2-clause-keeps : goal.returns-in_err-push-2-clause-keeps
returns-in_err-push-2-clause-keeps c =
    c.loop-task.invariant.keeps

pub returns-in_err-push_form-clause-keeps : goal.returns-in_err-push_form-clause-keeps
returns-in_err-push_form-clause-keeps c =
    c.loop-task.invariant.keeps

pub returns-clause-keeps : goal.returns-clause-keeps
returns-clause-keeps c =
    c.loop-task.invariant.keeps

pub index-requires : goal.index-requires
index-requires c =
    let first = c.args.bank.now in
    let now = c.loop-task.bank in
    let env = env_in first c.args.values in
    let left = closing_ends (form_parts_at first) (IsGoodForm first (env, c.args.form.0)) (c.args.form.0, 0) (λ q (x : FormAt). IsFormImage now env q x.0)
    c.loop-task.made.items c.loop-task.tasks.items (let h = c.in_default.ensures.cases.0 in search rules) c.loop-task.invariant.closing in
    one_left {x = left.0} _ c.loop-task.made.ok.0 left.1

pub returns-in_err-push_part-clause-shows : goal.returns-in_err-push_part-clause-shows
returns-in_err-push_part-clause-shows c = IfOk-from_err c.from_residual.result _ c.from_residual.ensures.0

pub returns-in_err-image-clause-shows : goal.returns-in_err-image-clause-shows
returns-in_err-image-clause-shows c = IfOk-from_err c.from_residual-in_err-image.result _ c.from_residual-in_err-image.ensures.0

pub returns-in_err-remember-clause-shows : goal.returns-in_err-remember-clause-shows
returns-in_err-remember-clause-shows c = IfOk-from_err c.from_residual-in_err-remember.result _ c.from_residual-in_err-remember.ensures.0

pub returns-in_err-push-clause-shows : goal.returns-in_err-push-clause-shows
returns-in_err-push-clause-shows c = IfOk-from_err c.from_residual-in_err-push.result _ c.from_residual-in_err-push.ensures.0

pub returns-in_err-push-2-clause-shows : goal.returns-in_err-push-2-clause-shows
returns-in_err-push-2-clause-shows c = IfOk-from_err c.from_residual-in_err-push-2.result _ c.from_residual-in_err-push-2.ensures.0

pub returns-in_err-image-2-clause-shows : goal.returns-in_err-image-2-clause-shows
returns-in_err-image-2-clause-shows c = IfOk-from_err c.from_residual-in_err-image-2.result _ c.from_residual-in_err-image-2.ensures.0

pub returns-in_err-push-3-clause-shows : goal.returns-in_err-push-3-clause-shows
returns-in_err-push-3-clause-shows c = IfOk-from_err c.from_residual-in_err-push-3.result _ c.from_residual-in_err-push-3.ensures.0

pub returns-in_err-push_form-clause-shows : goal.returns-in_err-push_form-clause-shows
returns-in_err-push_form-clause-shows c = IfOk-from_err c.from_residual-in_err-push_form.result _ c.from_residual-in_err-push_form.ensures.0
