use Rattle.std.proofs.Common.{◌≡◌, ℕ, ◌<◌, ◌-◌, List, ◌++◌, ◌∷◌, [], sym, length, take, map, ap, ◌∙◌, arith, rules}
use Rattle.std.specs.Prelude.{reverse}
use Rattle.std.specs.HashMap.{get}
use Rattle.ll_bank.specs.declared.At.{At}
use Rattle.ll_bank.specs.Nodes.{term_tree}
use Rattle.ll_bank.specs.Opened.{Spot, term_parts_at, term_size_at}
use Rattle.ll_bank.proofs.Trees.{Extends-refl, Extends-trans, HasTerm-extends}
use Rattle.ll_bank.proofs.PartLemmas.{term_size-some}
use Rattle.ll_bank.specs.Closing.{env_in, same_spot, IsTermImage, IsGoodTerm}
use Rattle.ll_bank.specs.Stacks.{visit, ready}
use Rattle.ll_bank.proofs.closes.Values.{HasValues-extends}
use Rattle.ll_bank.proofs.closes.Known.{images_add, term_image_extends, term_images_extend}
use Rattle.ll_bank.proofs.closes.Stacks.{closing_begins, closing_builds, closing_found, closing_expands, closing_ends, take_none, ends_with_none}
use Rattle.ll_bank.proofs.closes.Stacks.{work_pops, work_expands}
use Rattle.ll_bank.proofs.closes.Parts.{term_parts_first}
use Rattle.ll_bank.proofs.closes.Steps.{term_turn, term_left}
use Rattle.std.proofs.lemmas.Result.{IfOk-from_err}
use Rattle.ll_bank.proofs.closing.term.closed_deep.Goals as goal

one_left : {made : List At} {x : At} (n : ℕ) → n ≡ length made → made ≡ x ∷ [] → 0 < n
one_left n q e = let l = ap length e in omega arith

pub returns-in_err-push_part-clause-keeps : goal.returns-in_err-push_part-clause-keeps
returns-in_err-push_part-clause-keeps c =
    Extends-refl c.args.bank.now

pub loop-task-init : goal.loop-task-init
loop-task-init c =
    let first = c.args.bank.now in
    let env = env_in first c.args.values in
    record {
      keeps = Extends-refl first;
      images = c.requires.images;
      closing = closing_begins (term_parts_at first) (IsGoodTerm first env) (c.args.at.0, c.args.level) (λ q (x : At). IsTermImage first env q x.0)
          c.new-made.result.items c.new-tasks.result.items c.push_part.new.tasks.items
          c.new-made.ensures.items c.new-tasks.ensures.items c.in_ok-push_part.ensures (c.requires.inside, c.requires.heads);
    }

pub build_term-requires-clause-heads : goal.build_term-requires-clause-heads
build_term-requires-clause-heads c =
    let f = term_turn c.args.values c.pop.new.self.items c.in-Some.task c.loop-task.invariant.keeps c.requires.values c.in-Some.ensures.items
    c.loop-task.invariant.closing in
    f.heads

pub build_term-requires-clause-parts : goal.build_term-requires-clause-parts
build_term-requires-clause-parts c =
    let f = term_turn c.args.values c.pop.new.self.items c.in-Some.task c.loop-task.invariant.keeps c.requires.values c.in-Some.ensures.items
    c.loop-task.invariant.closing in
    f.ends c.if-task.true

pub returns-in_err-remember-clause-keeps : goal.returns-in_err-remember-clause-keeps
returns-in_err-remember-clause-keeps c =
    Extends-trans c.loop-task.invariant.keeps c.in_ok-image.ensures.keeps

pub returns-in_err-push-clause-keeps : goal.returns-in_err-push-clause-keeps
returns-in_err-push-clause-keeps c =
    Extends-trans c.loop-task.invariant.keeps c.in_ok-image.ensures.keeps

pub loop-task-preserved-in-Continue-branch-4 : goal.loop-task-preserved-in-Continue-branch-4
loop-task-preserved-in-Continue-branch-4 c =
    let f = term_turn c.args.values c.pop.new.self.items c.in-Some.task c.loop-task.invariant.keeps c.requires.values c.in-Some.ensures.items
    c.loop-task.invariant.closing in
    let first = c.args.bank.now in
    let now = c.loop-task.bank in
    let vs = c.args.values in
    let env = env_in first vs in
    let inv = c.loop-task.invariant in
    let rest = c.pop.new.self.items in
    let task = c.in-Some.task in
    let k : Spot = (task.place, task.level) in
    let e = c.in-Some.ensures.items in
    let next = c.build_term.new.bank in
    let more = c.in_ok-image.ensures.keeps in
    let here = f.image next c.in_ok-image.image.0 more c.in_ok-image.ensures.shows in
    record {
      keeps = Extends-trans inv.keeps more;
      images = images_add (IsTermImage next env) (get same_spot c.loop-task.images.places) (get same_spot c.remember.new.self.places) k c.in_ok-image.image.0
          (term_images_extend now next more env (get same_spot c.loop-task.images.places) inv.images) here c.in_ok-remember.ensures;
      closing = closing_builds rest task e inv.closing (λ q x. term_image_extends now next more env q x.0) c.in_ok-image.image here c.push.new.self.items
          c.build_term.new.made.items c.if-task.true
          (c.in_ok-image.ensures.made ∙ ap (λ ps. take (length c.loop-task.made.items - length ps) c.loop-task.made.items) f.parts)
          c.in_ok-push.ensures.items;
    }

pub loop-task-smaller-in-Continue-branch-5 : goal.loop-task-smaller-in-Continue-branch-5
loop-task-smaller-in-Continue-branch-5 c =
    work_pops (term_size_at c.args.bank.now) c.loop-task.tasks.items c.pop.new.self.items c.in-Some.task c.in-Some.ensures.items
    (term_size-some (term_tree c.args.bank.now c.in-Some.task.place))

pub loop-task-preserved-in-Continue-branch-5 : goal.loop-task-preserved-in-Continue-branch-5
loop-task-preserved-in-Continue-branch-5 c =
    let inv = c.loop-task.invariant in
    let rest = c.pop.new.self.items in
    let task = c.in-Some.task in
    let k : Spot = (task.place, task.level) in
    let e = c.in-Some.ensures.items in
    record {
      keeps = inv.keeps;
      images = inv.images;
      closing = closing_found rest task e inv.closing (λ q x h. h) (record { 0 = c.in-Some-find.image })
          (inv.images k c.in-Some-find.image c.in-Some-find.ensures) c.push-in-Some-find.new.self.items c.if-task.false c.in_ok-push-2.ensures.items;
    }

pub loop-task-smaller : goal.loop-task-smaller
loop-task-smaller c =
    let f = term_turn c.args.values c.pop.new.self.items c.in-Some.task c.loop-task.invariant.keeps c.requires.values c.in-Some.ensures.items
    c.loop-task.invariant.closing in
    let first = c.args.bank.now in
    let now = c.loop-task.bank in
    let inv = c.loop-task.invariant in
    let items = c.loop-task.tasks.items in
    let rest = c.pop.new.self.items in
    let task = c.in-Some.task in
    let k : Spot = (task.place, task.level) in
    let e = c.in-Some.ensures.items in
    let pushed = c.in_ok-push_term.ensures.pushed ∙ ap (λ ps. map visit ps ++ ready k ∷ reverse rest) f.parts in
    let parts = term_parts_first first now inv.keeps k f.good.0 c.in_ok-push_term.ensures.parts in
    work_expands (term_size_at first) items rest c.push_term.new.tasks.items task (term_parts_at first k) e pushed c.if-task.false parts.smaller

pub loop-task-preserved : goal.loop-task-preserved
loop-task-preserved c =
    let f = term_turn c.args.values c.pop.new.self.items c.in-Some.task c.loop-task.invariant.keeps c.requires.values c.in-Some.ensures.items
    c.loop-task.invariant.closing in
    let first = c.args.bank.now in
    let now = c.loop-task.bank in
    let vs = c.args.values in
    let env = env_in first vs in
    let inv = c.loop-task.invariant in
    let rest = c.pop.new.self.items in
    let task = c.in-Some.task in
    let k : Spot = (task.place, task.level) in
    let e = c.in-Some.ensures.items in
    let pushed = c.in_ok-push_term.ensures.pushed ∙ ap (λ ps. map visit ps ++ ready k ∷ reverse rest) f.parts in
    let parts = term_parts_first first now inv.keeps k f.good.0 c.in_ok-push_term.ensures.parts in
    record {
      keeps = inv.keeps;
      images = inv.images;
      closing = closing_expands rest task e inv.closing c.push_term.new.tasks.items c.if-task.false pushed (parts.still_good env);
    }

pub returns-clause-shows : goal.returns-clause-shows
returns-clause-shows c =
    let first = c.args.bank.now in
    let now = c.loop-task.bank in
    let env = env_in first c.args.values in
    let inv = c.loop-task.invariant in
    term_left first now inv.keeps c.args.values c.requires.values (c.args.at.0, c.args.level) c.loop-task.made.items c.index.result.now c.index.ensures
    c.requires.inside
    (closing_ends (term_parts_at first) (IsGoodTerm first env) (c.args.at.0, c.args.level) (λ q (x : At). IsTermImage now env q x.0) c.loop-task.made.items
    c.loop-task.tasks.items (let h = c.in_default.ensures.cases.0 in search rules) inv.closing)

pub build_term-requires-then-is_leaf-clause-heads : goal.build_term-requires-then-is_leaf-clause-heads
build_term-requires-then-is_leaf-clause-heads c =
    let f = term_turn c.args.values c.pop.new.self.items c.in-Some.task c.loop-task.invariant.keeps c.requires.values c.in-Some.ensures.items
    c.loop-task.invariant.closing in
    f.heads

pub returns-in_err-image-2-clause-keeps : goal.returns-in_err-image-2-clause-keeps
returns-in_err-image-2-clause-keeps c =
    Extends-trans c.loop-task.invariant.keeps c.build_term-then-is_leaf.ensures.keeps

pub returns-in_err-push-3-clause-keeps : goal.returns-in_err-push-3-clause-keeps
returns-in_err-push-3-clause-keeps c =
    Extends-trans c.loop-task.invariant.keeps c.build_term-then-is_leaf.ensures.keeps

pub loop-task-smaller-in-Continue-branch-7 : goal.loop-task-smaller-in-Continue-branch-7
loop-task-smaller-in-Continue-branch-7 c =
    work_pops (term_size_at c.args.bank.now) c.loop-task.tasks.items c.pop.new.self.items c.in-Some.task c.in-Some.ensures.items
    (term_size-some (term_tree c.args.bank.now c.in-Some.task.place))

pub loop-task-preserved-in-Continue-branch-7 : goal.loop-task-preserved-in-Continue-branch-7
loop-task-preserved-in-Continue-branch-7 c =
    let f = term_turn c.args.values c.pop.new.self.items c.in-Some.task c.loop-task.invariant.keeps c.requires.values c.in-Some.ensures.items
    c.loop-task.invariant.closing in
    let first = c.args.bank.now in
    let now = c.loop-task.bank in
    let vs = c.args.values in
    let env = env_in first vs in
    let inv = c.loop-task.invariant in
    let rest = c.pop.new.self.items in
    let task = c.in-Some.task in
    let k : Spot = (task.place, task.level) in
    let e = c.in-Some.ensures.items in
    let next = c.build_term-then-is_leaf.new.bank in
    let more = c.build_term-then-is_leaf.ensures.keeps in
    let here = f.image next c.in_ok-image-2.image.0 more c.in_ok-image-2.ensures.shows in
    let same = c.in_ok-image-2.ensures.made ∙ sym (take_none c.loop-task.made.items (term_parts_at now k) (c.is_leaf.ensures c.if-is_leaf.true)) in
    record {
      keeps = Extends-trans inv.keeps more;
      images = term_images_extend now next more env (get same_spot c.loop-task.images.places) inv.images;
      closing = closing_found rest task e inv.closing (λ q x. term_image_extends now next more env q x.0) c.in_ok-image-2.image here
          c.push-then-is_leaf.new.self.items c.if-task.false
          (c.in_ok-push-3.ensures.items ∙ ap (λ z. z ++ c.in_ok-image-2.image ∷ []) same);
    }

pub build_term-requires-clause-inside : goal.build_term-requires-clause-inside
build_term-requires-clause-inside c =
    let f = term_turn c.args.values c.pop.new.self.items c.in-Some.task c.loop-task.invariant.keeps c.requires.values c.in-Some.ensures.items
    c.loop-task.invariant.closing in
    HasTerm-extends c.loop-task.invariant.keeps c.in-Some.task.place f.good.0

pub build_term-requires-clause-values : goal.build_term-requires-clause-values
build_term-requires-clause-values c =
    HasValues-extends c.loop-task.invariant.keeps c.args.values c.requires.values

pub build_term-requires-then-is_leaf-clause-inside : goal.build_term-requires-then-is_leaf-clause-inside
build_term-requires-then-is_leaf-clause-inside c =
    let f = term_turn c.args.values c.pop.new.self.items c.in-Some.task c.loop-task.invariant.keeps c.requires.values c.in-Some.ensures.items
    c.loop-task.invariant.closing in
    HasTerm-extends c.loop-task.invariant.keeps c.in-Some.task.place f.good.0

pub build_term-requires-then-is_leaf-clause-values : goal.build_term-requires-then-is_leaf-clause-values
build_term-requires-then-is_leaf-clause-values c =
    HasValues-extends c.loop-task.invariant.keeps c.args.values c.requires.values

pub build_term-requires-then-is_leaf-clause-parts : goal.build_term-requires-then-is_leaf-clause-parts
build_term-requires-then-is_leaf-clause-parts c =
    let now = c.loop-task.bank in
    ends_with_none (λ k (x : At). IsTermImage now (env_in now c.args.values) k x.0)
    (term_parts_at now (c.in-Some.task.place, c.in-Some.task.level)) c.loop-task.made.items (c.is_leaf.ensures c.if-is_leaf.true)

pub is_leaf-requires : goal.is_leaf-requires
is_leaf-requires c =
    let f = term_turn c.args.values c.pop.new.self.items c.in-Some.task c.loop-task.invariant.keeps c.requires.values c.in-Some.ensures.items
    c.loop-task.invariant.closing in
    HasTerm-extends c.loop-task.invariant.keeps c.in-Some.task.place f.good.0

pub push_term-requires : goal.push_term-requires
push_term-requires c =
    let f = term_turn c.args.values c.pop.new.self.items c.in-Some.task c.loop-task.invariant.keeps c.requires.values c.in-Some.ensures.items
    c.loop-task.invariant.closing in
    HasTerm-extends c.loop-task.invariant.keeps c.in-Some.task.place f.good.0

pub loop-task-smaller-in-Continue-branch-4 : goal.loop-task-smaller-in-Continue-branch-4
loop-task-smaller-in-Continue-branch-4 c =
    work_pops (term_size_at c.args.bank.now) c.loop-task.tasks.items c.pop.new.self.items c.in-Some.task c.in-Some.ensures.items
    (term_size-some (term_tree c.args.bank.now c.in-Some.task.place))

pub returns-in_err-image-clause-keeps : goal.returns-in_err-image-clause-keeps
returns-in_err-image-clause-keeps c =
    Extends-trans c.loop-task.invariant.keeps c.build_term.ensures.keeps

pub returns-in_err-push-2-clause-keeps : goal.returns-in_err-push-2-clause-keeps
returns-in_err-push-2-clause-keeps c =
    c.loop-task.invariant.keeps

pub returns-in_err-push_term-clause-keeps : goal.returns-in_err-push_term-clause-keeps
returns-in_err-push_term-clause-keeps c =
    c.loop-task.invariant.keeps

pub returns-clause-keeps : goal.returns-clause-keeps
returns-clause-keeps c =
    c.loop-task.invariant.keeps

pub returns-clause-images : goal.returns-clause-images
returns-clause-images c =
    c.loop-task.invariant.images

pub index-requires : goal.index-requires
index-requires c =
    let first = c.args.bank.now in
    let now = c.loop-task.bank in
    let env = env_in first c.args.values in
    let left = closing_ends (term_parts_at first) (IsGoodTerm first env) (c.args.at.0, c.args.level) (λ q (x : At). IsTermImage now env q x.0)
    c.loop-task.made.items c.loop-task.tasks.items (let h = c.in_default.ensures.cases.0 in search rules) c.loop-task.invariant.closing in
    one_left {x = left.0} _ c.loop-task.made.ok.0 left.1

pub returns-in_err-push_part-clause-shows : goal.returns-in_err-push_part-clause-shows
returns-in_err-push_part-clause-shows c = IfOk-from_err c.from_residual.result _ c.from_residual.ensures.0

pub returns-in_err-push_part-clause-images : goal.returns-in_err-push_part-clause-images
returns-in_err-push_part-clause-images c = IfOk-from_err c.from_residual.result _ c.from_residual.ensures.0

pub returns-in_err-image-clause-shows : goal.returns-in_err-image-clause-shows
returns-in_err-image-clause-shows c = IfOk-from_err c.from_residual-in_err-image.result _ c.from_residual-in_err-image.ensures.0

pub returns-in_err-image-clause-images : goal.returns-in_err-image-clause-images
returns-in_err-image-clause-images c = IfOk-from_err c.from_residual-in_err-image.result _ c.from_residual-in_err-image.ensures.0

pub returns-in_err-push-clause-shows : goal.returns-in_err-push-clause-shows
returns-in_err-push-clause-shows c = IfOk-from_err c.from_residual-in_err-push.result _ c.from_residual-in_err-push.ensures.0

pub returns-in_err-push-clause-images : goal.returns-in_err-push-clause-images
returns-in_err-push-clause-images c = IfOk-from_err c.from_residual-in_err-push.result _ c.from_residual-in_err-push.ensures.0

pub returns-in_err-push-2-clause-shows : goal.returns-in_err-push-2-clause-shows
returns-in_err-push-2-clause-shows c = IfOk-from_err c.from_residual-in_err-push-2.result _ c.from_residual-in_err-push-2.ensures.0

pub returns-in_err-push-2-clause-images : goal.returns-in_err-push-2-clause-images
returns-in_err-push-2-clause-images c = IfOk-from_err c.from_residual-in_err-push-2.result _ c.from_residual-in_err-push-2.ensures.0

pub returns-in_err-image-2-clause-shows : goal.returns-in_err-image-2-clause-shows
returns-in_err-image-2-clause-shows c = IfOk-from_err c.from_residual-in_err-image-2.result _ c.from_residual-in_err-image-2.ensures.0

pub returns-in_err-image-2-clause-images : goal.returns-in_err-image-2-clause-images
returns-in_err-image-2-clause-images c = IfOk-from_err c.from_residual-in_err-image-2.result _ c.from_residual-in_err-image-2.ensures.0

pub returns-in_err-push-3-clause-shows : goal.returns-in_err-push-3-clause-shows
returns-in_err-push-3-clause-shows c = IfOk-from_err c.from_residual-in_err-push-3.result _ c.from_residual-in_err-push-3.ensures.0

pub returns-in_err-push-3-clause-images : goal.returns-in_err-push-3-clause-images
returns-in_err-push-3-clause-images c = IfOk-from_err c.from_residual-in_err-push-3.result _ c.from_residual-in_err-push-3.ensures.0

pub returns-in_err-push_term-clause-shows : goal.returns-in_err-push_term-clause-shows
returns-in_err-push_term-clause-shows c = IfOk-from_err c.from_residual-in_err-push_term.result _ c.from_residual-in_err-push_term.ensures.0

pub returns-in_err-push_term-clause-images : goal.returns-in_err-push_term-clause-images
returns-in_err-push_term-clause-images c = IfOk-from_err c.from_residual-in_err-push_term.result _ c.from_residual-in_err-push_term.ensures.0
