use Rattle.std.proofs.Common.{◌≡◌, ap, sym, ◌∙◌, [], ◌∷◌, false, reverse, ◌+◌}
use Rattle.std.proofs.lemmas.List.Elements.{All-head}
use Rattle.ll_list_laws.proofs.CallerLemmas.{IfOk-each}
use Rattle.ll_freeze.specs.Frozen.{sight_of}
use Rattle.ll_freeze.specs.Parts.{parts_at, IsBefore}
use Rattle.ll_engine.specs.declared.choices.ChoicePoint.{ChoicePoint}
use Rattle.ll_engine.proofs.machine.Basing.{based_some}
use Rattle.ll_engine.proofs.turns.Splitting.{reversed_tries, sight_depth}
use Rattle.ll_engine.proofs.split.frozen.Goals as goal

pub whole-requires-clause-tries : goal.whole-requires-clause-tries
whole-requires-clause-tries c =
    reversed_tries (parts_at c.args.kept.mark c.args.machine.now) c.args.kept.untried.items c.reverse.new.self.items c.deref-2.result.now
    c.reverse.ensures.items c.deref-2.ensures.value c.requires.kept.tries

pub onto-requires-clause-tries : goal.onto-requires-clause-tries
onto-requires-clause-tries c =
    let d = c.deref-then-depth-lt-MOST_SHARED-2 in
    reversed_tries (parts_at c.args.kept.mark c.args.machine.now) c.args.kept.untried.items c.reverse.new.self.items d.result.now c.reverse.ensures.items
    d.ensures.value c.requires.kept.tries

pub onto-requires-clause-good_base : goal.onto-requires-clause-good_base
onto-requires-clause-good_base c = (based_some c.args.machine.now (c.args.kept ∷ []) c.args.ancestor.now c.in-Some.ancestor c.in-Some.is
    c.requires.based).0.good

pub onto-requires-clause-base : goal.onto-requires-clause-base
onto-requires-clause-base c =
    (based_some c.args.machine.now (c.args.kept ∷ []) c.args.ancestor.now c.in-Some.ancestor c.in-Some.is c.requires.based).1
    ∙ ap (λ f. f.base) (sym c.deref-then-depth-lt-MOST_SHARED.ensures)

pub onto-requires-clause-order : goal.onto-requires-clause-order
onto-requires-clause-order c =
    let b = (based_some c.args.machine.now (c.args.kept ∷ []) c.args.ancestor.now c.in-Some.ancestor c.in-Some.is c.requires.based).0.before in
    (All-head (λ (k : ChoicePoint). IsBefore c.in-Some.ancestor.base k.mark) c.args.kept [] b).store

pub returns : goal.returns
returns c =
    let p = parts_at c.args.kept.mark c.args.machine.now in let cs = reverse c.args.kept.untried.items in let lent = c.deref-2.result.now in
    IfOk-each c.whole.result (λ f. f ≡ sight_of p lent false 0) (λ f. f ≡ sight_of p cs false f.depth)
    (λ f e. sight_depth p lent cs 0 f (c.deref-2.ensures.value ∙ c.reverse.ensures.items) e) c.whole.ensures

pub returns-then-depth-lt-MOST_SHARED : goal.returns-then-depth-lt-MOST_SHARED
returns-then-depth-lt-MOST_SHARED c =
    let p = parts_at c.args.kept.mark c.args.machine.now in let cs = reverse c.args.kept.untried.items in
    let d = c.deref-then-depth-lt-MOST_SHARED-2 in let n = c.deref-then-depth-lt-MOST_SHARED.result.now.depth + 1 in
    IfOk-each c.onto.result (λ f. f ≡ sight_of p d.result.now false n) (λ f. f ≡ sight_of p cs false f.depth)
    (λ f e. sight_depth p d.result.now cs n f (d.ensures.value ∙ c.reverse.ensures.items) e) c.onto.ensures

pub onto-requires-clause-good : goal.onto-requires-clause-good
onto-requires-clause-good c = c.requires.good

pub whole-requires-clause-good : goal.whole-requires-clause-good
whole-requires-clause-good c = c.requires.good
