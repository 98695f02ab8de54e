use Rattle.std.proofs.lemmas.Result.{IfOk-from_err}
use Rattle.std.proofs.Common.{◌≡◌, ◌<◌, ℕ, ◌+◌, List, [], ◌∷◌, ◌++◌, length, map, take, get_or, sym, ap, ◌∙◌}
use Rattle.std.proofs.lemmas.List.{map-append, take_more, take_all}
use Rattle.ll_bank.specs.Nodes.{term_tree}
use Rattle.ll_index.specs.declared.leaves.Leaf.{Leaf}
use Rattle.ll_index.specs.declared.key.Key.{Key}
use Rattle.ll_index.specs.Keys.{key_of, leaf_keys}
use Rattle.ll_index.proofs.linking.keys_of.Goals as goal

keys-more : (f : Leaf → Key) (ls : List Leaf) (i : ℕ) (d : Leaf) (key : Key) (now next : List Key) → i < length ls → now ≡ map f (take i ls)
    → key ≡ f (get_or ls i d) → next ≡ now ++ key ∷ [] → next ≡ map f (take (i + 1) ls)
keys-more f ls i d key now next l h k e =
    e
    ∙ ((λ j. h j ++ k j ∷ [])
    ∙ (sym (map-append f (take i ls) (get_or ls i d ∷ [])) ∙ ap (map f) (sym (take_more ls i d l))))

pub returns-in_err-key : goal.returns-in_err-key
returns-in_err-key c = IfOk-from_err c.from_residual.result _ c.from_residual.ensures.0

pub returns-in_err-push : goal.returns-in_err-push
returns-in_err-push c = IfOk-from_err c.from_residual-in_err-push.result _ c.from_residual-in_err-push.ensures.0

pub loop-leaf-init : goal.loop-leaf-init
loop-leaf-init c = c.new-keys.ensures.items

pub loop-leaf-preserved : goal.loop-leaf-preserved
loop-leaf-preserved c =
    keys-more (λ l. key_of c.args.by_sign (term_tree c.args.bank.now l.head.0)) c.args.leaves.now c.loop-leaf.leaf-index _ _ _ _ c.loop-leaf-test.true
    c.loop-leaf.invariant c.in_ok-key.ensures c.in_ok-push.ensures.items

pub returns : goal.returns
returns c = c.loop-leaf.invariant ∙ ap (leaf_keys c.args.bank.now c.args.by_sign) (take_all c.loop-leaf.leaf-index c.args.leaves.now c.loop-leaf-test.false)
