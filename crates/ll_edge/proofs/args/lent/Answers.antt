use Rattle.std.proofs.Common.{◌≡◌, ◌<◌, ℕ, ◌+◌, List, [], ◌∷◌, ◌++◌, Bor, length, map, take, get_or, sym, ap, ◌∙◌}
use Rattle.std.specs.String.{string_bytes}
use Rattle.std.proofs.lemmas.List.{map-append, take_more, take_all}
use Rattle.std.proofs.lemmas.Result.{IfOk-from_err}
use Rattle.ll_edge.proofs.args.lent.Goals as goal

lent-more : {X : Type 0} (bytes : X → List ℕ) (texts : List X) (i : ℕ) (text : X) (now next : List (Bor (List ℕ))) (lent : Bor (List ℕ)) → i < length texts
    → map (λ (t : Bor (List ℕ)). t.now) now ≡ map bytes (take i texts) → text ≡ get_or texts i text → lent.now ≡ bytes text → next ≡ now ++ lent ∷ []
    → map (λ (t : Bor (List ℕ)). t.now) next ≡ map bytes (take (i + 1) texts)
lent-more bytes texts i text now next lent l h at v e =
    ap (map (λ (t : Bor (List ℕ)). t.now)) e
    ∙ (map-append (λ (t : Bor (List ℕ)). t.now) now (lent ∷ [])
    ∙ ((λ j. h j ++ (v ∙ ap bytes at) j ∷ [])
    ∙ (sym (map-append bytes (take i texts) (get_or texts i text ∷ [])) ∙ ap (map bytes) (sym (take_more texts i text l)))))

pub returns-in_err-push : goal.returns-in_err-push
returns-in_err-push c = IfOk-from_err c.from_residual.result _ c.from_residual.ensures.0

pub loop-text-init : goal.loop-text-init
loop-text-init c = ap (map (λ (text : Bor (List ℕ)). text.now)) c.new-lent.ensures.items

pub loop-text-preserved : goal.loop-text-preserved
loop-text-preserved c =
    lent-more string_bytes c.args.texts.now c.loop-text.text-index c.text-item.result c.loop-text.lent.items c.push.new.self.items c.as_str.result
    c.loop-text-test.true c.loop-text.invariant c.text-item.is c.as_str.ensures.value c.in_ok-push.ensures.items

pub returns : goal.returns
returns c = c.loop-text.invariant ∙ ap (map string_bytes) (take_all c.loop-text.text-index c.args.texts.now c.loop-text-test.false)
