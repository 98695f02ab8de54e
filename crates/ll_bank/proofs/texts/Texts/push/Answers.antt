use Rattle.std.proofs.Common.{◌≡◌, ◌++◌, ◌∷◌, None, [], map, ap, sym, subst, ◌∙◌, if◌then◌else◌}
use Rattle.std.proofs.lemmas.List.{map-append}
use Rattle.std.specs.List.{list_any}
use Rattle.std.specs.Str.{bytes_eq}
use Rattle.std.specs.String.{string_bytes}
use Rattle.ll_bank.specs.Names.{number_of}
use Rattle.ll_bank.proofs.NameLaws.{IsDistinct-pushed, absent_key}
use Rattle.ll_bank.proofs.texts.Texts.push.Goals as goal

-- the keys behind the call show the texts with this one behind them
pushed : (c : goal.In_ok-insert) → map string_bytes c.insert.new.self.keys ≡ map string_bytes c.self.inside.texts.keys ++ c.args.text.now ∷ []
pushed c =
    let keys = c.self.inside.texts.keys in
    let key = c.in_ok-owned.owned in
    let none = subst (λ ts. number_of ts c.args.text.now ≡ None) (sym c.self.view_is) c.requires in
    let text = c.in_ok-owned.ensures.ok in
    let apart = ap (λ t. list_any (λ k. bytes_eq t (string_bytes k)) keys) text ∙ absent_key string_bytes keys c.args.text.now none in
    ap (map string_bytes) (c.in_ok-insert.ensures.keys ∙ ap (λ b. if b then keys else keys ++ key ∷ []) apart)
    ∙ (map-append string_bytes keys (key ∷ []) ∙ ap (λ t. map string_bytes keys ++ t ∷ []) text)

pub invariant_of-self-2 : goal.invariant_of-self-2
invariant_of-self-2 c =
    let none = subst (λ ts. number_of ts c.args.text.now ≡ None) (sym c.self.view_is) c.requires in
    rw (pushed c) (IsDistinct-pushed (map string_bytes c.self.inside.texts.keys) c.args.text.now c.self.invariant none)

pub returns-clause-pushed : goal.returns-clause-pushed
returns-clause-pushed c = pushed c ∙ ap (λ ts. ts ++ c.args.text.now ∷ []) c.self.view_is
