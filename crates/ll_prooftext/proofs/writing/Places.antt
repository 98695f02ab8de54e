-- The places of the terms in the fields of nodes, node by node.
use Rattle.std.proofs.Common.{◌≡◌, ℕ, zero, suc, ◌+◌, ◌<◌, ◌≤◌, List, [], ◌∷◌, ◌++◌, length, get_or, take, ap, sym, ◌∙◌, arith, append_assoc}
use Rattle.std.specs.List.{flat_map}
use Rattle.std.proofs.lemmas.List.{append-nil, take_all}
use Rattle.ll_bank.specs.declared.At.{At}
use Rattle.ll_laws.specs.declared.Rule.{Rule}
use Rattle.ll_prooftext.specs.Short.{rule_places}

places_more : (rs : List Rule) (i : ℕ) (d : Rule) → i < length rs
    → flat_map rule_places (take (suc i) rs) ≡ flat_map rule_places (take i rs) ++ rule_places (get_or rs i d)
places_more [] i d l = absurd (omega arith)
places_more (r ∷ rs) zero d l = append-nil (rule_places r)
places_more (r ∷ rs) (suc i) d l = ap (λ ps. rule_places r ++ ps) (places_more rs i d (omega arith))
    ∙ sym (append_assoc (rule_places r) (flat_map rule_places (take i rs)) (rule_places (get_or rs i d)))

pub places_on : (asked : List At) (rs : List Rule) (i : ℕ) (d : Rule) (now next : List At) → now ≡ asked ++ flat_map rule_places (take i rs) → i < length rs
    → next ≡ now ++ rule_places (get_or rs i d)
    → next ≡ asked ++ flat_map rule_places (take (i + 1) rs)
places_on asked rs i d now next before l e =
    e ∙ (ap (λ ps. ps ++ rule_places (get_or rs i d)) before ∙ (append_assoc asked (flat_map rule_places (take i rs)) (rule_places (get_or rs i d))
    ∙ ap (λ ps. asked ++ ps) (sym (ap (λ j. flat_map rule_places (take j rs)) (let z : i + 1 ≡ suc i = omega arith in z) ∙ places_more rs i d l))))

pub places_whole : (asked : List At) (rs : List Rule) (i : ℕ) (now : List At) → now ≡ asked ++ flat_map rule_places (take i rs) → length rs ≤ i
    → now ≡ asked ++ flat_map rule_places rs
places_whole asked rs i now before l = before ∙ ap (λ xs. asked ++ flat_map rule_places xs) (take_all i rs l)
