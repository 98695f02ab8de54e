-- What is numbered from 1 up, with one element more.
use Rattle.std.proofs.Common.{◌≡◌, ◌≤◌, ◌<◌, ℕ, zero, suc, ◌+◌, List, [], ◌∷◌, ◌++◌, map, refl, sym, ap, ◌∙◌, append_assoc, add-one, arith}
use Rattle.std.specs.Prelude.{codes, flat_map}
use Rattle.std.specs.List.{range_with_len, join_by}
use Rattle.std.proofs.lemmas.List.{flat_map_more}
use Rattle.std.proofs.lemmas.List.FromFn.{map-range_with_len_more}
use Rattle.ll_make.specs.Numbered.{numbered, names_to, elements_text, list_argument, goals}
use Rattle.ll_make.specs.Programs.{line, lines_text, link, links}

-- one name more
names_more : (name : List ℕ) (k : ℕ) → names_to name (k + 1) ≡ names_to name k ++ numbered name (k + 1) ∷ []
names_more name k = map-range_with_len_more (numbered name) 1 k (k + 1) (omega arith)

-- one element more of a list term
pub elements_more : (before name : List ℕ) (k : ℕ)
    → ((before ++ elements_text (names_to name k)) ++ numbered name (k + 1)) ++ codes "::" ≡ before ++ elements_text (names_to name (k + 1))
elements_more before name k =
    append_assoc (before ++ elements_text (names_to name k)) (numbered name (k + 1)) (codes "::")
    ∙ flat_map_more (λ element. element ++ codes "::") before (names_to name k) (numbered name (k + 1))
    ∙ ap (λ names. before ++ elements_text names) (sym (names_more name k))

-- elements that are at least one are no `nil`
pub some_elements : (name : List ℕ) (n : ℕ) → 0 < n → list_argument (names_to name n) ≡ codes "(" ++ elements_text (names_to name n) ++ codes "nil)"
some_elements name zero h = absurd (omega arith)
some_elements name (suc m) h = refl

-- one piece more that is joined
join_more : (f : List ℕ → List ℕ) (sep x : List ℕ) (xs : List (List ℕ)) (y before : List ℕ)
    → (before ++ join_by f sep (x ∷ xs)) ++ (sep ++ f y) ≡ before ++ join_by f sep (x ∷ (xs ++ y ∷ []))
join_more f sep x xs y before =
    ap (λ t. t ++ (sep ++ f y)) (sym (append_assoc before (f x) (flat_map (λ z. sep ++ f z) xs)))
    ∙ flat_map_more (λ z. sep ++ f z) (before ++ f x) xs y
    ∙ append_assoc before (f x) (flat_map (λ z. sep ++ f z) (xs ++ y ∷ []))

-- one goal more, behind at least one
pub goals_more : (before : List ℕ) (k : ℕ) → 1 ≤ k
    → (before ++ goals (codes "bit ") (names_to (codes "X") k)) ++ numbered (codes " , bit X") (k + 1) ≡ before
    ++ goals (codes "bit ") (names_to (codes "X") (k + 1))
goals_more before zero h = absurd (omega arith)
goals_more before (suc j) h =
    let bit : List ℕ → List ℕ = λ argument. codes "bit " ++ argument in
    join_more bit (codes " , ") (numbered (codes "X") 1) (map (numbered (codes "X")) (range_with_len 2 j)) (numbered (codes "X") (suc j + 1)) before
    ∙ ap (λ names. before ++ goals (codes "bit ") names) (sym (names_more (codes "X") (suc j)))

-- one clause more of a chain
pub links_more : (k : ℕ) → lines_text (links (k + 1)) ≡ line (link (k + 1)) ++ lines_text (links k)
links_more k = ap (λ n. lines_text (links n)) (add-one k)

-- what is written and what is still to be written of a chain stay the same, one clause further
pub chain_step : (text next whole : List ℕ) (k below : ℕ) → k ≡ below + 1
    → next ≡ text ++ line (link (below + 1)) → text ++ lines_text (links k) ≡ whole → next ++ lines_text (links below) ≡ whole
chain_step text next whole k below at wrote known =
    ap (λ t. t ++ lines_text (links below)) wrote
    ∙ append_assoc text (line (link (below + 1))) (lines_text (links below))
    ∙ ap (λ t. text ++ t) (sym (links_more below))
    ∙ ap (λ n. text ++ lines_text (links n)) (sym at)
    ∙ known
