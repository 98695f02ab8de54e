-- What a query adds to the part that a program fixes.
use Rattle.std.proofs.Common.{◌≡◌, ℕ, ◌+◌, ◌<◌, List, [], ◌∷◌, ◌++◌, map, length, take, get_or, Option, Some, None, refl, sym, ap, ◌∙◌, arith, length-take}
use Rattle.std.proofs.lemmas.List.{take_more, map-append, length-map}
use Rattle.ll_bank.specs.Names.{with_name}
use Rattle.ll_polarity.specs.Reading.{number_in}
use Rattle.ll_polarity.specs.Numbered.{text_of, variables_of}
use Rattle.std.specs.Prelude.{option_map}
use Rattle.ll_polarity.specs.Asks.{read_asked}
use Rattle.ll_polarity.proofs.reading.FewNames.{few_asked}

asked_then : (names : List (List ℕ)) (vs us : List (Option (List ℕ)))
    → (let r = read_asked names vs in let s = read_asked r.names us in
    ((read_asked names (vs ++ us)).it ≡ r.it ++ s.it) × ((read_asked names (vs ++ us)).names ≡ s.names))
asked_then names [] us = (refl, refl)
asked_then names (None ∷ vs) us = let i = asked_then names vs us in (ap (λ ns. None ∷ ns) i.0, i.1)
asked_then names (Some w ∷ vs) us =
    let i = asked_then (with_name names w) vs us in (ap (λ ns. Some (number_in (with_name names w) w) ∷ ns) i.0, i.1)

-- the numbers of the names of the first variables, so far
pub record AreAsked (texts names : List (List ℕ)) (variables : List (Option ℕ)) (now : List (List ℕ)) (put : List (Option ℕ)) : Type 0 where
  pub numbers : put ≡ (read_asked names (variables_of texts variables)).it
  pub texts_are : now ≡ (read_asked names (variables_of texts variables)).names

pub asked_more : (texts names : List (List ℕ)) (variables : List (Option ℕ)) (v : Option ℕ) (now later : List (List ℕ)) (put after : List (Option ℕ))
    (n : Option ℕ)
    → AreAsked texts names variables now put → n ∷ [] ≡ (read_asked now (variables_of texts (v ∷ []))).it
    → later ≡ (read_asked now (variables_of texts (v ∷ []))).names → after ≡ put ++ n ∷ []
    → AreAsked texts names (variables ++ v ∷ []) later after
asked_more texts names variables v now later put after n r asked names_are added =
    let vs = variables_of texts variables in
    let us = variables_of texts (v ∷ []) in
    let e = asked_then names vs us in
    let split : variables_of texts (variables ++ v ∷ []) ≡ vs ++ us = map-append _ variables (v ∷ []) in
    record {
      numbers = added ∙ ((λ i. r.numbers i ++ (asked ∙ ap (λ ns. (read_asked ns us).it) r.texts_are) i)
          ∙ (sym e.0 ∙ ap (λ xs. (read_asked names xs).it) (sym split)));
      texts_are = names_are ∙ (ap (λ ns. (read_asked ns us).names) r.texts_are ∙ (sym e.1 ∙ ap (λ xs. (read_asked names xs).names) (sym split)));
    }

-- there is room for one more
pub room_more : (texts names now : List (List ℕ)) (variables : List (Option ℕ)) (put : List (Option ℕ)) (i most : ℕ)
    → AreAsked texts names (take i variables) now put → i < length variables
    → length names + length variables < most → length now < most
room_more texts names now variables put i most r l le =
    let f = few_asked names (variables_of texts (take i variables)) in
    let a = length-map (take i variables) (option_map (text_of texts)) in
    let b : length (take i variables) ≡ i = grind (arith, length-take) in
    let e = ap length r.texts_are in omega arith

-- one more text of a list
pub texts_more : {X Y : Type 0} (f : X → List ℕ) (g : Y → List ℕ) (xs : List X) (i : ℕ) (x : X) (t : List ℕ) (put later : List Y) (y : Y) → i < length xs
    → x ≡ get_or xs i x → f x ≡ t → g y ≡ t
    → map g put ≡ map f (take i xs) → later ≡ put ++ y ∷ [] → map g later ≡ map f (take (i + 1) xs)
texts_more f g xs i x t put later y l is same shown h added =
    ap (map g) added ∙ (map-append g put (y ∷ [])
    ∙ ((λ j. h j ++ (shown ∙ (sym same ∙ ap f is)) j ∷ []) ∙ sym (ap (map f) (take_more xs i x l) ∙ map-append f (take i xs) (get_or xs i x ∷ []))))
