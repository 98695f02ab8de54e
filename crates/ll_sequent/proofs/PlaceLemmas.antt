-- Lists of places in a bank that grows, as they get longer.
use Rattle.std.proofs.Common.{◌≡◌, ℕ, suc, ◌+◌, ◌<◌, refl, ap, sym, ◌∙◌, subst, List, [], ◌∷◌, ◌++◌, map, take, length, get_or, arith}
use Rattle.std.proofs.lemmas.List.{map-append, take_more}
use Rattle.std.proofs.lemmas.List.Elements.{All-push}
use Rattle.ll_bank.specs.declared.At.{At}
use Rattle.ll_bank.specs.declared.FormAt.{FormAt}
use Rattle.ll_bank.specs.Nodes.{Nodes, term_tree, term_trees, form_tree, HasTerm, HasForm, AllInTerms, Extends}
use Rattle.ll_bank.proofs.CallerLemmas.{AllInTerms-extends, term_trees-extends, HasForm-extends, form_tree-extends}
use Rattle.ll_sequent.specs.Constants.{AllInForms}
use Rattle.ll_sequent.specs.Opened.{form_trees}

module _ {old new : Nodes} (keeps : Extends old new) where
  pub terms_grow : (ats more : List At) (at : At) → more ≡ ats ++ at ∷ [] → AllInTerms old ats → HasTerm new at.0 → AllInTerms new more
  terms_grow ats more at e h l = let P : List At → Type 0 = AllInTerms new in
      subst P (sym e) (All-push (λ (a : At). HasTerm new a.0) ats at (AllInTerms-extends keeps ats h) l)

  pub trees_grow : (ats more : List At) (at : At) → more ≡ ats ++ at ∷ [] → AllInTerms old ats
      → term_trees new more ≡ term_trees old ats ++ term_tree new at.0 ∷ []
  trees_grow ats more at e h =
      ap (term_trees new) e ∙ (map-append (λ (a : At). term_tree new a.0) ats (at ∷ [])
      ∙ ap (λ ts. ts ++ term_tree new at.0 ∷ []) (term_trees-extends keeps ats h))

  pub forms_extend : (fs : List FormAt) → AllInForms old fs → AllInForms new fs
  forms_extend fs h = λ k d l. HasForm-extends keeps (get_or fs k d).0 (h k d l)

  pub form_trees_extend : (fs : List FormAt) → AllInForms old fs → form_trees new fs ≡ form_trees old fs
  form_trees_extend [] h = refl
  form_trees_extend (f ∷ fs) h = λ i. form_tree-extends keeps f.0 (h 0 f (omega arith)) i ∷ form_trees_extend fs (λ k d l. h (suc k) d (omega arith)) i

  pub forms_grow : (fs more : List FormAt) (f : FormAt) → more ≡ fs ++ f ∷ [] → AllInForms old fs → HasForm new f.0 → AllInForms new more
  forms_grow fs more f e h l = let P : List FormAt → Type 0 = AllInForms new in
      subst P (sym e) (All-push (λ (a : FormAt). HasForm new a.0) fs f (forms_extend fs h) l)

  pub form_trees_grow : (fs more : List FormAt) (f : FormAt) → more ≡ fs ++ f ∷ [] → AllInForms old fs
      → form_trees new more ≡ form_trees old fs ++ form_tree new f.0 ∷ []
  form_trees_grow fs more f e h =
      ap (form_trees new) e ∙ (map-append (λ (a : FormAt). form_tree new a.0) fs (f ∷ []) ∙ ap (λ ts. ts ++ form_tree new f.0 ∷ []) (form_trees_extend fs h))

-- one more of what a function gives of a list
pub map_more : {X Y : Type 0} (f : X → Y) (xs : List X) (i : ℕ) (d : X) → i < length xs → map f (take (i + 1) xs) ≡ map f (take i xs) ++ f (get_or xs i d) ∷ []
map_more f xs i d l = ap (map f) (take_more xs i d l) ∙ map-append f (take i xs) (get_or xs i d ∷ [])
