-- Values in place of variables, place by place.
use Rattle.std.proofs.Common.{◌≡◌, ℕ, suc, ◌+◌, ◌<◌, ◌≤◌, refl, ap, sym, ◌∙◌, subst, List, [], ◌∷◌, ◌++◌, map, take, length, get_or, All, arith}
use Rattle.std.specs.Prelude.{Result, Ok, Err, OnOk, IfOk}
use Rattle.std.proofs.lemmas.List.{map-append}
use Rattle.std.proofs.lemmas.List.Elements.{All-cons}
use Rattle.ll_list_laws.proofs.CallerLemmas.{each-push as push_all}
use Rattle.ll_bank.specs.declared.At.{At}
use Rattle.ll_bank.specs.declared.FormAt.{FormAt}
use Rattle.ll_bank.specs.declared.Head.{Head}
use Rattle.ll_bank.specs.Term.{Term, app, sub}
use Rattle.ll_bank.specs.Form.{Form, sub_form}
use Rattle.ll_bank.specs.Nodes.{Nodes, term_tree, term_trees, form_tree, HasTerm, HasForm, AllInTerms, ShowsTerm, ShowsForm, Extends}
use Rattle.ll_bank.proofs.CallerLemmas.{HasTerm-extends, HasForm-extends, term_tree-extends, form_tree-extends, ShowsTerm-extends, ShowsForm-extends}
use Rattle.ll_bank.proofs.CallerLemmas.{term_trees-extends, sub-app}
use Rattle.ll_sequent.specs.Starting.{values}
use Rattle.ll_sequent.specs.Substituted.{IsTermImage, IsFormImage, AreTermImages, AreFormImages}
use Rattle.ll_sequent.proofs.PlaceLemmas.{trees_grow, map_more}

pub on_ok : {T E : Type 0} {P : Type 0} (r : Result T E) → P → OnOk r P
on_ok (Ok x) p = p
on_ok (Err e) p = tt

-- ---- one more

-- ---- a bank that grows

module _ {old new : Nodes} (keeps : Extends old new) (ts : List Term) where
  term_image_extends : (k : ℕ) (image : At) → IsTermImage old ts k image → IsTermImage new ts k image
  term_image_extends k image h = record {
    inside = HasTerm-extends keeps k h.inside;
    shows = let P : Term → Type 0 = λ t. ShowsTerm new image.0 (sub (values ts) t) in
        subst P (sym (term_tree-extends keeps k h.inside)) (ShowsTerm-extends keeps h.shows);
  }

  pub terms_extend : (images : List At) → AreTermImages old ts images → AreTermImages new ts images
  terms_extend images h = λ k d l. term_image_extends k (get_or images k d) (h k d l)

  form_image_extends : (k : ℕ) (image : FormAt) → IsFormImage old ts k image → IsFormImage new ts k image
  form_image_extends k image h = record {
    inside = HasForm-extends keeps k h.inside;
    shows = let P : Form → Type 0 = λ f. ShowsForm new image.0 (sub_form (values ts) f) in
        subst P (sym (form_tree-extends keeps k h.inside)) (ShowsForm-extends keeps h.shows);
  }

  pub forms_extend : (images : List FormAt) → AreFormImages old ts images → AreFormImages new ts images
  forms_extend images h = λ k d l. form_image_extends k (get_or images k d) (h k d l)

  -- the image of one place more
  pub terms_more : (images more : List At) (image : At) → AreTermImages old ts images → HasTerm old (length images)
      → ShowsTerm new image.0 (sub (values ts) (term_tree old (length images))) → more ≡ images ++ image ∷ []
      → AreTermImages new ts more
  terms_more images more image h low shows e =
      let P : List At → Type 0 = AreTermImages new ts in
      let Q : Term → Type 0 = λ t. ShowsTerm new image.0 (sub (values ts) t) in
      subst P (sym e) (push_all (IsTermImage new ts) images image (terms_extend images h)
      (record { inside = HasTerm-extends keeps (length images) low; shows = subst Q (sym (term_tree-extends keeps (length images) low)) shows }))

  pub forms_more : (images more : List FormAt) (image : FormAt) → AreFormImages old ts images → HasForm old (length images)
      → ShowsForm new image.0 (sub_form (values ts) (form_tree old (length images)))
      → more ≡ images ++ image ∷ [] → AreFormImages new ts more
  forms_more images more image h low shows e =
      let P : List FormAt → Type 0 = AreFormImages new ts in
      subst P (sym e) (push_all (IsFormImage new ts) images image (forms_extend images h)
      (record {
        inside = HasForm-extends keeps (length images) low;
        shows =
            record { inside = shows.inside; tree = shows.tree ∙ ap (sub_form (values ts)) (sym (form_tree-extends keeps (length images) low)) };
      }))

-- ---- a formula over the images of its parts

-- a place of a formula shows another spelling of it
pub shown_as : {E : Type 0} (bank : Nodes) (r : Result FormAt E) (f g : Form) → f ≡ g → IfOk r (λ at. ShowsForm bank at.0 f)
    → IfOk r (λ at. ShowsForm bank at.0 g)
shown_as bank r f g e h = let P : Form → Type 0 = λ t. IfOk r (λ at. ShowsForm bank at.0 t) in subst P e h

module _ (bank : Nodes) (ts : List Term) (forms : List FormAt) (h : AreFormImages bank ts forms) (form : FormAt) (low : form.0 ≤ length forms) where
  part_of : (f : FormAt) → f.0 < form.0 → f.0 < length forms
  part_of f l = omega arith

  -- the image of a part
  pub part : (f : FormAt) → f.0 < form.0 → ShowsForm bank (get_or forms f.0 (record { 0 = 0 })).0 (sub_form (values ts) (form_tree bank f.0))
  part f l = (h f.0 (record { 0 = 0 }) (part_of f l)).shows

-- images over the same values, seen in a later bank
pub terms_later : (bank : Nodes) (ts us : List Term) (images : List At) → us ≡ ts → AreTermImages bank ts images → AreTermImages bank us images
terms_later bank ts us images e h = let P : List Term → Type 0 = λ vs. AreTermImages bank vs images in subst P (sym e) h

pub forms_later : (bank : Nodes) (ts us : List Term) (images : List FormAt) → us ≡ ts → AreFormImages bank ts images → AreFormImages bank us images
forms_later bank ts us images e h = let P : List Term → Type 0 = λ vs. AreFormImages bank vs images in subst P (sym e) h

-- ---- heads with arguments

module _ (bank : Nodes) (ts : List Term) (terms : List At) (h : AreTermImages bank ts terms) where
  pub images_inside : (args : List At) → All (λ (a : At). a.0 < length terms) args → AllInTerms bank (map (λ (a : At). get_or terms a.0 a) args)
  images_inside [] l = λ k d n. absurd (omega arith)
  images_inside (a ∷ args) l =
      All-cons (λ (x : At). HasTerm bank x.0) (get_or terms a.0 a) (map (λ (a : At). get_or terms a.0 a) args) (h a.0 a (l 0 a (omega arith))).shows.inside
      (images_inside args (λ j d m. l (suc j) d (omega arith)))

  pub images_show : (args : List At) → All (λ (a : At). a.0 < length terms) args
      → term_trees bank (map (λ (a : At). get_or terms a.0 a) args) ≡ map (sub (values ts)) (term_trees bank args)
  images_show [] l = refl
  images_show (a ∷ args) l = λ i. (h a.0 a (l 0 a (omega arith))).shows.tree i ∷ images_show args (λ j d m. l (suc j) d (omega arith)) i

  pub app_shows : (head : Head) (args images : List At) (term : Term) → images ≡ map (λ (a : At). get_or terms a.0 a) args
      → All (λ (a : At). a.0 < length terms) args → term ≡ app head (term_trees bank args)
      → app head (term_trees bank images) ≡ sub (values ts) term
  app_shows head args images term e l t =
      ap (λ xs. app head (term_trees bank xs)) e ∙ (ap (app head) (images_show args l)
      ∙ (sym (sub-app (values ts) head (term_trees bank args)) ∙ ap (sub (values ts)) (sym t)))

-- arguments lie below images that reach as far as their term
pub args_low : (at n : ℕ) (args : List At) → at ≤ n → All (λ (a : At). a.0 < at) args → All (λ (a : At). a.0 < n) args
args_low at n args l h = λ k d m. let q = h k d m in omega arith

pub all_of : {X : Type 0} (P : X → Type 0) (xs ys : List X) → xs ≡ ys → All P ys → All P xs
all_of P xs ys e h = subst (All P) (sym e) h

-- the image of a term more
pub images_more : (first old new : Nodes) (from : Extends first old) (keeps : Extends old new) (ts : List Term) (places images more : List At) (i : ℕ)
    (d image : At) → i < length places → AllInTerms first places
    → more ≡ images ++ image ∷ [] → AllInTerms old images → ShowsTerm new image.0 (sub (values ts) (term_tree old (get_or places i d).0))
    → term_trees old images ≡ map (sub (values ts)) (map (λ (a : At). term_tree first a.0) (take i places))
    → term_trees new more ≡ map (sub (values ts)) (map (λ (a : At). term_tree first a.0) (take (i + 1) places))
images_more first old new from keeps ts places images more i d image l inside e h s same =
    let here = s.tree ∙ ap (sub (values ts)) (term_tree-extends from (get_or places i d).0 (inside i d l)) in
    trees_grow keeps images more image e h
    ∙ ((λ j. same j ++ here j ∷ [])
    ∙ (sym (map-append (sub (values ts)) (map (λ (a : At). term_tree first a.0) (take i places)) (term_tree first (get_or places i d).0 ∷ []))
    ∙ ap (map (sub (values ts))) (sym (map_more (λ (a : At). term_tree first a.0) places i d l))))

-- the image of a place, as the first bank shows the term there
pub term_image_at : (first bank : Nodes) (keeps : Extends first bank) (ts : List Term) (terms : List At) (at : ℕ) (image : At) → AreTermImages bank ts terms
    → HasTerm first at → at < length terms → image ≡ get_or terms at image
    → ShowsTerm bank image.0 (sub (values ts) (term_tree first at))
term_image_at first bank keeps ts terms at image h inside l e =
    let i = h at image l in
    let P : At → Type 0 = λ a. ShowsTerm bank a.0 (sub (values ts) (term_tree bank at)) in
    let s : P image = subst P (sym e) i.shows in
    record { inside = s.inside; tree = s.tree ∙ ap (sub (values ts)) (term_tree-extends keeps at inside) }

-- ---- in the words of the calls: the values lie in a bank that came before

module _ (first old new : Nodes) (from : Extends first old) (keeps : Extends old new) (vals : List At) (inside : AllInTerms first vals) where
  same_values : term_trees old vals ≡ term_trees first vals
  same_values = term_trees-extends from vals inside

  -- what a call asks
  pub terms_now : (images : List At) → AreTermImages old (term_trees first vals) images → AreTermImages old (term_trees old vals) images
  terms_now images h = terms_later old (term_trees first vals) (term_trees old vals) images same_values h

  pub forms_now : (images : List FormAt) → AreFormImages old (term_trees first vals) images → AreFormImages old (term_trees old vals) images
  forms_now images h = forms_later old (term_trees first vals) (term_trees old vals) images same_values h

  -- what it gives
  pub terms_then : (images : List At) → AreTermImages new (term_trees old vals) images → AreTermImages new (term_trees first vals) images
  terms_then images h = terms_later new (term_trees old vals) (term_trees first vals) images (sym same_values) h

  pub next_more : (images more : List At) (n : ℕ) (image : At) → n ≡ length images → AreTermImages old (term_trees first vals) images → HasTerm old n
      → ShowsTerm new image.0 (sub (values (term_trees old vals)) (term_tree old n)) → more ≡ images ++ image ∷ []
      → AreTermImages new (term_trees first vals) more
  next_more images more n image e h low shows pushed =
      let P : List Term → Type 0 = λ us. ShowsTerm new image.0 (sub (values us) (term_tree old n)) in
      let Q : ℕ → Type 0 = λ m. HasTerm old m in
      let R : ℕ → Type 0 = λ m. ShowsTerm new image.0 (sub (values (term_trees first vals)) (term_tree old m)) in
      terms_more keeps (term_trees first vals) images more image h (subst Q e low) (subst R e (subst P same_values shows)) pushed

  pub next_form_more : (images more : List FormAt) (n : ℕ) (image : FormAt) → n ≡ length images → AreFormImages old (term_trees first vals) images
      → HasForm old n
      → ShowsForm new image.0 (sub_form (values (term_trees old vals)) (form_tree old n)) → more ≡ images ++ image ∷ []
      → AreFormImages new (term_trees first vals) more
  next_form_more images more n image e h low shows pushed =
      let P : List Term → Type 0 = λ us. ShowsForm new image.0 (sub_form (values us) (form_tree old n)) in
      let Q : ℕ → Type 0 = λ m. HasForm old m in
      let R : ℕ → Type 0 = λ m. ShowsForm new image.0 (sub_form (values (term_trees first vals)) (form_tree old m)) in
      forms_more keeps (term_trees first vals) images more image h (subst Q e low) (subst R e (subst P same_values shows)) pushed

  pub next_images : (places images more : List At) (i : ℕ) (d image : At) → i < length places → AllInTerms first places → more ≡ images ++ image ∷ []
      → AllInTerms old images
      → ShowsTerm new image.0 (sub (values (term_trees old vals)) (term_tree old (get_or places i d).0))
      → term_trees old images ≡ map (sub (values (term_trees first vals))) (map (λ (a : At). term_tree first a.0) (take i places))
      → term_trees new more ≡ map (sub (values (term_trees first vals))) (map (λ (a : At). term_tree first a.0) (take (i + 1) places))
  next_images places images more i d image l all pushed h shows same =
      let P : List Term → Type 0 = λ us. ShowsTerm new image.0 (sub (values us) (term_tree old (get_or places i d).0)) in
      images_more first old new from keeps (term_trees first vals) places images more i d image l all pushed h (subst P same_values shows) same

-- the image of a formula's place, as the first bank shows the formula there
pub form_image_at : (first bank : Nodes) (keeps : Extends first bank) (ts : List Term) (forms : List FormAt) (at : ℕ) (image : FormAt)
    → AreFormImages bank ts forms → HasForm first at → at < length forms
    → image ≡ get_or forms at image → ShowsForm bank image.0 (sub_form (values ts) (form_tree first at))
form_image_at first bank keeps ts forms at image h inside l e =
    let i = h at image l in
    let P : FormAt → Type 0 = λ a. ShowsForm bank a.0 (sub_form (values ts) (form_tree bank at)) in
    let s : P image = subst P (sym e) i.shows in
    record { inside = s.inside; tree = s.tree ∙ ap (sub_form (values ts)) (form_tree-extends keeps at inside) }
