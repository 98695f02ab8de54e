-- What is closed in a bank that grows, seen in the first bank and in the grown one.
use Rattle.std.proofs.Common.{◌≡◌, ℕ, ◌+◌, ◌<◌, ◌++◌, map, take, true, List, [], ◌∷◌, length, get_or, ap, sym, subst, ◌∙◌, arith, Option}
use Rattle.std.proofs.lemmas.List.{map-append, map_more}
use Rattle.std.proofs.lemmas.List.Elements.{All-push}
use Rattle.ll_bank.specs.declared.At.{At}
use Rattle.ll_bank.specs.declared.FormAt.{FormAt}
use Rattle.ll_bank.specs.Term.{Env, close, applies_heads}
use Rattle.ll_bank.specs.Form.{close_form, form_applies_heads}
use Rattle.ll_bank.specs.Nodes.{Nodes, HasTerm, HasForm, AllInTerms, ShowsTerm, ShowsForm, Extends, term_tree, form_tree, term_trees}
use Rattle.ll_bank.specs.Opened.{Spot, AreImages, term_parts_at, form_parts_at}
use Rattle.ll_bank.proofs.Trees.{HasTerm-extends, HasForm-extends, term_tree-extends, form_tree-extends, AllInTerms-extends, term_trees-extends}
use Rattle.ll_bank.proofs.PartLemmas.{term_parts_same, form_parts_same}
use Rattle.ll_bank.specs.Closing.{env_in, HasValues, under, IsTermImage, IsFormImage, IsGoodTerm, IsGoodForm}
use Rattle.ll_bank.specs.declared.closing.values.Values.{Values}
use Rattle.ll_bank.specs.declared.closing.stack.Task.{Task}
use Rattle.ll_bank.specs.Stacks.{EndsWith, IsClosing, spot_of}
use Rattle.ll_bank.proofs.closes.Stacks.{closing_good, closing_ready}
use Rattle.ll_bank.proofs.closes.Values.{values_extends}
use Rattle.ll_bank.proofs.closes.Parts.{term_good_now, form_good_now}

module _ (first now : Nodes) (e : Extends first now) (values : Values) (all : HasValues first values) where
  same_env : env_in now values ≡ env_in first values
  same_env = values_extends first now e values all

  pub images_now : (lookup : Spot → Option ℕ) → AreImages (IsTermImage now (env_in first values)) lookup
      → AreImages (IsTermImage now (env_in now values)) lookup
  images_now lookup h = subst (λ v. AreImages (IsTermImage now v) lookup) (sym same_env) h

  pub images_then : (new : Nodes) (lookup : Spot → Option ℕ) → AreImages (IsTermImage new (env_in now values)) lookup
      → AreImages (IsTermImage new (env_in first values)) lookup
  images_then new lookup h = subst (λ v. AreImages (IsTermImage new v) lookup) same_env h

  module _ (k : Spot) where
    pub term_heads_now : IsGoodTerm first (env_in first values) k → applies_heads (close (under (env_in now values) k.1) (term_tree now k.0)) ≡ true
    term_heads_now g = subst (λ v. applies_heads (close (under v k.1) (term_tree now k.0)) ≡ true) (sym same_env)
        (term_good_now first now e (env_in first values) k g).1

    pub form_heads_now : (limit : ℕ) → IsGoodForm first (env_in first values, limit) k
        → form_applies_heads (close_form (under (env_in now values) k.1) (form_tree now k.0)) ≡ true
    form_heads_now limit g = subst (λ v. form_applies_heads (close_form (under v k.1) (form_tree now k.0)) ≡ true) (sym same_env)
        (form_good_now first now e (env_in first values, limit) k g).heads

    pub terms_end_now : (made : List At) → HasTerm first k.0 → EndsWith (λ q (x : At). IsTermImage now (env_in first values) q x.0) (term_parts_at first k) made
        → EndsWith (λ q (x : At). IsTermImage now (env_in now values) q x.0) (term_parts_at now k) made
    terms_end_now made h w =
        subst (λ v. EndsWith (λ q (x : At). IsTermImage now v q x.0) (term_parts_at now k) made) (sym same_env)
        (subst (λ ps. EndsWith (λ q (x : At). IsTermImage now (env_in first values) q x.0) ps made) (sym (term_parts_same first now e k h)) w)

    pub forms_end_now : (made : List FormAt) → HasForm first k.0
        → EndsWith (λ q (x : FormAt). IsFormImage now (env_in first values) q x.0) (form_parts_at first k) made
        → EndsWith (λ q (x : FormAt). IsFormImage now (env_in now values) q x.0) (form_parts_at now k) made
    forms_end_now made h w =
        subst (λ v. EndsWith (λ q (x : FormAt). IsFormImage now v q x.0) (form_parts_at now k) made) (sym same_env)
        (subst (λ ps. EndsWith (λ q (x : FormAt). IsFormImage now (env_in first values) q x.0) ps made) (sym (form_parts_same first now e k h)) w)

    -- an image that was made
    pub term_image_made : (next : Nodes) (g : Extends now next) (image : ℕ) → HasTerm first k.0
        → ShowsTerm next image (close (under (env_in now values) k.1) (term_tree now k.0)) → IsTermImage next (env_in first values) k image
    term_image_made next g image h s =
        let n = HasTerm-extends e k.0 h in (
          HasTerm-extends g k.0 n,
          subst (λ v. ShowsTerm next image (close (under v k.1) (term_tree next k.0))) same_env
              (subst (λ u. ShowsTerm next image (close (under (env_in now values) k.1) u)) (sym (term_tree-extends g k.0 n)) s),
        )

    pub form_image_made : (next : Nodes) (g : Extends now next) (image : ℕ) → HasForm first k.0
        → ShowsForm next image (close_form (under (env_in now values) k.1) (form_tree now k.0)) → IsFormImage next (env_in first values) k image
    form_image_made next g image h s =
        let n = HasForm-extends e k.0 h in (
          HasForm-extends g k.0 n,
          subst (λ v. ShowsForm next image (close_form (under v k.1) (form_tree next k.0))) same_env
              (subst (λ u. ShowsForm next image (close_form (under (env_in now values) k.1) u)) (sym (form_tree-extends g k.0 n)) s),
        )

    -- what shows a part of the grown bank shows it of the first
    pub term_shown : (next : Nodes) (image : ℕ) → HasTerm first k.0 → ShowsTerm next image (close (under (env_in now values) k.1) (term_tree now k.0))
        → ShowsTerm next image (close (under (env_in first values) k.1) (term_tree first k.0))
    term_shown next image h s = subst (λ v. ShowsTerm next image (close (under v k.1) (term_tree first k.0))) same_env
        (subst (λ u. ShowsTerm next image (close (under (env_in now values) k.1) u)) (term_tree-extends e k.0 h) s)

    -- and likewise a formula
    pub form_shown : (next : Nodes) (image : ℕ) → HasForm first k.0
        → ShowsForm next image (close_form (under (env_in now values) k.1) (form_tree now k.0))
        → ShowsForm next image (close_form (under (env_in first values) k.1) (form_tree first k.0))
    form_shown next image h s = subst (λ v. ShowsForm next image (close_form (under v k.1) (form_tree first k.0))) same_env
        (subst (λ u. ShowsForm next image (close_form (under (env_in now values) k.1) u)) (form_tree-extends e k.0 h) s)

    -- a formula that is good in the first bank is good in the grown one
    pub form_heads_kept : HasForm first k.0 → form_applies_heads (close_form (under (env_in first values) k.1) (form_tree first k.0)) ≡ true
        → form_applies_heads (close_form (under (env_in now values) k.1) (form_tree now k.0)) ≡ true
    form_heads_kept h g = form_heads_now (k.0 + k.1) (record { inside = h; heads = g; level = omega arith })

    -- the only image that is left
    pub term_left : (made : List At) (d : At) → d ≡ get_or made 0 d → HasTerm first k.0
        → (x : At) × (made ≡ x ∷ []) × IsTermImage now (env_in first values) k x.0
        → ShowsTerm now d.0 (close (under (env_in first values) k.1) (term_tree first k.0))
    term_left made d q h r =
        let e0 : r.0 ≡ d = sym (q ∙ ap (λ ms. get_or ms 0 d) r.1) in
        subst (λ (z : At). ShowsTerm now z.0 (close (under (env_in first values) k.1) (term_tree first k.0))) e0
        (subst (λ u. ShowsTerm now r.0.0 (close (under (env_in first values) k.1) u)) (term_tree-extends e k.0 h) r.2.1)

    pub form_left : (made : List FormAt) (d : FormAt) → d ≡ get_or made 0 d → HasForm first k.0
        → (x : FormAt) × (made ≡ x ∷ []) × IsFormImage now (env_in first values) k x.0
        → ShowsForm now d.0 (close_form (under (env_in first values) k.1) (form_tree first k.0))
    form_left made d q h r =
        let e0 : r.0 ≡ d = sym (q ∙ ap (λ ms. get_or ms 0 d) r.1) in
        subst (λ (z : FormAt). ShowsForm now z.0 (close_form (under (env_in first values) k.1) (form_tree first k.0))) e0
        (subst (λ u. ShowsForm now r.0.0 (close_form (under (env_in first values) k.1) u)) (form_tree-extends e k.0 h) r.2.1)

-- one more term has its image
pub terms_more : (first now new : Nodes) (e : Extends now new) (t : Env) (n : ℕ) (terms made made' : List At) (i : ℕ) (d image : At) → i < length terms
    → AllInTerms now made
    → term_trees now made ≡ map (close (under t n)) (term_trees first (take i terms))
    → ShowsTerm new image.0 (close (under t n) (term_tree first (get_or terms i d).0)) → made' ≡ made ++ image ∷ []
    → AllInTerms new made' × (term_trees new made' ≡ map (close (under t n)) (term_trees first (take (i + 1) terms)))
terms_more first now new e t n terms made made' i d image l all is s f = (
  subst (AllInTerms new) (sym f) (All-push (λ (a : At). a.0 < length new.terms) made image (AllInTerms-extends e made all) s.inside),
  ap (term_trees new) f
      ∙ (map-append (λ (a : At). term_tree new a.0) made (image ∷ [])
      ∙ ((λ j. (term_trees-extends e made all ∙ is) j ++ s.tree j ∷ [])
      ∙ (sym (map-append (close (under t n)) (term_trees first (take i terms)) (term_tree first (get_or terms i d).0 ∷ []))
      ∙ ap (map (close (under t n))) (sym (map_more (λ (a : At). term_tree first a.0) terms i d l))))),
)

-- ---- the next task

-- what is known of a term whose task is next
pub record TermTurn (first now : Nodes) (values : Values) (task : Task) (made : List At) : Type 0 where
  pub good : IsGoodTerm first (env_in first values) (spot_of task)
  pub heads : applies_heads (close (under (env_in now values) task.level) (term_tree now task.place)) ≡ true
  pub parts : term_parts_at now (spot_of task) ≡ term_parts_at first (spot_of task)
  pub ends : task.ready ≡ true → EndsWith (λ q (x : At). IsTermImage now (env_in now values) q x.0) (term_parts_at now (spot_of task)) made
  pub image : (next : Nodes) (at : ℕ) → Extends now next → ShowsTerm next at (close (under (env_in now values) task.level) (term_tree now task.place))
      → IsTermImage next (env_in first values) (spot_of task) at

pub term_turn : {first now : Nodes} {root : Spot} {made : List At} {items : List Task} (values : Values) (rest : List Task) (task : Task)
    → Extends first now → HasValues first values → items ≡ rest ++ task ∷ []
    → IsClosing (λ q (x : At). IsTermImage now (env_in first values) q x.0) (term_parts_at first) (IsGoodTerm first (env_in first values)) root made items
    → TermTurn first now values task made
term_turn {first} {now} {made} values rest task e all is c =
    let k = spot_of task in
    let g : IsGoodTerm first (env_in first values) k = closing_good rest task is c in
    record {
      good = g;
      heads = term_heads_now first now e values all k g;
      parts = term_parts_same first now e k g.0;
      ends = λ r. terms_end_now first now e values all k made g.0 (closing_ready rest task is c r);
      image = λ next at more s. term_image_made first now e values all k next more at g.0 s;
    }

-- and of a formula
pub record FormTurn (first now : Nodes) (values : Values) (limit : ℕ) (task : Task) (made : List FormAt) : Type 0 where
  pub good : IsGoodForm first (env_in first values, limit) (spot_of task)
  pub inside : HasForm now task.place
  pub heads : form_applies_heads (close_form (under (env_in now values) task.level) (form_tree now task.place)) ≡ true
  pub parts : form_parts_at now (spot_of task) ≡ form_parts_at first (spot_of task)
  pub ends : task.ready ≡ true → EndsWith (λ q (x : FormAt). IsFormImage now (env_in now values) q x.0) (form_parts_at now (spot_of task)) made
  pub image : (next : Nodes) (at : ℕ) → Extends now next → ShowsForm next at (close_form (under (env_in now values) task.level) (form_tree now task.place))
      → IsFormImage next (env_in first values) (spot_of task) at

pub form_turn : {first now : Nodes} {limit : ℕ} {root : Spot} {made : List FormAt} {items : List Task} (values : Values) (rest : List Task) (task : Task)
    → Extends first now → HasValues first values → items ≡ rest ++ task ∷ []
    → IsClosing (λ q (x : FormAt). IsFormImage now (env_in first values) q x.0) (form_parts_at first) (IsGoodForm first (env_in first values, limit)) root made
    items
    → FormTurn first now values limit task made
form_turn {first} {now} {limit} {made} values rest task e all is c =
    let k = spot_of task in
    let g : IsGoodForm first (env_in first values, limit) k = closing_good rest task is c in
    record {
      good = g;
      inside = HasForm-extends e task.place g.inside;
      heads = form_heads_now first now e values all k limit g;
      parts = form_parts_same first now e k g.inside;
      ends = λ r. forms_end_now first now e values all k made g.inside (closing_ready rest task is c r);
      image = λ next at more s. form_image_made first now e values all k next more at g.inside s;
    }
