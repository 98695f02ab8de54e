-- What the parts of a body are opened to: the trees of heads, terms and formulas, and that they stay as the bank grows.
use Rattle.std.proofs.Common.{◌≡◌, ℕ, zero, suc, ◌+◌, ◌-◌, ◌<◌, true, List, [], ◌∷◌, ◌++◌, length, map, All, get_or, take, refl, ap, sym, subst, ◌∙◌}
use Rattle.std.proofs.Common.{inl, inr, arith, true≢false, append_assoc, Option, Some, None}
use Rattle.std.specs.Prelude.{◌&&◌, IsSome, slice_get}
use Rattle.std.specs.List.{list_all}
use Rattle.std.proofs.lemmas.Bool.{and_parts}
use Rattle.std.proofs.lemmas.List.{map-append, map_more}
use Rattle.std.proofs.lemmas.List.Elements.{All-cons, All-head, All-tail, All-map, All-weaker, All-push}
use Rattle.ll_list_laws.proofs.CallerLemmas.{map_map}
use Rattle.ll_bank.specs.declared.At.{At}
use Rattle.ll_bank.specs.declared.FormAt.{FormAt}
use Rattle.ll_bank.specs.declared.Head.TheVariants.{Bound}
use Rattle.ll_bank.specs.declared.TermView.{TermView}
use Rattle.ll_bank.specs.declared.TermView.TheVariants.{Var as VarView, Int as IntView, App as AppView}
use Rattle.ll_bank.specs.declared.FormNode.{FormNode}
use Rattle.ll_bank.specs.declared.FormNode.TheVariants.{Top as TopView, One as OneView, Atom as AtomView, With as WithView, Tensor as TensorView}
use Rattle.ll_bank.specs.declared.FormNode.TheVariants.{Plus as PlusView, Bang as BangView, Lolli as LolliView, Imp as ImpView, Forall as ForallView}
use Rattle.ll_bank.specs.declared.FormNode.TheVariants.{Exists as ExistsView, Use as UseView, Is as IsView, Less as LessView, Most as MostView}
use Rattle.ll_bank.specs.Term.{Term, Con, place, close, close_head, applies_heads}
use Rattle.ll_bank.specs.Form.{close_form, form_applies_heads}
use Rattle.ll_bank.specs.Nodes.{Nodes, term_tree, form_tree, term_trees, HasTerm, HasForm}
use Rattle.ll_bank.specs.Nodes.{AllInTerms, ShowsTerm, ShowsForm, Extends, HasPartsBelow, IsTermView, IsFormView, places, node_of_term, node_of, form_of}
use Rattle.ll_bank.specs.Walk.{HasImage, ShowsAt}
use Rattle.ll_bank.specs.declared.open.Task.{Task}
use Rattle.ll_bank.specs.Instantiated.{opened, visit, IsIn, IsKnown, IsTermImage, IsFormImage, ShowsImage, ShowsFormImage, IsTermGood, IsFormGood}
use Rattle.ll_bank.specs.Opened.{Spot, term_parts, form_parts, AreImages, ArePartsOf, term_size, form_size, term_size_at, form_size_at, term_parts_at}
use Rattle.ll_bank.specs.Opened.{form_parts_at}
use Rattle.ll_bank.proofs.Trees.{HasTerm-extends, HasForm-extends, term_tree-extends, form_tree-extends, AllInTerms-extends, term_trees-extends}
use Rattle.ll_bank.proofs.Trees.{ShowsTerm-extends, ShowsForm-extends}
use Rattle.ll_bank.proofs.PartLemmas.{node_seen}
use Rattle.ll_bank.proofs.BankLemmas.{below_places}
use Rattle.ll_bank.proofs.PartLemmas.{HasForm-below, HasTerm-below, close-apply, form_node_seen, form_parts_same, heads_args, no_parts, one_part}
use Rattle.ll_bank.proofs.PartLemmas.{sizes_of_args, sum_same, term_parts_same, term_size-apply, two_parts}
use Rattle.ll_bank.proofs.ImageLemmas.{shown_images}

-- ---- bound places

pub place_opened : (t : Term) (n m : ℕ) → place (opened t n) n m ≡ t
place_opened t zero m = refl
place_opened t (suc n) m = place_opened t n (suc m)

pub place_inside : (t : Term) (n k m : ℕ) → k < n → place (opened t n) k m ≡ Con (Bound (m + k))
place_inside t zero k m l = absurd (omega arith)
place_inside t (suc n) zero m l = ap (λ j. Con (Bound j)) (let e : m ≡ m + 0 = omega arith in e)
place_inside t (suc n) (suc k) m l = place_inside t n k (suc m) (omega arith) ∙ ap (λ j. Con (Bound j)) (let e : suc m + k ≡ m + suc k = omega arith in e)

pub place_outside : (t : Term) (n k m : ℕ) → n < k → place (opened t n) k m ≡ Con (Bound (m + (k - 1)))
place_outside t zero zero m l = absurd (omega arith)
place_outside t zero (suc k) m l = ap (λ j. Con (Bound j)) (let e : m + k ≡ m + (suc k - 1) = omega arith in e)
place_outside t (suc n) zero m l = absurd (omega arith)
place_outside t (suc n) (suc k) m l = place_outside t n k (suc m) (omega arith)
    ∙ ap (λ j. Con (Bound j)) (let e : suc m + (k - 1) ≡ m + (suc k - 1) = omega arith in e)

pub head_here : (t : Term) (n k : ℕ) → k ≡ n → place (opened t n) k 0 ≡ t
head_here t n k e = ap (λ j. place (opened t n) j 0) e ∙ place_opened t n 0

pub head_inside : (t : Term) (n k : ℕ) → k < n → place (opened t n) k 0 ≡ Con (Bound k)
head_inside t n k l = place_inside t n k 0 l ∙ ap (λ j. Con (Bound j)) (let e : 0 + k ≡ k = omega arith in e)

pub head_outside : (t : Term) (n k : ℕ) → n < k → place (opened t n) k 0 ≡ Con (Bound (k - 1))
head_outside t n k l = place_outside t n k 0 l ∙ ap (λ j. Con (Bound j)) (let e : 0 + (k - 1) ≡ k - 1 = omega arith in e)

-- ---- parts that are good

args_good : (bank : Nodes) (t : Term) (n at : ℕ) (args : List At) → HasTerm bank at → All (λ (a : At). a.0 < at) args
    → All (λ u. applies_heads u ≡ true) (map (close (opened t n)) (term_trees bank args))
    → All (IsTermGood bank t) (map (λ (a : ℕ). let k : Spot = (a, n) in k) (places args))
args_good bank t n at [] h low g = λ j d l. absurd (omega arith)
args_good bank t n at (a ∷ args) h low g =
    let b = All-head (λ (x : At). x.0 < at) a args low in
    All-cons (IsTermGood bank t) (a.0, n) (map (λ (x : ℕ). let k : Spot = (x, n) in k) (places args))
    ((omega arith), All-head (λ u. applies_heads u ≡ true) (close (opened t n) (term_tree bank a.0)) (map (close (opened t n)) (term_trees bank args)) g)
    (args_good bank t n at args h (All-tail (λ (x : At). x.0 < at) a args low)
    (All-tail (λ u. applies_heads u ≡ true) (close (opened t n) (term_tree bank a.0)) (map (close (opened t n)) (term_trees bank args)) g))

pub term_parts_small : (bank : Nodes) (at n : ℕ) (view : TermView) → slice_get bank.terms at ≡ Some (node_of_term view) → IsTermView bank at view
    → ArePartsOf (term_size_at bank) (IsTermGood bank) (at, n) (term_parts_at bank (at, n))
term_parts_small bank at n view e v = subst (λ node. ArePartsOf (term_size_at bank) (IsTermGood bank) (at, n) (term_parts node n))
    (sym (node_seen bank at (node_of_term view) e)) (by view v)
  where
    by : (w : TermView) → IsTermView bank at w → ArePartsOf (term_size_at bank) (IsTermGood bank) (at, n) (term_parts (node_of_term w) n)
    by (VarView x) h = record { lower = λ j d l. absurd (omega arith); smaller = rw h (omega arith); still_good = λ t g j d l. absurd (omega arith) }
    by (IntView z) h = record { lower = λ j d l. absurd (omega arith); smaller = rw h (omega arith); still_good = λ t g j d l. absurd (omega arith) }
    by (AppView k args) h = record {
      lower = All-map (λ (p : Spot). p.0 < at) (λ a. (a, n)) (places args.now) (below_places at args.now h.1);
      smaller =
          let s = sizes_of_args bank n args.now in let t = term_size-apply (Con k) (term_trees bank args.now) in let u = ap term_size h.0 in omega arith;
      still_good = λ t g. args_good bank t n at args.now g.0 h.1
          (heads_args (close_head (opened t n) k) (map (close (opened t n)) (term_trees bank args.now))
          (sym (ap applies_heads (ap (close (opened t n)) h.0 ∙ close-apply (opened t n) (Con k) (term_trees bank args.now))) ∙ g.1));
    }

one_good : (bank : Nodes) (w : Term × ℕ) (at n f : ℕ) → f < at → IsFormGood bank w (at, n)
    → form_applies_heads (close_form (opened w.0 n) (form_tree bank f)) ≡ true
    → All (IsFormGood bank w) ((f, n) ∷ [])
one_good bank w at n f l q e =
    let i = q.inside in let v = q.level in All-cons (IsFormGood bank w) (f, n) [] (record { inside = omega arith; heads = e; level = omega arith })
    (λ j d k. absurd (omega arith))

inner_good : (bank : Nodes) (w : Term × ℕ) (at n f : ℕ) → f < at → IsFormGood bank w (at, n)
    → form_applies_heads (close_form (opened w.0 (suc n)) (form_tree bank f)) ≡ true
    → All (IsFormGood bank w) ((f, n + 1) ∷ [])
inner_good bank w at n f l q e =
    let i = q.inside in let v = q.level in let s : suc n ≡ n + 1 = omega arith in
    All-cons (IsFormGood bank w) (f, n + 1) [] (record {
      inside = omega arith;
      heads =
          subst (λ m. form_applies_heads (close_form (opened w.0 m) (form_tree bank f)) ≡ true) s e;
      level = omega arith;
    })
    (λ j d k. absurd (omega arith))

two_good : (bank : Nodes) (w : Term × ℕ) (at n f g : ℕ) → f < at → g < at → IsFormGood bank w (at, n)
    → (form_applies_heads (close_form (opened w.0 n) (form_tree bank f)) && form_applies_heads (close_form (opened w.0 n) (form_tree bank g))) ≡ true
    → All (IsFormGood bank w) ((f, n) ∷ (g, n) ∷ [])
two_good bank w at n f g l k q e =
    let p = and_parts (form_applies_heads (close_form (opened w.0 n) (form_tree bank f))) (form_applies_heads (close_form (opened w.0 n) (form_tree bank g))) e
    in let i = q.inside in let v = q.level in
    All-cons (IsFormGood bank w) (f, n) ((g, n) ∷ []) (record { inside = omega arith; heads = p.0; level = omega arith }) (one_good bank w at n g k q p.1)

pub form_parts_small : (bank : Nodes) (at n : ℕ) (view : FormNode) → slice_get bank.forms at ≡ Some (node_of view) → IsFormView bank at view
    → ArePartsOf (form_size_at bank) (IsFormGood bank) (at, n) (form_parts_at bank (at, n))
form_parts_small bank at n view e v = subst (λ node. ArePartsOf (form_size_at bank) (IsFormGood bank) (at, n) (form_parts node n))
    (sym (form_node_seen bank at (node_of view) e)) (by view v.tree v.parts)
  where
    by : (w : FormNode) → form_tree bank at ≡ form_of bank w → HasPartsBelow (length bank.terms) at w
        → ArePartsOf (form_size_at bank) (IsFormGood bank) (at, n) (form_parts (node_of w) n)
    by TopView t h = record { lower = no_parts at; smaller = rw t (omega arith); still_good = λ w q j d l. absurd (omega arith) }
    by OneView t h = record { lower = no_parts at; smaller = rw t (omega arith); still_good = λ w q j d l. absurd (omega arith) }
    by (AtomView a) t h = record { lower = no_parts at; smaller = rw t (omega arith); still_good = λ w q j d l. absurd (omega arith) }
    by (IsView a b) t h = record { lower = no_parts at; smaller = rw t (omega arith); still_good = λ w q j d l. absurd (omega arith) }
    by (LessView a b) t h = record { lower = no_parts at; smaller = rw t (omega arith); still_good = λ w q j d l. absurd (omega arith) }
    by (MostView a b) t h = record { lower = no_parts at; smaller = rw t (omega arith); still_good = λ w q j d l. absurd (omega arith) }
    by (WithView f g) t h = record {
      lower = two_parts at n f.0 g.0 n h.0 h.1;
      smaller = let s = ap form_size t in
          omega arith;
      still_good = λ w q. two_good bank w at n f.0 g.0 h.0 h.1 q (sym (ap (λ x. form_applies_heads (close_form (opened w.0 n) x)) t) ∙ q.heads);
    }
    by (TensorView f g) t h = record {
      lower = two_parts at n f.0 g.0 n h.0 h.1;
      smaller = let s = ap form_size t in
          omega arith;
      still_good = λ w q. two_good bank w at n f.0 g.0 h.0 h.1 q (sym (ap (λ x. form_applies_heads (close_form (opened w.0 n) x)) t) ∙ q.heads);
    }
    by (PlusView f g) t h = record {
      lower = two_parts at n f.0 g.0 n h.0 h.1;
      smaller = let s = ap form_size t in
          omega arith;
      still_good = λ w q. two_good bank w at n f.0 g.0 h.0 h.1 q (sym (ap (λ x. form_applies_heads (close_form (opened w.0 n) x)) t) ∙ q.heads);
    }
    by (BangView f) t h = record {
      lower = one_part at n f.0 n h;
      smaller = let s = ap form_size t in
          omega arith;
      still_good = λ w q. one_good bank w at n f.0 h q (sym (ap (λ x. form_applies_heads (close_form (opened w.0 n) x)) t) ∙ q.heads);
    }
    by (LolliView f g) t h = record {
      lower = two_parts at n f.0 g.0 n h.0 h.1;
      smaller = let s = ap form_size t in
          omega arith;
      still_good = λ w q. two_good bank w at n f.0 g.0 h.0 h.1 q (sym (ap (λ x. form_applies_heads (close_form (opened w.0 n) x)) t) ∙ q.heads);
    }
    by (ImpView f g) t h = record {
      lower = two_parts at n f.0 g.0 n h.0 h.1;
      smaller = let s = ap form_size t in
          omega arith;
      still_good = λ w q. two_good bank w at n f.0 g.0 h.0 h.1 q (sym (ap (λ x. form_applies_heads (close_form (opened w.0 n) x)) t) ∙ q.heads);
    }
    by (ForallView f) t h = record {
      lower = one_part at n f.0 (n + 1) h;
      smaller = let s = ap form_size t in
          omega arith;
      still_good = λ w q. inner_good bank w at n f.0 h q (sym (ap (λ x. form_applies_heads (close_form (opened w.0 n) x)) t) ∙ q.heads);
    }
    by (ExistsView f) t h = record {
      lower = one_part at n f.0 (n + 1) h;
      smaller = let s = ap form_size t in
          omega arith;
      still_good = λ w q. inner_good bank w at n f.0 h q (sym (ap (λ x. form_applies_heads (close_form (opened w.0 n) x)) t) ∙ q.heads);
    }
    by (UseView m args f) t h = record {
      lower = one_part at n f.0 n h.1;
      smaller = let s = ap form_size t in omega arith;
      still_good = λ w q. one_good bank w at n f.0 h.1 q (and_parts (list_all applies_heads (map (close (opened w.0 n)) (term_trees bank args.now)))
          (form_applies_heads (close_form (opened w.0 n) (form_tree bank f.0)))
          (sym (ap (λ x. form_applies_heads (close_form (opened w.0 n) x)) t) ∙ q.heads)).1;
    }

-- a part that is ready, and its own parts above it
pub pushed : (parts parts' : List Spot) (old now next : List Task) (r : Task) → parts ≡ parts' → now ≡ old ++ r ∷ [] → next ≡ now ++ map visit parts'
    → next ≡ old ++ r ∷ map visit parts
pushed parts parts' old now next r p e f =
    f ∙ (ap (λ xs. xs ++ map visit parts') e ∙ (append_assoc old (r ∷ []) (map visit parts') ∙ (λ i. old ++ r ∷ map visit (sym p i))))

-- ---- arguments and their images

pub known_args : (lookup : Spot → Option At) (n : ℕ) (args : List At)
    → ((k : Spot) → IsIn k (map (λ (a : ℕ). let s : Spot = (a, n) in s) (places args)) → IsKnown lookup k) → All (λ (a : At). IsSome (lookup (a.0, n))) args
known_args lookup n [] h = λ j d l. absurd (omega arith)
known_args lookup n (a ∷ args) h = All-cons (λ (b : At). IsSome (lookup (b.0, n))) a args (h (a.0, n) (inl refl))
    (known_args lookup n args (λ k i. h k (inr i)))

some_image : {X : Type 0} (o : Option X) → IsSome o → (x : X) × (o ≡ Some x)
some_image None h = absurd (true≢false (sym h))
some_image (Some x) h = (x, refl)

pub args_shown : (bank : Nodes) (t : Term) (lookup : Spot → Option At) (n : ℕ) (args found : List At) → AreImages (IsTermImage bank t) lookup
    → All (λ (a : At). IsSome (lookup (a.0, n))) args
    → map (λ (v : At). let o : Option At = Some v in o) found ≡ map (λ (a : At). lookup (a.0, n)) args
    → AllInTerms bank found × (term_trees bank found ≡ map (close (opened t n)) (term_trees bank args))
args_shown bank t lookup n args found images known is =
    let s = shown_images bank (λ p. lookup (p, n)) (λ p. close (opened t n) (term_tree bank p)) args found is
    (All-weaker (λ (a : At). IsSome (lookup (a.0, n))) (λ (a : At). HasImage (ShowsAt bank) (λ p. lookup (p, n)) a.0 (close (opened t n) (term_tree bank a.0)))
    (λ a h. let x = some_image (lookup (a.0, n)) h in (x.0, (x.1, (images (a.0, n) x.0 x.1).1))) args known) in
    (s.0, s.1 ∙ sym (map_map (close (opened t n)) (λ (a : At). term_tree bank a.0) args))

-- ---- a bank that grows

module _ (first now : Nodes) (e : Extends first now) where
  pub term_good_now : (t : Term) (k : Spot) → IsTermGood first t k → IsTermGood now t k
  term_good_now t k g = (HasTerm-extends e k.0 g.0, ap (λ u. applies_heads (close (opened t k.1) u)) (term_tree-extends e k.0 g.0) ∙ g.1)

  pub form_good_now : (w : Term × ℕ) (k : Spot) → IsFormGood first w k → IsFormGood now w k
  form_good_now w k g = record {
    inside = HasForm-extends e k.0 g.inside;
    heads = ap (λ u. form_applies_heads (close_form (opened w.0 k.1) u)) (form_tree-extends e k.0 g.inside) ∙ g.heads;
    level = g.level;
  }

  -- the parts of a term are its parts in the first bank
  pub term_parts_first : (k : Spot) → HasTerm first k.0 → ArePartsOf (term_size_at now) (IsTermGood now) k (term_parts_at now k)
      → ArePartsOf (term_size_at first) (IsTermGood first) k (term_parts_at first k)
  term_parts_first k h p = back (subst (ArePartsOf (term_size_at now) (IsTermGood now) k) (term_parts_same first now e k h) p)
    where
      back : ArePartsOf (term_size_at now) (IsTermGood now) k (term_parts_at first k)
          → ArePartsOf (term_size_at first) (IsTermGood first) k (term_parts_at first k)
      back p = record {
        lower = p.lower;
        smaller =
            let s = sum_same (term_size_at now) (term_size_at first) (term_parts_at first k)
            (λ j d l. ap term_size (term_tree-extends e (get_or (term_parts_at first k) j d).0
            (HasTerm-below first k.0 (get_or (term_parts_at first k) j d).0 h (p.lower j d l)))) in
            let z = ap term_size (term_tree-extends e k.0 h) in let m = p.smaller in omega arith;
        still_good = λ t g j d l.
            let i = HasTerm-below first k.0 (get_or (term_parts_at first k) j d).0 h (p.lower j d l) in (
              i,
              sym (ap (λ u. applies_heads (close (opened t (get_or (term_parts_at first k) j d).1) u))
                  (term_tree-extends e (get_or (term_parts_at first k) j d).0 i)) ∙ (p.still_good t (term_good_now t k g) j d l).1,
            );
      }

  -- and those of a formula
  pub form_parts_first : (k : Spot) → HasForm first k.0 → ArePartsOf (form_size_at now) (IsFormGood now) k (form_parts_at now k)
      → ArePartsOf (form_size_at first) (IsFormGood first) k (form_parts_at first k)
  form_parts_first k h p = back (subst (ArePartsOf (form_size_at now) (IsFormGood now) k) (form_parts_same first now e k h) p)
    where
      back : ArePartsOf (form_size_at now) (IsFormGood now) k (form_parts_at first k)
          → ArePartsOf (form_size_at first) (IsFormGood first) k (form_parts_at first k)
      back p = record {
        lower = p.lower;
        smaller =
            let s = sum_same (form_size_at now) (form_size_at first) (form_parts_at first k)
            (λ j d l. ap form_size (form_tree-extends e (get_or (form_parts_at first k) j d).0
            (HasForm-below first k.0 (get_or (form_parts_at first k) j d).0 h (p.lower j d l)))) in
            let z = ap form_size (form_tree-extends e k.0 h) in let m = p.smaller in omega arith;
        still_good = λ w g j d l.
            let i = HasForm-below first k.0 (get_or (form_parts_at first k) j d).0 h (p.lower j d l) in let q = p.still_good w (form_good_now w k g) j d l in
            record {
              inside = i;
              heads = sym (ap (λ u. form_applies_heads (close_form (opened w.0 (get_or (form_parts_at first k) j d).1) u))
                  (form_tree-extends e (get_or (form_parts_at first k) j d).0 i)) ∙ q.heads;
              level = q.level;
            };
      }

  -- images stay images
  pub term_image_now : (t : Term) (k : Spot) (image : At) → HasTerm first k.0 → ShowsImage first now t k image → IsTermImage now t k image
  term_image_now t k image h s = (HasTerm-extends e k.0 h, subst (λ u. ShowsTerm now image.0 (close (opened t k.1) u)) (sym (term_tree-extends e k.0 h)) s)

  pub form_image_now : (t : Term) (k : Spot) (image : FormAt) → HasForm first k.0 → ShowsFormImage first now t k image → IsFormImage now t k image
  form_image_now t k image h s = (HasForm-extends e k.0 h, subst (λ u. ShowsForm now image.0 (close_form (opened t k.1) u)) (sym (form_tree-extends e k.0 h)) s)

  pub term_images_now : (t : Term) (lookup : Spot → Option At) → AreImages (IsTermImage first t) lookup → AreImages (IsTermImage now t) lookup
  term_images_now t lookup h k image s = let q = h k image s in term_image_now t k image q.0 (ShowsTerm-extends e q.1)

  pub form_images_now : (t : Term) (lookup : Spot → Option FormAt) → AreImages (IsFormImage first t) lookup → AreImages (IsFormImage now t) lookup
  form_images_now t lookup h k image s = let q = h k image s in form_image_now t k image q.0 (ShowsForm-extends e q.1)

  -- and show what was in the first bank
  pub term_image_first : (t : Term) (k : Spot) (image : At) → HasTerm first k.0 → IsTermImage now t k image → ShowsImage first now t k image
  term_image_first t k image h s = subst (λ u. ShowsTerm now image.0 (close (opened t k.1) u)) (term_tree-extends e k.0 h) s.1

  pub form_image_first : (t : Term) (k : Spot) (image : FormAt) → HasForm first k.0 → IsFormImage now t k image → ShowsFormImage first now t k image
  form_image_first t k image h s = subst (λ u. ShowsForm now image.0 (close_form (opened t k.1) u)) (form_tree-extends e k.0 h) s.1

-- one more term has its image
pub terms_more : (first now new : Nodes) (e : Extends now new) (t : Term) (n : ℕ) (terms made made' : List At) (i : ℕ) (d image : At) → i < length terms
    → AllInTerms now made
    → term_trees now made ≡ map (close (opened t n)) (term_trees first (take i terms))
    → ShowsTerm new image.0 (close (opened t n) (term_tree first (get_or terms i d).0)) → made' ≡ made ++ image ∷ []
    → AllInTerms new made' × (term_trees new made' ≡ map (close (opened t n)) (term_trees first (take (i + 1) terms)))
terms_more first now new e t n terms made made' i d image l all is s f = (
  subst (AllInTerms new) (sym f) (All-push (λ (a : At). a.0 < length new.terms) made image (AllInTerms-extends e made all) s.inside),
  ap (term_trees new) f
      ∙ (map-append (λ (a : At). term_tree new a.0) made (image ∷ [])
      ∙ ((λ j. (term_trees-extends e made all ∙ is) j ++ s.tree j ∷ [])
      ∙ (sym (map-append (close (opened t n)) (term_trees first (take i terms)) (term_tree first (get_or terms i d).0 ∷ []))
      ∙ ap (map (close (opened t n))) (sym (map_more (λ (a : At). term_tree first a.0) terms i d l))))),
)

-- ---- the image of a formula over those of its parts

pub form_part_known : (bank : Nodes) (at n : ℕ) (view : FormNode) (lookup : Spot → Option FormAt) → slice_get bank.forms at ≡ Some (node_of view)
    → ((k : Spot) → IsIn k (form_parts_at bank (at, n)) → IsKnown lookup k) → (k : Spot) → IsIn k (form_parts (node_of view) n) → IsKnown lookup k
form_part_known bank at n view lookup e h k i = h k (subst (λ node. IsIn k (form_parts node n)) (sym (form_node_seen bank at (node_of view) e)) i)

-- under a quantifier
pub shows_inner : (bank : Nodes) (t : Term) (n f : ℕ) (image : FormAt) → ShowsForm bank image.0 (close_form (opened t (n + 1)) (form_tree bank f))
    → ShowsForm bank image.0 (close_form (opened t (suc n)) (form_tree bank f))
shows_inner bank t n f image s = subst (λ m. ShowsForm bank image.0 (close_form (opened t m) (form_tree bank f))) (let e : n + 1 ≡ suc n = omega arith in e) s
