-- The parts of terms and formulas that are closed: they lie lower, are smaller together, and are good where the whole is.
use Rattle.std.proofs.Common.{◌≡◌, ℕ, suc, ◌+◌, ◌-◌, ◌<◌, ◌≤◌, true, List, [], ◌∷◌, length, map, All, get_or, take, drop, refl, ap, sym, subst, ◌∙◌, arith}
use Rattle.std.proofs.Common.{Some, length-append}
use Rattle.std.specs.Prelude.{◌&&◌, slice_get}
use Rattle.std.specs.List.{list_all}
use Rattle.std.proofs.lemmas.Bool.{and_parts}
use Rattle.std.proofs.lemmas.List.Elements.{All-cons, All-head, All-tail, All-map}
use Rattle.ll_bank.specs.declared.At.{At}
use Rattle.ll_bank.specs.declared.FormAt.{FormAt}
use Rattle.ll_bank.specs.declared.Head.{Head}
use Rattle.ll_bank.specs.declared.TermView.{TermView}
use Rattle.ll_bank.specs.declared.TermView.TheVariants.{Var as VarView, Int as IntView, App as AppView}
use Rattle.ll_bank.specs.declared.FormNode.{FormNode}
use Rattle.ll_bank.specs.declared.FormNode.TheVariants.{Top as TopView, One as OneView, Atom as AtomView, With as WithView, Tensor as TensorView}
use Rattle.ll_bank.specs.declared.FormNode.TheVariants.{Plus as PlusView, Bang as BangView, Lolli as LolliView, Imp as ImpView, Forall as ForallView}
use Rattle.ll_bank.specs.declared.FormNode.TheVariants.{Exists as ExistsView, Use as UseView, Is as IsView, Less as LessView, Most as MostView}
use Rattle.ll_bank.specs.Term.{Con, Env, close, close_head, applies_heads}
use Rattle.ll_bank.specs.Form.{Form, close_form, form_applies_heads}
use Rattle.ll_bank.specs.Nodes.{Nodes, FormulaNode, ShowsForm, AppNode, AllInTerms, places, node_of_term, node_of, term_tree, form_tree, term_trees, form_of}
use Rattle.ll_bank.specs.Nodes.{HasTerm, HasForm, HasPartsBelow, IsTermView, IsFormView, Extends}
use Rattle.ll_bank.specs.Opened.{Spot, term_parts, form_parts, ArePartsOf, term_size, form_size, term_size_at, form_size_at, term_parts_at, form_parts_at}
use Rattle.ll_bank.proofs.Trees.{HasTerm-extends, HasForm-extends, term_tree-extends, form_tree-extends}
use Rattle.ll_bank.proofs.PartLemmas.{node_seen, close-apply}
use Rattle.ll_bank.proofs.BankLemmas.{below_places}
use Rattle.ll_bank.proofs.PartLemmas.{heads_args, form_node_seen, term_parts_same, form_parts_same, term_size-apply, sizes_of_args, no_parts, one_part}
use Rattle.ll_bank.proofs.PartLemmas.{two_parts, sum_same, HasTerm-below, HasForm-below}
use Rattle.ll_bank.specs.Closing.{under, IsGoodTerm, IsGoodForm, IsTermImage, IsFormImage}
use Rattle.ll_bank.specs.Stacks.{AreImagesOf, EndsWith}
use Rattle.ll_bank.proofs.closes.Stacks.{images_one, images_two, images_length, slice_own}

-- ---- terms and their parts

args_good : (bank : Nodes) (t : Env) (n at : ℕ) (args : List At) → HasTerm bank at → All (λ (a : At). a.0 < at) args
    → All (λ u. applies_heads u ≡ true) (map (close (under t n)) (term_trees bank args))
    → All (IsGoodTerm bank t) (map (λ (a : ℕ). let k : Spot = (a, n) in k) (places args))
args_good bank t n at [] h low g = λ j d l. absurd (omega arith)
args_good bank t n at (a ∷ args) h low g =
    let b = All-head (λ (x : At). x.0 < at) a args low in
    All-cons (IsGoodTerm bank t) (a.0, n) (map (λ (x : ℕ). let k : Spot = (x, n) in k) (places args))
    ((omega arith), All-head (λ u. applies_heads u ≡ true) (close (under t n) (term_tree bank a.0)) (map (close (under t n)) (term_trees bank args)) g)
    (args_good bank t n at args h (All-tail (λ (x : At). x.0 < at) a args low)
    (All-tail (λ u. applies_heads u ≡ true) (close (under t n) (term_tree bank a.0)) (map (close (under t n)) (term_trees bank args)) g))

pub term_parts_small : (bank : Nodes) (at n : ℕ) (view : TermView) → slice_get bank.terms at ≡ Some (node_of_term view) → IsTermView bank at view
    → ArePartsOf (term_size_at bank) (IsGoodTerm bank) (at, n) (term_parts_at bank (at, n))
term_parts_small bank at n view e v = subst (λ node. ArePartsOf (term_size_at bank) (IsGoodTerm bank) (at, n) (term_parts node n))
    (sym (node_seen bank at (node_of_term view) e)) (by view v)
  where
    by : (w : TermView) → IsTermView bank at w → ArePartsOf (term_size_at bank) (IsGoodTerm bank) (at, n) (term_parts (node_of_term w) n)
    by (VarView x) h = record { lower = λ j d l. absurd (omega arith); smaller = rw h (omega arith); still_good = λ t g j d l. absurd (omega arith) }
    by (IntView z) h = record { lower = λ j d l. absurd (omega arith); smaller = rw h (omega arith); still_good = λ t g j d l. absurd (omega arith) }
    by (AppView k args) h = record {
      lower = All-map (λ (p : Spot). p.0 < at) (λ a. (a, n)) (places args.now) (below_places at args.now h.1);
      smaller =
          let s = sizes_of_args bank n args.now in let t = term_size-apply (Con k) (term_trees bank args.now) in let u = ap term_size h.0 in omega arith;
      still_good = λ t g. args_good bank t n at args.now g.0 h.1
          (heads_args (close_head (under t n) k) (map (close (under t n)) (term_trees bank args.now))
          (sym (ap applies_heads (ap (close (under t n)) h.0 ∙ close-apply (under t n) (Con k) (term_trees bank args.now))) ∙ g.1));
    }

-- ---- formulas and their parts

one_good : (bank : Nodes) (w : Env × ℕ) (at n f : ℕ) → f < at → IsGoodForm bank w (at, n)
    → form_applies_heads (close_form (under w.0 n) (form_tree bank f)) ≡ true
    → All (IsGoodForm bank w) ((f, n) ∷ [])
one_good bank w at n f l q e =
    let i = q.inside in let v = q.level in All-cons (IsGoodForm bank w) (f, n) [] (record { inside = omega arith; heads = e; level = omega arith })
    (λ j d k. absurd (omega arith))

inner_good : (bank : Nodes) (w : Env × ℕ) (at n f : ℕ) → f < at → IsGoodForm bank w (at, n)
    → form_applies_heads (close_form (under w.0 (suc n)) (form_tree bank f)) ≡ true
    → All (IsGoodForm bank w) ((f, n + 1) ∷ [])
inner_good bank w at n f l q e =
    let i = q.inside in let v = q.level in let s : suc n ≡ n + 1 = omega arith in
    All-cons (IsGoodForm bank w) (f, n + 1) [] (record {
      inside = omega arith;
      heads =
          subst (λ m. form_applies_heads (close_form (under w.0 m) (form_tree bank f)) ≡ true) s e;
      level = omega arith;
    })
    (λ j d k. absurd (omega arith))

two_good : (bank : Nodes) (w : Env × ℕ) (at n f g : ℕ) → f < at → g < at → IsGoodForm bank w (at, n)
    → (form_applies_heads (close_form (under w.0 n) (form_tree bank f)) && form_applies_heads (close_form (under w.0 n) (form_tree bank g))) ≡ true
    → All (IsGoodForm bank w) ((f, n) ∷ (g, n) ∷ [])
two_good bank w at n f g l k q e =
    let p = and_parts (form_applies_heads (close_form (under w.0 n) (form_tree bank f))) (form_applies_heads (close_form (under w.0 n) (form_tree bank g))) e in
    let i = q.inside in let v = q.level in
    All-cons (IsGoodForm bank w) (f, n) ((g, n) ∷ []) (record { inside = omega arith; heads = p.0; level = omega arith }) (one_good bank w at n g k q p.1)

pub form_parts_small : (bank : Nodes) (at n : ℕ) (view : FormNode) → slice_get bank.forms at ≡ Some (node_of view) → IsFormView bank at view
    → ArePartsOf (form_size_at bank) (IsGoodForm bank) (at, n) (form_parts_at bank (at, n))
form_parts_small bank at n view e v = subst (λ node. ArePartsOf (form_size_at bank) (IsGoodForm bank) (at, n) (form_parts node n))
    (sym (form_node_seen bank at (node_of view) e)) (by view v.tree v.parts)
  where
    by : (w : FormNode) → form_tree bank at ≡ form_of bank w → HasPartsBelow (length bank.terms) at w
        → ArePartsOf (form_size_at bank) (IsGoodForm bank) (at, n) (form_parts (node_of w) n)
    by TopView t h = record { lower = no_parts at; smaller = rw t (omega arith); still_good = λ w q j d l. absurd (omega arith) }
    by OneView t h = record { lower = no_parts at; smaller = rw t (omega arith); still_good = λ w q j d l. absurd (omega arith) }
    by (AtomView a) t h = record { lower = no_parts at; smaller = rw t (omega arith); still_good = λ w q j d l. absurd (omega arith) }
    by (IsView a b) t h = record { lower = no_parts at; smaller = rw t (omega arith); still_good = λ w q j d l. absurd (omega arith) }
    by (LessView a b) t h = record { lower = no_parts at; smaller = rw t (omega arith); still_good = λ w q j d l. absurd (omega arith) }
    by (MostView a b) t h = record { lower = no_parts at; smaller = rw t (omega arith); still_good = λ w q j d l. absurd (omega arith) }
    by (WithView f g) t h = record {
      lower = two_parts at n f.0 g.0 n h.0 h.1;
      smaller = let s = ap form_size t in
          omega arith;
      still_good = λ w q. two_good bank w at n f.0 g.0 h.0 h.1 q (sym (ap (λ x. form_applies_heads (close_form (under w.0 n) x)) t) ∙ q.heads);
    }
    by (TensorView f g) t h = record {
      lower = two_parts at n f.0 g.0 n h.0 h.1;
      smaller = let s = ap form_size t in
          omega arith;
      still_good = λ w q. two_good bank w at n f.0 g.0 h.0 h.1 q (sym (ap (λ x. form_applies_heads (close_form (under w.0 n) x)) t) ∙ q.heads);
    }
    by (PlusView f g) t h = record {
      lower = two_parts at n f.0 g.0 n h.0 h.1;
      smaller = let s = ap form_size t in
          omega arith;
      still_good = λ w q. two_good bank w at n f.0 g.0 h.0 h.1 q (sym (ap (λ x. form_applies_heads (close_form (under w.0 n) x)) t) ∙ q.heads);
    }
    by (BangView f) t h = record {
      lower = one_part at n f.0 n h;
      smaller = let s = ap form_size t in
          omega arith;
      still_good = λ w q. one_good bank w at n f.0 h q (sym (ap (λ x. form_applies_heads (close_form (under w.0 n) x)) t) ∙ q.heads);
    }
    by (LolliView f g) t h = record {
      lower = two_parts at n f.0 g.0 n h.0 h.1;
      smaller = let s = ap form_size t in
          omega arith;
      still_good = λ w q. two_good bank w at n f.0 g.0 h.0 h.1 q (sym (ap (λ x. form_applies_heads (close_form (under w.0 n) x)) t) ∙ q.heads);
    }
    by (ImpView f g) t h = record {
      lower = two_parts at n f.0 g.0 n h.0 h.1;
      smaller = let s = ap form_size t in
          omega arith;
      still_good = λ w q. two_good bank w at n f.0 g.0 h.0 h.1 q (sym (ap (λ x. form_applies_heads (close_form (under w.0 n) x)) t) ∙ q.heads);
    }
    by (ForallView f) t h = record {
      lower = one_part at n f.0 (n + 1) h;
      smaller = let s = ap form_size t in
          omega arith;
      still_good = λ w q. inner_good bank w at n f.0 h q (sym (ap (λ x. form_applies_heads (close_form (under w.0 n) x)) t) ∙ q.heads);
    }
    by (ExistsView f) t h = record {
      lower = one_part at n f.0 (n + 1) h;
      smaller = let s = ap form_size t in
          omega arith;
      still_good = λ w q. inner_good bank w at n f.0 h q (sym (ap (λ x. form_applies_heads (close_form (under w.0 n) x)) t) ∙ q.heads);
    }
    by (UseView m args f) t h = record {
      lower = one_part at n f.0 n h.1;
      smaller = let s = ap form_size t in omega arith;
      still_good = λ w q. one_good bank w at n f.0 h.1 q (and_parts (list_all applies_heads (map (close (under w.0 n)) (term_trees bank args.now)))
          (form_applies_heads (close_form (under w.0 n) (form_tree bank f.0))) (sym (ap (λ x. form_applies_heads (close_form (under w.0 n) x)) t) ∙ q.heads)).1;
    }

-- ---- a bank that grows

module _ (first now : Nodes) (e : Extends first now) where
  pub term_good_now : (t : Env) (k : Spot) → IsGoodTerm first t k → IsGoodTerm now t k
  term_good_now t k g = (HasTerm-extends e k.0 g.0, ap (λ u. applies_heads (close (under t k.1) u)) (term_tree-extends e k.0 g.0) ∙ g.1)

  pub form_good_now : (w : Env × ℕ) (k : Spot) → IsGoodForm first w k → IsGoodForm now w k
  form_good_now w k g = record {
    inside = HasForm-extends e k.0 g.inside;
    heads = ap (λ u. form_applies_heads (close_form (under w.0 k.1) u)) (form_tree-extends e k.0 g.inside) ∙ g.heads;
    level = g.level;
  }

  -- the parts of a term are its parts in the first bank
  pub term_parts_first : (k : Spot) → HasTerm first k.0 → ArePartsOf (term_size_at now) (IsGoodTerm now) k (term_parts_at now k)
      → ArePartsOf (term_size_at first) (IsGoodTerm first) k (term_parts_at first k)
  term_parts_first k h p = back (subst (ArePartsOf (term_size_at now) (IsGoodTerm now) k) (term_parts_same first now e k h) p)
    where
      back : ArePartsOf (term_size_at now) (IsGoodTerm now) k (term_parts_at first k)
          → ArePartsOf (term_size_at first) (IsGoodTerm first) k (term_parts_at first k)
      back p = record {
        lower = p.lower;
        smaller =
            let s = sum_same (term_size_at now) (term_size_at first) (term_parts_at first k)
            (λ j d l. ap term_size (term_tree-extends e (get_or (term_parts_at first k) j d).0
            (HasTerm-below first k.0 (get_or (term_parts_at first k) j d).0 h (p.lower j d l)))) in
            let z = ap term_size (term_tree-extends e k.0 h) in let m = p.smaller in omega arith;
        still_good = λ t g j d l.
            let i = HasTerm-below first k.0 (get_or (term_parts_at first k) j d).0 h (p.lower j d l) in (
              i,
              sym (ap (λ u. applies_heads (close (under t (get_or (term_parts_at first k) j d).1) u))
                  (term_tree-extends e (get_or (term_parts_at first k) j d).0 i)) ∙ (p.still_good t (term_good_now t k g) j d l).1,
            );
      }

  -- and those of a formula
  pub form_parts_first : (k : Spot) → HasForm first k.0 → ArePartsOf (form_size_at now) (IsGoodForm now) k (form_parts_at now k)
      → ArePartsOf (form_size_at first) (IsGoodForm first) k (form_parts_at first k)
  form_parts_first k h p = back (subst (ArePartsOf (form_size_at now) (IsGoodForm now) k) (form_parts_same first now e k h) p)
    where
      back : ArePartsOf (form_size_at now) (IsGoodForm now) k (form_parts_at first k)
          → ArePartsOf (form_size_at first) (IsGoodForm first) k (form_parts_at first k)
      back p = record {
        lower = p.lower;
        smaller =
            let s = sum_same (form_size_at now) (form_size_at first) (form_parts_at first k)
            (λ j d l. ap form_size (form_tree-extends e (get_or (form_parts_at first k) j d).0
            (HasForm-below first k.0 (get_or (form_parts_at first k) j d).0 h (p.lower j d l)))) in
            let z = ap form_size (form_tree-extends e k.0 h) in let m = p.smaller in omega arith;
        still_good = λ w g j d l.
            let i = HasForm-below first k.0 (get_or (form_parts_at first k) j d).0 h (p.lower j d l) in let q = p.still_good w (form_good_now w k g) j d l in
            record {
              inside = i;
              heads = sym (ap (λ u. form_applies_heads (close_form (under w.0 (get_or (form_parts_at first k) j d).1) u))
                  (form_tree-extends e (get_or (form_parts_at first k) j d).0 i)) ∙ q.heads;
              level = q.level;
            };
      }

-- ---- the images of arguments

spots_count : (n : ℕ) (args : List At) → length (map (λ (a : ℕ). let k : Spot = (a, n) in k) (places args)) ≡ length args
spots_count n [] = refl
spots_count n (a ∷ args) = let e = spots_count n args in omega arith

own_terms : (bank : Nodes) (env : Env) (n : ℕ) (args own : List At)
    → AreImagesOf (λ k (x : At). IsTermImage bank env k x.0) (map (λ (a : ℕ). let k : Spot = (a, n) in k) (places args)) own
    → AllInTerms bank own × (term_trees bank own ≡ map (close (under env n)) (term_trees bank args))
own_terms bank env n [] [] h = ((λ j d l. absurd (omega arith)), refl)
own_terms bank env n [] (x ∷ own) h = absurd h
own_terms bank env n (a ∷ args) [] h = absurd h
own_terms bank env n (a ∷ args) (x ∷ own) h =
    let r = own_terms bank env n args own h.1 in let s = h.0.1 in
    (All-cons (λ (b : At). b.0 < length bank.terms) x own s.inside r.0, (λ i. s.tree i ∷ r.1 i))

-- the images made last stand for the arguments
pub record AreArgsMade (bank : Nodes) (env : Env) (n : ℕ) (args made : List At) : Type 0 where
  pub own : List At
  pub enough : length args ≤ length made
  pub inside : AllInTerms bank own
  pub closed : term_trees bank own ≡ map (close (under env n)) (term_trees bank args)
  pub read : (xs : List At) (i : ℕ) → xs ≡ made → i ≡ length made - length args → take (length xs - i) (drop i xs) ≡ own

module _ (bank : Nodes) (env : Env) (at n : ℕ) (h : Head) (args : List At) (seen : slice_get bank.terms at ≡ Some (AppNode h (places args))) where
  parts_are : term_parts_at bank (at, n) ≡ map (λ (a : ℕ). let k : Spot = (a, n) in k) (places args)
  parts_are = ap (λ node. term_parts node n) (node_seen bank at (AppNode h (places args)) seen)

  args_closed : (own : List At) → AreImagesOf (λ k (x : At). IsTermImage bank env k x.0) (term_parts_at bank (at, n)) own
      → AllInTerms bank own × (term_trees bank own ≡ map (close (under env n)) (term_trees bank args))
  args_closed own i = own_terms bank env n args own (subst (λ ps. AreImagesOf (λ k (x : At). IsTermImage bank env k x.0) ps own) parts_are i)

  pub args_count : length (term_parts_at bank (at, n)) ≡ length args
  args_count = ap length parts_are ∙ spots_count n args

  pub args_made : {made : List At} → EndsWith (λ k (x : At). IsTermImage bank env k x.0) (term_parts_at bank (at, n)) made → AreArgsMade bank env n args made
  args_made {made} p =
      let l : length p.own ≡ length args =
      images_length (λ k (x : At). IsTermImage bank env k x.0) (term_parts_at bank (at, n)) p.own p.images ∙ args_count in
      let o = args_closed p.own p.images in
      record {
        own = p.own;
        enough = let w = length-append p.below p.own in let v = ap length p.is in omega arith;
        inside = o.0;
        closed = o.1;
        read = λ xs i e q. slice_own xs made p.below p.own i (length args) e p.is l q;
      }

-- ---- the images of formulas

module _ (bank : Nodes) (env : Env) (at n : ℕ) (images : List FormAt)
    (are : AreImagesOf (λ k (x : FormAt). IsFormImage bank env k x.0) (form_parts_at bank (at, n)) images) (node : FormulaNode)
    (seen : slice_get bank.forms at ≡ Some node) where
  seen_images : AreImagesOf (λ k (x : FormAt). IsFormImage bank env k x.0) (form_parts node n) images
  seen_images = subst (λ ps. AreImagesOf (λ k (x : FormAt). IsFormImage bank env k x.0) ps images) (ap (λ z. form_parts z n) (form_node_seen bank at node seen))
      are

  pub one_image : (f m : ℕ) (d : FormAt) → form_parts node n ≡ (f, m) ∷ [] → ShowsForm bank (get_or images 0 d).0 (close_form (under env m) (form_tree bank f))
  one_image f m d e =
      let r = images_one (λ k (x : FormAt). IsFormImage bank env k x.0) (f, m) images
      (subst (λ ps. AreImagesOf (λ k (x : FormAt). IsFormImage bank env k x.0) ps images) e seen_images) in
      subst (λ xs. ShowsForm bank (get_or xs 0 d).0 (close_form (under env m) (form_tree bank f))) (sym r.1) r.2.1

  pub two_images : (f g m : ℕ) (d : FormAt) → form_parts node n ≡ (f, m) ∷ (g, m) ∷ []
      → ShowsForm bank (get_or images 0 d).0 (close_form (under env m) (form_tree bank f))
      × ShowsForm bank (get_or images 1 d).0 (close_form (under env m) (form_tree bank g))
  two_images f g m d e =
      let r = images_two (λ k (x : FormAt). IsFormImage bank env k x.0) (f, m) (g, m) images
      (subst (λ ps. AreImagesOf (λ k (x : FormAt). IsFormImage bank env k x.0) ps images) e seen_images) in (
        subst (λ xs. ShowsForm bank (get_or xs 0 d).0 (close_form (under env m) (form_tree bank f))) (sym r.2) r.3.1,
        subst (λ xs. ShowsForm bank (get_or xs 1 d).0 (close_form (under env m) (form_tree bank g))) (sym r.2) r.4.1,
      )

  -- there are as many images as formulas under it
  pub first_inside : (m : ℕ) → length (form_parts node n) ≡ suc m → 0 < length images
  first_inside m e = let l = images_length (λ k (x : FormAt). IsFormImage bank env k x.0) (form_parts node n) images seen_images in omega arith

  pub second_inside : (m : ℕ) → length (form_parts node n) ≡ suc (suc m) → 1 < length images
  second_inside m e = let l = images_length (λ k (x : FormAt). IsFormImage bank env k x.0) (form_parts node n) images seen_images in omega arith

  pub two_inside : (f g m : ℕ) (d : FormAt) → form_parts node n ≡ (f, m) ∷ (g, m) ∷ [] → HasForm bank (get_or images 0 d).0 × HasForm bank (get_or images 1 d).0
  two_inside f g m d e = let i = two_images f g m d e in (i.0.inside, i.1.inside)

  -- the formula over the images is the image of the formula
  pub joins_one : (sign : Form → Form) (f m : ℕ) (d : FormAt) → form_parts node n ≡ (f, m) ∷ [] → form_tree bank at ≡ sign (form_tree bank f)
      → ((u : Form) → close_form (under env n) (sign u) ≡ sign (close_form (under env m) u))
      → sign (form_tree bank (get_or images 0 d).0) ≡ close_form (under env n) (form_tree bank at)
  joins_one sign f m d e t closes =
      ap sign (one_image f m d e).tree ∙ sym (ap (close_form (under env n)) t ∙ closes (form_tree bank f))

  pub joins_two : (sign : Form → Form → Form) (f g : ℕ) (d : FormAt) → form_parts node n ≡ (f, n) ∷ (g, n) ∷ []
      → form_tree bank at ≡ sign (form_tree bank f) (form_tree bank g)
      → ((u v : Form) → close_form (under env n) (sign u v) ≡ sign (close_form (under env n) u) (close_form (under env n) v))
      → sign (form_tree bank (get_or images 0 d).0) (form_tree bank (get_or images 1 d).0) ≡ close_form (under env n) (form_tree bank at)
  joins_two sign f g d e t closes =
      let i = two_images f g n d e in
      (λ j. sign (i.0.tree j) (i.1.tree j)) ∙ sym (ap (close_form (under env n)) t ∙ closes (form_tree bank f) (form_tree bank g))

-- a term without arguments has no parts
pub no_arguments : (bank : Nodes) (at n : ℕ) (h : Head) (args : List At) → slice_get bank.terms at ≡ Some (AppNode h (places args)) → length args ≡ 0
    → term_parts_at bank (at, n) ≡ []
no_arguments bank at n h args seen e = ap (λ node. term_parts node n) (node_seen bank at (AppNode h (places args)) seen) ∙ none args e
  where
    none : (xs : List At) → length xs ≡ 0 → map (λ (a : ℕ). let k : Spot = (a, n) in k) (places xs) ≡ []
    none [] q = refl
    none (x ∷ xs) q = absurd (omega arith)
