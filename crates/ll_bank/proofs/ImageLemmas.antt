-- Images of places: what stands in a map from places to places, as it grows.
use Rattle.std.proofs.Common.{◌≡◌, ℕ, ◌+◌, ◌<◌, ◌≤◌, cond, List, [], ◌∷◌, ◌++◌, length, map, All, get_or, take, refl, ap, sym, subst, ◌∙◌, inl, inr, arith}
use Rattle.std.proofs.Common.{Option, Some, None, Bor, option_copied, true≢false}
use Rattle.std.specs.Prelude.{IsSome, slice_get}
use Rattle.std.specs.Ordering.{nat_cmp}
use Rattle.std.specs.List.{Contains, slice_index}
use Rattle.std.specs.BTreeMap.{is_at}
use Rattle.std.proofs.Math.ListN.{get_or-map}
use Rattle.std.proofs.lemmas.Bool.{cases_eq, cases_lt, eq-eqb, ne_eqb, cond-true, cond-false}
use Rattle.std.proofs.lemmas.List.{length-map, length-take-le, get_or-take, take_all, get_or_default, map-append, map_more}
use Rattle.std.proofs.lemmas.List.Elements.{All-head, All-tail, All-cons}
use Rattle.ll_bank.specs.declared.At.{At}
use Rattle.ll_bank.specs.declared.Head.{Head}
use Rattle.ll_bank.specs.Term.{Term}
use Rattle.ll_bank.specs.Nodes.{Nodes, AppNode, places, term_trees, ShowsTerm, Extends, AllInTerms}
use Rattle.ll_bank.specs.Opened.{arguments_of, term_node_at}
use Rattle.ll_bank.specs.Walk.{IsInOrder, HasImage, HasImages, ShowsAt, IsCopying}
use Rattle.ll_bank.proofs.Trees.{ShowsTerm-extends, Extends-refl, Extends-trans}
use Rattle.ll_bank.proofs.PartLemmas.{node_seen}
use Rattle.ll_bank.proofs.Ceiling.{is_at-nat}

module _ {X : Type 0} where
  -- what the map has after a place was put in
  pub image_here : (old new : ℕ → Option X) (p : ℕ) (image : X) → ((q : ℕ) → new q ≡ cond (is_at (nat_cmp p) q) (Some image) (old q)) → new p ≡ Some image
  image_here old new p image h = h p ∙ cond-true (is_at (nat_cmp p) p) (Some image) (old p) (is_at-nat p p ∙ eq-eqb p p refl)

  pub image_there : (old new : ℕ → Option X) (p : ℕ) (image : X) → ((q : ℕ) → new q ≡ cond (is_at (nat_cmp p) q) (Some image) (old q)) → (q : ℕ) → (p ≡ q → ⊥)
      → new q ≡ old q
  image_there old new p image h q ne = h q ∙ cond-false (is_at (nat_cmp p) q) (Some image) (old q) (is_at-nat p q ∙ ne_eqb p q ne)

module _ {X T : Type 0} (lookup : ℕ → Option X) (made : ℕ → T) (places : List ℕ) (i : ℕ) where
  -- one more place has its image
  module _ (shows shows' : X → T → Type 0) (keep : (x : X) (t : T) → shows x t → shows' x t) (lookup' : ℕ
      → Option X) (inside : i < length places) (images : HasImages shows lookup made (take i places))
      (image : X) (here : shows' image (made (slice_index places i))) (puts : (q : ℕ)
      → lookup' q ≡ cond (is_at (nat_cmp (slice_index places i)) q) (Some image) (lookup q)) where
    here_too : (q : ℕ) → HasImage shows lookup q (made q) → HasImage shows' lookup' q (made q)
    here_too q h = elim (cases_eq (slice_index places i) q) [
      | inl e ↦ (
        image,
        (
          subst (λ z. lookup' z ≡ Some image) e (image_here lookup lookup' (slice_index places i) image puts),
          subst (λ z. shows' image (made z)) e here,
        ),
      )
      | inr ne ↦ (h.0, (image_there lookup lookup' (slice_index places i) image puts q ne ∙ h.1.0, keep h.0 (made q) h.1.1))
    ]

    pub images_more : HasImages shows' lookup' made (take (i + 1) places)
    images_more = λ j l.
        let n : length (take (i + 1) places) ≡ i + 1 = length-take-le (i + 1) places (omega arith) in
        let same : slice_index (take (i + 1) places) j ≡ slice_index places j = get_or-take (i + 1) places j 0 (omega arith) in
        subst (λ z. HasImage shows' lookup' z (made z)) (sym same) (elim (cases_lt j i) [
          | inl h ↦
              let m : length (take i places) ≡ i = length-take-le i places (omega arith) in
              here_too (slice_index places j) (subst (λ z. HasImage shows lookup z (made z)) (get_or-take i places j 0 h) (images j (omega arith)))
          | inr h ↦
              let e : i ≡ j = omega arith in
              subst (λ k. HasImage shows' lookup' (slice_index places k) (made (slice_index places k))) e
              (image, (image_here lookup lookup' (slice_index places i) image puts, here))
        ])

  -- a root has its image at the end
  pub root_image : (shows : X → T → Type 0) (at : ℕ) → length places ≤ i → HasImages shows lookup made (take i places) → Contains places at
      → HasImage shows lookup at (made at)
  root_image shows at all images has =
      let e = take_all i places all in
      subst (λ z. HasImage shows lookup z (made z)) (get_or_default places has.0 0 at has.1 ∙ has.2) (subst (HasImages shows lookup made) e images has.0 has.1)

-- the arguments of the next place have their images
pub argument_images : {X T : Type 0} (bank : Nodes) (shows : X → T → Type 0) (lookup : ℕ → Option X) (made : ℕ → T) (places : List ℕ) (i : ℕ)
    → IsInOrder bank places → i < length places
    → HasImages shows lookup made (take i places) → (a : ℕ) → Contains (arguments_of (term_node_at bank (slice_index places i))) a
    → HasImage shows lookup a (made a)
argument_images bank shows lookup made places i order inside images a has =
    let b = order.before i a inside has in let m : length (take i places) ≡ i = length-take-le i places (omega arith) in let l = b.1.0 in
    subst (λ z. HasImage shows lookup z (made z)) (get_or-take i places b.0 0 l ∙ b.1.1) (images b.0 (omega arith))

-- ---- a copy on its way

pub copying_begins : (bank : Nodes) (lookup : ℕ → Option At) (made : ℕ → Term) → IsCopying bank bank lookup made []
copying_begins bank lookup made = record { keeps = Extends-refl bank; images = λ i l. absurd (omega arith) }

pub copying_more : (old now next : Nodes) (lookup lookup' : ℕ → Option At) (made : ℕ → Term) (places : List ℕ) (i : ℕ) → i < length places
    → IsCopying old now lookup made (take i places)
    → Extends now next → (image : At) → ShowsTerm next image.0 (made (slice_index places i))
    → ((q : ℕ) → lookup' q ≡ cond (is_at (nat_cmp (slice_index places i)) q) (Some image) (lookup q)) → IsCopying old next lookup' made (take (i + 1) places)
copying_more old now next lookup lookup' made places i inside c keeps image here puts = record {
  keeps = Extends-trans c.keeps keeps;
  images = images_more lookup made places i (ShowsAt now) (ShowsAt next) (λ x t h. ShowsTerm-extends keeps h) lookup' inside c.images image here puts;
}

-- ---- arguments and their images

module _ {X T : Type 0} (bank : Nodes) (shows : X → T → Type 0) (lookup : ℕ → Option X) (made : ℕ
    → T) (at : ℕ) (h : Head) (args : List At) (node : slice_get bank.terms at ≡ Some (AppNode h (places args)))
    (has : (a : ℕ) → Contains (arguments_of (term_node_at bank at)) a → HasImage shows lookup a (made a)) where
  pub each_image : All (λ a. HasImage shows lookup a.0 (made a.0)) args
  each_image k d l =
      has (get_or args k d).0 (subst (λ n. Contains (arguments_of n) (get_or args k d).0) (sym (node_seen bank at (AppNode h (places args)) node))
      (k, simp length-map l, get_or_default (places args) k (get_or args k d).0 d.0 (simp length-map l) ∙ get_or-map (λ (a : At). a.0) args k d))

  pub some_images : All (λ a. IsSome (lookup a.0)) args
  some_images k d l = let e = each_image k d l in rw (e.1.0) refl

-- places found as the images of others
pub shown_images : (now : Nodes) (lookup : ℕ → Option At) (made : ℕ → Term) (args found : List At)
    → map (λ (v : At). let o : Option At = Some v in o) found ≡ map (λ a. lookup a.0) args
    → All (λ a. HasImage (ShowsAt now) lookup a.0 (made a.0)) args → AllInTerms now found × (term_trees now found ≡ map (λ a. made a.0) args)
shown_images now lookup made [] [] e h = ((λ k d l. absurd (omega arith)), refl)
shown_images now lookup made [] (v ∷ found) e h = absurd (let x : ⊥ = cc in x)
shown_images now lookup made (a ∷ args) [] e h = absurd (let x : ⊥ = cc in x)
shown_images now lookup made (a ∷ args) (v ∷ found) e h =
    let here = All-head (λ (b : At). HasImage (ShowsAt now) lookup b.0 (made b.0)) a args h in
    let rest = shown_images now lookup made args found (let t : map (λ (w : At). let o : Option At = Some w in o) found ≡ map (λ b. lookup b.0) args = cc in t)
    (All-tail (λ (b : At). HasImage (ShowsAt now) lookup b.0 (made b.0)) a args h) in
    let first : Some v ≡ lookup a.0 = cc in
    let same : here.0 ≡ v = (let s : Some here.0 ≡ Some v = sym here.1.0 ∙ sym first in cc) in
    let shows = subst (λ w. ShowsTerm now w.0 (made a.0)) same here.1.1 in
    (All-cons (λ (b : At). b.0 < length now.terms) v found shows.inside rest.0, λ j. shows.tree j ∷ rest.1 j)

-- one more image found
pub found_more : (lookup : ℕ → Option At) (places found more : List At) (i : ℕ) (d image : At) → i < length places → lookup (get_or places i d).0 ≡ Some image
    → map (λ (v : At). let o : Option At = Some v in o) found ≡ map (λ a. lookup a.0) (take i places) → more ≡ found ++ image ∷ []
    → map (λ (v : At). let o : Option At = Some v in o) more ≡ map (λ a. lookup a.0) (take (i + 1) places)
found_more lookup places found more i d image l is so_far e =
    ap (map (λ (v : At). let o : Option At = Some v in o)) e
    ∙ (map-append (λ (v : At). let o : Option At = Some v in o) found (image ∷ [])
    ∙ ((λ j. so_far j ++ sym is j ∷ []) ∙ sym (map_more (λ a. lookup a.0) places i d l)))

-- an image that is there and shows what is made
pub image_found : {X T : Type 0} (shows : X → T → Type 0) (lookup : ℕ → Option X) (at : ℕ) (tree : T) → HasImage shows lookup at tree → IsSome (lookup at)
image_found shows lookup at tree h = rw (h.1.0) refl

pub image_shows : {X T : Type 0} (shows : X → T → Type 0) (lookup : ℕ → Option X) (at : ℕ) (tree : T) (image : X) → HasImage shows lookup at tree
    → lookup at ≡ Some image → shows image tree
image_shows {X} shows lookup at tree image h e =
    let same : h.0 ≡ image = (let s : Some h.0 ≡ Some image = sym h.1.0 ∙ e in cc) in subst (λ (w : X). shows w tree) same h.1.1

-- a value that is read from a map that has one is there
pub some_copied : {X : Type 0} (o : Option (Bor X)) (p : Option X) → option_copied o ≡ p → IsSome p → IsSome o
some_copied None p e h = absurd (true≢false (sym (subst IsSome (sym e) h)))
some_copied (Some x) p e h = refl
