-- How the parts of a body get their images: the parts as keys of maps, and the stack of those that wait.
use Rattle.std.proofs.Common.{◌≡◌, ℕ, ◌+◌, ◌<◌, Bool, true, false, cond, eqb, List, [], ◌∷◌, ◌++◌, length, map, All, refl, ap, sym, subst, ◌∙◌, inl, inr}
use Rattle.std.proofs.Common.{arith, true≢false, Option, Some, None}
use Rattle.std.specs.Prelude.{◌⊎◌, ◌&&◌, IsSome, sum_by, if◌then◌else◌}
use Rattle.std.specs.Ordering.{nat_cmp, ordering_then, is_eq}
use Rattle.std.specs.declared.cmp.Ordering.{Ordering}
use Rattle.std.specs.declared.cmp.Ordering.TheVariants.{Less, Equal, Greater}
use Rattle.std.specs.BTreeMap.{is_at, get}
use Rattle.std.specs.Map.{lookup}
use Rattle.std.proofs.Common.{BTreeMap}
use Rattle.std.proofs.lemmas.Bool.{eqb-true, eq-eqb, and_parts, and_from, cond-true}
use Rattle.std.proofs.lemmas.List.Elements.{All-cons, All-append, All-map}
use Rattle.std.proofs.lemmas.List.Sums.{sum_by-cons, sum_by-append, sum_by_push}
use Rattle.ll_list_laws.proofs.CallerLemmas.{All-front as All-before, All-last}
use Rattle.ll_bank.specs.declared.open.Task.{Task}
use Rattle.ll_bank.specs.Opened.{Spot, AreImages}
use Rattle.ll_bank.specs.Instantiated.{by_spot, IsIn, IsKnown, spot_of, visit, AreWaiting, IsOpening, work_left}
use Rattle.ll_bank.proofs.Ceiling.{is_at-nat}

-- ---- parts as keys

then_eq : (o p : Ordering) → is_eq (ordering_then o p) ≡ (is_eq o && is_eq p)
then_eq Less p = refl
then_eq Equal p = refl
then_eq Greater p = refl

at_spot : (k q : Spot) → is_at (by_spot k) q ≡ (eqb k.0 q.0 && eqb k.1 q.1)
at_spot k q = then_eq (nat_cmp k.0 q.0) (nat_cmp k.1 q.1) ∙ (λ i. is_at-nat k.0 q.0 i && is_at-nat k.1 q.1 i)

same_spot : (k q : Spot) → is_at (by_spot k) q ≡ true → k ≡ q
same_spot k q e = let p = and_parts (eqb k.0 q.0) (eqb k.1 q.1) (sym (at_spot k q) ∙ e) in λ i. (eqb-true k.0 q.0 p.0 i, eqb-true k.1 q.1 p.1 i)

spot_itself : (k : Spot) → is_at (by_spot k) k ≡ true
spot_itself k = at_spot k k ∙ and_from (eqb k.0 k.0) (eqb k.1 k.1) (eq-eqb k.0 k.0 refl) (eq-eqb k.1 k.1 refl)

-- one more image is known
module _ {X : Type 0} (lookup lookup' : Spot → Option X) (k : Spot) (image : X) (puts : (q : Spot)
    → lookup' q ≡ cond (is_at (by_spot k) q) (Some image) (lookup q)) where
  pub known_here : IsKnown lookup' k
  known_here = subst IsSome (sym (puts k ∙ cond-true (is_at (by_spot k) k) (Some image) (lookup k) (spot_itself k))) refl

  pub known_still : (q : Spot) → IsKnown lookup q → IsKnown lookup' q
  known_still q h = subst IsSome (sym (puts q)) (by (is_at (by_spot k) q))
    where
      by : (b : Bool) → IsSome (cond b (Some image) (lookup q))
      by true = refl
      by false = h

  pub images_put : (is_image : Spot → X → Type 0) → AreImages is_image lookup → is_image k image → AreImages is_image lookup'
  images_put is_image h here q x e = by (is_at (by_spot k) q) refl (sym (puts q) ∙ e)
    where
      by : (b : Bool) → is_at (by_spot k) q ≡ b → cond b (Some image) (lookup q) ≡ Some x → is_image q x
      by true p s = let y : image ≡ x = cc in subst (λ z. is_image z x) (same_spot k q p) (subst (is_image k) y here)
      by false p s = h q x s

-- a map without entries has no image
pub no_images : {X : Type 0} (is_image : Spot → X → Type 0) (m : BTreeMap Spot X) → m.entries ≡ [] → AreImages is_image (get by_spot m)
no_images is_image m e k x s = let p : None ≡ Some x = sym (ap (λ es. lookup (is_at (by_spot k)) es) e) ∙ s in absurd (let z : ⊥ = cc in z)

-- ---- the stack

in_push : (tasks : List Task) (task : Task) (k : Spot) → IsIn k (map spot_of (tasks ++ task ∷ [])) → IsIn k (map spot_of tasks) ⊎ (spot_of task ≡ k)
in_push [] task k (inl e) = inr e
in_push [] task k (inr x) = absurd x
in_push (x ∷ tasks) task k (inl e) = inl (inl e)
in_push (x ∷ tasks) task k (inr h) = elim (in_push tasks task k h) [
  | inl i ↦ inl (inr i)
  | inr e ↦ inr e
]

in_expand : (tasks more : List Task) (task opened : Task) (k : Spot) → spot_of opened ≡ spot_of task → IsIn k (map spot_of (tasks ++ task ∷ []))
    → IsIn k (map spot_of (tasks ++ opened ∷ more))
in_expand [] more task opened k e (inl h) = inl (e ∙ h)
in_expand [] more task opened k e (inr x) = absurd x
in_expand (x ∷ tasks) more task opened k e (inl h) = inl h
in_expand (x ∷ tasks) more task opened k e (inr h) = inr (in_expand tasks more task opened k e h)

in_visits : (ps : List Spot) (k : Spot) → IsIn k ps → IsIn k (map spot_of (map visit ps))
in_visits [] k h = h
in_visits (p ∷ ps) k (inl e) = inl e
in_visits (p ∷ ps) k (inr h) = inr (in_visits ps k h)

module _ (parts : Spot → List Spot) (good : Spot → Type 0) (root : Spot) where
  module _ (known known' : Spot → Type 0) (keep : (k : Spot) → known k → known' k) where
    waits_pop : (tasks : List Task) (task : Task) → known' (spot_of task) → AreWaiting known parts (tasks ++ task ∷ []) → AreWaiting known' parts tasks
    waits_pop [] task here w = tt
    waits_pop (x ∷ tasks) task here w = ((λ r k i. one k (w.0 r k i)), waits_pop tasks task here w.1)
      where
        one : (k : Spot) → known k ⊎ IsIn k (map spot_of (tasks ++ task ∷ [])) → known' k ⊎ IsIn k (map spot_of tasks)
        one k (inl h) = inl (keep k h)
        one k (inr h) = elim (in_push tasks task k h) [
          | inl i ↦ inr i
          | inr e ↦ inl (subst known' e here)
        ]

    -- the last task has its image now
    pub opening_pops : (items tasks : List Task) (task : Task) → items ≡ tasks ++ task ∷ [] → known' (spot_of task) → IsOpening known parts good root items
        → IsOpening known' parts good root tasks
    opening_pops items tasks task e here o = record {
      waiting = waits_pop tasks task here (subst (AreWaiting known parts) e o.waiting);
      each = All-before (λ (x : Task). good (spot_of x)) tasks task (subst (All (λ (x : Task). good (spot_of x))) e o.each);
      root_known = elim o.root_known [
        | inl h ↦ inl (keep root h)
        | inr h ↦ elim (in_push tasks task root (subst (λ ts. IsIn root (map spot_of ts)) e h)) [
          | inl i ↦ inr i
          | inr f ↦ inl (subst known' f here)
        ]
      ];
    }

  module _ (known : Spot → Type 0) where
    waits_visits : (ps : List Spot) → AreWaiting known parts (map visit ps)
    waits_visits [] = tt
    waits_visits (p ∷ ps) = ((λ r. absurd (true≢false (sym r))), waits_visits ps)

    waits_expand : (tasks : List Task) (task opened : Task) → spot_of opened ≡ spot_of task → AreWaiting known parts (tasks ++ task ∷ [])
        → AreWaiting known parts (tasks ++ opened ∷ map visit (parts (spot_of opened)))
    waits_expand [] task opened e w = ((λ r k i. inr (in_visits (parts (spot_of opened)) k i)), waits_visits (parts (spot_of opened)))
    waits_expand (x ∷ tasks) task opened e w = ((λ r k i. one k (w.0 r k i)), waits_expand tasks task opened e w.1)
      where
        one : (k : Spot) → known k ⊎ IsIn k (map spot_of (tasks ++ task ∷ []))
            → known k ⊎ IsIn k (map spot_of (tasks ++ opened ∷ map visit (parts (spot_of opened))))
        one k (inl h) = inl h
        one k (inr h) = inr (in_expand tasks (map visit (parts (spot_of opened))) task opened k e h)

    -- the last task is ready, and its parts wait above it
    pub opening_expands : (items tasks next : List Task) (task opened : Task) → items ≡ tasks ++ task ∷ []
        → next ≡ tasks ++ opened ∷ map visit (parts (spot_of opened)) → spot_of opened ≡ spot_of task
        → (good (spot_of task) → All good (parts (spot_of task))) → IsOpening known parts good root items → IsOpening known parts good root next
    opening_expands items tasks next task opened e f same kept o =
        let each = subst (All (λ (x : Task). good (spot_of x))) e o.each in
        let here = All-last (λ (x : Task). good (spot_of x)) tasks task each in
        subst (IsOpening known parts good root) (sym f) (record {
          waiting = waits_expand tasks task opened same (subst (AreWaiting known parts) e o.waiting);
          each = All-append (λ (x : Task). good (spot_of x)) tasks (opened ∷ map visit (parts (spot_of opened)))
              (All-before (λ (x : Task). good (spot_of x)) tasks task each)
              (All-cons (λ (x : Task). good (spot_of x)) opened (map visit (parts (spot_of opened))) (subst good (sym same) here)
              (All-map (λ (x : Task). good (spot_of x)) visit (parts (spot_of opened)) (subst (λ k. All good (parts k)) (sym same) (kept here))));
          root_known = elim o.root_known [
            | inl h ↦ inl h
            | inr h ↦ inr (in_expand tasks (map visit (parts (spot_of opened))) task opened root same (subst (λ ts. IsIn root (map spot_of ts)) e h))
          ];
        })

    waits_last : (tasks : List Task) (task : Task) → AreWaiting known parts (tasks ++ task ∷ []) → task.ready ≡ true → (k : Spot)
        → IsIn k (parts (spot_of task)) → known k
    waits_last [] task w r k i = elim (w.0 r k i) [
      | inl h ↦ h
      | inr x ↦ absurd x
    ]
    waits_last (x ∷ tasks) task w r k i = waits_last tasks task w.1 r k i

    -- the parts of a task that is ready, and last, are known
    pub opening_ready : (items tasks : List Task) (task : Task) → items ≡ tasks ++ task ∷ [] → IsOpening known parts good root items → task.ready ≡ true
        → (k : Spot) → IsIn k (parts (spot_of task)) → known k
    opening_ready items tasks task e o = waits_last tasks task (subst (AreWaiting known parts) e o.waiting)

    -- the last task is good
    pub opening_good : (items tasks : List Task) (task : Task) → items ≡ tasks ++ task ∷ [] → IsOpening known parts good root items → good (spot_of task)
    opening_good items tasks task e o = All-last (λ (x : Task). good (spot_of x)) tasks task (subst (All (λ (x : Task). good (spot_of x))) e o.each)

    -- it begins with the root
    pub opening_begins : (items before : List Task) → before ≡ [] → items ≡ before ++ visit root ∷ [] → good root → IsOpening known parts good root items
    opening_begins items before e f g = subst (IsOpening known parts good root) (sym (f ∙ ap (λ xs. xs ++ visit root ∷ []) e)) (record {
      waiting = ((λ r. absurd (true≢false (sym r))), tt);
      each = All-cons (λ (x : Task). good (spot_of x)) (visit root) [] g (λ j d l. absurd (omega arith));
      root_known = inr (inl refl);
    })

    -- and ends with its image
    pub opening_ends : (items : List Task) → length items ≡ 0 → IsOpening known parts good root items → known root
    opening_ends [] e o = elim o.root_known [
      | inl h ↦ h
      | inr x ↦ absurd x
    ]
    opening_ends (x ∷ items) e o = absurd (omega arith)

-- ---- the work that is left

module _ (size : Spot → ℕ) where
  weight : Task → ℕ
  weight task = if task.ready then 1 else size (spot_of task)

  work_visits : (ps : List Spot) → work_left size (map visit ps) ≡ sum_by size ps
  work_visits [] = refl
  work_visits (p ∷ ps) =
      let e = sum_by-cons (λ (task : Task). if task.ready then 1 else size (spot_of task)) (visit p) (map visit ps) in let f = sum_by-cons size p ps in
      let g = work_visits ps in
      e ∙ (ap (λ n. size p + n) g ∙ sym f)

  -- a task less
  pub work_pops : (items tasks : List Task) (task : Task) → items ≡ tasks ++ task ∷ [] → 0 < size (spot_of task) → work_left size tasks < work_left size items
  work_pops items tasks task e s = rw e (by task.ready (sum_by_push (λ (x : Task). if x.ready then 1 else size (spot_of x)) tasks task))
    where
      by : (b : Bool) → work_left size (tasks ++ task ∷ []) ≡ work_left size tasks + (if b then 1 else size (spot_of task))
          → work_left size tasks < work_left size (tasks ++ task ∷ [])
      by true h = omega arith
      by false h = omega arith

  -- its parts in its place
  pub work_expands : (items tasks next : List Task) (task opened : Task) (ps : List Spot) → items ≡ tasks ++ task ∷ [] → next ≡ tasks ++ opened ∷ map visit ps
      → task.ready ≡ false → opened.ready ≡ true
      → 1 + sum_by size ps < size (spot_of task) → work_left size next < work_left size items
  work_expands items tasks next task opened ps e f r s small =
      let here : work_left size (tasks ++ task ∷ []) ≡ work_left size tasks + size (spot_of task) =
      sum_by_push (λ (x : Task). if x.ready then 1 else size (spot_of x)) tasks task
      ∙ ap (λ b. work_left size tasks + (if b then 1 else size (spot_of task))) r in
      let more : work_left size (tasks ++ opened ∷ map visit ps) ≡ work_left size tasks + (1 + sum_by size ps) =
      sum_by-append (λ (x : Task). if x.ready then 1 else size (spot_of x)) tasks (opened ∷ map visit ps)
      ∙ ap (λ n. work_left size tasks + n) (sum_by-cons (λ (x : Task). if x.ready then 1 else size (spot_of x)) opened (map visit ps)
      ∙ (λ i. (if s i then 1 else size (spot_of opened)) + work_visits ps i)) in
      rw (e, f) (let z : work_left size (tasks ++ opened ∷ map visit ps) < work_left size (tasks ++ task ∷ []) = omega arith in z)
