-- How the root gets its image: the stack of tasks, and the stack of images that were made.
use Rattle.std.proofs.Common.{◌≡◌, ℕ, zero, suc, get_or, drop, ◌+◌, ◌-◌, ◌<◌, Bool, true, false, List, [], ◌∷◌, ◌++◌, length, map, All, take, refl, ap, sym}
use Rattle.std.proofs.Common.{subst, ◌∙◌, arith, true≢false, append_assoc, length-append}
use Rattle.std.specs.Prelude.{reverse, sum_by, if◌then◌else◌}
use Rattle.std.proofs.lemmas.List.{append-nil, reverse-append, take_all}
use Rattle.std.proofs.lemmas.List.Elements.{All-head, All-tail}
use Rattle.std.proofs.lemmas.List.Sums.{sum_by-cons}
use Rattle.ll_bank.specs.declared.At.{At}
use Rattle.ll_bank.specs.Opened.{Spot}
use Rattle.ll_bank.specs.declared.closing.stack.Task.{Task}
use Rattle.ll_bank.specs.Stacks.{spot_of, visit, ready, AreImagesOf, EndsWith, LeadsTo, IsClosing, work_left}

-- ---- images of parts

module _ {X : Type 0} (P : Spot → X → Type 0) where
  pub images_append : (ks ls : List Spot) (xs ys : List X) → AreImagesOf P ks xs → AreImagesOf P ls ys → AreImagesOf P (ks ++ ls) (xs ++ ys)
  images_append [] ls [] ys h g = g
  images_append [] ls (x ∷ xs) ys h g = absurd h
  images_append (k ∷ ks) ls [] ys h g = absurd h
  images_append (k ∷ ks) ls (x ∷ xs) ys h g = (h.0, images_append ks ls xs ys h.1 g)

  pub images_length : (ks : List Spot) (xs : List X) → AreImagesOf P ks xs → length xs ≡ length ks
  images_length [] [] h = refl
  images_length [] (x ∷ xs) h = absurd h
  images_length (k ∷ ks) [] h = absurd h
  images_length (k ∷ ks) (x ∷ xs) h = let e = images_length ks xs h.1 in omega arith

  pub images_split : (ks ls : List Spot) (xs : List X) → AreImagesOf P (ks ++ ls) xs
      → (us : List X) × ((vs : List X) × ((xs ≡ us ++ vs) × (AreImagesOf P ks us × AreImagesOf P ls vs)))
  images_split [] ls xs h = ([], (xs, (refl, (tt, h))))
  images_split (k ∷ ks) ls [] h = absurd h
  images_split (k ∷ ks) ls (x ∷ xs) h =
      let r = images_split ks ls xs h.1 in (x ∷ r.0, (r.1.0, (ap (λ z. x ∷ z) r.1.1.0, ((h.0, r.1.1.1.0), r.1.1.1.1))))

  pub images_one : (k : Spot) (xs : List X) → AreImagesOf P (k ∷ []) xs → (x : X) × (xs ≡ x ∷ []) × P k x
  images_one k [] h = absurd h
  images_one k (x ∷ []) h = (x, refl, h.0)
  images_one k (x ∷ y ∷ xs) h = absurd (h.1)

  pub images_two : (k l : Spot) (xs : List X) → AreImagesOf P (k ∷ l ∷ []) xs → (x : X) × (y : X) × (xs ≡ x ∷ y ∷ []) × P k x × P l y
  images_two k l [] h = absurd h
  images_two k l (x ∷ xs) h = let r = images_one l xs h.1 in (x, r.0, ap (λ z. x ∷ z) r.1, h.0, r.2)

pub images_weaker : {X : Type 0} (P Q : Spot → X → Type 0) → ((k : Spot) (x : X) → P k x → Q k x) → (ks : List Spot) (xs : List X) → AreImagesOf P ks xs
    → AreImagesOf Q ks xs
images_weaker P Q f [] [] h = tt
images_weaker P Q f [] (x ∷ xs) h = absurd h
images_weaker P Q f (k ∷ ks) [] h = absurd h
images_weaker P Q f (k ∷ ks) (x ∷ xs) h = (f k x h.0, images_weaker P Q f ks xs h.1)

take_front : {X : Type 0} (xs ys : List X) → take (length xs) (xs ++ ys) ≡ xs
take_front [] ys = refl
take_front (x ∷ xs) ys = ap (λ z. x ∷ z) (take_front xs ys)

pub cut_own : {X : Type 0} (made below own : List X) (n : ℕ) → made ≡ below ++ own → length own ≡ n → take (length made - n) made ≡ below
cut_own made below own n e q =
    let w = length-append below own in let v = ap length e in
    (λ i. take ((let z : length made - n ≡ length below = omega arith in z) i) (e i)) ∙ take_front below own

-- ---- the stack of tasks

pub reversed : (items tasks : List Task) (task : Task) → items ≡ tasks ++ task ∷ [] → reverse items ≡ task ∷ reverse tasks
reversed items tasks task e = ap reverse e ∙ reverse-append tasks (task ∷ [])

-- parts above one that is ready
pub pushed : (parts parts' : List Spot) (old now next : List Task) (r : Task) → parts ≡ parts' → now ≡ old ++ r ∷ []
    → reverse next ≡ map visit parts' ++ reverse now → reverse next ≡ map visit parts ++ r ∷ reverse old
pushed parts parts' old now next r p e f = f ∙ (ap (λ z. map visit parts' ++ z) (reversed now old r e) ∙ ap (λ z. map visit z ++ r ∷ reverse old) (sym p))

-- the arguments from one on
drop_at : (xs : List At) (k : ℕ) (d : At) → k < length xs → drop k xs ≡ get_or xs k d ∷ drop (suc k) xs
drop_at [] k d l = absurd (omega arith)
drop_at (x ∷ xs) zero d l = refl
drop_at (x ∷ xs) (suc k) d l = drop_at xs k d (omega arith)

pub args_more : (n i j : ℕ) (args : List At) (d : At) (base now next : List Task) → i ≡ j + 1 → j < length args
    → reverse now ≡ map (λ (a : At). visit (a.0, n)) (drop i args) ++ reverse base
    → reverse next ≡ visit ((get_or args j d).0, n) ∷ reverse now → reverse next ≡ map (λ (a : At). visit (a.0, n)) (drop j args) ++ reverse base
args_more n i j args d base now next e l h g =
    g
    ∙ (ap (λ z. visit ((get_or args j d).0, n) ∷ z) (h ∙ ap (λ m. map (λ (a : At). visit (a.0, n)) (drop m args) ++ reverse base) (let q : i ≡ suc j =
    omega arith in q))
    ∙ ap (λ z. map (λ (a : At). visit (a.0, n)) z ++ reverse base) (sym (drop_at args j d l)))

-- the part of a list from a place on
pub slice_own : {X : Type 0} (xs made below own : List X) (i n : ℕ) → xs ≡ made → made ≡ below ++ own → length own ≡ n → i ≡ length made - n
    → take (length xs - i) (drop i xs) ≡ own
slice_own {X} xs made below own i n e f g h =
    let w = length-append below own in let v = ap length f in let u = ap length e in
    let is : drop i xs ≡ own = (λ j. drop ((let z : i ≡ length below = omega arith in z) j) ((e ∙ f) j)) ∙ drop_front below own in
    ap (take (length xs - i)) is ∙ take_all (length xs - i) own (omega arith)
  where
    drop_front : (bs os : List X) → drop (length bs) (bs ++ os) ≡ os
    drop_front [] os = refl
    drop_front (b ∷ bs) os = drop_front bs os

pub ends_with_none : {X : Type 0} (P : Spot → X → Type 0) (parts : List Spot) (made : List X) → parts ≡ [] → EndsWith P parts made
ends_with_none P parts made e = record { below = made; own = []; is = sym (append-nil made); images = subst (λ ps. AreImagesOf P ps []) (sym e) tt }

pub take_none : {X : Type 0} (made : List X) (parts : List Spot) → parts ≡ [] → made ≡ take (length made - length parts) made
take_none made parts e = sym (take_all (length made - length parts) made (let l = ap length e in omega arith))

module _ (parts : Spot → List Spot) (good : Spot → Type 0) (root : Spot) where
  leads_visits : (ps spots : List Spot) (ts : List Task) → All good ps → LeadsTo parts good root (spots ++ ps) ts
      → LeadsTo parts good root spots (map visit ps ++ ts)
  leads_visits [] spots ts a h = subst (λ z. LeadsTo parts good root z ts) (append-nil spots) h
  leads_visits (p ∷ ps) spots ts a h = (
    All-head good p ps a,
    (λ r. leads_visits ps (spots ++ p ∷ []) ts (All-tail good p ps a) (subst (λ z. LeadsTo parts good root z ts) (sym (append_assoc spots (p ∷ []) ps)) h)),
    (λ r. absurd (true≢false (sym r))),
  )

  -- it begins with the root
  pub closing_begins : {X : Type 0} (P : Spot → X → Type 0) (made : List X) (before items : List Task) → made ≡ [] → before ≡ []
      → reverse items ≡ visit root ∷ reverse before → good root → IsClosing P parts good root made items
  closing_begins P made before items e f g h = record {
    spots = [];
    images = subst (AreImagesOf P []) (sym e) tt;
    leads = subst (LeadsTo parts good root []) (sym (g ∙ ap (λ z. visit root ∷ reverse z) f)) (h, (λ r. refl), (λ r. absurd (true≢false (sym r))));
  }

  -- and ends with its image
  pub closing_ends : {X : Type 0} (P : Spot → X → Type 0) (made : List X) (items : List Task) → length items ≡ 0 → IsClosing P parts good root made items
      → (x : X) × (made ≡ x ∷ []) × P root x
  closing_ends P made [] e c = images_one P root made (subst (λ z. AreImagesOf P z made) c.leads c.images)
  closing_ends P made (t ∷ ts) e c = absurd (omega arith)

module _ {parts : Spot → List Spot} {good : Spot → Type 0} {root : Spot} {X : Type 0} {P : Spot → X → Type 0} {made : List X} {items : List Task}
    (tasks : List Task) (task : Task) (e : items ≡ tasks ++ task ∷ []) (c : IsClosing P parts good root made items) where
  top : LeadsTo parts good root c.spots (task ∷ reverse tasks)
  top = subst (LeadsTo parts good root c.spots) (reversed items tasks task e) c.leads

  -- the next part is good
  pub closing_good : good (spot_of task)
  closing_good = top.0

  -- its own parts stand above it
  pub closing_expands : (next : List Task) → task.ready ≡ false → reverse next ≡ map visit (parts (spot_of task)) ++ ready (spot_of task) ∷ reverse tasks
      → (good (spot_of task) → All good (parts (spot_of task)))
      → IsClosing P parts good root made next
  closing_expands next r f keep = record {
    spots = c.spots;
    images = c.images;
    leads = subst (LeadsTo parts good root c.spots) (sym f)
        (leads_visits parts good root (parts (spot_of task)) c.spots (ready (spot_of task) ∷ reverse tasks) (keep top.0)
        (top.0, (λ s. absurd (true≢false s)), (λ s. (c.spots, refl, top.1 r))));
  }

  -- its image is there
  module _ {Q : Spot → X → Type 0} (keep : (k : Spot) (x : X) → P k x → Q k x) (image : X) (here : Q (spot_of task) image) where
    pub closing_found : (more : List X) → task.ready ≡ false → more ≡ made ++ image ∷ [] → IsClosing Q parts good root more tasks
    closing_found more r f = record {
      spots = c.spots ++ spot_of task ∷ [];
      images = subst (AreImagesOf Q (c.spots ++ spot_of task ∷ [])) (sym f)
          (images_append Q c.spots (spot_of task ∷ []) made (image ∷ []) (images_weaker P Q keep c.spots made c.images) (here, tt));
      leads = top.1 r;
    }

    pub closing_builds : (more rest : List X) → task.ready ≡ true → rest ≡ take (length made - length (parts (spot_of task))) made → more ≡ rest ++ image ∷ []
        → IsClosing Q parts good root more tasks
    closing_builds more rest r f g =
        let b = top.2 r in
        let s = images_split P b.0 (parts (spot_of task)) made (subst (λ z. AreImagesOf P z made) b.1 c.images) in
        let cut = f ∙ cut_own made s.0 s.1.0 (length (parts (spot_of task))) s.1.1.0 (images_length P (parts (spot_of task)) s.1.0 s.1.1.1.1) in
        record {
          spots = b.0 ++ spot_of task ∷ [];
          images = subst (AreImagesOf Q (b.0 ++ spot_of task ∷ [])) (sym (g ∙ ap (λ z. z ++ image ∷ []) cut))
              (images_append Q b.0 (spot_of task ∷ []) s.0 (image ∷ []) (images_weaker P Q keep b.0 s.0 s.1.1.1.0) (here, tt));
          leads = b.2;
        }

  -- the images of its own parts were made last
  pub closing_ready : task.ready ≡ true → EndsWith P (parts (spot_of task)) made
  closing_ready r =
      let b = top.2 r in
      let s = images_split P b.0 (parts (spot_of task)) made (subst (λ z. AreImagesOf P z made) b.1 c.images) in
      record { below = s.0; own = s.1.0; is = s.1.1.0; images = s.1.1.1.1 }

-- ---- the work that is left

module _ (size : Spot → ℕ) where
  work_visits : (ps : List Spot) (ts : List Task) → work_left size (map visit ps ++ ts) ≡ sum_by size ps + work_left size ts
  work_visits [] ts = omega arith
  work_visits (p ∷ ps) ts = let e = work_visits ps ts in let f = sum_by-cons size p ps in omega arith

  -- a task less
  pub work_pops : (items tasks : List Task) (task : Task) → items ≡ tasks ++ task ∷ [] → 0 < size (spot_of task)
      → work_left size (reverse tasks) < work_left size (reverse items)
  work_pops items tasks task e s = rw (reversed items tasks task e) (by task.ready)
    where
      by : (b : Bool) → work_left size (reverse tasks) < (if b then 1 else size (spot_of task)) + work_left size (reverse tasks)
      by true = omega arith
      by false = omega arith

  -- its parts in its place
  pub work_expands : (items tasks next : List Task) (task : Task) (ps : List Spot) → items ≡ tasks ++ task ∷ []
      → reverse next ≡ map visit ps ++ ready (spot_of task) ∷ reverse tasks → task.ready ≡ false
      → 1 + sum_by size ps < size (spot_of task) → work_left size (reverse next) < work_left size (reverse items)
  work_expands items tasks next task ps e f r s =
      let here : work_left size (task ∷ reverse tasks) ≡ size (spot_of task) + work_left size (reverse tasks) =
      ap (λ b. (if b then 1 else size (spot_of task)) + work_left size (reverse tasks)) r in
      let more = work_visits ps (ready (spot_of task) ∷ reverse tasks) in
      rw (f, reversed items tasks task e) (let z : work_left size (map visit ps ++ ready (spot_of task) ∷ reverse tasks) < work_left size (task ∷ reverse tasks)
      = omega arith in z)
