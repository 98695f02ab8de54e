-- A leaf of a clause, opened, is what stands in the clause with terms for its quantifiers.
use Rattle.std.proofs.Common.{◌≡◌, ◌<◌, ℕ, zero, suc, ◌+◌, ◌-◌, refl, ap, sym, subst, ◌∙◌, Bool, true, false, List, [], ◌∷◌, ◌++◌, map, length, take}
use Rattle.std.proofs.Common.{append_assoc, length-append, arith}
use Rattle.std.specs.Prelude.{if◌then◌else◌, nat_lt, Option, Some, None, option_map, slice_get}
use Rattle.std.proofs.lemmas.Bool.{ltb-true, ltb-false}
use Rattle.std.proofs.lemmas.List.{append-nil, map-append, length-map}
use Rattle.ll_list_laws.proofs.CallerLemmas.{slice_get-append_left as get_left, slice_get-append_right as get_right, map_same, map_map}
use Rattle.ll_bank.specs.Term.{Term, Env, close}
use Rattle.ll_bank.specs.Form.{Form, Atom, With, Lolli, Imp, Forall, close_form}
use Rattle.ll_laws.specs.declared.Kind.TheVariants.{Linear, Unbounded}
use Rattle.ll_laws.specs.Leaf.{Premise, Needs, NeedsFree, Leaf, add_premise, leaf_from, leaf, ways}
use Rattle.ll_laws.proofs.CallerLemmas.{leaf_ways}
use Rattle.ll_index.specs.Standing.{StandingPremise, StandingLeaf, leaves_under, standing_leaves, env_under, opened_premise, opened_leaf, LeavesStand}
use Rattle.ll_index.specs.Standing.{LeavesOpen}

-- ---- lists one behind the other

-- ---- there is one for each leaf

ways_under : (n : ℕ) (ps : List StandingPremise) (r : Form) → map (λ l. l.quantifiers) (leaves_under n ps r) ≡ map (λ m. n + m) (ways r)
ways_under n ps (Atom a) = let e : n ≡ n + 0 = omega arith in ap (λ m. m ∷ []) e
ways_under n ps (With r s) =
    map-append (λ l. l.quantifiers) (leaves_under n ps r) (leaves_under n ps s)
    ∙ (ap (λ xs. xs ++ map (λ l. l.quantifiers) (leaves_under n ps s)) (ways_under n ps r)
    ∙ (ap (λ xs. map (λ m. n + m) (ways r) ++ xs) (ways_under n ps s) ∙ sym (map-append (λ m. n + m) (ways r) (ways s))))
ways_under n ps (Lolli g r) = ways_under n _ r
ways_under n ps (Imp g r) = ways_under n _ r
ways_under n ps (Forall r) =
    ways_under (suc n) ps r ∙ (map_same (λ m. suc n + m) (λ m. n + suc m) (λ m. let e : suc n + m ≡ n + suc m = omega arith in e) (ways r)
    ∙ sym (map_map (λ m. n + m) (λ m. suc m) (ways r)))
ways_under n ps _ = refl

pub leaves_count : (n : ℕ) (ps : List StandingPremise) (r : Form) → length (leaves_under n ps r) ≡ length (ways r)
leaves_count n ps r =
    sym (length-map (leaves_under n ps r) (λ l. l.quantifiers)) ∙ (ap length (ways_under n ps r) ∙ length-map (ways r) (λ m. n + m))

pub leaves_stand : LeavesStand
leaves_stand r = ways_under 0 [] r ∙ (map_same (λ m. 0 + m) (λ m. m) (λ m. let e : 0 + m ≡ m = omega arith in e) (ways r) ∙ map-id (ways r))
  where
    map-id : (xs : List ℕ) → map (λ m. m) xs ≡ xs
    map-id [] = refl
    map-id (x ∷ xs) = ap (λ ys. x ∷ ys) (map-id xs)

-- ---- opened, it is the leaf

env_under-more : (e : Env) (us : List Term) (t : Term) → env_under e (us ++ t ∷ []) ≡ Some t ∷ env_under e us
env_under-more e [] t = refl
env_under-more e (u ∷ us) t = env_under-more (Some u ∷ e) us t

take-front : (us ts : List Term) → take (length us) (us ++ ts) ≡ us
take-front [] ts = refl
take-front (u ∷ us) ts = ap (λ xs. u ∷ xs) (take-front us ts)

-- a leaf of a part under which the terms us were put, opened with the terms ts besides
record Opens (us ts : List Term) (ps : List StandingPremise) (r : Form) (k : ℕ) (l : StandingLeaf) : Type 0 where
  nearer : List Premise
  is : leaf_from (env_under [] us) r k ts ≡ Some (record { premises = nearer; head = close (env_under [] (us ++ ts)) l.head })
  all : nearer ++ map (opened_premise (us ++ ts)) ps ≡ map (opened_premise (us ++ ts)) l.premises

-- a premise more, further from the head
further : (us ts : List Term) (ps : List StandingPremise) (r f : Form) (k : ℕ) (l : StandingLeaf) (p : StandingPremise) (q : Premise)
    → leaf_from (env_under [] us) f k ts ≡ option_map (add_premise q) (leaf_from (env_under [] us) r k ts) → opened_premise (us ++ ts) p ≡ q
    → Opens us ts (p ∷ ps) r k l → Opens us ts ps f k l
further us ts ps r f k l p q e o w = record {
  nearer = w.nearer ++ q ∷ [];
  is = e ∙ ap (option_map (add_premise q)) w.is;
  all = append_assoc w.nearer (q ∷ []) (map (opened_premise (us ++ ts)) ps) ∙ (ap (λ x. w.nearer ++ x ∷ map (opened_premise (us ++ ts)) ps) (sym o) ∙ w.all);
}

more_quantifiers : (n : ℕ) (ps : List StandingPremise) (r : Form) (k : ℕ) (l : StandingLeaf) → slice_get (leaves_under n ps r) k ≡ Some l
    → n < suc l.quantifiers
more_quantifiers n ps (Atom a) zero l h = let e : n ≡ l.quantifiers = cc in omega arith
more_quantifiers n ps (Atom a) (suc k) l h = cc
more_quantifiers n ps (With r s) k l h =
    step (nat_lt k (length (leaves_under n ps r))) refl (more_quantifiers n ps r k l) (more_quantifiers n ps s (k - length (leaves_under n ps r)) l)
  where
    lefts : List StandingLeaf
    lefts = leaves_under n ps r

    step : (b : Bool) → nat_lt k (length lefts) ≡ b → (slice_get lefts k ≡ Some l → n < suc l.quantifiers)
        → (slice_get (leaves_under n ps s) (k - length lefts) ≡ Some l → n < suc l.quantifiers) → n < suc l.quantifiers
    step true t i j = i (sym (get_left lefts (leaves_under n ps s) k (ltb-true k _ t)) ∙ h)
    step false t i j = let le = ltb-false k (length lefts) t in j (sym (get_right lefts (leaves_under n ps s) k (k - length lefts) (omega arith)) ∙ h)
more_quantifiers n ps (Lolli g r) k l h = more_quantifiers n _ r k l h
more_quantifiers n ps (Imp g r) k l h = more_quantifiers n _ r k l h
more_quantifiers n ps (Forall r) k l h = let i = more_quantifiers (suc n) ps r k l h in omega arith
more_quantifiers n ps _ k l h = cc

opens : (us ts : List Term) (n : ℕ) (ps : List StandingPremise) (r : Form) (k : ℕ) (l : StandingLeaf) → length us ≡ n
    → slice_get (leaves_under n ps r) k ≡ Some l → length (us ++ ts) ≡ l.quantifiers → Opens us ts ps r k l
opens us [] n ps (Atom a) zero l c h q =
    let x : StandingLeaf = record { premises = ps; quantifiers = n; head = a } in
    let e : x ≡ l = cc in
    subst (Opens us [] ps (Atom a) zero) e (record {
      nearer = [];
      is = ap (λ vs. Some (record { premises = []; head = close (env_under [] vs) a })) (sym (append-nil us));
      all = refl;
    })
opens us (t ∷ ts) n ps (Atom a) zero l c h q = let e : n ≡ l.quantifiers = cc in let i = length-append us (t ∷ ts) in absurd (omega arith)
opens us ts n ps (Atom a) (suc k) l c h q = cc
opens us ts n ps (With r s) k l c h q =
    step (nat_lt k (length (ways r))) refl (λ i. opens us ts n ps r k l c i q) (λ i. opens us ts n ps s (k - length (ways r)) l c i q)
  where
    lefts : List StandingLeaf
    lefts = leaves_under n ps r

    count : length lefts ≡ length (ways r)
    count = leaves_count n ps r

    on_left : (b : Bool) → b ≡ true → (if b then leaf_from (env_under [] us) r k ts else leaf_from (env_under [] us) s (k - length (ways r)) ts)
        ≡ leaf_from (env_under [] us) r k ts
    on_left true e = refl
    on_left false e = cc

    on_right : (b : Bool) → b ≡ false
        → (if b then leaf_from (env_under [] us) r k ts else leaf_from (env_under [] us) s (k - length (ways r)) ts)
        ≡ leaf_from (env_under [] us) s (k - length (ways r)) ts
    on_right true e = cc
    on_right false e = refl

    step : (b : Bool) → nat_lt k (length (ways r)) ≡ b → (slice_get lefts k ≡ Some l → Opens us ts ps r k l)
        → (slice_get (leaves_under n ps s) (k - length (ways r)) ≡ Some l → Opens us ts ps s (k - length (ways r)) l) → Opens us ts ps (With r s) k l
    step true t i j =
        let lt = ltb-true k (length (ways r)) t in
        let same = count in
        let w = i (sym (get_left lefts (leaves_under n ps s) k (omega arith)) ∙ h) in
        record { nearer = w.nearer; is = on_left (nat_lt k (length (ways r))) t ∙ w.is; all = w.all }
    step false t i j =
        let le = ltb-false k (length (ways r)) t in
        let same = count in
        let w = j (sym (get_right lefts (leaves_under n ps s) k (k - length (ways r)) (omega arith)) ∙ h) in
        record { nearer = w.nearer; is = on_right (nat_lt k (length (ways r))) t ∙ w.is; all = w.all }
opens us ts n ps (Lolli g r) k l c h q =
    further us ts ps r (Lolli g r) k l (record { goal = g; kind = Linear; quantifiers = n }) (Needs (close_form (env_under [] us) g)) refl
    (ap (λ m. Needs (close_form (env_under [] (take m (us ++ ts))) g)) (sym c) ∙ ap (λ vs. Needs (close_form (env_under [] vs) g)) (take-front us ts))
    (opens us ts n (record { goal = g; kind = Linear; quantifiers = n } ∷ ps) r k l c h q)
opens us ts n ps (Imp g r) k l c h q =
    further us ts ps r (Imp g r) k l (record { goal = g; kind = Unbounded; quantifiers = n }) (NeedsFree (close_form (env_under [] us) g)) refl
    (ap (λ m. NeedsFree (close_form (env_under [] (take m (us ++ ts))) g)) (sym c) ∙ ap (λ vs. NeedsFree (close_form (env_under [] vs) g)) (take-front us ts))
    (opens us ts n (record { goal = g; kind = Unbounded; quantifiers = n } ∷ ps) r k l c h q)
opens us [] n ps (Forall r) k l c h q = let i = more_quantifiers (suc n) ps r k l h in let e = append-nil us in let f = ap length e in absurd (omega arith)
opens us (t ∷ ts) n ps (Forall r) k l c h q =
    let e : (us ++ t ∷ []) ++ ts ≡ us ++ t ∷ ts = append_assoc us (t ∷ []) ts in
    let w = opens (us ++ t ∷ []) ts (suc n) ps r k l (length-append us (t ∷ []) ∙ (omega arith)) h (ap length e ∙ q) in
    record {
      nearer = w.nearer;
      is = ap (λ v. leaf_from v r k ts) (sym (env_under-more [] us t))
          ∙ (w.is ∙ ap (λ vs. Some (record { premises = w.nearer; head = close (env_under [] vs) l.head })) e);
      all = subst (λ vs. w.nearer ++ map (opened_premise vs) ps ≡ map (opened_premise vs) l.premises) e w.all;
    }
opens us ts n ps _ k l c h q = cc

pub leaves_open : LeavesOpen
leaves_open r k ts l h q =
    let w = opens [] ts 0 [] r k l refl h q in
    w.is ∙ ap (λ ps. Some (record { premises = ps; head = close (env_under [] ts) l.head })) (sym (append-nil w.nearer) ∙ w.all)

-- what a clause's leaf stands as, where it can be opened
pub record StandsAs (r : Form) (k : ℕ) (ts : List Term) (l : Leaf) : Type 0 where
  pub standing : StandingLeaf
  pub at : slice_get (standing_leaves r) k ≡ Some standing
  pub terms : length ts ≡ standing.quantifiers
  pub is : l ≡ opened_leaf ts standing

-- a leaf that opens stands in the clause
pub stands_as : (r : Form) (k : ℕ) (ts : List Term) (l : Leaf) → leaf r k ts ≡ Some l → StandsAs r k ts l
stands_as r k ts l h = found (slice_get (standing_leaves r) k) refl
  where
    way : slice_get (map (λ (x : StandingLeaf). x.quantifiers) (standing_leaves r)) k ≡ Some (length ts)
    way = ap (λ ns. slice_get ns k) (leaves_stand r) ∙ leaf_ways [] r k ts l h

    get-map : (xs : List StandingLeaf) (j : ℕ) → slice_get (map (λ (x : StandingLeaf). x.quantifiers) xs) j
        ≡ option_map (λ (x : StandingLeaf). x.quantifiers) (slice_get xs j)
    get-map [] j = refl
    get-map (x ∷ xs) zero = refl
    get-map (x ∷ xs) (suc j) = get-map xs j

    found : (o : Option StandingLeaf) → slice_get (standing_leaves r) k ≡ o → StandsAs r k ts l
    found None e = let p : Some (length ts) ≡ None = sym way ∙ (get-map (standing_leaves r) k ∙ ap (option_map (λ (x : StandingLeaf). x.quantifiers)) e) in cc
    found (Some s) e =
        let p : Some (length ts) ≡ Some s.quantifiers = sym way ∙ (get-map (standing_leaves r) k ∙ ap (option_map (λ (x : StandingLeaf). x.quantifiers)) e) in
        let q : length ts ≡ s.quantifiers = cc in
        let i = leaves_open r k ts s e q in
        record { standing = s; at = e; terms = q; is = cc }
