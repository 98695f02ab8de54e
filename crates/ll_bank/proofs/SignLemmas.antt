-- Terms by numbers: a table of signs has one number for equal terms.
use Rattle.std.proofs.Common.{◌≡◌, ◌≢◌, ℕ, zero, suc, ◌+◌, ◌<◌, Bool, true, false, eqb, if◌then◌else◌, List, [], ◌∷◌, ◌++◌, length, take, drop, get_or, refl}
use Rattle.std.proofs.Common.{ap, sym, subst, ◌∙◌, inl, inr, arith, true≢false, Some, length-append, append_assoc}
use Rattle.std.specs.Prelude.{slice_get}
use Rattle.std.specs.List.{list_any}
use Rattle.std.proofs.Math.ListN.{get_or-append}
use Rattle.std.proofs.lemmas.Bool.{eqb-true, eq-eqb, cases_lt, or_left, or_right, and_parts, and_from}
use Rattle.std.proofs.lemmas.Bool.Decides.{Decides-int_eq}
use Rattle.std.proofs.lemmas.List.{append-nil, length_push, get_or_push, take-append-drop, length-take-le, take-map, map_more}
use Rattle.std.proofs.lemmas.Option.{get_or_from_slice_get, slice_get_within}
use Rattle.ll_bank.specs.declared.Head.TheVariants.{Name, Eigen, Bound}
use Rattle.ll_bank.specs.declared.equality.Sign.{Sign}
use Rattle.ll_bank.specs.declared.equality.Sign.TheVariants.{Var as VarSign, Int as IntSign, Head as HeadSign, Apply as ApplySign}
use Rattle.ll_bank.specs.contracts.equality.SignPartialEq.TheImpl.{eq-value}
use Rattle.ll_bank.specs.Term.{Term, Var, Con, Ap, apply}
use Rattle.ll_bank.specs.declared.At.{At}
use Rattle.ll_bank.specs.Nodes.{Nodes, term_in, term_tree, term_trees}
use Rattle.ll_bank.specs.Signs.{build_sign, sign_terms, IsSignBelow, IsTable, Grows, HasNumber, IsNumbering}
use Rattle.ll_bank.proofs.Growing.{get_or-grow_at, grow_kept}
use Rattle.ll_bank.proofs.Heads.{apply-push}

-- ---- signs that are equal by their test

pub same_sign : (x y : Sign) → (eq-value).it x y ≡ true → x ≡ y
same_sign (VarSign m) (VarSign n) e = ap VarSign (eqb-true m n e)
same_sign (IntSign m) (IntSign n) e = ap IntSign ((Decides-int_eq m n).0 e)
same_sign (HeadSign (Name m)) (HeadSign (Name n)) e = ap (λ k. HeadSign (Name k)) (eqb-true m n e)
same_sign (HeadSign (Eigen m)) (HeadSign (Eigen n)) e = ap (λ k. HeadSign (Eigen k)) (eqb-true m n e)
same_sign (HeadSign (Bound m)) (HeadSign (Bound n)) e = ap (λ k. HeadSign (Bound k)) (eqb-true m n e)
same_sign (ApplySign f a) (ApplySign g b) e = let p = and_parts (eqb f g) (eqb a b) e in λ i. ApplySign (eqb-true f g p.0 i) (eqb-true a b p.1 i)
same_sign x y e = absurd (true≢false (sym e))

pub sign_refl : (x : Sign) → (eq-value).it x x ≡ true
sign_refl (VarSign m) = eq-eqb m m refl
sign_refl (IntSign m) = (Decides-int_eq m m).1 refl
sign_refl (HeadSign (Name m)) = eq-eqb m m refl
sign_refl (HeadSign (Eigen m)) = eq-eqb m m refl
sign_refl (HeadSign (Bound m)) = eq-eqb m m refl
sign_refl (ApplySign f a) = and_from (eqb f f) (eqb a a) (eq-eqb f f refl) (eq-eqb a a refl)

-- a sign that is listed is found
found_sign : (signs : List Sign) (sign d : Sign) (i : ℕ) → i < length signs → get_or signs i d ≡ sign → list_any ((eq-value).it sign) signs ≡ true
found_sign [] sign d i l e = absurd (omega arith)
found_sign (x ∷ signs) sign d zero l e = or_left ((eq-value).it sign x) (list_any ((eq-value).it sign) signs)
    (subst (λ y. (eq-value).it sign y ≡ true) (sym e) (sign_refl sign))
found_sign (x ∷ signs) sign d (suc i) l e = or_right ((eq-value).it sign x) (list_any ((eq-value).it sign) signs) (found_sign signs sign d i (omega arith) e)

-- ---- tables

-- parts below a number are below a greater one
build_same : (trees trees' : List Term) (n : ℕ) → ((a : ℕ) → a < n → term_in trees a ≡ term_in trees' a) → (s : Sign) → IsSignBelow n s
    → build_sign trees s ≡ build_sign trees' s
build_same trees trees' n same (VarSign x) below = refl
build_same trees trees' n same (IntSign z) below = refl
build_same trees trees' n same (HeadSign h) below = refl
build_same trees trees' n same (ApplySign f a) below = λ i. Ap (same f below.0 i) (same a below.1 i)

module _ (signs : List Sign) (table : IsTable signs) where
  -- a number's term is what its sign builds over all terms
  number_builds : (i : ℕ) (d : Sign) → i < length signs → term_in (sign_terms signs) i ≡ build_sign (sign_terms signs) (get_or signs i d)
  number_builds i d l =
      get_or-grow_at build_sign signs i d (Var 0) l
      ∙ build_same (sign_terms (take i signs)) (sign_terms signs) i earlier (get_or signs i d) (table.lower i d l)
    where
      earlier : (a : ℕ) → a < i → term_in (sign_terms (take i signs)) a ≡ term_in (sign_terms signs) a
      earlier a m =
          let s : length (take i signs) ≡ i = length-take-le i signs (omega arith) in
          sym (subst (λ ns. term_in (sign_terms ns) a ≡ term_in (sign_terms (take i signs)) a) (take-append-drop i signs)
          (grow_kept build_sign (take i signs) (drop i signs) a (Var 0) (omega arith)))

  -- signs that build one term are one, where their parts with one term are one
  same_built : (i j : ℕ) → ((a b : ℕ) → a < i → b < j → term_in (sign_terms signs) a ≡ term_in (sign_terms signs) b → a ≡ b) → (x y : Sign) → IsSignBelow i x
      → IsSignBelow j y
      → build_sign (sign_terms signs) x ≡ build_sign (sign_terms signs) y → x ≡ y
  same_built i j parts (VarSign m) (VarSign n) p q e = let k : m ≡ n = cc in ap VarSign k
  same_built i j parts (IntSign m) (IntSign n) p q e = let k : m ≡ n = cc in ap IntSign k
  same_built i j parts (HeadSign m) (HeadSign n) p q e = let k : m ≡ n = cc in ap HeadSign k
  same_built i j parts (ApplySign f a) (ApplySign g b) p q e =
      let k : term_in (sign_terms signs) f ≡ term_in (sign_terms signs) g = cc in let l : term_in (sign_terms signs) a ≡ term_in (sign_terms signs) b = cc in
      λ z. ApplySign (parts f g p.0 q.0 k z) (parts a b p.1 q.1 l z)
  same_built i j parts x y p q e = absurd (let z : ⊥ = cc in z)

  one_number_within : (n i j : ℕ) → i < n → i < length signs → j < length signs → term_in (sign_terms signs) i ≡ term_in (sign_terms signs) j → i ≡ j
  one_number_within zero i j l p q e = absurd (omega arith)
  one_number_within (suc n) i j l p q e =
      table.once i j (VarSign 0) p q
      (same_built i j (λ a b m k. one_number_within n a b (omega arith) (omega arith) (omega arith)) (get_or signs i (VarSign 0)) (get_or signs j (VarSign 0))
      (table.lower i (VarSign 0) p) (table.lower j (VarSign 0) q) (sym (number_builds i (VarSign 0) p) ∙ (e ∙ number_builds j (VarSign 0) q)))

  -- one term has one number
  pub one_number : (i j : ℕ) (t u : Term) → HasNumber signs i t → HasNumber signs j u → t ≡ u → i ≡ j
  one_number i j t u h k e = one_number_within (suc i) i j (omega arith) h.inside k.inside (h.is ∙ (e ∙ sym k.is))

  -- a new sign gets the next number
  pub push_sign : (s : Sign) → IsSignBelow (length signs) s → ((i : ℕ) (d : Sign) → i < length signs → get_or signs i d ≢ s) → IsTable (signs ++ s ∷ [])
  push_sign s below new = record {
    lower = λ i d l. elim (cases_lt i (length signs)) [
      | inl h ↦ subst (IsSignBelow i) (sym (get_or-append signs (s ∷ []) d i h)) (table.lower i d h)
      | inr h ↦
          let e : length signs ≡ i = (let q = length_push signs s in omega arith) in
          subst (IsSignBelow i) (sym (get_or_push signs s d i e)) (subst (λ k. IsSignBelow k s) e below)
    ];
    once = λ i j d l m e. elim (cases_lt i (length signs)) [
      | inl h ↦ elim (cases_lt j (length signs)) [
        | inl k ↦ table.once i j d h k (sym (get_or-append signs (s ∷ []) d i h) ∙ (e ∙ get_or-append signs (s ∷ []) d j k))
        | inr k ↦ absurd (new i d h (sym (get_or-append signs (s ∷ []) d i h) ∙ (e ∙ get_or_push signs s d j (let q = length_push signs s in omega arith))))
      ]
      | inr h ↦ elim (cases_lt j (length signs)) [
        | inl k ↦ absurd (new j d k (sym (get_or-append signs (s ∷ []) d j k) ∙ (sym e ∙ get_or_push signs s d i (let q = length_push signs s in omega arith))))
        | inr k ↦ let q = length_push signs s in omega arith
      ]
    ];
  }

pub Grows-trans : {a b c : List Sign} → Grows a b → Grows b c → Grows a c
Grows-trans {a} {b} {c} p q = record { table = q.table; more = p.more ++ q.more; is = q.is ∙ (ap (λ xs. xs ++ q.more) p.is ∙ append_assoc a p.more q.more) }

-- numbers stay
pub term_in-grows : {a b : List Sign} → Grows a b → (n : ℕ) → n < length a → term_in (sign_terms b) n ≡ term_in (sign_terms a) n
term_in-grows {a} {b} g n l = ap (λ ns. term_in (sign_terms ns) n) g.is ∙ grow_kept build_sign a g.more n (Var 0) l

pub HasNumber-grows : {a b : List Sign} → Grows a b → (n : ℕ) (t : Term) → HasNumber a n t → HasNumber b n t
HasNumber-grows {a} {b} g n t h = record {
  inside = let e = ap length g.is in let f = length-append a g.more in let i = h.inside in omega arith;
  is = term_in-grows g n h.inside ∙ h.is;
}

-- a sign was looked up, or put in
module _ (old new : List Sign) (s : Sign) (table : IsTable old) (below : IsSignBelow (length old) s)
    (is : new ≡ (if list_any ((eq-value).it s) old then old else old ++ s ∷ [])) where
  pub sign_grows : Grows old new
  sign_grows = by (list_any ((eq-value).it s) old) refl is
    where
      by : (b : Bool) → list_any ((eq-value).it s) old ≡ b → new ≡ (if b then old else old ++ s ∷ []) → Grows old new
      by true e h = record { table = rw h table; more = []; is = h ∙ sym (append-nil old) }
      by false e h = record {
        table = rw h (push_sign old table s below (λ i d l same. true≢false (sym (found_sign old s d i l same) ∙ e)));
        more = s ∷ [];
        is = h;
      }

  pub sign_number : (n : ℕ) (k : Sign) → slice_get new n ≡ Some k → (eq-value).it s k ≡ true → HasNumber new n (build_sign (sign_terms old) s)
  sign_number n k got same = record {
    inside = slice_get_within new n k got;
    is = number_builds new sign_grows.table n (VarSign 0) (slice_get_within new n k got)
        ∙ (ap (build_sign (sign_terms new)) (get_or_from_slice_get new n k (VarSign 0) got ∙ sym (same_sign s k same))
        ∙ build_same (sign_terms new) (sign_terms old) (length old) (term_in-grows sign_grows) s below);
  }

-- ---- applications

-- one number has one term
pub same_number : (signs : List Sign) (i j : ℕ) (t u : Term) → HasNumber signs i t → HasNumber signs j u → i ≡ j → t ≡ u
same_number signs i j t u h k e = sym h.is ∙ (ap (term_in (sign_terms signs)) e ∙ k.is)

-- a head with one argument more
pub number_more : (bank : Nodes) (at : ℕ) (args : List At) (i : ℕ) (old now next : List Sign) (n m a : ℕ) → (c : IsNumbering bank at args i old now n)
    → Grows now next → (d : At) → i < length args
    → HasNumber now a (term_tree bank (get_or args i d).0) → HasNumber next m (build_sign (sign_terms now) (ApplySign n a))
    → IsNumbering bank at args (i + 1) old next m
number_more bank at args i old now next n m a c grows d l arg h = record {
  head = c.head;
  node = c.node;
  grows = Grows-trans c.grows grows;
  number = record {
    inside = h.inside;
    is = h.is ∙ ((λ j. Ap (c.number.is j) (arg.is j)) ∙ (sym (apply-push (Con c.head) (take i (term_trees bank args)) (term_tree bank (get_or args i d).0))
        ∙ ap (apply (Con c.head)) (sym (take-map (λ (b : At). term_tree bank b.0) (i + 1) args ∙ (map_more (λ (b : At). term_tree bank b.0) args i d l
        ∙ ap (λ xs. xs ++ term_tree bank (get_or args i d).0 ∷ []) (sym (take-map (λ (b : At). term_tree bank b.0) i args)))))));
  };
}
