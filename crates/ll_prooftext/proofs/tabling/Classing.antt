-- Equal terms have one number.
use Rattle.std.proofs.Common.{◌≡◌, ℕ, zero, suc, ◌+◌, ◌<◌, Bool, true, false, if◌then◌else◌, List, [], ◌∷◌, ◌++◌, length, get_or, take, refl, ap, sym}
use Rattle.std.proofs.Common.{subst, ◌∙◌, inl, inr, arith, true≢false, append_assoc, Some}
use Rattle.std.specs.Prelude.{slice_get}
use Rattle.std.specs.List.{list_any, IsDistinct, AllByRecursion}
use Rattle.std.proofs.Math.ListN.{get_or-append}
use Rattle.std.proofs.lemmas.Bool.{eqb-true, eq-eqb, cases_lt, and_parts, and_from}
use Rattle.std.proofs.lemmas.Bool.Decides.{Decides-int_eq}
use Rattle.std.proofs.lemmas.List.{append-nil, length_push, get_or_push, take-map, map_more}
use Rattle.std.proofs.lemmas.Option.{slice_get_within}
use Rattle.ll_bank.specs.declared.At.{At}
use Rattle.ll_bank.specs.declared.Head.{Head}
use Rattle.ll_bank.specs.declared.Head.TheVariants.{Name, Eigen, Bound}
use Rattle.ll_bank.specs.Nodes.{Nodes, term_tree, term_trees}
use Rattle.ll_bank.specs.Term.{Term, Var, Int, Con, Ap, apply, app}
use Rattle.ll_bank.proofs.CallerLemmas.{apply-push}
use Rattle.ll_prooftext.specs.declared.classes.Sign.{Sign}
use Rattle.ll_prooftext.specs.declared.classes.Sign.TheVariants as sign
use Rattle.ll_prooftext.specs.contracts.classes.SignPartialEq.TheImpl.{eq-value}
use Rattle.ll_prooftext.specs.Classes.{HasNumber, AreApart, Gain, AreNumbers, IsNumbering}

-- ---- signs that are equal by their test

pub same_sign : (x y : Sign) → (eq-value).it x y ≡ true → x ≡ y
same_sign (sign.Var m) (sign.Var n) e = ap sign.Var (eqb-true m n e)
same_sign (sign.Int m) (sign.Int n) e = ap sign.Int ((Decides-int_eq m n).0 e)
same_sign (sign.Head (Name m)) (sign.Head (Name n)) e = ap (λ k. sign.Head (Name k)) (eqb-true m n e)
same_sign (sign.Head (Eigen m)) (sign.Head (Eigen n)) e = ap (λ k. sign.Head (Eigen k)) (eqb-true m n e)
same_sign (sign.Head (Bound m)) (sign.Head (Bound n)) e = ap (λ k. sign.Head (Bound k)) (eqb-true m n e)
same_sign (sign.Apply f a) (sign.Apply g b) e = let p = and_parts _ _ e in λ i. sign.Apply (eqb-true f g p.0 i) (eqb-true a b p.1 i)
same_sign x y e = absurd (true≢false (sym e))

sign_itself : (x : Sign) → (eq-value).it x x ≡ true
sign_itself (sign.Var m) = eq-eqb m m refl
sign_itself (sign.Int m) = (Decides-int_eq m m).1 refl
sign_itself (sign.Head (Name m)) = eq-eqb m m refl
sign_itself (sign.Head (Eigen m)) = eq-eqb m m refl
sign_itself (sign.Head (Bound m)) = eq-eqb m m refl
sign_itself (sign.Apply f a) = and_from _ _ (eq-eqb f f refl) (eq-eqb a a refl)

-- signs that differ by their test stand once
stands_not : (x : Sign) (ys : List Sign) → AllByRecursion (λ y. (eq-value).it x y ≡ false) ys → (j : ℕ) → slice_get ys j ≡ Some x → ⊥
stands_not x [] h j e = cc
stands_not x (y ∷ ys) h zero e = let s : y ≡ x = cc in true≢false (sym (sign_itself x) ∙ subst (λ z. (eq-value).it x z ≡ false) s h.0)
stands_not x (y ∷ ys) h (suc j) e = stands_not x ys h.1 j e

pub distinct_apart : (signs : List Sign) → IsDistinct (eq-value).it signs → AreApart signs
unfolding IsDistinct
distinct_apart [] d i j s e f = absurd (let z : ⊥ = cc in z)
distinct_apart (x ∷ xs) d zero zero s e f = refl
distinct_apart (x ∷ xs) d zero (suc j) s e f = absurd (stands_not x xs d.0 j (f ∙ sym e))
distinct_apart (x ∷ xs) d (suc i) zero s e f = absurd (stands_not x xs d.0 i (e ∙ sym f))
distinct_apart (x ∷ xs) d (suc i) (suc j) s e f = ap suc (distinct_apart xs d.1 i j s e f)

-- a sign was looked up, or put in
pub sign_gain : (old new : List Sign) (s : Sign) → new ≡ (if list_any ((eq-value).it s) old then old else old ++ s ∷ []) → IsDistinct (eq-value).it new
    → Gain old new
sign_gain old new s is d = by (list_any ((eq-value).it s) old) is
  where
    by : (b : Bool) → new ≡ (if b then old else old ++ s ∷ []) → Gain old new
    by true h = record { apart = distinct_apart new d; more = []; is = h ∙ sym (append-nil old) }
    by false h = record { apart = distinct_apart new d; more = s ∷ []; is = h }

-- ---- numbers stay

get-append : (xs ys : List Sign) (n : ℕ) (s : Sign) → slice_get xs n ≡ Some s → slice_get (xs ++ ys) n ≡ Some s
get-append [] ys n s e = absurd (let z : ⊥ = cc in z)
get-append (x ∷ xs) ys zero s e = e
get-append (x ∷ xs) ys (suc n) s e = get-append xs ys n s e

pub number_stays : (old new : List Sign) → Gain old new → (n : ℕ) (t : Term) → HasNumber old n t → HasNumber new n t
number_stays old new g n t h = subst (λ ss. HasNumber ss n t) (sym g.is) (stays n t h)
  where
    stays : (n : ℕ) (t : Term) → HasNumber old n t → HasNumber (old ++ g.more) n t
    stays n (Var x) h = get-append old g.more n (sign.Var x) h
    stays n (Int z) h = get-append old g.more n (sign.Int z) h
    stays n (Con k) h = get-append old g.more n (sign.Head k) h
    stays n (Ap f a) h = (h.0, (h.1.0, (get-append old g.more n (sign.Apply h.0 h.1.0) h.1.1.0, (stays h.0 f h.1.1.1.0, stays h.1.0 a h.1.1.1.1))))

pub Gain-trans : (a b c : List Sign) → Gain a b → Gain b c → Gain a c
Gain-trans a b c p q = record { apart = q.apart; more = p.more ++ q.more; is = q.is ∙ (ap (λ xs. xs ++ q.more) p.is ∙ append_assoc a p.more q.more) }

-- a number is one of the signs'
pub number_below : (signs : List Sign) (n : ℕ) (t : Term) → HasNumber signs n t → n < length signs
number_below signs n (Var x) h = slice_get_within signs n (sign.Var x) h
number_below signs n (Int z) h = slice_get_within signs n (sign.Int z) h
number_below signs n (Con k) h = slice_get_within signs n (sign.Head k) h
number_below signs n (Ap f a) h = slice_get_within signs n (sign.Apply h.0 h.1.0) h.1.1.0

-- ---- one term, one number

pub one_number : (signs : List Sign) → AreApart signs → (t : Term) (m n : ℕ) → HasNumber signs m t → HasNumber signs n t → m ≡ n
one_number signs apart (Var x) m n h k = apart m n (sign.Var x) h k
one_number signs apart (Int z) m n h k = apart m n (sign.Int z) h k
one_number signs apart (Con c) m n h k = apart m n (sign.Head c) h k
one_number signs apart (Ap f a) m n h k =
    let i = one_number signs apart f h.0 k.0 h.1.1.1.0 k.1.1.1.0 in let j = one_number signs apart a h.1.0 k.1.0 h.1.1.1.1 k.1.1.1.1 in
    apart m n (sign.Apply h.0 h.1.0) h.1.1.0 (k.1.1.0 ∙ (λ z. Some (sign.Apply (sym i z) (sym j z))))

pub one_term : (signs : List Sign) (t u : Term) (n : ℕ) → HasNumber signs n t → HasNumber signs n u → t ≡ u
one_term signs (Var x) (Var y) n h k = let e : x ≡ y = (let f : Some (sign.Var x) ≡ Some (sign.Var y) = sym h ∙ k in cc) in ap Var e
one_term signs (Int x) (Int y) n h k = let e : x ≡ y = (let f : Some (sign.Int x) ≡ Some (sign.Int y) = sym h ∙ k in cc) in ap Int e
one_term signs (Con x) (Con y) n h k = let e : x ≡ y = (let f : Some (sign.Head x) ≡ Some (sign.Head y) = sym h ∙ k in cc) in ap Con e
one_term signs (Ap f a) (Ap g b) n h k =
    let e : Some (sign.Apply h.0 h.1.0) ≡ Some (sign.Apply k.0 k.1.0) = sym h.1.1.0 ∙ k.1.1.0 in
    let i : h.0 ≡ k.0 = cc in let j : h.1.0 ≡ k.1.0 = cc in
    let p = one_term signs f g h.0 h.1.1.1.0 (subst (λ z. HasNumber signs z g) (sym i) k.1.1.1.0) in
    let q = one_term signs a b h.1.0 h.1.1.1.1 (subst (λ z. HasNumber signs z b) (sym j) k.1.1.1.1) in
    λ z. Ap (p z) (q z)
one_term signs (Var x) (Int y) n h k = absurd (let f : Some (sign.Var x) ≡ Some (sign.Int y) = sym h ∙ k in let z : ⊥ = cc in z)
one_term signs (Var x) (Con y) n h k = absurd (let f : Some (sign.Var x) ≡ Some (sign.Head y) = sym h ∙ k in let z : ⊥ = cc in z)
one_term signs (Var x) (Ap g b) n h k = absurd (let f : Some (sign.Var x) ≡ Some (sign.Apply k.0 k.1.0) = sym h ∙ k.1.1.0 in let z : ⊥ = cc in z)
one_term signs (Int x) (Var y) n h k = absurd (let f : Some (sign.Int x) ≡ Some (sign.Var y) = sym h ∙ k in let z : ⊥ = cc in z)
one_term signs (Int x) (Con y) n h k = absurd (let f : Some (sign.Int x) ≡ Some (sign.Head y) = sym h ∙ k in let z : ⊥ = cc in z)
one_term signs (Int x) (Ap g b) n h k = absurd (let f : Some (sign.Int x) ≡ Some (sign.Apply k.0 k.1.0) = sym h ∙ k.1.1.0 in let z : ⊥ = cc in z)
one_term signs (Con x) (Var y) n h k = absurd (let f : Some (sign.Head x) ≡ Some (sign.Var y) = sym h ∙ k in let z : ⊥ = cc in z)
one_term signs (Con x) (Int y) n h k = absurd (let f : Some (sign.Head x) ≡ Some (sign.Int y) = sym h ∙ k in let z : ⊥ = cc in z)
one_term signs (Con x) (Ap g b) n h k = absurd (let f : Some (sign.Head x) ≡ Some (sign.Apply k.0 k.1.0) = sym h ∙ k.1.1.0 in let z : ⊥ = cc in z)
one_term signs (Ap f a) (Var y) n h k = absurd (let f : Some (sign.Apply h.0 h.1.0) ≡ Some (sign.Var y) = sym h.1.1.0 ∙ k in let z : ⊥ = cc in z)
one_term signs (Ap f a) (Int y) n h k = absurd (let f : Some (sign.Apply h.0 h.1.0) ≡ Some (sign.Int y) = sym h.1.1.0 ∙ k in let z : ⊥ = cc in z)
one_term signs (Ap f a) (Con y) n h k = absurd (let f : Some (sign.Apply h.0 h.1.0) ≡ Some (sign.Head y) = sym h.1.1.0 ∙ k in let z : ⊥ = cc in z)

-- ---- the numbers of places

-- no place has a number yet
pub no_numbers : (bank : Nodes) → AreNumbers bank [] []
no_numbers bank = record { apart = λ i j s e f. absurd (let z : ⊥ = cc in z); inside = omega arith; each = λ at l. absurd (omega arith) }

-- one number more
pub numbers_more : (bank : Nodes) (old new : List Sign) (numbers : List ℕ) (n : ℕ) → AreNumbers bank old numbers → Gain old new
    → length numbers < length bank.terms
    → HasNumber new n (term_tree bank (length numbers)) → AreNumbers bank new (numbers ++ n ∷ [])
numbers_more bank old new numbers n a g l h = record {
  apart = g.apart;
  inside = let e = length_push numbers n in omega arith;
  each = λ at m. elim (cases_lt at (length numbers)) [
    | inl k ↦ subst (λ i. HasNumber new i (term_tree bank at)) (sym (get_or-append numbers (n ∷ []) 0 at k))
        (number_stays old new g (get_or numbers at 0) (term_tree bank at) (a.each at k))
    | inr k ↦
        let e : length numbers ≡ at = (let q = length_push numbers n in omega arith) in
        subst (λ i. HasNumber new i (term_tree bank at)) (sym (get_or_push numbers n 0 at e)) (subst (λ i. HasNumber new n (term_tree bank i)) e h)
  ];
}

-- equal terms have one number, and others have not
module _ (bank : Nodes) (signs : List Sign) (numbers : List ℕ) (a : AreNumbers bank signs numbers) (i j : ℕ) (li : i < length numbers) (lj : j < length numbers)
  where
    pub equal_number : term_tree bank i ≡ term_tree bank j → get_or numbers i 0 ≡ get_or numbers j 0
    equal_number e = one_number signs a.apart (term_tree bank i) (get_or numbers i 0) (get_or numbers j 0) (a.each i li)
        (subst (HasNumber signs (get_or numbers j 0)) (sym e) (a.each j lj))

    pub equal_term : get_or numbers i 0 ≡ get_or numbers j 0 → term_tree bank i ≡ term_tree bank j
    equal_term e = one_term signs (term_tree bank i) (term_tree bank j) (get_or numbers i 0) (a.each i li)
        (subst (λ n. HasNumber signs n (term_tree bank j)) (sym e) (a.each j lj))

-- a head with one argument more
pub number_more : (bank : Nodes) (at : ℕ) (args : List At) (i : ℕ) (old now next : List Sign) (n m a : ℕ) → (c : IsNumbering bank at args i old now n)
    → Gain now next → (d : At) → i < length args
    → HasNumber now a (term_tree bank (get_or args i d).0) → slice_get next m ≡ Some (sign.Apply n a) → IsNumbering bank at args (i + 1) old next m
number_more bank at args i old now next n m a c g d l arg e =
    let t = term_tree bank (get_or args i d).0 in
    record {
      head = c.head;
      node = c.node;
      gain = Gain-trans old now next c.gain g;
      number = subst (HasNumber next m)
          (sym (apply-push (Con c.head) (take i (term_trees bank args)) t)
          ∙ ap (apply (Con c.head)) (sym (take-map (λ (b : At). term_tree bank b.0) (i + 1) args ∙ (map_more (λ (b : At). term_tree bank b.0) args i d l
          ∙ ap (λ xs. xs ++ t ∷ []) (sym (take-map (λ (b : At). term_tree bank b.0) i args))))))
          (n, (a, (e, (number_stays now next g n (app c.head (take i (term_trees bank args))) c.number, number_stays now next g a t arg))));
    }
