-- What stands for a bound place under quantifiers, where many values close it.
use Rattle.std.proofs.Common.{◌≡◌, ℕ, zero, suc, ◌+◌, ◌-◌, ◌<◌, ◌≤◌, List, [], ◌∷◌, ◌++◌, length, map, get_or, refl, ap, sym, ◌∙◌, arith, Option, Some, None}
use Rattle.std.specs.Prelude.{reverse}
use Rattle.std.proofs.lemmas.List.{length-reverse, length-map, get_or-reverse, map-append, reverse-append}
use Rattle.std.proofs.lemmas.List.Elements.{All-head, All-tail}
use Rattle.ll_bank.specs.declared.At.{At}
use Rattle.ll_bank.specs.declared.Head.TheVariants.{Name, Eigen, Bound}
use Rattle.ll_bank.specs.Term.{Term, Var, Int, Con, Ap, Env, place, close}
use Rattle.ll_bank.specs.Form.{Form, Top, One, Atom, With, Tensor, Plus, Bang, Lolli, Imp, Forall, Exists, Use, Num, close_form}
use Rattle.ll_bank.specs.Nodes.{Nodes, term_tree, AllInTerms, Extends}
use Rattle.ll_bank.proofs.Trees.{term_tree-extends, AllInTerms-extends}
use Rattle.ll_bank.specs.declared.closing.values.Values.{Values}
use Rattle.ll_bank.specs.declared.closing.values.Values.TheVariants.{Places, Variables}
use Rattle.ll_bank.proofs.EnvironmentLemmas.{place-behind}
use Rattle.ll_bank.specs.Closing.{env_of, env_in, HasValues, under}

-- a place that a quantifier passed on the way binds
pub place_low : (env : Env) (n k m : ℕ) → k < n → place (under env n) k m ≡ Con (Bound (m + k))
place_low env zero k m l = absurd (omega arith)
place_low env (suc n) zero m l = ap (λ j. Con (Bound j)) (let e : m ≡ m + 0 = omega arith in e)
place_low env (suc n) (suc k) m l = place_low env n k (suc m) (omega arith) ∙ ap (λ j. Con (Bound j)) (let e : suc m + k ≡ m + suc k = omega arith in e)

-- one further out
pub place_out : (env : Env) (n k m : ℕ) → place (under env n) (n + k) m ≡ place env k (n + m)
place_out env zero k m = (λ i. place env ((let e : 0 + k ≡ k = omega arith in e) i) ((let e : m ≡ 0 + m = omega arith in e) i))
place_out env (suc n) k m =
    ap (λ j. place (None ∷ under env n) j m) (let e : suc n + k ≡ suc (n + k) = omega arith in e)
    ∙ (place_out env n k (suc m) ∙ ap (place env k) (let e : n + suc m ≡ suc n + m = omega arith in e))

pub head_out : (env : Env) (n k : ℕ) → n ≤ k → place (under env n) k 0 ≡ place env (k - n) n
head_out env n k l =
    ap (λ j. place (under env n) j 0) (let q : k ≡ n + (k - n) = omega (arith, l) in q)
    ∙ (place_out env n (k - n) 0 ∙ ap (place env (k - n)) (let q : n + 0 ≡ n = omega arith in q))

-- values in the order of the quantifiers, the innermost first
module _ (bank : Nodes) where
  abbrev standing : At → Option Term
  standing v = Some (term_tree bank v.0)

  place_value : (vs : List At) (k m : ℕ) (d : At) → k < length vs → place (map standing vs) k m ≡ term_tree bank (get_or vs k d).0
  place_value [] k m d l = absurd (omega arith)
  place_value (v ∷ vs) zero m d l = refl
  place_value (v ∷ vs) (suc k) m d l = place_value vs k m d (omega arith)

  place_past : (vs : List At) (k m : ℕ) → length vs ≤ k → place (map standing vs) k m ≡ Con (Bound (m + (k - length vs)))
  place_past [] k m l = ap (λ j. Con (Bound (m + j))) (let e : k ≡ k - 0 = omega arith in e)
  place_past (v ∷ vs) zero m l = absurd (omega arith)
  place_past (v ∷ vs) (suc k) m l = place_past vs k m (omega arith)
      ∙ ap (λ j. Con (Bound (m + j))) (let e : k - length vs ≡ suc k - suc (length vs) = omega arith in e)

  env_is : (vs : List At) → env_of bank vs ≡ map standing (reverse vs)
  env_is [] = refl
  env_is (v ∷ vs) =
      reverse-append (standing v ∷ []) (map standing vs)
      ∙ (ap (λ z. z ++ standing v ∷ []) (env_is vs)
      ∙ (sym (map-append standing (reverse vs) (v ∷ [])) ∙ ap (map standing) (sym (reverse-append (v ∷ []) vs))))

  -- the value at a place, and what stands further out
  pub place_listed : (vs : List At) (k m i : ℕ) (d : At) → k < length vs → i ≡ length vs - 1 - k → place (env_of bank vs) k m ≡ term_tree bank (get_or vs i d).0
  place_listed vs k m i d l e =
      ap (λ z. place z k m) (env_is vs)
      ∙ (place_value (reverse vs) k m d (let r = length-reverse vs in omega arith)
      ∙ ap (λ (a : At). term_tree bank a.0) (get_or-reverse vs k d l ∙ ap (λ j. get_or vs j d) (sym e)))

  pub length_listed : (vs : List At) → length (env_of bank vs) ≡ length vs
  length_listed vs = ap length (env_is vs) ∙ (length-map (reverse vs) standing ∙ length-reverse vs)

  past_listed : (vs : List At) (k m : ℕ) → length (env_of bank vs) ≤ k → place (env_of bank vs) k m ≡ Con (Bound (m + (k - length (env_of bank vs))))
  past_listed vs k m l =
      let e = length_listed vs in let r = length-reverse vs in
      ap (λ z. place z k m) (env_is vs)
      ∙ (place_past (reverse vs) k m (omega (arith, l, e, r))
      ∙ ap (λ j. Con (Bound (m + j))) (let q : k - length (reverse vs) ≡ k - length (env_of bank vs) = omega (arith, e, r) in q))

  past_values : (values : Values) (k m : ℕ) → length (env_in bank values) ≤ k
      → place (env_in bank values) k m ≡ Con (Bound (m + (k - length (env_in bank values))))
  past_values (Places vs) k m l = past_listed vs.now k m l
  past_values (Variables e) k m l = place-behind e.end e.count k m l

  -- and under quantifiers that were passed
  pub head_past : (values : Values) (n k : ℕ) → n ≤ k → length (env_in bank values) ≤ k - n
      → place (under (env_in bank values) n) k 0 ≡ Con (Bound (k - length (env_in bank values)))
  head_past values n k l h =
      let many = length (env_in bank values) in
      head_out (env_in bank values) n k l
      ∙ (past_values values (k - n) n h ∙ ap (λ j. Con (Bound j)) (let q : n + (k - n - many) ≡ k - many = omega (arith, l, h) in q))

pub head_low : (env : Env) (n k : ℕ) → k < n → place (under env n) k 0 ≡ Con (Bound k)
head_low env n k l = place_low env n k 0 l ∙ ap (λ j. Con (Bound j)) (let e : 0 + k ≡ k = omega arith in e)

-- ---- values in a bank that grows

standing_extends : (old new : Nodes) (e : Extends old new) (vs : List At) → AllInTerms old vs
    → map (λ (v : At). let o : Option Term = Some (term_tree new v.0) in o) vs ≡ map (λ (v : At). let o : Option Term = Some (term_tree old v.0) in o) vs
standing_extends old new e [] h = refl
standing_extends old new e (v ∷ vs) h =
    let p = term_tree-extends e v.0 (All-head (λ (b : At). b.0 < length old.terms) v vs h) in
    let q = standing_extends old new e vs (All-tail (λ (b : At). b.0 < length old.terms) v vs h) in
    λ i. Some (p i) ∷ q i

env_extends : (old new : Nodes) (e : Extends old new) (vs : List At) → AllInTerms old vs → env_of new vs ≡ env_of old vs
env_extends old new e vs h = ap reverse (standing_extends old new e vs h)

pub HasValues-extends : {old new : Nodes} → Extends old new → (values : Values) → HasValues old values → HasValues new values
HasValues-extends e (Places vs) h = AllInTerms-extends e vs.now h
HasValues-extends e (Variables v) h = h

pub values_extends : (old new : Nodes) (e : Extends old new) (values : Values) → HasValues old values → env_in new values ≡ env_in old values
values_extends old new e (Places vs) h = env_extends old new e vs.now h
values_extends old new e (Variables v) h = refl

-- ---- no values

place_none : (n k m : ℕ) → place (under [] n) k m ≡ Con (Bound (m + k))
place_none zero k m = refl
place_none (suc n) zero m = ap (λ j. Con (Bound j)) (let e : m ≡ m + 0 = omega arith in e)
place_none (suc n) (suc k) m = place_none n k (suc m) ∙ ap (λ j. Con (Bound j)) (let e : suc m + k ≡ m + suc k = omega arith in e)

close_none : (n : ℕ) (t : Term) → close (under [] n) t ≡ t
close_none n (Var x) = refl
close_none n (Int z) = refl
close_none n (Con (Name k)) = refl
close_none n (Con (Eigen k)) = refl
close_none n (Con (Bound k)) = place_none n k 0 ∙ ap (λ j. Con (Bound j)) (let e : 0 + k ≡ k = omega arith in e)
close_none n (Ap f a) = λ i. Ap (close_none n f i) (close_none n a i)

closes_none : (n : ℕ) (ts : List Term) → map (close (under [] n)) ts ≡ ts
closes_none n [] = refl
closes_none n (t ∷ ts) = λ i. close_none n t i ∷ closes_none n ts i

form_none : (n : ℕ) (f : Form) → close_form (under [] n) f ≡ f
form_none n Top = refl
form_none n One = refl
form_none n (Atom a) = ap Atom (close_none n a)
form_none n (With f g) = λ i. With (form_none n f i) (form_none n g i)
form_none n (Tensor f g) = λ i. Tensor (form_none n f i) (form_none n g i)
form_none n (Plus f g) = λ i. Plus (form_none n f i) (form_none n g i)
form_none n (Bang f) = ap Bang (form_none n f)
form_none n (Lolli f g) = λ i. Lolli (form_none n f i) (form_none n g i)
form_none n (Imp f g) = λ i. Imp (form_none n f i) (form_none n g i)
form_none n (Forall f) = ap Forall (form_none (suc n) f)
form_none n (Exists f) = ap Exists (form_none (suc n) f)
form_none n (Use m ts f) = λ i. Use m (closes_none n ts i) (form_none n f i)
form_none n (Num r t u) = λ i. Num r (close_none n t i) (close_none n u i)

env_empty : (env : Env) → length env ≡ 0 → env ≡ []
env_empty [] e = refl
env_empty (v ∷ env) e = absurd (omega arith)

pub close_empty : (env : Env) (t : Term) → length env ≡ 0 → close env t ≡ t
close_empty env t e = ap (λ z. close z t) (env_empty env e) ∙ close_none 0 t

pub form_empty : (env : Env) (f : Form) → length env ≡ 0 → close_form env f ≡ f
form_empty env f e = ap (λ z. close_form z f) (env_empty env e) ∙ form_none 0 f
