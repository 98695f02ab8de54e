-- Eigenconstants in the formulas that wait.
use Rattle.std.proofs.Common.{◌≡◌, ℕ, ◌+◌, ◌<◌, refl, ap, sym, subst, ◌∙◌, Bool, false, List, [], ◌∷◌, ◌++◌, length, arith, take, get_or}
use Rattle.std.proofs.lemmas.List.{length-map, map_more}
use Rattle.std.proofs.Math.ListN.{get_or-map}
use Rattle.std.proofs.lemmas.List.Elements.{All-append, All-cons, All-head, All-tail, All-nil}
use Rattle.std.specs.Prelude.{◌||◌, Result, Ok, Err, OnOk}
use Rattle.ll_list_laws.proofs.CallerLemmas.{or_assoc, or_exchange, or_false}
use Rattle.ll_bank.specs.declared.FormAt.{FormAt}
use Rattle.ll_bank.specs.Form.{form_has_eigen}
use Rattle.ll_bank.specs.Nodes.{Nodes, form_tree, HasForm}
use Rattle.ll_bank.specs.Opened.{form_size}
use Rattle.ll_sequent.specs.declared.sequents.Resource.{Resource}
use Rattle.ll_sequent.specs.Constants.{is_in_each, forms_of, form_sizes, AllInForms, Gathers, IsOpenedUp}
use Rattle.ll_sequent.proofs.ConstantLemmas.{gathers_both, gathers_as, gathers_nothing}

pub each_onto : (c : ℕ) (bank : Nodes) (xs ys : List FormAt) → is_in_each c bank (xs ++ ys) ≡ (is_in_each c bank xs || is_in_each c bank ys)
each_onto c bank [] ys = refl
each_onto c bank (x ∷ xs) ys =
    ap (λ b. form_has_eigen c (form_tree bank x.0) || b) (each_onto c bank xs ys)
    ∙ sym (or_assoc (form_has_eigen c (form_tree bank x.0)) (is_in_each c bank xs) (is_in_each c bank ys))

sizes_onto : (bank : Nodes) (xs ys : List FormAt) → form_sizes bank (xs ++ ys) ≡ form_sizes bank xs + form_sizes bank ys
sizes_onto bank [] ys = omega arith
sizes_onto bank (x ∷ xs) ys = let h = sizes_onto bank xs ys in omega (arith, h)

-- a formula of which some parts were gathered, and others wait
pub record IsGathering (bank : Nodes) (form : ℕ) (old now : ℕ → Bool) (waiting : List FormAt) : Type 0 where
  pub inside : AllInForms bank waiting
  pub seen : ℕ → Bool
  pub gathers : Gathers bank old now seen
  pub same : (c : ℕ) → form_has_eigen c (form_tree bank form) ≡ (seen c || is_in_each c bank waiting)

-- it begins with the formula itself
pub gathering_begins : (bank : Nodes) (set : ℕ → Bool) (form : FormAt) (waiting : List FormAt) → waiting ≡ form ∷ [] → HasForm bank form.0
    → IsGathering bank form.0 set set waiting
gathering_begins bank set form waiting is h = subst (IsGathering bank form.0 set set) (sym is) (record {
  inside = All-cons (λ (f : FormAt). f.0 < length bank.forms) form [] h (All-nil (λ (f : FormAt). f.0 < length bank.forms));
  seen = λ c. false;
  gathers = gathers_nothing bank set;
  same = λ c. or_false (form_has_eigen c (form_tree bank form.0));
})

front : (bank : Nodes) (at : FormAt) (xs : List FormAt) → AllInForms bank (xs ++ at ∷ []) → AllInForms bank xs
front bank at [] h = λ k d l. absurd (let z : k < 0 = l in omega arith)
front bank at (x ∷ xs) h =
    All-cons (λ (a : FormAt). a.0 < length bank.forms) x xs (All-head (λ (a : FormAt). a.0 < length bank.forms) x (xs ++ at ∷ []) h)
    (front bank at xs (All-tail (λ (a : FormAt). a.0 < length bank.forms) x (xs ++ at ∷ []) h))

-- the last formula that waits is opened up
module _ (bank : Nodes) (form : ℕ) (old now next : ℕ → Bool) (all rest new : List FormAt) (at : FormAt) (split : all ≡ rest ++ at ∷ [])
    (o : IsOpenedUp bank at.0 rest new now next) where
  pub gathering_on : IsGathering bank form old now all → IsGathering bank form old next new
  gathering_on g = record {
    inside = let P : List FormAt → Type 0 = AllInForms bank in
        subst P (sym o.behind) (All-append (λ (f : FormAt). f.0 < length bank.forms) rest o.inner (front bank at rest (subst P split g.inside)) o.inside);
    seen = λ c. g.seen c || o.own c;
    gathers = gathers_both bank old now next g.seen o.own g.gathers o.gathers;
    same = λ c. g.same c ∙ (ap (λ b. g.seen c || b)
        (ap (is_in_each c bank) split ∙ (each_onto c bank rest (at ∷ [])
        ∙ (ap (λ b. is_in_each c bank rest || b) (sym (or_false (form_has_eigen c (form_tree bank at.0))) ∙ o.same c)
        ∙ (or_exchange (is_in_each c bank rest) (o.own c) (is_in_each c bank o.inner)
        ∙ ap (λ b. o.own c || b) (sym (each_onto c bank rest o.inner) ∙ ap (is_in_each c bank) (sym o.behind))))))
        ∙ sym (or_assoc (g.seen c) (o.own c) (is_in_each c bank new)));
  }

  pub form_sizes_less : form_sizes bank new < form_sizes bank all
  form_sizes_less =
      let a = ap (form_sizes bank) split in
      let b = ap (form_sizes bank) o.behind in
      let x = sizes_onto bank rest (at ∷ []) in
      let y = sizes_onto bank rest o.inner in
      let l = o.smaller in
      let z : form_sizes bank (at ∷ []) ≡ form_size (form_tree bank at.0) + form_sizes bank [] = refl in
      omega (arith, a, b, x, y, l, z)

-- at its end nothing waits
pub gathering_ends : (bank : Nodes) (form : ℕ) (old now : ℕ → Bool) (waiting : List FormAt) → length waiting ≡ 0 → IsGathering bank form old now waiting
    → Gathers bank old now (λ c. form_has_eigen c (form_tree bank form))
gathering_ends bank form old now waiting none g =
    gathers_as bank old now g.seen (λ c. form_has_eigen c (form_tree bank form))
    (λ c. sym (g.same c ∙ (ap (λ ws. g.seen c || is_in_each c bank ws) (empty waiting none) ∙ sym (or_false (g.seen c))))) g.gathers
  where
    empty : (xs : List FormAt) → length xs ≡ 0 → xs ≡ []
    empty [] e = refl
    empty (x ∷ xs) e = absurd (omega arith)

-- ---- one formula

-- a formula with no formula inside
pub none_inside : (bank : Nodes) (at : ℕ) (waiting : List FormAt) (before after : ℕ → Bool) (own : ℕ → Bool) → Gathers bank before after own
    → ((c : ℕ) → form_has_eigen c (form_tree bank at) ≡ own c) → 0 < form_size (form_tree bank at) → IsOpenedUp bank at waiting waiting before after
none_inside bank at waiting before after own g has size = record {
  inner = [];
  behind = sym (append_nil waiting);
  inside = All-nil (λ (x : FormAt). x.0 < length bank.forms);
  smaller = size;
  own = own;
  gathers = g;
  same = λ c. has c ∙ or_false (own c);
}
  where
    append_nil : (xs : List FormAt) → xs ++ [] ≡ xs
    append_nil [] = refl
    append_nil (x ∷ xs) = ap (λ ys. x ∷ ys) (append_nil xs)

-- two formulas inside
pub two_inside : (bank : Nodes) (at : ℕ) (old new : List FormAt) (set : ℕ → Bool) (f g : FormAt) → HasForm bank at → f.0 < at → g.0 < at
    → ((c : ℕ) → form_has_eigen c (form_tree bank at) ≡ (form_has_eigen c (form_tree bank f.0) || form_has_eigen c (form_tree bank g.0)))
    → form_size (form_tree bank at) ≡ 2 + (form_size (form_tree bank f.0) + form_size (form_tree bank g.0)) → new ≡ old ++ f ∷ g ∷ []
    → IsOpenedUp bank at old new set set
two_inside bank at old new set f g h lf lg has size behind =
    let inf : f.0 < length bank.forms = omega arith in
    let ing : g.0 < length bank.forms = omega arith in
    let P : FormAt → Type 0 = λ x. x.0 < length bank.forms in
    let s : form_sizes bank (f ∷ g ∷ []) ≡ form_size (form_tree bank f.0) + (form_size (form_tree bank g.0) + 0) = refl in
    record {
      inner = f ∷ g ∷ [];
      behind = behind;
      inside = All-cons P f (g ∷ []) inf (All-cons P g [] ing (All-nil P));
      smaller = omega (arith, s, size);
      own = λ c. false;
      gathers = gathers_nothing bank set;
      same = λ c. has c ∙ ap (λ b. form_has_eigen c (form_tree bank f.0) || b) (or_false (form_has_eigen c (form_tree bank g.0)));
    }

-- one formula inside, and terms
pub one_inside : (bank : Nodes) (at : ℕ) (old new : List FormAt) (before after : ℕ → Bool) (own : ℕ → Bool) (f : FormAt) → HasForm bank at → f.0 < at
    → Gathers bank before after own
    → ((c : ℕ) → form_has_eigen c (form_tree bank at) ≡ (own c || form_has_eigen c (form_tree bank f.0)))
    → form_size (form_tree bank at) ≡ 2 + form_size (form_tree bank f.0) → new ≡ old ++ f ∷ [] → IsOpenedUp bank at old new before after
one_inside bank at old new before after own f h lf g has size behind =
    let inf : f.0 < length bank.forms = omega arith in
    let P : FormAt → Type 0 = λ x. x.0 < length bank.forms in
    let s : form_sizes bank (f ∷ []) ≡ form_size (form_tree bank f.0) + 0 = refl in
    record {
      inner = f ∷ [];
      behind = behind;
      inside = All-cons P f [] inf (All-nil P);
      smaller = omega (arith, s, size);
      own = own;
      gathers = g;
      same = λ c. has c ∙ ap (λ b. own c || b) (or_false (form_has_eigen c (form_tree bank f.0)));
    }

-- ---- clauses

pub form_at : (bank : Nodes) (rs : List Resource) (i : ℕ) (d : Resource) → AllInForms bank (forms_of rs) → i < length rs → HasForm bank (get_or rs i d).form.0
form_at bank rs i d all l =
    let here = all i d.form (simp length-map l) in subst (λ (f : FormAt). f.0 < length bank.forms) (get_or-map (λ (r : Resource). r.form) rs i d) here

-- one clause more was gathered
pub gathers_next : (bank : Nodes) (old mid new : ℕ → Bool) (rs : List Resource) (i : ℕ) (d : Resource) → i < length rs
    → Gathers bank old mid (λ c. is_in_each c bank (forms_of (take i rs)))
    → Gathers bank mid new (λ c. form_has_eigen c (form_tree bank (get_or rs i d).form.0))
    → Gathers bank old new (λ c. is_in_each c bank (forms_of (take (i + 1) rs)))
gathers_next bank old mid new rs i d l g h =
    gathers_as bank old new (λ c. is_in_each c bank (forms_of (take i rs)) || form_has_eigen c (form_tree bank (get_or rs i d).form.0))
    (λ c. is_in_each c bank (forms_of (take (i + 1) rs)))
    (λ c. ap (λ b. is_in_each c bank (forms_of (take i rs)) || b) (or_false (form_has_eigen c (form_tree bank (get_or rs i d).form.0)))
    ∙ (sym (each_onto c bank (forms_of (take i rs)) ((get_or rs i d).form ∷ [])) ∙ ap (is_in_each c bank) (sym (map_more (λ (r : Resource). r.form) rs i d l))))
    (gathers_both bank old mid new (λ c. is_in_each c bank (forms_of (take i rs))) (λ c. form_has_eigen c (form_tree bank (get_or rs i d).form.0)) g h)

-- what follows of a call's success
pub on_ok : {T E : Type 0} (r : Result T E) {P Q : Type 0} → (P → Q) → OnOk r P → OnOk r Q
on_ok (Ok x) f p = f p
on_ok (Err e) f p = p
