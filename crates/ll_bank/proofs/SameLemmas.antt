-- What the tests of nodes as they are kept tell.
use Rattle.std.proofs.Common.{◌≡◌, true, Bool, List, [], ◌∷◌, ap, sym, eqb, true≢false}
use Rattle.std.specs.Prelude.{◌&&◌}
use Rattle.std.proofs.lemmas.Bool.{and_parts, eqb-true}
use Rattle.std.proofs.lemmas.Bool.Decides.{Decides-int_eq}
use lib.Pointwise.{pointwise}
use Rattle.ll_bank.specs.declared.At.{At}
use Rattle.ll_bank.specs.declared.FormAt.{FormAt}
use Rattle.ll_bank.specs.declared.BankSize.{BankSize}
use Rattle.ll_bank.specs.declared.flat.Span.{Span}
use Rattle.ll_bank.specs.declared.flat.StoredTerm.{StoredTerm}
use Rattle.ll_bank.specs.declared.flat.StoredTerm.TheVariants.{Var as StoredVar, Int as StoredInt, App as StoredApp}
use Rattle.ll_bank.specs.declared.flat.StoredForm.{StoredForm}
use Rattle.ll_bank.specs.declared.flat.StoredForm.TheVariants.{Top as StoredTop, One as StoredOne, Atom as StoredAtom, With as StoredWith}
use Rattle.ll_bank.specs.declared.flat.StoredForm.TheVariants.{Tensor as StoredTensor, Plus as StoredPlus, Bang as StoredBang, Lolli as StoredLolli}
use Rattle.ll_bank.specs.declared.flat.StoredForm.TheVariants.{Imp as StoredImp, Forall as StoredForall, Exists as StoredExists, Use as StoredUse}
use Rattle.ll_bank.specs.declared.flat.StoredForm.TheVariants.{Is as StoredIs, Less as StoredLess, Most as StoredMost}
use Rattle.ll_bank.proofs.PartLemmas.{same_heads}
use Rattle.ll_bank.specs.contracts.HeadPartialEq.TheImpl.{eq-value as head_eq_value}
use Rattle.ll_bank.specs.contracts.BankSizePartialEq.TheImpl.{eq-value as size_eq_value}
use Rattle.ll_bank.specs.contracts.flat.SpanPartialEq.TheImpl.{eq-value as span_eq_value}
use Rattle.ll_bank.specs.contracts.flat.StoredTermPartialEq.TheImpl.{eq-value as term_eq_value}
use Rattle.ll_bank.specs.contracts.flat.StoredFormPartialEq.TheImpl.{eq-value as form_eq_value}

-- lists whose items pass a test that tells that they are the same
pub same_list : {A : Type 0} (E : A → A → Bool) → ((x y : A) → E x y ≡ true → x ≡ y) → (xs ys : List A) → pointwise E xs ys ≡ true → xs ≡ ys
same_list E tells [] [] e = λ i. []
same_list E tells [] (y ∷ ys) e = absurd (true≢false (sym e))
same_list E tells (x ∷ xs) [] e = absurd (true≢false (sym e))
same_list E tells (x ∷ xs) (y ∷ ys) e =
    let p = and_parts (E x y) (pointwise E xs ys) e in let q = same_list E tells xs ys p.1 in λ i. tells x y p.0 i ∷ q i

pub same_at : (x y : At) → eqb x.0 y.0 ≡ true → x ≡ y
same_at x y e = λ i. record { 0 = eqb-true x.0 y.0 e i }

same_form_at : (x y : FormAt) → eqb x.0 y.0 ≡ true → x ≡ y
same_form_at x y e = λ i. record { 0 = eqb-true x.0 y.0 e i }

same_forms_at : (f g h k : FormAt) → (eqb f.0 h.0 && eqb g.0 k.0) ≡ true → (f ≡ h) × (g ≡ k)
same_forms_at f g h k e = let p = and_parts (eqb f.0 h.0) (eqb g.0 k.0) e in (same_form_at f h p.0, same_form_at g k p.1)

same_ats : (a b c d : At) → (eqb a.0 c.0 && eqb b.0 d.0) ≡ true → (a ≡ c) × (b ≡ d)
same_ats a b c d e = let p = and_parts (eqb a.0 c.0) (eqb b.0 d.0) e in (same_at a c p.0, same_at b d p.1)

same_span : (x y : Span) → (span_eq_value).it x y ≡ true → x ≡ y
same_span x y e = let p = and_parts (eqb x.from y.from) (eqb x.to y.to) e in λ i. record { from = eqb-true x.from y.from p.0 i; to = eqb-true x.to y.to p.1 i }

pub same_size : (x y : BankSize) → (size_eq_value).it x y ≡ true → x ≡ y
same_size x y e =
    let p = and_parts (eqb x.terms y.terms) (eqb x.forms y.forms && (eqb x.arguments y.arguments && eqb x.load_arguments y.load_arguments)) e in
    let q = and_parts (eqb x.forms y.forms) (eqb x.arguments y.arguments && eqb x.load_arguments y.load_arguments) p.1 in
    let r = and_parts (eqb x.arguments y.arguments) (eqb x.load_arguments y.load_arguments) q.1 in
    λ i.
    record {
      terms = eqb-true x.terms y.terms p.0 i;
      forms = eqb-true x.forms y.forms q.0 i;
      arguments = eqb-true x.arguments y.arguments r.0 i;
      load_arguments = eqb-true x.load_arguments y.load_arguments r.1 i;
    }

pub same_stored_term : (x y : StoredTerm) → (term_eq_value).it x y ≡ true → x ≡ y
same_stored_term (StoredVar m) (StoredVar n) e = ap StoredVar (eqb-true m n e)
same_stored_term (StoredInt m) (StoredInt n) e = ap StoredInt ((Decides-int_eq m n).0 e)
same_stored_term (StoredApp d h s) (StoredApp b k t) e =
    let p = and_parts (eqb d b) ((head_eq_value).it h k && (span_eq_value).it s t) e in
    let q = and_parts ((head_eq_value).it h k) ((span_eq_value).it s t) p.1 in
    λ i. StoredApp (eqb-true d b p.0 i) (same_heads h k q.0 i) (same_span s t q.1 i)
same_stored_term x y e = absurd (true≢false (sym e))

pub same_stored_form : (x y : StoredForm) → (form_eq_value).it x y ≡ true → x ≡ y
same_stored_form StoredTop StoredTop e = λ i. StoredTop
same_stored_form StoredOne StoredOne e = λ i. StoredOne
same_stored_form (StoredAtom a) (StoredAtom b) e = ap StoredAtom (same_at a b e)
same_stored_form (StoredWith f g) (StoredWith h k) e = let p = same_forms_at f g h k e in λ i. StoredWith (p.0 i) (p.1 i)
same_stored_form (StoredTensor f g) (StoredTensor h k) e = let p = same_forms_at f g h k e in λ i. StoredTensor (p.0 i) (p.1 i)
same_stored_form (StoredPlus f g) (StoredPlus h k) e = let p = same_forms_at f g h k e in λ i. StoredPlus (p.0 i) (p.1 i)
same_stored_form (StoredBang f) (StoredBang h) e = ap StoredBang (same_form_at f h e)
same_stored_form (StoredLolli f g) (StoredLolli h k) e = let p = same_forms_at f g h k e in λ i. StoredLolli (p.0 i) (p.1 i)
same_stored_form (StoredImp f g) (StoredImp h k) e = let p = same_forms_at f g h k e in λ i. StoredImp (p.0 i) (p.1 i)
same_stored_form (StoredForall f) (StoredForall h) e = ap StoredForall (same_form_at f h e)
same_stored_form (StoredExists f) (StoredExists h) e = ap StoredExists (same_form_at f h e)
same_stored_form (StoredUse m s f) (StoredUse n t h) e =
    let p = and_parts (eqb m n) ((span_eq_value).it s t && eqb f.0 h.0) e in let q = and_parts ((span_eq_value).it s t) (eqb f.0 h.0) p.1 in
    λ i. StoredUse (eqb-true m n p.0 i) (same_span s t q.0 i) (same_form_at f h q.1 i)
same_stored_form (StoredIs a b) (StoredIs c d) e = let p = same_ats a b c d e in λ i. StoredIs (p.0 i) (p.1 i)
same_stored_form (StoredLess a b) (StoredLess c d) e = let p = same_ats a b c d e in λ i. StoredLess (p.0 i) (p.1 i)
same_stored_form (StoredMost a b) (StoredMost c d) e = let p = same_ats a b c d e in λ i. StoredMost (p.0 i) (p.1 i)
same_stored_form x y e = absurd (true≢false (sym e))
