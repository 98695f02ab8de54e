-- A closed term whose names have as many arguments as they may, and whose numbers are small, can be spelled.
use Rattle.std.proofs.Common.{◌≡◌, ℕ, suc, ◌+◌, ◌^◌, true, List, [], inl, inr, arith}
use Rattle.std.proofs.lemmas.Bool.{ltb-true}
use Rattle.std.specs.Prelude.{◌&&◌}
use Rattle.ll_list_laws.proofs.CallerLemmas.{and_true_left as and_left, and_true_right as and_right}
use Rattle.ll_bank.specs.declared.Head.{Head}
use Rattle.ll_bank.specs.declared.Head.TheVariants.{Name, Eigen, Bound}
use Rattle.ll_bank.specs.Term.{Term, Var, Int, Con, Ap, arity, is_spine, is_closed, eigens_below}
use Rattle.ll_laws.specs.Unify.{vars_below}
use Rattle.ll_prooftext.specs.Admitted.{IsPlainHead, IsPairHead, IsSpelledTerm, IsSpelledSpine}
use Rattle.ll_top.specs.spelled.Taking.{TermTakes}
use Rattle.ll_top.specs.spelled.Laws.{name_takes}

-- a term is closed, and its numbers are small
pub record IsSmall (t : Term) : Type 0 where
  pub closed : is_closed t ≡ true
  pub variables : vars_below (2 ^ 64) t ≡ true
  pub eigens : eigens_below (2 ^ 32) t ≡ true

small_left : (f a : Term) → IsSmall (Ap f a) → IsSmall f
small_left f a h = record {
  closed = and_right (is_spine f) (is_closed f) (and_left (is_spine f && is_closed f) (is_closed a) h.closed);
  variables = and_left (vars_below (2 ^ 64) f) (vars_below (2 ^ 64) a) h.variables;
  eigens = and_left (eigens_below (2 ^ 32) f) (eigens_below (2 ^ 32) a) h.eigens;
}

small_right : (f a : Term) → IsSmall (Ap f a) → IsSmall a
small_right f a h = record {
  closed = and_right (is_spine f && is_closed f) (is_closed a) h.closed;
  variables = and_right (vars_below (2 ^ 64) f) (vars_below (2 ^ 64) a) h.variables;
  eigens = and_right (eigens_below (2 ^ 32) f) (eigens_below (2 ^ 32) a) h.eigens;
}

small_spine : (f a : Term) → IsSmall (Ap f a) → is_spine f ≡ true
small_spine f a h = and_left (is_spine f) (is_closed f) (and_left (is_spine f && is_closed f) (is_closed a) h.closed)

module _ (names : List (List ℕ)) where
  plain-head : (k : ℕ) (h : Head) → (k ≡ 2 → ⊥) → TermTakes (name_takes names) [] k (Con h) → IsSmall (Con h) → IsPlainHead names h
  plain-head k (Name n) ne (inl p) s = p
  plain-head k (Name n) ne (inr q) s = absurd (ne q.1)
  plain-head k (Eigen n) ne t s = ltb-true n (2 ^ 32) s.eigens
  plain-head k (Bound n) ne t s = let c = s.closed in cc

  pair-head : (h : Head) → TermTakes (name_takes names) [] 2 (Con h) → IsSmall (Con h) → IsPairHead names h
  pair-head (Name n) (inl p) s = inl p
  pair-head (Name n) (inr q) s = inr q.0
  pair-head (Eigen n) t s = inl (ltb-true n (2 ^ 32) s.eigens)
  pair-head (Bound n) t s = let c = s.closed in cc

  mutual
    pub spelled-term : (t : Term) → TermTakes (name_takes names) [] 0 t → IsSmall t → IsSpelledTerm names t
    spelled-term (Var n) t s = ltb-true n (2 ^ 64) s.variables
    spelled-term (Int z) t s = t.1
    spelled-term (Con h) t s = plain-head 0 h (λ e. absurd (omega (arith, e))) t s
    spelled-term (Ap (Var n) a) t s = let c = small_spine (Var n) a s in cc
    spelled-term (Ap (Int z) a) t s = let c = small_spine (Int z) a s in cc
    spelled-term (Ap (Con h) a) t s =
        (plain-head 1 h (λ e. absurd (omega (arith, e))) t.0 (small_left (Con h) a s), spelled-term a t.1 (small_right (Con h) a s))
    spelled-term (Ap (Ap (Var n) x) l) t s = let c = small_spine (Ap (Var n) x) l s in cc
    spelled-term (Ap (Ap (Int z) x) l) t s = let c = small_spine (Ap (Int z) x) l s in cc
    spelled-term (Ap (Ap (Con h) x) l) t s =
        let i = small_left (Ap (Con h) x) l s in
        (pair-head h t.0.0 (small_left (Con h) x i), (spelled-term x t.0.1 (small_right (Con h) x i), spelled-term l t.1 (small_right (Ap (Con h) x) l s)))
    spelled-term (Ap (Ap (Ap f b) x) l) t s = (
      spelled-spine 1 (Ap (Ap f b) x) (λ e. absurd (omega (arith, e))) t.0 (small_left (Ap (Ap f b) x) l s) (small_spine (Ap (Ap f b) x) l s),
      spelled-term l t.1 (small_right (Ap (Ap f b) x) l s),
    )

    spelled-spine : (k : ℕ) (t : Term) → (k + arity t ≡ 2 → ⊥) → TermTakes (name_takes names) [] k t → IsSmall t → is_spine t ≡ true → IsSpelledSpine names t
    spelled-spine k (Var n) ne t s p = cc
    spelled-spine k (Int z) ne t s p = cc
    spelled-spine k (Con h) ne t s p = plain-head k h (λ e. ne (omega (arith, e))) t s
    spelled-spine k (Ap f a) ne t s p =
        (spelled-spine (suc k) f (λ e. ne (omega (arith, e))) t.0 (small_left f a s) p, spelled-term a t.1 (small_right f a s))
