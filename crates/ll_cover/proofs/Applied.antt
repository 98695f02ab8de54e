-- Heads with arguments: when they are closed, and when two are one.
use Rattle.std.proofs.Common.{◌≡◌, refl, ap, sym, ◌∙◌, Bool, true, false, ◌&&◌, List, [], ◌∷◌, length, arith}
use Rattle.std.specs.Prelude.{Some}
use Rattle.std.specs.List.{list_all}
use Rattle.ll_bank.specs.declared.Head.{Head}
use Rattle.ll_bank.specs.Term.{Term, Con, Ap, apply, app, head_of, arity, is_spine, is_closed, not_bound}
use Rattle.ll_bank.proofs.CallerLemmas.{head_of-app, arity-app}

-- ---- when they are closed

both : (b c : Bool) → (b && (c && true)) ≡ (b && c)
both true true = refl
both true false = refl
both false c = refl

closed-apply : (f : Term) (ts : List Term) → is_spine f ≡ true → is_closed (apply f ts) ≡ (is_closed f && list_all is_closed ts)
closed-apply f [] s = last (is_closed f)
  where
    last : (b : Bool) → b ≡ (b && true)
    last true = refl
    last false = refl
closed-apply f (t ∷ ts) s = closed-apply (Ap f t) ts s ∙ step (is_spine f) s (is_closed f) (is_closed t) (list_all is_closed ts)
  where
    step : (b : Bool) → b ≡ true → (c d e : Bool) → (((b && c) && d) && e) ≡ (c && (d && e))
    step true h true true e = refl
    step true h true false e = refl
    step true h false d e = refl
    step false h c d e = cc

pub closed-app : (h : Head) (ts : List Term) → is_closed (app h ts) ≡ (not_bound h && list_all is_closed ts)
closed-app h ts = closed-apply (Con h) ts refl

-- ---- when two are one

record Applied (f k : Term) (ts us : List Term) : Type 0 where
  head : f ≡ k
  args : ts ≡ us

apply-inj : (f k : Term) (ts us : List Term) → length ts ≡ length us → apply f ts ≡ apply k us → Applied f k ts us
apply-inj f k [] [] n h = record { head = h; args = refl }
apply-inj f k (t ∷ ts) (u ∷ us) n h = let r = apply-inj (Ap f t) (Ap k u) ts us (omega arith) h in let a = r.head in let b = r.args in
    record { head = cc; args = cc }
apply-inj f k [] (u ∷ us) n h = absurd (omega arith)
apply-inj f k (t ∷ ts) [] n h = absurd (omega arith)

pub app-args : (h k : Head) (ts us : List Term) → length ts ≡ length us → app h ts ≡ app k us → ts ≡ us
app-args h k ts us n e = (apply-inj (Con h) (Con k) ts us n e).args

pub app-head : (h k : Head) (ts us : List Term) → app h ts ≡ app k us → h ≡ k
app-head h k ts us e = let q : Some h ≡ Some k = sym (head_of-app h ts) ∙ (ap head_of e ∙ head_of-app k us) in cc

pub app-count : (h k : Head) (ts us : List Term) → app h ts ≡ app k us → length ts ≡ length us
app-count h k ts us e = let a = arity-app h ts in let b = arity-app k us in let c = ap arity e in omega arith
