use Rattle.std.proofs.Common.{◌≡◌, true, refl, sym, subst, ◌∙◌, eq-eqb}
use Rattle.ll_bank.specs.declared.Head.{Head}
use Rattle.ll_bank.specs.declared.Head.TheVariants.{Name, Eigen, Bound}
use Rattle.ll_bank.specs.contracts.HeadPartialEq.TheImpl.{eq-value as head_eq_value}
use Rattle.ll_bank.proofs.PartLemmas.{same_heads}
use Rattle.ll_bank.proofs.pairs.is_same_head.Goals as goal

head_itself : (h : Head) → (head_eq_value).it h h ≡ true
head_itself (Name n) = eq-eqb n n refl
head_itself (Eigen n) = eq-eqb n n refl
head_itself (Bound n) = eq-eqb n n refl

pub returns : goal.returns
returns c = (
  (λ e. same_heads c.args.head c.args.other (sym c.eq.ensures ∙ e)),
  λ e. c.eq.ensures ∙ subst (λ h. (head_eq_value).it c.args.head h ≡ true) e (head_itself c.args.head),
)
