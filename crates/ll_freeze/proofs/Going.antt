-- Segments that lead from batch to batch.
use Rattle.std.proofs.Common.{◌≡◌, ap, sym, subst, ◌∙◌, List}
use Rattle.ll_store.specs.Stored.{State}
use Rattle.ll_store.specs.Segments.{SegmentSight, state_after_all, BeginAll, LeadAll}
use Rattle.ll_store.proofs.CallerLemmas.{same_states}
use Rattle.ll_freeze.specs.Parts.{Base}
use Rattle.ll_freeze.specs.Onward.{base_in, LeadOn}

-- a state in which terms are read as in another one is that one
same_state : (s t : State) → base_in s ≡ base_in t → s ≡ t
same_state s t e = same_states s t (ap (λ (b : Base). b.bank) e) (ap (λ (b : Base). b.bound) e) (ap (λ (b : Base). b.levels) e)

-- what leads between two states leads between what terms are read in
pub leads : (ss : List SegmentSight) (s t : State) (first second : Base) → LeadAll ss s t → base_in s ≡ first → base_in t ≡ second → LeadOn ss first second
leads ss s t first second l e f = λ st h. let p : st ≡ s = same_state st s (h ∙ sym e) in (
  subst (λ (x : State). BeginAll ss x) (sym p) l.begins,
  ap base_in (ap (state_after_all ss) p ∙ l.ends) ∙ f,
)
