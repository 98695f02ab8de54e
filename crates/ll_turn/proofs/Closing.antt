-- What the first pass finds when it closes the turn.
use Rattle.std.proofs.Common.{◌≡◌, ℕ, List, [], Option, Some, None, ap, sym, ◌∙◌, subst}
use Rattle.ll_list_laws.proofs.CallerLemmas.{some_is as value_of_some}
use mathlib.Core.Option.{some, some-injective}
use lib.ListN.{get_elem?}
use Rattle.atomic_table.specs.Table.{Final, Seen}
use Rattle.atomic_table.specs.Seated.{TableId}
use Rattle.ll_turn.specs.Numbers.{Numbers}
use Rattle.ll_turn.specs.Steps.{Hand}
use Rattle.ll_turn.specs.Rule.{IsKept}
use Rattle.ll_turn.specs.Sight.{Sight}
use Rattle.ll_turn.proofs.Parts.{closes}
use Rattle.ll_turn.proofs.Passes.{IsSeen, at_rest, same_data, same_given}

module _ {S P M : Type 0} {numbers : M → Numbers} {m : Hand S P M} {number least : ℕ} {z : TableId} {s : Sight S P M} (pass : IsSeen numbers m number least z s)
    (first : (numbers s.mine).own ≡ 0) (b : s.before ≡ None) (alone : s.given ≡ []) (fit : S → P → M
    → Type 0) (p : P) (id : ℕ) (ws : List ℕ) (xs : List (Option S))
    (final : Final (Seen (IsKept numbers fit p) id m.0) ws xs) (r : Option S) (there : get_elem? xs 0 ≡ some r) where
  pub left_over : (y : S) × (r ≡ Some y) × fit y s.problem s.mine
  left_over =
      let k = pass.runs.pass in
      let rest = at_rest pass b in
      let own = ap (λ x. (numbers x).own) (same_data pass b) ∙ first in
      let given = same_given pass b ∙ alone in
      let f = closes numbers fit p id m.0 k ws xs pass.runs.lives rest.2 own given final in
      (f.0, some-injective r (Some f.0) (sym there ∙ f.1), subst (λ (x : Sight S P M). fit f.0 x.problem x.mine) pass.is f.2)

  pub left_over_fits : (y : S) → r ≡ Some y → fit y s.problem s.mine
  left_over_fits y is' = let f = left_over in subst (λ x. fit x s.problem s.mine) (value_of_some f.0 y (sym f.1 ∙ is')) f.2
