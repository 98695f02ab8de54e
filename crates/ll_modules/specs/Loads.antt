-- Clauses with arguments in place of their parameters.
use Rattle.std.specs.Prelude.{◌≡◌, true, List, map, reverse, Some, All}
use Rattle.ll_bank.specs.Term.{Term, Env}
use Rattle.ll_bank.specs.Form.{close_form, form_applies_heads}
use Rattle.ll_bank.specs.Nodes.{Nodes, form_tree}
use Rattle.ll_laws.specs.declared.Clause.{Clause}
use Rattle.ll_laws.specs.Valid.{places_below}

-- what stands for the parameters: the last one is innermost
abbrev pub arguments_env : List Term → Env
arguments_env ts = map (λ t. Some t) (reverse ts)

-- no bound place is free in the terms
abbrev pub AreClosed : List Term → Type 0
AreClosed ts = All (λ t. places_below 0 t ≡ true) ts

-- nothing but a head gets arguments where the terms stand for the parameters of the clauses
abbrev pub MayLoad : Nodes → List Clause → List Term → Type 0
MayLoad bank clauses ts = All (λ (c : Clause). form_applies_heads (close_form (arguments_env ts) (form_tree bank c.form.0)) ≡ true) clauses
