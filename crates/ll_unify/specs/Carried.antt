-- Copies in another bank of terms with all bindings applied.
use Rattle.std.specs.Prelude.{◌≡◌, ℕ, zero, suc, List, map, Option, Some, None, slice_index_or}
use Rattle.ll_bank.specs.declared.At.{At}
use Rattle.ll_bank.specs.Term.{Term, Var, sub}
use Rattle.ll_bank.specs.Nodes.{Nodes, ShowsTerm, term_tree, term_trees}
use Rattle.ll_unify.specs.Spines.{args_in}

-- the copy that is kept as this number: none as 0, and a place as one more
abbrev pub unpacked : ℕ → Option At
unpacked zero = None
unpacked (suc n) = Some (record { 0 = n })

-- the copies that are known, by the place: none past the end of their list
abbrev pub listed : List ℕ → ℕ → Option At
listed copies at = unpacked (slice_index_or copies at 0)

-- the place of the other bank shows the term at a place of the first one with these arguments applied
abbrev pub IsCarried : Nodes → Nodes → Nodes → ℕ → List At → ℕ → Type 0
IsCarried first old new at own copy =
    (s : ℕ → Term) → term_trees old own ≡ map (sub s) (args_in (term_tree first at)) → ((x : ℕ) → term_tree first at ≡ Var x → s x ≡ Var x)
    → ShowsTerm new copy (sub s (term_tree first at))
