-- The keys of leaves, and their chains.
use Rattle.std.specs.Prelude.{◌≡◌, ℕ, Bool, true, List, ◌∷◌, length, map, Option, Some, unwrap_or, if◌then◌else◌}
use Rattle.indexmap.specs.IndexMap.{get}
use Rattle.ll_bank.specs.declared.Head.{Head}
use Rattle.ll_bank.specs.declared.Head.TheVariants.{Name}
use Rattle.ll_bank.specs.Term.{Term, head_of, arity}
use Rattle.ll_bank.specs.Nodes.{Nodes, term_tree}
use Rattle.ll_index.specs.declared.laws.First.{First}
use Rattle.ll_index.specs.declared.laws.First.TheVariants.{Open}
use Rattle.ll_index.specs.declared.key.Key.{Key}
use Rattle.ll_index.specs.declared.key.Key.TheVariants.{Unnamed, Named}
use Rattle.ll_index.specs.declared.leaves.Leaf.{Leaf}
use Rattle.ll_index.specs.contracts.key.KeyPartialEq.TheImpl.{eq-value}
use Rattle.ll_index.specs.declared.chains.Chains.{Chains}
use Rattle.ll_index.specs.First.{sign_of, first_of}
use Rattle.ll_index.specs.Chained.{first_from, links_from}

-- the key of a head with so many arguments, of which the first has this sign
abbrev pub named_key : Option Head → ℕ → First → Key
named_key (Some (Name n)) k first = Named n k first
named_key _ k first = Unnamed

-- the key of a head, with the sign of its first argument or with none
abbrev pub key_of : Bool → Term → Key
key_of by_sign t = named_key (head_of t) (arity t) (if by_sign then first_of t else Open)

-- the outermost sign of the first of these arguments, or none
abbrev pub sign_of_first : Bool → List Term → First
sign_of_first true (t ∷ ts) = sign_of t
sign_of_first _ _ = Open

-- two keys are the same
abbrev pub key_eq : Key → Key → Bool
key_eq = (eq-value).it

-- the first place of a key that the chains have, or the end
abbrev pub first_place : Chains → Key → ℕ → ℕ
first_place c key end = unwrap_or (get key_eq c.first key) end

-- the chains of a list of keys
pub record IsChained (keys : List Key) (c : Chains) : Type 0 where
  pub next : c.next.items ≡ links_from key_eq 0 keys
  pub first : (key : Key) → first_place c key (length keys) ≡ first_from key_eq 0 keys key

-- the keys of leaves that are read in a bank
abbrev pub leaf_keys : Nodes → Bool → List Leaf → List Key
leaf_keys nodes by_sign ls = map (λ l. key_of by_sign (term_tree nodes l.head.0)) ls
