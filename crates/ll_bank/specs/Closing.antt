-- Terms and formulas closed by many values at once: what stands for their bound places, and the images of their parts.
use Rattle.std.specs.Prelude.{◌≡◌, ◌≤◌, ◌+◌, ◌&&◌, ◌⊎◌, ⊤, ℕ, zero, suc, Bool, true, List, map, reverse, ◌∷◌, Option, Some, None, nat_eq}
use Rattle.ll_bank.specs.declared.At.{At}
use Rattle.ll_bank.specs.Term.{Env, close, applies_heads}
use Rattle.ll_bank.specs.Form.{Form, Num, close_form, form_applies_heads}
use Rattle.ll_bank.specs.Nodes.{Nodes, term_tree, form_tree, AllInTerms, HasTerm, HasForm, ShowsTerm, ShowsForm}
use Rattle.ll_bank.specs.declared.closing.values.Values.{Values}
use Rattle.ll_bank.specs.declared.closing.values.Values.TheVariants.{Places, Variables}
use Rattle.ll_bank.specs.Environments.{values_in}
use Rattle.ll_bank.specs.Opened.{Spot}

-- the values at these places, the outermost first, in place of the bound places
abbrev pub env_of : Nodes → List At → Env
env_of bank values = reverse (map (λ v. Some (term_tree bank v.0)) values)

-- or the variables of an environment
abbrev pub env_in : Nodes → Values → Env
env_in bank (Places values) = env_of bank values.now
env_in bank (Variables environment) = values_in environment

-- the places are in the bank, and an environment has no more variables than there are before its end
abbrev pub HasValues : Nodes → Values → Type 0
HasValues bank (Places values) = AllInTerms bank values.now
HasValues bank (Variables environment) = environment.count ≤ environment.end

-- what stands for the bound places under so many quantifiers more
abbrev pub under : Env → ℕ → Env
under env zero = env
under env (suc n) = None ∷ under env n

-- one place, and the same number of quantifiers passed
abbrev pub same_spot : Spot → Spot → Bool
same_spot x y = nat_eq x.0 y.0 && nat_eq x.1 y.1

-- the place shows a term's part with the bound places replaced
abbrev pub IsTermImage : Nodes → Env → Spot → ℕ → Type 0
IsTermImage bank env k image = HasTerm bank k.0 × ShowsTerm bank image (close (under env k.1) (term_tree bank k.0))

-- and a formula's part likewise
abbrev pub IsFormImage : Nodes → Env → Spot → ℕ → Type 0
IsFormImage bank env k image = HasForm bank k.0 × ShowsForm bank image (close_form (under env k.1) (form_tree bank k.0))

-- a whole-number goal
abbrev pub IsNum : Form → Type 0
IsNum (Num r t u) = ⊤
IsNum _ = ⊥

-- no image is known that was not known before, but this one
abbrev pub AddsImage : (Spot → Option ℕ) → (Spot → Option ℕ) → Spot → ℕ → Type 0
AddsImage old new k image = (q : Spot) (other : ℕ) → new q ≡ Some other → (old q ≡ Some other) ⊎ ((k ≡ q) × (image ≡ other))

-- the part is in the bank, and nothing but a head gets arguments where it is closed
abbrev pub IsGoodTerm : Nodes → Env → Spot → Type 0
IsGoodTerm bank env k = HasTerm bank k.0 × (applies_heads (close (under env k.1) (term_tree bank k.0)) ≡ true)

-- and likewise a formula, which lies as far below the root as it is quantifiers inside it
pub record IsGoodForm (bank : Nodes) (g : Env × ℕ) (k : Spot) : Type 0 where
  pub inside : HasForm bank k.0
  pub heads : form_applies_heads (close_form (under g.0 k.1) (form_tree bank k.0)) ≡ true
  pub level : k.0 + k.1 ≤ g.1
