-- Copies of modules and of banks.
use Rattle.std.proofs.Common.{◌≡◌, ℕ, ◌<◌, ◌≤◌, List, [], ◌∷◌, ◌++◌, length, map}
use Rattle.std.proofs.Common.{refl, ap, sym, subst, ◌∙◌, arith, append-nil, length-append}
use Rattle.std.specs.Prelude.{All}
use Rattle.std.proofs.lemmas.List.{length-map}
use Rattle.std.proofs.lemmas.List.Elements.{All-head, All-tail, All-cons}
use Rattle.ll_bank.specs.Nodes.{Nodes, size_of, IsCutTo}
use Rattle.ll_laws.specs.declared.Clause.{Clause}
use Rattle.ll_laws.specs.declared.Module.{Module}
use Rattle.ll_laws.specs.Shown.{clause_tree, module_tree, HasClauses, HasModules}
use Rattle.ll_polarity.specs.Copied.{module_row}
use Rattle.ll_polarity.specs.Asks.{ProgramPart}
use Rattle.ll_polarity.specs.Loading.{IsNumbered}

-- ---- modules

same_modules : (bank : Nodes) (xs ys : List Module) → map module_row xs ≡ map module_row ys → map (module_tree bank) xs ≡ map (module_tree bank) ys
same_modules bank [] [] e = refl
same_modules bank [] (y ∷ ys) e = cc
same_modules bank (x ∷ xs) [] e = cc
same_modules bank (x ∷ xs) (y ∷ ys) e =
    let head : module_row x ≡ module_row y = cc in
    let rest : map module_row xs ≡ map module_row ys = cc in
    λ i. record { name = (head i).0; params = (head i).1.0; locals = (head i).1.1.0; clauses = map (clause_tree bank) (head i).1.1.1 }
    ∷ same_modules bank xs ys rest i

module _ (P : ℕ × (ℕ × (ℕ × List Clause)) → Type 0) where
  all_rows : (xs ys : List Module) → map module_row xs ≡ map module_row ys → All (λ m. P (module_row m)) ys → All (λ m. P (module_row m)) xs
  all_rows [] ys e h = λ k d l. absurd (omega arith)
  all_rows (x ∷ xs) [] e h = cc
  all_rows (x ∷ xs) (y ∷ ys) e h =
      let head : module_row x ≡ module_row y = cc in
      let rest : map module_row xs ≡ map module_row ys = cc in
      All-cons (λ m. P (module_row m)) x xs (subst P (sym head) (All-head (λ m. P (module_row m)) y ys h))
      (all_rows xs ys rest (All-tail (λ m. P (module_row m)) y ys h))

-- ---- banks

none_more : {X : Type 0} (xs more : List X) → length (xs ++ more) ≡ length xs → xs ++ more ≡ xs
none_more xs [] e = append-nil xs
none_more xs (y ∷ more) e = absurd (let l = length-append xs (y ∷ more) in omega arith)

-- a bank that is cut to its own size is the same
pub whole_image : (old new : Nodes) → IsCutTo (size_of old) old new → new ≡ old
whole_image old new c =
    let terms = none_more new.terms c.trees.more_terms (ap length (sym c.trees.terms) ∙ ap (λ s. s.terms) (sym c.places)) in
    let forms = none_more new.forms c.trees.more_forms (ap length (sym c.trees.forms) ∙ ap (λ s. s.forms) (sym c.places)) in
    λ i. record { terms = (sym terms ∙ sym c.trees.terms) i; forms = (sym forms ∙ sym c.trees.forms) i }

-- ---- parts

abbrev part_of_bank : Nodes → List (List ℕ) → List Module → List Clause → ProgramPart
part_of_bank bank names modules clauses = record { names = names; modules = map (module_tree bank) modules; clauses = map (clause_tree bank) clauses }

module _ (bank image : Nodes) (names texts : List (List ℕ)) (modules copies : List Module) (clauses others : List Clause) (same : image ≡ bank)
    (same_names : texts ≡ names) (rows : map module_row copies ≡ map module_row modules) (same_clauses : others ≡ clauses) where
  pub copied_fits : HasModules bank modules → HasClauses bank clauses → IsNumbered names modules
      → HasModules image copies × HasClauses image others × IsNumbered texts copies
  copied_fits m c n = (
    subst (λ b. HasModules b copies) (sym same) (all_rows (λ r. HasClauses bank r.1.1.1) copies modules rows m),
    subst (λ b. HasClauses b others) (sym same) (subst (HasClauses bank) (sym same_clauses) c),
    record {
      named = subst (λ t. All (λ m. m.name < length t) copies) (sym same_names) (all_rows (λ r. r.0 < length names) copies modules rows n.named);
      few_texts = subst (λ t. length t ≤ 16777216) (sym same_names) n.few_texts;
      few_modules = let k = n.few_modules in let e = ap length rows in let a = length-map modules module_row in let b = length-map copies module_row in
          omega arith;
    },
  )

  pub copied_part : part_of_bank image texts copies others ≡ part_of_bank bank names modules clauses
  copied_part =
      let trees = ap (λ b. map (module_tree b) copies) same ∙ same_modules bank copies modules rows in
      let forms = ap (λ b. map (clause_tree b) others) same ∙ ap (map (clause_tree bank)) same_clauses in
      λ i. record { names = same_names i; modules = trees i; clauses = forms i }
