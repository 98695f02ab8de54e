-- The numbers of names in a program's part, and how many there are.
use Rattle.std.proofs.Common.{◌≡◌, ℕ, ◌+◌, ◌<◌, ◌≤◌, All, List, [], ◌∷◌, length, map, sym, subst, ap, arith}
use Rattle.std.specs.Prelude.{◌*◌, ◌^◌}
use Rattle.std.specs.List.{AllByRecursion}
use Rattle.std.proofs.lemmas.List.{length-map}
use Rattle.std.proofs.lemmas.List.Elements.{All-from_recursion}
use Rattle.ll_bank.specs.Names.{with_name}
use Rattle.ll_bank.specs.Nodes.{Nodes}
use Rattle.ll_laws.specs.declared.Module.{Module}
use Rattle.ll_laws.specs.Module.{ModuleTree}
use Rattle.ll_laws.specs.Shown.{module_tree}
use Rattle.ll_parser.specs.declared.RawClause.{RawClause}
use Rattle.ll_parser.specs.declared.RawModule.{RawModule}
use Rattle.ll_parser.specs.Nodes.{Node, shown_clause, shown_module, shown_program}
use Rattle.ll_parser.specs.Raw.{ProgramTree}
use Rattle.ll_parser.specs.Raw as raw
use Rattle.ll_parser.specs.Text.{programs}
use Rattle.ll_parser.specs.Reads.{IsWhole}
use Rattle.ll_parser.specs.Weights.{clauses_weight, modules_weight}
use Rattle.ll_parser.proofs.CallerLemmas.{few_nodes}
use Rattle.ll_polarity.specs.Asks.{module_names, part_of, read_clauses, read_module, read_modules}
use Rattle.ll_polarity.specs.Loading.{IsNumbered}
use Rattle.ll_polarity.specs.Scope.{Scope, module_scope}
use Rattle.ll_polarity.proofs.reading.FewNames.{few_clauses, few_names_of_part}
use Rattle.ll_polarity.proofs.reading.Grows.{number_below}
use Rattle.ll_polarity.proofs.faults.Judging.{all-map}
use Rattle.ll_polarity.proofs.putting.ModuleRows.{length-modules}
use Rattle.ll_polarity.proofs.problems.Parts.{more_clauses, more_modules}

-- the names of modules are among those at their end
names_below : (ms before : List (List ℕ)) (rest : List raw.ModuleTree) (most : ℕ) → length (read_modules ms before rest).names ≤ most
    → AllByRecursion (λ (m : ModuleTree). m.name < most) (read_modules ms before rest).it
names_below ms before [] most h = tt
names_below ms before (m ∷ rest) most h =
    let named = with_name before m.name.text in
    let after = (read_module ms before m).names in (
      omega (arith, number_below before m.name.text, (more_clauses ms (module_scope m) named m.clauses).longer, (more_modules ms after rest).longer),
      names_below ms after rest most h,
    )

length_read : (ms before : List (List ℕ)) (rest : List raw.ModuleTree) → length (read_modules ms before rest).it ≡ length rest
length_read ms before [] = omega arith
length_read ms before (m ∷ rest) = let i = length_read ms (read_module ms before m).names rest in omega arith

-- the modules of a whole program's part
pub part_numbered : (p : ProgramTree) → IsWhole programs p → (names : List (List ℕ)) (bank : Nodes) (modules : List Module) → names ≡ (part_of p).names
    → map (module_tree bank) modules ≡ (part_of p).modules → IsNumbered names modules
part_numbered p whole names bank modules n e =
    let ms = module_names p in
    let before = (read_clauses ms [] [] p.clauses).names in
    let l = ap length n in
    let k = ap length e in
    let below = All-from_recursion (λ (m : ModuleTree). m.name < length names) (read_modules ms before p.modules).it
    (names_below ms before p.modules (length names) (omega arith)) in
    record {
      named = all-map (module_tree bank) (λ (m : ModuleTree). m.name < length names) modules
          (subst (All (λ (m : ModuleTree). m.name < length names)) (sym e) below);
      few_texts = omega (arith, few_names_of_part p whole);
      few_modules = omega (arith, length-map modules (module_tree bank), length_read ms before p.modules, length-modules p.modules, few_nodes p whole);
    }

-- ---- a whole program is small

module _ (texts : List (List ℕ)) (nodes : List Node) (cs : List RawClause) (modules : List RawModule)
    (whole : IsWhole programs (shown_program texts nodes cs modules)) where
  pub few_bodies : (bodies : List RawModule) → bodies ≡ modules → length bodies < 2 ^ 32
  few_bodies bodies e =
      let l = ap length e in
      let m = length-map modules (shown_module texts nodes) in
      omega (arith, length-modules (map (shown_module texts nodes) modules), few_nodes (shown_program texts nodes cs modules) whole)

  module _ (raws : List RawClause) (scope : Scope) (start : List (List ℕ)) (er : raws ≡ cs) (es : scope ≡ []) (et : start ≡ []) where
    pub room_at_clauses : length start + length scope + 6 * clauses_weight (map (shown_clause texts nodes) raws) < 2 ^ 32
    room_at_clauses =
        let w = ap (λ rs. clauses_weight (map (shown_clause texts nodes) rs)) er in
        let s = ap length es in
        let t = ap length et in omega (arith, few_nodes (shown_program texts nodes cs modules) whole)

    pub room_at_modules : (bodies : List RawModule) (met : List (List ℕ)) → bodies ≡ modules
        → ((ms : List (List ℕ)) → met ≡ (read_clauses ms scope start (map (shown_clause texts nodes) raws)).names)
        → length met + 6 * modules_weight (map (shown_module texts nodes) bodies) < 2 ^ 31
    room_at_modules bodies met eb is =
        let v = ap (λ bs. modules_weight (map (shown_module texts nodes) bs)) eb in
        let w = ap (λ rs. clauses_weight (map (shown_clause texts nodes) rs)) er in
        let t = ap length et in
        let m = ap length (is []) in omega (
          arith,
          few_clauses [] scope start (map (shown_clause texts nodes) raws),
          few_nodes (shown_program texts nodes cs modules) whole,
        )
