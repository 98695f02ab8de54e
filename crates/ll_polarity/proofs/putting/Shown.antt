-- The clauses and modules of a program's part, in a bank that has grown behind them.
use Rattle.std.proofs.Common.{◌≡◌, ℕ, ◌+◌, ◌<◌, ◌≤◌, List, [], map, length, get_or, Option, sym, ap, ◌∙◌, arith}
use Rattle.std.specs.Prelude.{slice_index_or, option_map, ◌^◌}
use Rattle.std.proofs.lemmas.List.{length-map}
use Rattle.std.proofs.lemmas.Simd.{map-map}
use Rattle.ll_bank.specs.Form.{Form}
use Rattle.ll_bank.specs.Nodes.{Nodes, Extends}
use Rattle.ll_bank.proofs.CallerLemmas.{HasForm-extends}
use Rattle.ll_laws.specs.declared.Clause.{Clause}
use Rattle.ll_laws.specs.declared.Module.{Module}
use Rattle.ll_laws.specs.Module.{ModuleTree}
use Rattle.ll_laws.specs.Problem.{ProblemTree}
use Rattle.ll_laws.specs.Shown.{clause_tree, module_tree, HasClauses, HasModules}
use Rattle.ll_parser.specs.Raw.{Raw}
use Rattle.ll_parser.specs.Text.{queries}
use Rattle.ll_parser.specs.Reads.{IsWhole}
use Rattle.ll_parser.proofs.CallerLemmas.{small_query}
use Rattle.ll_polarity.specs.Numbered.{text_of, variables_of}
use Rattle.ll_polarity.specs.Reading.{Met, read_form}
use Rattle.ll_polarity.specs.Faults.{Heading}
use Rattle.ll_polarity.specs.Asks.{ProgramPart, modules_of, headings_of, read_asked, problem_with}
use Rattle.ll_polarity.specs.Ready.{known_heading}
use Rattle.ll_polarity.proofs.putting.Clauses.{same_clauses}
use Rattle.ll_polarity.proofs.putting.ModuleRows.{same_modules}
use Rattle.ll_polarity.proofs.reading.FewNames.{few_form}

-- ---- what stays in a bank that grows

pub clauses_stay : {old new : Nodes} (e : Extends old new) (cs : List Clause) → HasClauses old cs → HasClauses new cs
clauses_stay e cs h = λ k d l. HasForm-extends e (get_or cs k d).form.0 (h k d l)

pub modules_stay : {old new : Nodes} (e : Extends old new) (ms : List Module) → HasModules old ms → HasModules new ms
modules_stay e ms h = λ k d l. clauses_stay e (get_or ms k d).clauses.items (h k d l)

-- ---- a part, as its bank shows it

abbrev pub shown_part : Nodes → List (List ℕ) → List Module → List Clause → ProgramPart
shown_part bank names rows cs = record { names = names; modules = map (module_tree bank) rows; clauses = map (clause_tree bank) cs }

modules_shown : (bank : Nodes) (names : List (List ℕ)) (rows : List Module) (cs : List Clause)
    → modules_of (shown_part bank names rows cs) ≡ map (λ m. text_of names m.name) rows
modules_shown bank names rows cs = map-map (λ (m : ModuleTree). slice_index_or names m.name []) (module_tree bank) rows

pub headings_shown : (bank : Nodes) (names : List (List ℕ)) (rows seen : List Module) (cs : List Clause) (part : ProgramPart) → seen ≡ rows
    → shown_part bank names rows cs ≡ part → map (known_heading names) seen ≡ headings_of part
headings_shown bank names rows seen cs part same is =
    let heading_of : ModuleTree → Heading = λ m. record { name = slice_index_or names m.name []; params = m.params } in
    ap (map (known_heading names)) same ∙ (sym (map-map heading_of (module_tree bank) rows) ∙ ap headings_of is)

-- the problem that a query asks of it
pub problem_shown : (old new : Nodes) (names : List (List ℕ)) (rows seen : List Module) (cs : List Clause) (part : ProgramPart) → seen ≡ rows
    → shown_part old names rows cs ≡ part → HasModules old rows → HasClauses old cs → Extends old new
    → (raw : Raw) (bound : ℕ) (later : List (List ℕ)) (goal : Form) (asked : List (Option ℕ))
    → goal ≡ (read_form (map (λ m. text_of names m.name) seen) [] (record { names = names; variables = [] }) raw).it
    → ((ms : List (List ℕ)) → let met = (read_form ms [] (record { names = names; variables = [] }) raw).met in asked ≡ (read_asked met.names met.variables).it)
    → ((ms : List (List ℕ)) → let met = (read_form ms [] (record { names = names; variables = [] }) raw).met in
    later ≡ (read_asked met.names met.variables).names)
    → (let p : ProblemTree = record {
      names = later;
      modules = map (module_tree new) rows;
      clauses = map (clause_tree new) cs;
      goal = goal;
      asked = asked;
      bound = bound;
    } in p)
    ≡ problem_with part raw bound
problem_shown old new names rows seen cs part same view inside has keeps raw bound later goal asked is numbers texts =
    let met : Met = record { names = names; variables = [] } in
    let g = is ∙ ap (λ ms. (read_form ms [] met raw).it) (ap (map (λ m. text_of names m.name)) same ∙ sym (modules_shown old names rows cs)) in
    let ms = modules_of (shown_part old names rows cs) in
    let n = texts ms in
    let a = numbers ms in
    let m = same_modules keeps rows inside in
    let c = same_clauses keeps cs has in
    (let e : (let p : ProblemTree = record {
      names = later;
      modules = map (module_tree new) rows;
      clauses = map (clause_tree new) cs;
      goal = goal;
      asked =
          asked;
      bound = bound;
    } in p)
    ≡ problem_with (shown_part old names rows cs) raw bound =
    λ i. record { names = n i; modules = m i; clauses = c i; goal = g i; asked = a i; bound = bound } in e)
    ∙ ap (λ x. problem_with x raw bound) view

-- ---- room for the names of a query

pub room_asked : (texts names later : List (List ℕ)) (variables order : List (Option ℕ)) (raw : Raw) → IsWhole queries raw → length names ≤ 16777216
    → (let m : Met = record { names = later; variables = variables_of texts variables } in m)
    ≡ (read_form [] [] (record { names = names; variables = [] }) raw).met
    → order ≡ variables → length later + length order < 2 ^ 32
room_asked texts names later variables order raw whole few is same =
    let f = few_form [] [] (record { names = names; variables = [] }) raw in
    let a = ap (λ m. length m.names) is in
    let b = sym (length-map variables (option_map (text_of texts))) ∙ ap (λ m. length m.variables) is in
    let s = ap length same in omega (arith, (small_query raw whole).light)

-- as many texts as modules
pub few_texts_of : {X : Type 0} (g : X → List ℕ) (texts : List X) (f : Module → List ℕ) (rows : List Module) → map g texts ≡ map f rows → length rows ≤ 16777216
    → length texts < 2 ^ 32
few_texts_of g texts f rows is few =
    let a = length-map texts g in let b = length-map rows f in let e = ap length is in omega arith

-- the numbers of a query's variables, and the names after these
pub asked_shown : (texts names later : List (List ℕ)) (variables order : List (Option ℕ)) (raw : Raw)
    → ((ms : List (List ℕ)) → (let m : Met = record { names = later; variables = variables_of texts variables } in m)
    ≡ (read_form ms [] (record { names = names; variables = [] }) raw).met)
    → order ≡ variables → (ms : List (List ℕ))
    → (let met = (read_form ms [] (record { names = names; variables = [] }) raw).met in
    read_asked later (variables_of texts order) ≡ read_asked met.names met.variables)
asked_shown texts names later variables order raw is same ms =
    ap (λ vs. read_asked later (variables_of texts vs)) same ∙ ap (λ (m : Met). read_asked m.names m.variables) (is ms)
