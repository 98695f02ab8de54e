-- Names and clauses one by one.
use Rattle.std.proofs.Common.{◌≡◌, ℕ, ◌+◌, ◌<◌, ◌≤◌, List, [], ◌∷◌, ◌++◌, length, map, get_or, drop, refl, ap, sym, subst, ◌∙◌, append_assoc, codes}
use Rattle.std.proofs.Common.{if◌then◌else◌, is_ok, Bool, true, false, arith}
use Rattle.std.specs.Bool.{◌==◌}
use Rattle.std.proofs.lemmas.Bool.{eqb-true}
use Rattle.std.specs.Prelude.{Result, Ok, Err, OnOk, OnErr}
use Rattle.std.proofs.lemmas.List.{append-nil, drop_more, drop_all}
use Rattle.ll_parser.specs.declared.Named.{Named}
use Rattle.ll_parser.specs.declared.RawClause.{RawClause}
use Rattle.ll_parser.specs.declared.RawModule.{RawModule}
use Rattle.ll_parser.specs.Raw.{ModuleTree}
use Rattle.ll_parser.specs.Nodes.{Node, identifier, shown_clause, shown_module, shown_program}
use Rattle.ll_parser.specs.Printed.{line_end, names_text, clause_text, clauses_text, locals_text, module_text, modules_text, program_text}
use Rattle.ll_printer.specs.Pieces.{BeginsText}
use Rattle.ll_printer.specs.Parts.{IsWriting}
use Rattle.ll_printer.proofs.Parts.{writing-begins, writing-on, writing-refused, writing-stops, writing-last, writing-ends}

module _ (names : List (List ℕ)) (list : List Named) (i : ℕ) (d : Named) (start now next : List ℕ) (l : i < length list) where
  first-name : names_text (map (identifier names) (drop i list)) ≡ (codes " " ++ (identifier names (get_or list i d)).text)
      ++ names_text (map (identifier names) (drop (i + 1) list))
  first-name = ap (λ ns. names_text (map (identifier names) ns)) (drop_more list i d l)

  pub names-on : IsWriting (names_text (map (identifier names) list)) start now (names_text (map (identifier names) (drop i list)))
      → next ≡ now ++ (codes " " ++ (identifier names (get_or list i d)).text)
      → IsWriting (names_text (map (identifier names) list)) start next (names_text (map (identifier names) (drop (i + 1) list)))
  names-on w e =
      writing-on (names_text (map (identifier names) list)) start now next (names_text (map (identifier names) (drop (i + 1) list)))
      (codes " " ++ (identifier names (get_or list i d)).text)
      (subst (IsWriting (names_text (map (identifier names) list)) start now) first-name w) e

  pub names-refused : IsWriting (names_text (map (identifier names) list)) start now (names_text (map (identifier names) (drop i list)))
      → BeginsText (codes " " ++ (identifier names (get_or list i d)).text) now next → BeginsText (names_text (map (identifier names) list)) start next
  names-refused w b =
      writing-refused (names_text (map (identifier names) list)) start now next (names_text (map (identifier names) (drop (i + 1) list)))
      (codes " " ++ (identifier names (get_or list i d)).text)
      (subst (IsWriting (names_text (map (identifier names) list)) start now) first-name w) b

-- all names are written, and then the end of the line
module _ (names : List (List ℕ)) (list : List Named) (i : ℕ) (start now next : List ℕ) (l : length list ≤ i)
    (w : IsWriting (names_text (map (identifier names) list)) start now (names_text (map (identifier names) (drop i list)))) where
  names-written : IsWriting (names_text (map (identifier names) list)) start now line_end
  names-written = subst (λ ns. IsWriting (names_text (map (identifier names) list)) start now (names_text (map (identifier names) ns))) (drop_all i list l) w

  pub names-end : {A E : Type 0} (r : Result A E) → next ≡ (if is_ok r then now ++ line_end else now)
      → OnOk r (next ≡ start ++ names_text (map (identifier names) list))
  names-end (Ok x) f = writing-last (names_text (map (identifier names) list)) start now next line_end names-written f
  names-end (Err x) f = tt

  pub end-refused : {A E : Type 0} (r : Result A E) → next ≡ (if is_ok r then now ++ line_end else now)
      → OnErr r (BeginsText (names_text (map (identifier names) list)) start next)
  end-refused (Ok x) f = tt
  end-refused (Err x) f = writing-stops (names_text (map (identifier names) list)) start now next line_end names-written f

-- no local constants have no line, and some have one
pub locals-none : (names : List (List ℕ)) (list : List Named) {b : Bool} → b ≡ (length list == 0) → b ≡ true → (old : List ℕ)
    → old ≡ old ++ locals_text (map (identifier names) list)
locals-none names [] h t old = sym (append-nil old)
locals-none names (n ∷ list) h t old = let e = eqb-true (length (n ∷ list)) 0 (sym h ∙ t) in absurd (omega (arith, e))

locals-some : (names : List (List ℕ)) (list : List Named) {b : Bool} → b ≡ (length list == 0) → b ≡ false
    → locals_text (map (identifier names) list) ≡ codes "LOCAL" ++ names_text (map (identifier names) list)
locals-some names [] h f = absurd cc
locals-some names (n ∷ list) h f = refl

module _ (names : List (List ℕ)) (list : List Named) {b : Bool} (h : b ≡ (length list == 0)) (f : b ≡ false) (start now : List ℕ)
    (e : now ≡ start ++ codes "LOCAL") where
  locals-word : IsWriting (locals_text (map (identifier names) list)) start now (names_text (map (identifier names) list))
  locals-word =
      let text : List ℕ = locals_text (map (identifier names) list) in
      writing-on text start start now (names_text (map (identifier names) list)) (codes "LOCAL")
      (subst (IsWriting text start start) (locals-some names list h f) (writing-begins text start)) e

  pub locals-end : (next : List ℕ) → next ≡ now ++ names_text (map (identifier names) list) → next ≡ start ++ locals_text (map (identifier names) list)
  locals-end next g = writing-last (locals_text (map (identifier names) list)) start now next (names_text (map (identifier names) list)) locals-word g

  pub locals-cut : (next : List ℕ) → BeginsText (names_text (map (identifier names) list)) now next
      → BeginsText (locals_text (map (identifier names) list)) start next
  locals-cut next g =
      let text : List ℕ = locals_text (map (identifier names) list) in
      let rest : List ℕ = names_text (map (identifier names) list) in
      writing-refused text start now next [] rest (subst (IsWriting text start now) (sym (append-nil rest)) locals-word) g

module _ (names : List (List ℕ)) (nodes : List Node) (list : List RawClause) (i : ℕ) (d : RawClause) (start now next : List ℕ) (l : i < length list) where
  first-clause : clauses_text (map (shown_clause names nodes) (drop i list)) ≡ clause_text (shown_clause names nodes (get_or list i d))
      ++ clauses_text (map (shown_clause names nodes) (drop (i + 1) list))
  first-clause = ap (λ cs. clauses_text (map (shown_clause names nodes) cs)) (drop_more list i d l)

  pub clauses-on : IsWriting (clauses_text (map (shown_clause names nodes) list)) start now (clauses_text (map (shown_clause names nodes) (drop i list)))
      → next ≡ now ++ clause_text (shown_clause names nodes (get_or list i d))
      → IsWriting (clauses_text (map (shown_clause names nodes) list)) start next (clauses_text (map (shown_clause names nodes) (drop (i + 1) list)))
  clauses-on w e =
      writing-on (clauses_text (map (shown_clause names nodes) list)) start now next (clauses_text (map (shown_clause names nodes) (drop (i + 1) list)))
      (clause_text (shown_clause names nodes (get_or list i d)))
      (subst (IsWriting (clauses_text (map (shown_clause names nodes) list)) start now) first-clause w) e

  pub clauses-refused : IsWriting (clauses_text (map (shown_clause names nodes) list)) start now (clauses_text (map (shown_clause names nodes) (drop i list)))
      → BeginsText (clause_text (shown_clause names nodes (get_or list i d))) now next
      → BeginsText (clauses_text (map (shown_clause names nodes) list)) start next
  clauses-refused w b =
      writing-refused (clauses_text (map (shown_clause names nodes) list)) start now next (clauses_text (map (shown_clause names nodes) (drop (i + 1) list)))
      (clause_text (shown_clause names nodes (get_or list i d)))
      (subst (IsWriting (clauses_text (map (shown_clause names nodes) list)) start now) first-clause w) b

module _ (names : List (List ℕ)) (nodes : List Node) (text : List ℕ) (list : List RawModule) (i : ℕ) (m : RawModule) (start now next : List ℕ)
    (l : i < length list) (at : m ≡ get_or list i m) where
  first-module : modules_text (map (shown_module names nodes) (drop i list)) ≡ module_text (shown_module names nodes m)
      ++ modules_text (map (shown_module names nodes) (drop (i + 1) list))
  first-module =
      ap (λ ms. modules_text (map (shown_module names nodes) ms)) (drop_more list i m l)
      ∙ ap (λ x. module_text (shown_module names nodes x) ++ modules_text (map (shown_module names nodes) (drop (i + 1) list))) (sym at)

  pub modules-on : IsWriting text start now (modules_text (map (shown_module names nodes) (drop i list)))
      → next ≡ now ++ module_text (shown_module names nodes m) → IsWriting text start next (modules_text (map (shown_module names nodes) (drop (i + 1) list)))
  modules-on w e =
      writing-on text start now next (modules_text (map (shown_module names nodes) (drop (i + 1) list))) (module_text (shown_module names nodes m))
      (subst (IsWriting text start now) first-module w) e

  pub modules-refused : IsWriting text start now (modules_text (map (shown_module names nodes) (drop i list)))
      → BeginsText (module_text (shown_module names nodes m)) now next → BeginsText text start next
  modules-refused w b =
      writing-refused text start now next (modules_text (map (shown_module names nodes) (drop (i + 1) list))) (module_text (shown_module names nodes m))
      (subst (IsWriting text start now) first-module w) b

-- all modules are written
pub modules-end : (names : List (List ℕ)) (nodes : List Node) (text : List ℕ) (list : List RawModule) (i : ℕ) (start now : List ℕ) → length list ≤ i
    → IsWriting text start now (modules_text (map (shown_module names nodes) (drop i list))) → now ≡ start ++ text
modules-end names nodes text list i start now l w =
    writing-ends text start now (subst (λ ms. IsWriting text start now (modules_text (map (shown_module names nodes) ms))) (drop_all i list l) w)

-- the clauses of a program are written
pub program-clauses : (names : List (List ℕ)) (nodes : List Node) (clauses list : List RawClause) (modules : List RawModule) (start now : List ℕ)
    → list ≡ clauses
    → now ≡ start ++ clauses_text (map (shown_clause names nodes) list)
    → IsWriting (program_text (shown_program names nodes clauses modules)) start now (modules_text (map (shown_module names nodes) modules))
program-clauses names nodes clauses list modules start now same e =
    let text : List ℕ = program_text (shown_program names nodes clauses modules) in
    writing-on text start start now (modules_text (map (shown_module names nodes) modules)) (clauses_text (map (shown_clause names nodes) clauses))
    (writing-begins text start)
    (e ∙ ap (λ cs. start ++ clauses_text (map (shown_clause names nodes) cs)) same)

-- a module piece by piece
pub module-is : (m : ModuleTree) → module_text m ≡ codes "MODULE"
    ++ ((codes " " ++ m.name.text) ++ (names_text m.params ++ (locals_text m.locals ++ clauses_text m.clauses)))
module-is m =
    append_assoc (codes "MODULE") (names_text (m.name ∷ m.params)) (locals_text m.locals ++ clauses_text m.clauses)
    ∙ (ap (λ u. codes "MODULE" ++ (u ++ (locals_text m.locals ++ clauses_text m.clauses))) (sym (append_assoc (codes " ") m.name.text (names_text m.params)))
    ∙ ap (λ u. codes "MODULE" ++ u) (append_assoc (codes " " ++ m.name.text) (names_text m.params) (locals_text m.locals ++ clauses_text m.clauses)))

module _ (names : List (List ℕ)) (nodes : List Node) (m : RawModule) (start : List ℕ) where
  abbrev text : List ℕ
  text = module_text (shown_module names nodes m)

  abbrev after_locals : List ℕ
  after_locals = clauses_text (map (shown_clause names nodes) m.clauses.items)

  abbrev after_params : List ℕ
  after_params = locals_text (map (identifier names) m.locals.items) ++ after_locals

  abbrev after_name : List ℕ
  after_name = names_text (map (identifier names) m.params.items) ++ after_params

  abbrev name_part : List ℕ
  name_part = codes " " ++ (identifier names m.name).text

  -- what is written behind each piece
  pub module-word : (now : List ℕ) → now ≡ start ++ codes "MODULE" → IsWriting text start now (name_part ++ after_name)
  module-word now e =
      writing-on text start start now (name_part ++ after_name) (codes "MODULE")
      (subst (IsWriting text start start) (module-is (shown_module names nodes m)) (writing-begins text start)) e

  pub module-name : (now next : List ℕ) → IsWriting text start now (name_part ++ after_name) → next ≡ now ++ name_part → IsWriting text start next after_name
  module-name now next w e = writing-on text start now next after_name name_part w e

  pub module-params : (now next : List ℕ) (list : List Named) → list ≡ m.params.items → IsWriting text start now after_name
      → next ≡ now ++ names_text (map (identifier names) list)
      → IsWriting text start next after_params
  module-params now next list same w e =
      writing-on text start now next after_params (names_text (map (identifier names) m.params.items)) w
      (e ∙ ap (λ ns. now ++ names_text (map (identifier names) ns)) same)

  pub module-locals : (now next : List ℕ) (list : List Named) → list ≡ m.locals.items → IsWriting text start now after_params
      → next ≡ now ++ locals_text (map (identifier names) list)
      → IsWriting text start next after_locals
  module-locals now next list same w e =
      writing-on text start now next after_locals (locals_text (map (identifier names) m.locals.items)) w
      (e ∙ ap (λ ns. now ++ locals_text (map (identifier names) ns)) same)

  -- a piece is refused
  pub name-refused : (now next : List ℕ) → IsWriting text start now (name_part ++ after_name) → BeginsText name_part now next → BeginsText text start next
  name-refused now next w b = writing-refused text start now next after_name name_part w b

  pub params-refused : (now next : List ℕ) (list : List Named) → list ≡ m.params.items → IsWriting text start now after_name
      → BeginsText (names_text (map (identifier names) list)) now next
      → BeginsText text start next
  params-refused now next list same w b =
      writing-refused text start now next after_params (names_text (map (identifier names) m.params.items)) w
      (subst (λ ns. BeginsText (names_text (map (identifier names) ns)) now next) same b)

  pub locals-refused : (now next : List ℕ) (list : List Named) → list ≡ m.locals.items → IsWriting text start now after_params
      → BeginsText (locals_text (map (identifier names) list)) now next
      → BeginsText text start next
  locals-refused now next list same w b =
      writing-refused text start now next after_locals (locals_text (map (identifier names) m.locals.items)) w
      (subst (λ ns. BeginsText (locals_text (map (identifier names) ns)) now next) same b)

  pub last-refused : (now next : List ℕ) (list : List RawClause) → list ≡ m.clauses.items → IsWriting text start now after_locals
      → BeginsText (clauses_text (map (shown_clause names nodes) list)) now next
      → BeginsText text start next
  last-refused now next list same w b =
      writing-refused text start now next [] after_locals (subst (IsWriting text start now) (sym (append-nil after_locals)) w)
      (subst (λ cs. BeginsText (clauses_text (map (shown_clause names nodes) cs)) now next) same b)

  -- all is written
  pub last-written : (now next : List ℕ) (list : List RawClause) → list ≡ m.clauses.items → IsWriting text start now after_locals
      → next ≡ now ++ clauses_text (map (shown_clause names nodes) list)
      → next ≡ start ++ text
  last-written now next list same w e =
      writing-last text start now next after_locals w (e ∙ ap (λ cs. now ++ clauses_text (map (shown_clause names nodes) cs)) same)
