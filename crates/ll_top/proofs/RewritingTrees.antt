-- What a program is printed as, and what it fixes of a problem, do not depend on places.
use Rattle.std.proofs.Common.{◌≡◌, ℕ, refl, ap, ◌∙◌, Bool, true, false, List, [], ◌∷◌, ◌++◌, map, length, codes}
use Rattle.std.specs.Prelude.{cond, if◌then◌else◌}
use Rattle.std.proofs.lemmas.List.{length-map}
use Rattle.ll_list_laws.proofs.CallerLemmas.{map_map}
use Rattle.ll_bank.specs.Names.{with_name}
use Rattle.ll_laws.specs.Module as laws
use Rattle.ll_bank.specs.Form.{Form, Relation, Is, Less, Most, Use, Num}
use Rattle.ll_bank.specs.Term.{Term, apply}
use Rattle.ll_parser.specs.Tokens.{Identifier}
use Rattle.ll_parser.specs.Raw.{Raw, truth, erasure, braces, universal, existential, load, binary, is_goal, less_goal, most_goal, head, anything, int, RawList}
use Rattle.ll_parser.specs.Raw.{none, more, ClauseTree, ModuleTree, ProgramTree}
use Rattle.ll_parser.specs.Bare.{bare_identifier, bare_raw, bare_raws, bare_clause, bare_module, bare_program}
use Rattle.ll_parser.specs.Printed.{Rank, clauses, arrows, op_rank, left_rank, right_rank, op_bytes, is_looser, between, bracketed, is_pair, has_arguments}
use Rattle.ll_parser.specs.Printed.{head_text, term_text, arguments_text, pair_text, is_sum, is_product, expr_text, sides_text}
use Rattle.ll_parser.specs.Printed.{bound_text, formula_text, line_end, names_text, clause_text, clauses_text, locals_text, module_text, modules_text}
use Rattle.ll_parser.specs.Printed.{program_text}
use Rattle.ll_top.proofs.made.Aside.{scope-bare}
use Rattle.ll_polarity.specs.Scope.{Scope, binds, module_scope, meaning}
use Rattle.ll_polarity.specs.Reading.{Met, Read, read_name, read_term, read_terms, read_form, read_number, joined, module_in, number_in, quantified}
use Rattle.ll_polarity.specs.Asks.{ProgramPart, Named, read_clause, read_clauses, read_module, read_modules, module_names, part_of, kind_of}

-- ---- printing

pair-bare : (n : Identifier) (rs : RawList) → is_pair (head (bare_identifier n) (bare_raws rs)) ≡ is_pair (head n rs)
pair-bare n none = refl
pair-bare n (more x none) = refl
pair-bare n (more x (more y none)) = refl
pair-bare n (more x (more y (more z rs))) = refl

is-pair-bare : (r : Raw) → is_pair (bare_raw r) ≡ is_pair r
is-pair-bare (head n rs) = pair-bare n rs
is-pair-bare (truth at) = refl
is-pair-bare (erasure at) = refl
is-pair-bare (braces at r) = refl
is-pair-bare (universal at n r) = refl
is-pair-bare (existential at n r) = refl
is-pair-bare (load at n rs r) = refl
is-pair-bare (binary o at l r) = refl
is-pair-bare (is_goal at l r) = refl
is-pair-bare (less_goal at l r) = refl
is-pair-bare (most_goal at l r) = refl
is-pair-bare (anything at) = refl
is-pair-bare (int at z) = refl

has-bare : (r : Raw) → has_arguments (bare_raw r) ≡ has_arguments r
has-bare (head n none) = refl
has-bare (head n (more x rs)) = refl
has-bare (truth at) = refl
has-bare (erasure at) = refl
has-bare (braces at r) = refl
has-bare (universal at n r) = refl
has-bare (existential at n r) = refl
has-bare (load at n rs r) = refl
has-bare (binary o at l r) = refl
has-bare (is_goal at l r) = refl
has-bare (less_goal at l r) = refl
has-bare (most_goal at l r) = refl
has-bare (anything at) = refl
has-bare (int at z) = refl

mutual
  term-bare : (r : Raw) → term_text (bare_raw r) ≡ term_text r
  term-bare (head n rs) =
      let p = pair-bare n rs in let q = pair-shown rs in let a = arguments-bare rs in
      ap (λ b. head_text b (bare_identifier n) (pair_text (bare_raws rs)) (arguments_text (bare_raws rs))) p
      ∙ (ap (λ z. head_text (is_pair (head n rs)) (bare_identifier n) z (arguments_text (bare_raws rs))) q
      ∙ (ap (λ z. head_text (is_pair (head n rs)) (bare_identifier n) (pair_text rs) z) a
      ∙ by (is_pair (head n rs)) n (pair_text rs) (arguments_text rs)))
    where
      by : (b : Bool) (n : Identifier) (p a : List ℕ) → head_text b (bare_identifier n) p a ≡ head_text b n p a
      by true n p a = refl
      by false n p a = refl
  term-bare (truth at) = refl
  term-bare (erasure at) = refl
  term-bare (braces at r) = refl
  term-bare (universal at n r) = refl
  term-bare (existential at n r) = refl
  term-bare (load at n rs r) = refl
  term-bare (binary o at l r) = refl
  term-bare (is_goal at l r) = refl
  term-bare (less_goal at l r) = refl
  term-bare (most_goal at l r) = refl
  term-bare (anything at) = refl
  term-bare (int at z) = refl

  arguments-bare : (rs : RawList) → arguments_text (bare_raws rs) ≡ arguments_text rs
  arguments-bare none = refl
  arguments-bare (more r rs) =
      ap (λ b. codes " " ++ (bracketed b (term_text (bare_raw r)) ++ arguments_text (bare_raws rs))) (has-bare r)
      ∙ (ap (λ z. codes " " ++ (bracketed (has_arguments r) z ++ arguments_text (bare_raws rs))) (term-bare r)
      ∙ ap (λ z. codes " " ++ (bracketed (has_arguments r) (term_text r) ++ z)) (arguments-bare rs))

  pair-shown : (rs : RawList) → pair_text (bare_raws rs) ≡ pair_text rs
  pair-shown none = refl
  pair-shown (more r none) = refl
  pair-shown (more r (more s rs)) =
      ap (λ b. bracketed b (term_text (bare_raw r)) ++ (codes "::" ++ term_text (bare_raw s))) (is-pair-bare r)
      ∙ (ap (λ z. bracketed (is_pair r) z ++ (codes "::" ++ term_text (bare_raw s))) (term-bare r)
      ∙ ap (λ z. bracketed (is_pair r) (term_text r) ++ (codes "::" ++ z)) (term-bare s))

sum-bare : (r : Raw) → is_sum (bare_raw r) ≡ is_sum r
sum-bare (head n none) = refl
sum-bare (head n (more x none)) = refl
sum-bare (head n (more x (more y none))) = refl
sum-bare (head n (more x (more y (more z rs)))) = refl
sum-bare (truth at) = refl
sum-bare (erasure at) = refl
sum-bare (braces at r) = refl
sum-bare (universal at n r) = refl
sum-bare (existential at n r) = refl
sum-bare (load at n rs r) = refl
sum-bare (binary o at l r) = refl
sum-bare (is_goal at l r) = refl
sum-bare (less_goal at l r) = refl
sum-bare (most_goal at l r) = refl
sum-bare (anything at) = refl
sum-bare (int at z) = refl

product-bare : (r : Raw) → is_product (bare_raw r) ≡ is_product r
product-bare (head n none) = refl
product-bare (head n (more x none)) = refl
product-bare (head n (more x (more y none))) = refl
product-bare (head n (more x (more y (more z rs)))) = refl
product-bare (truth at) = refl
product-bare (erasure at) = refl
product-bare (braces at r) = refl
product-bare (universal at n r) = refl
product-bare (existential at n r) = refl
product-bare (load at n rs r) = refl
product-bare (binary o at l r) = refl
product-bare (is_goal at l r) = refl
product-bare (less_goal at l r) = refl
product-bare (most_goal at l r) = refl
product-bare (anything at) = refl
product-bare (int at z) = refl

mutual
  expr-bare : (r : Raw) → expr_text (bare_raw r) ≡ expr_text r
  expr-bare (head n rs) = sides-bare n.text rs
  expr-bare (truth at) = refl
  expr-bare (erasure at) = refl
  expr-bare (braces at r) = refl
  expr-bare (universal at n r) = refl
  expr-bare (existential at n r) = refl
  expr-bare (load at n rs r) = refl
  expr-bare (binary o at l r) = refl
  expr-bare (is_goal at l r) = refl
  expr-bare (less_goal at l r) = refl
  expr-bare (most_goal at l r) = refl
  expr-bare (anything at) = refl
  expr-bare (int at z) = refl

  sides-bare : (w : List ℕ) (rs : RawList) → sides_text w (bare_raws rs) ≡ sides_text w rs
  sides-bare w none = refl
  sides-bare w (more x none) = refl
  sides-bare w (more x (more y (more z rs))) = refl
  sides-bare w (more x (more y none)) =
      let a = sum-bare x in let b = sum-bare y in let c = product-bare y in let e = expr-bare x in let f = expr-bare y in
      rw (a, b, c, e, f) refl

form-bare : (s : Rank) (f : Bool) (r : Raw) → formula_text s f (bare_raw r) ≡ formula_text s f r
form-bare s f (truth at) = refl
form-bare s f (erasure at) = refl
form-bare s f (braces at g) = ap (λ z. codes "{" ++ (z ++ codes "}")) (form-bare clauses false g)
form-bare s f (universal at n g) = ap (λ z. bracketed f (codes "forall" ++ bound_text n z)) (form-bare clauses false g)
form-bare s f (existential at n g) = ap (λ z. bracketed f (codes "exists" ++ bound_text n z)) (form-bare clauses false g)
form-bare s f (load at n rs g) =
    let b = is_looser arrows s in
    ap (λ z. bracketed b (n.text ++ (z ++ between (codes "-->") (formula_text arrows (cond b false f) (bare_raw g))))) (arguments-bare rs)
    ∙ ap (λ z. bracketed b (n.text ++ (arguments_text rs ++ between (codes "-->") z))) (form-bare arrows (cond b false f) g)
form-bare s f (binary o at l r) =
    let b = is_looser (op_rank o) s in
    ap (λ z. bracketed b (z ++ between (op_bytes o) (formula_text (right_rank o) (cond b false f) (bare_raw r)))) (form-bare (left_rank o) true l)
    ∙ ap (λ z. bracketed b (formula_text (left_rank o) true l ++ between (op_bytes o) z)) (form-bare (right_rank o) (cond b false f) r)
form-bare s f (head n rs) = ap (λ z. n.text ++ z) (arguments-bare rs)
form-bare s f (anything at) = refl
form-bare s f (int at z) = refl
form-bare s f (is_goal at l r) =
    ap (λ z. z ++ between (codes "is") (expr_text (bare_raw r))) (expr-bare l) ∙ ap (λ z. expr_text l ++ between (codes "is") z) (expr-bare r)
form-bare s f (less_goal at l r) =
    ap (λ z. z ++ between (codes "<") (expr_text (bare_raw r))) (expr-bare l) ∙ ap (λ z. expr_text l ++ between (codes "<") z) (expr-bare r)
form-bare s f (most_goal at l r) =
    ap (λ z. z ++ between (codes "=<") (expr_text (bare_raw r))) (expr-bare l) ∙ ap (λ z. expr_text l ++ between (codes "=<") z) (expr-bare r)

names-bare : (ns : List Identifier) → names_text (map bare_identifier ns) ≡ names_text ns
names-bare [] = refl
names-bare (n ∷ ns) = ap (λ z. codes " " ++ (n.text ++ z)) (names-bare ns)

clause-bare : (c : ClauseTree) → clause_text (bare_clause c) ≡ clause_text c
clause-bare c =
    ap (λ z. if c.linear then codes "LINEAR" ++ (codes " " ++ (z ++ line_end)) else z ++ line_end) (form-bare clauses false c.form)

clauses-bare : (cs : List ClauseTree) → clauses_text (map bare_clause cs) ≡ clauses_text cs
clauses-bare [] = refl
clauses-bare (c ∷ cs) = ap (λ z. z ++ clauses_text (map bare_clause cs)) (clause-bare c) ∙ ap (λ z. clause_text c ++ z) (clauses-bare cs)

locals-bare : (ns : List Identifier) → locals_text (map bare_identifier ns) ≡ locals_text ns
locals-bare [] = refl
locals-bare (n ∷ ns) = ap (λ z. codes "LOCAL" ++ z) (names-bare (n ∷ ns))

module-bare : (m : ModuleTree) → module_text (bare_module m) ≡ module_text m
module-bare m =
    ap (λ z. (codes "MODULE" ++ z) ++ (locals_text (map bare_identifier m.locals) ++ clauses_text (map bare_clause m.clauses))) (names-bare (m.name ∷ m.params))
    ∙ (ap (λ z. (codes "MODULE" ++ names_text (m.name ∷ m.params)) ++ (z ++ clauses_text (map bare_clause m.clauses))) (locals-bare m.locals)
    ∙ ap (λ z. (codes "MODULE" ++ names_text (m.name ∷ m.params)) ++ (locals_text m.locals ++ z)) (clauses-bare m.clauses))

modules-bare : (ms : List ModuleTree) → modules_text (map bare_module ms) ≡ modules_text ms
modules-bare [] = refl
modules-bare (m ∷ ms) = ap (λ z. z ++ modules_text (map bare_module ms)) (module-bare m) ∙ ap (λ z. module_text m ++ z) (modules-bare ms)

pub printed-bare : (p : ProgramTree) → program_text (bare_program p) ≡ program_text p
printed-bare p =
    ap (λ z. z ++ modules_text (map bare_module p.modules)) (clauses-bare p.clauses) ∙ ap (λ z. clauses_text p.clauses ++ z) (modules-bare p.modules)

-- ---- what is read

mutual
  read-term-bare : (scope : Scope) (met : Met) (r : Raw) → read_term scope met (bare_raw r) ≡ read_term scope met r
  read-term-bare scope met (head n args) =
      let f = read_name (meaning scope n.text) met n.text in
      ap (λ (ts : Read (List Term)). let x : Read Term = record { it = apply f.it ts.it; met = ts.met } in x) (read-terms-bare scope f.met args)
  read-term-bare scope met (anything at) = refl
  read-term-bare scope met (int at z) = refl
  read-term-bare scope met (truth at) = refl
  read-term-bare scope met (erasure at) = refl
  read-term-bare scope met (braces at r) = refl
  read-term-bare scope met (universal at n r) = refl
  read-term-bare scope met (existential at n r) = refl
  read-term-bare scope met (load at m args r) = refl
  read-term-bare scope met (binary o at l r) = refl
  read-term-bare scope met (is_goal at l r) = refl
  read-term-bare scope met (less_goal at l r) = refl
  read-term-bare scope met (most_goal at l r) = refl

  read-terms-bare : (scope : Scope) (met : Met) (rs : RawList) → read_terms scope met (bare_raws rs) ≡ read_terms scope met rs
  read-terms-bare scope met none = refl
  read-terms-bare scope met (more r rs) =
      let next : Read Term → Read (List Term) = λ t. let ts = read_terms scope t.met (bare_raws rs) in record { it = t.it ∷ ts.it; met = ts.met } in
      let t = read_term scope met r in
      ap next (read-term-bare scope met r)
      ∙ ap (λ (ts : Read (List Term)). let x : Read (List Term) = record { it = t.it ∷ ts.it; met = ts.met } in x) (read-terms-bare scope t.met rs)

read-number-bare : (q : Relation) (scope : Scope) (met : Met) (l r : Raw) → read_number q scope met (bare_raw l) (bare_raw r) ≡ read_number q scope met l r
read-number-bare q scope met l r =
    let next : Read Term → Read Form = λ t. let u = read_term scope t.met (bare_raw r) in record { it = Num q t.it u.it; met = u.met } in
    let t = read_term scope met l in
    ap next (read-term-bare scope met l)
    ∙ ap (λ (u : Read Term). let x : Read Form = record { it = Num q t.it u.it; met = u.met } in x) (read-term-bare scope t.met r)

module _ (ms : List (List ℕ)) where
  read-form-bare : (scope : Scope) (met : Met) (r : Raw) → read_form ms scope met (bare_raw r) ≡ read_form ms scope met r
  read-form-bare scope met (truth at) = refl
  read-form-bare scope met (erasure at) = refl
  read-form-bare scope met (braces at r) =
      ap (λ (g : Read Form). let x : Read Form = record { it = Form.Bang g.it; met = g.met } in x) (read-form-bare scope met r)
  read-form-bare scope met (universal at n r) =
      ap (λ (g : Read Form). let x : Read Form = record { it = Form.Forall g.it; met = g.met } in x) (read-form-bare (binds n.text ∷ scope) met r)
  read-form-bare scope met (existential at n r) =
      ap (λ (g : Read Form). let x : Read Form = record { it = Form.Exists g.it; met = g.met } in x) (read-form-bare (binds n.text ∷ scope) met r)
  read-form-bare scope met (load at m args r) =
      let next : Read (List Term) → Read Form =
      λ ts. let g = read_form ms scope ts.met (bare_raw r) in record { it = Use (module_in ms m.text) ts.it g.it; met = g.met } in
      let ts = read_terms scope met args in
      ap next (read-terms-bare scope met args)
      ∙ ap (λ (g : Read Form). let x : Read Form = record { it = Use (module_in ms m.text) ts.it g.it; met = g.met } in x) (read-form-bare scope ts.met r)
  read-form-bare scope met (binary o at l r) =
      let next : Read Form → Read Form = λ f. let g = read_form ms scope f.met (bare_raw r) in record { it = joined o f.it g.it; met = g.met } in
      let f = read_form ms scope met l in
      ap next (read-form-bare scope met l)
      ∙ ap (λ (g : Read Form). let x : Read Form = record { it = joined o f.it g.it; met = g.met } in x) (read-form-bare scope f.met r)
  read-form-bare scope met (is_goal at l r) = read-number-bare Is scope met l r
  read-form-bare scope met (less_goal at l r) = read-number-bare Less scope met l r
  read-form-bare scope met (most_goal at l r) = read-number-bare Most scope met l r
  read-form-bare scope met (head n args) =
      ap (λ (a : Read Term). let x : Read Form = record { it = Form.Atom a.it; met = a.met } in x) (read-term-bare scope met (head n args))
  read-form-bare scope met (anything at) = refl
  read-form-bare scope met (int at z) = refl

module _ (ms : List (List ℕ)) where
  read-clause-bare : (scope : Scope) (names : List (List ℕ)) (c : ClauseTree) → read_clause ms scope names (bare_clause c) ≡ read_clause ms scope names c
  read-clause-bare scope names c =
      ap (λ (r : Read Form). let x : Named laws.ClauseTree = record {
        it = record { kind = kind_of c.linear; form = quantified (length r.met.variables) r.it };
        names = r.met.names;
      } in x) (read-form-bare ms scope (record { names = names; variables = [] }) c.form)

  read-clauses-bare : (scope : Scope) (names : List (List ℕ)) (cs : List ClauseTree)
      → read_clauses ms scope names (map bare_clause cs) ≡ read_clauses ms scope names cs
  read-clauses-bare scope names [] = refl
  read-clauses-bare scope names (c ∷ cs) =
      let next : Named laws.ClauseTree → Named (List laws.ClauseTree) =
      λ r. let rs = read_clauses ms scope r.names (map bare_clause cs) in record { it = r.it ∷ rs.it; names = rs.names } in
      let r = read_clause ms scope names c in
      ap next (read-clause-bare scope names c)
      ∙ ap (λ (rs : Named (List laws.ClauseTree)). let x : Named (List laws.ClauseTree) = record { it = r.it ∷ rs.it; names = rs.names } in x)
      (read-clauses-bare scope r.names cs)

  read-module-bare : (names : List (List ℕ)) (m : ModuleTree) → read_module ms names (bare_module m) ≡ read_module ms names m
  read-module-bare names m =
      let named = with_name names m.name.text in
      let all : Named (List laws.ClauseTree) → ℕ → ℕ → Named laws.ModuleTree =
      λ cs p l. record { it = record { name = number_in named m.name.text; params = p; locals = l; clauses = cs.it }; names = cs.names } in
      ap (λ z. all (read_clauses ms z named (map bare_clause m.clauses)) (length (map bare_identifier m.params)) (length (map bare_identifier m.locals)))
      (scope-bare m)
      ∙ (ap (λ z. all z (length (map bare_identifier m.params)) (length (map bare_identifier m.locals))) (read-clauses-bare (module_scope m) named m.clauses)
      ∙ (ap (λ z. all (read_clauses ms (module_scope m) named m.clauses) z (length (map bare_identifier m.locals))) (length-map m.params bare_identifier)
      ∙ ap (λ z. all (read_clauses ms (module_scope m) named m.clauses) (length m.params) z) (length-map m.locals bare_identifier)))

  read-modules-bare : (names : List (List ℕ)) (rest : List ModuleTree) → read_modules ms names (map bare_module rest) ≡ read_modules ms names rest
  read-modules-bare names [] = refl
  read-modules-bare names (m ∷ rest) =
      let next : Named laws.ModuleTree → Named (List laws.ModuleTree) =
      λ r. let rs = read_modules ms r.names (map bare_module rest) in record { it = r.it ∷ rs.it; names = rs.names } in
      let r = read_module ms names m in
      ap next (read-module-bare names m)
      ∙ ap (λ (rs : Named (List laws.ModuleTree)). let x : Named (List laws.ModuleTree) = record { it = r.it ∷ rs.it; names = rs.names } in x)
      (read-modules-bare r.names rest)

-- the part of a problem that the program fixes
pub part-bare : (p : ProgramTree) → part_of (bare_program p) ≡ part_of p
part-bare p =
    let ns = module_names p in
    let mods : Named (List laws.ClauseTree) → Named (List laws.ModuleTree) → ProgramPart =
    λ cs ms. record { names = ms.names; modules = ms.it; clauses = cs.it } in
    let of : List (List ℕ) → ProgramPart =
    λ z. let cs = read_clauses z [] [] (map bare_clause p.clauses) in mods cs (read_modules z cs.names (map bare_module p.modules)) in
    ap of (map_map (λ (m : ModuleTree). m.name.text) bare_module p.modules)
    ∙ (ap (λ (cs : Named (List laws.ClauseTree)). mods cs (read_modules ns cs.names (map bare_module p.modules))) (read-clauses-bare ns [] [] p.clauses)
    ∙ ap (mods (read_clauses ns [] [] p.clauses)) (read-modules-bare ns (read_clauses ns [] [] p.clauses).names p.modules))
