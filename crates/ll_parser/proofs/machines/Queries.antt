-- The machine for queries over parse trees decides the queries.
use Rattle.std.proofs.Common.{◌≡◌, List, [], ◌∷◌, ◌++◌, Option, Some, None, option_and_then, option_map, refl, sym, ◌∙◌, ap, append-nil, IfSome}
use Rattle.ll_lexer.specs.declared.Place.{Place}
use Rattle.ll_parser.specs.Tokens.{Tok, dot}
use Rattle.ll_parser.specs.Grammar.{formula_tokens}
use Rattle.ll_parser.specs.Text.{Query, bare, dotted, query_tokens, query_tree, queries}
use Rattle.ll_parser.specs.FlatText.{FlatQuery, asking, ended, query_start, query_step, query_final}
use Rattle.ll_parser.proofs.machines.Machine.{State, Closed, closed, step, final, parse, run, start}
use Rattle.ll_parser.proofs.machines.Sound.{so_far, step-adds, AddsTo}
use Rattle.ll_parser.proofs.machines.Viable.{closed_tokens, final-tokens, can_end}
use Rattle.ll_parser.proofs.machines.Agrees.{flat, closed_raw, step-agrees, final-agrees}
use Rattle.ll_parser.proofs.machines.ProgramFound.{no-dot, formula-runs, split-run}
use Rattle.ll_parser.proofs.machines.Decides.{parse_by, Decides}

-- what has been read of a query: in its formula, or behind its dot
pub data Asking : Type 0 where
  inside : State → Asking
  finished : Query → Asking

abbrev pub bare_query : Closed → Query
bare_query (closed f) = bare f

abbrev pub dotted_query : Place → Closed → Query
dotted_query end (closed f) = dotted f end

-- the dot behind the formula
abbrev pub finish : Option Closed → Place → Option Asking
finish None end = None
finish (Some c) end = Some (finished (dotted_query end c))

abbrev pub ask : Asking → Tok → Option Asking
ask (inside s) (dot end) = finish (final s) end
ask (inside s) t = option_map inside (step s t)
ask (finished q) _ = None

abbrev pub answer : Asking → Option Query
answer (inside s) = option_map bare_query (final s)
answer (finished q) = Some q

abbrev pub read_query : Asking → List Tok → Option Query
read_query a ts = parse_by ask answer a ts

-- ---- each query is found again

inside-asks : (s n : State) (t : Tok) → step s t ≡ Some n → ask (inside s) t ≡ Some (inside n)
inside-asks s n (dot end) e = let h : None ≡ Some n = sym (no-dot s end) ∙ e in absurd cc
inside-asks s n t e = ap (option_map inside) e

run-asks : (xs : List Tok) (s n : State) (ts : List Tok) → run s xs ≡ Some n → read_query (inside s) (xs ++ ts) ≡ read_query (inside n) ts
run-asks [] s n ts e = let h : s ≡ n = cc in ap (λ z. read_query (inside z) ts) h
run-asks (t ∷ xs) s n ts e =
    let x = split-run (step s t) xs n e in
    ap (option_and_then (λ next. read_query next (xs ++ ts))) (inside-asks s x.0 t x.1) ∙ run-asks xs x.0 n ts x.2

query-found : (q : Query) → read_query (inside start) (query_tokens q) ≡ Some q
query-found (bare f) =
    let x = formula-runs f in
    ap (read_query (inside start)) (sym (append-nil (formula_tokens f))) ∙ run-asks (formula_tokens f) start x.0 [] x.1 ∙ ap (option_map bare_query) x.2
query-found (dotted f end) =
    let x = formula-runs f in
    run-asks (formula_tokens f) start x.0 (dot end ∷ []) x.1 ∙ ap (λ z. option_and_then (λ next. read_query next []) (finish z end)) x.2

-- ---- each state holds the tokens that were taken

abbrev asked : Asking → List Tok
asked (inside s) = so_far s
asked (finished q) = query_tokens q

abbrev Extends : List Tok → Tok → Option Asking → Type 0
Extends xs t o = IfSome o (λ n. asked n ≡ xs ++ t ∷ [])

inside-adds : (xs : List Tok) (t : Tok) (o : Option State) → AddsTo xs t o → Extends xs t (option_map inside o)
inside-adds xs t None h = tt
inside-adds xs t (Some n) h = h

finish-adds : (xs : List Tok) (end : Place) (o : Option Closed) → IfSome o (λ c. closed_tokens c ≡ xs) → Extends xs (dot end) (finish o end)
finish-adds xs end None h = tt
finish-adds xs end (Some (closed f)) h = ap (λ z. z ++ dot end ∷ []) h

ask-adds : (a : Asking) (t : Tok) → Extends (asked a) t (ask a t)
ask-adds (inside s) (dot end) = finish-adds (so_far s) end (final s) (final-tokens s)
ask-adds (inside s) t = inside-adds (so_far s) t (step s t) (step-adds s t)
ask-adds (finished q) _ = tt

bare-tokens : (xs : List Tok) (o : Option Closed) → IfSome o (λ c. closed_tokens c ≡ xs) → IfSome (option_map bare_query o) (λ q. query_tokens q ≡ xs)
bare-tokens xs None h = tt
bare-tokens xs (Some (closed f)) h = h

answer-tokens : (a : Asking) → IfSome (answer a) (λ q. query_tokens q ≡ asked a)
answer-tokens (inside s) = bare-tokens (so_far s) (final s) (final-tokens s)
answer-tokens (finished q) = refl

-- ---- each state can be completed

parse-asks : (ts : List Tok) (s : State) (c : Closed) → parse s ts ≡ Some c → read_query (inside s) ts ≡ Some (bare_query c)
parse-asks [] s c e = ap (option_map bare_query) e
parse-asks (t ∷ ts) s c e =
    let x = next-parse (step s t) e in
    ap (option_and_then (λ next. read_query next ts)) (inside-asks s x.0 t x.1) ∙ parse-asks ts x.0 c x.2
  where
    next-parse : (o : Option State) → option_and_then (λ n. parse n ts) o ≡ Some c → (n : State) × (o ≡ Some n) × (parse n ts ≡ Some c)
    next-parse None h = absurd cc
    next-parse (Some n) h = (n, refl, h)

can_answer : (a : Asking) → (more : List Tok) × (q : Query) × (read_query a more ≡ Some q)
can_answer (inside s) = let c = can_end s in (c.more, bare_query c.formula, parse-asks c.more s c.formula c.parses)
can_answer (finished q) = ([], q, refl)

-- ---- the machine over raw trees does the same

abbrev flat_query : Asking → FlatQuery
flat_query (inside s) = asking (flat s)
flat_query (finished q) = ended (query_tree q)

inside-agrees : (o : Option State) → option_map asking (option_map flat o) ≡ option_map flat_query (option_map inside o)
inside-agrees None = refl
inside-agrees (Some s) = refl

finish-agrees : (o : Option Closed) (end : Place) → option_map ended (option_map closed_raw o) ≡ option_map flat_query (finish o end)
finish-agrees None end = refl
finish-agrees (Some (closed f)) end = refl

ask-agrees : (a : Asking) (t : Tok) → query_step (flat_query a) t ≡ option_map flat_query (ask a t)
ask-agrees (inside s) (dot end) = ap (option_map ended) (final-agrees s) ∙ finish-agrees (final s) end
ask-agrees (inside s) t = ap (option_map asking) (step-agrees s t) ∙ inside-agrees (step s t)
ask-agrees (finished q) _ = refl

bare-agrees : (o : Option Closed) → option_map closed_raw o ≡ option_map query_tree (option_map bare_query o)
bare-agrees None = refl
bare-agrees (Some (closed f)) = refl

answer-agrees : (a : Asking) → query_final (flat_query a) ≡ option_map query_tree (answer a)
answer-agrees (inside s) = final-agrees s ∙ bare-agrees (final s)
answer-agrees (finished q) = refl

pub decides-queries : Decides queries FlatQuery query_start query_step query_final
decides-queries = record {
  State = Asking;
  start = inside start;
  step = ask;
  final = answer;
  found = query-found;
  so_far = asked;
  nothing = refl;
  adds = ask-adds;
  has_all = answer-tokens;
  completes = can_answer;
  flat = flat_query;
  begins_flat = refl;
  steps_flat = ask-agrees;
  ends_flat = answer-agrees;
}
