-- Each state can still be completed, and a run is what the tokens say.
use Rattle.std.proofs.Common.{◌≡◌, Bool, false, List, [], ◌∷◌, ◌++◌, Option, Some, None, option_and_then, refl, ◌∙◌, append_assoc, append-nil, IfSome}
use Rattle.ll_lexer.specs.declared.Place.{Place}
use Rattle.ll_parser.specs.Tokens.{Identifier, Tok, name, true_word, paren_right, brace_right, backslash, any, less_sign}
use Rattle.ll_parser.specs.Grammar.{lower, and_then, simple_bracket, of_app, App, applied, app_any, app_bracket, Formula, Primary, truly, bracket, brace}
use Rattle.ll_parser.specs.Grammar.{quantified, atom, formula_tokens, by_less, plain_any, of_product, of_item, item_plain, item_bracket, tested, Lead, Expr}
use Rattle.ll_parser.proofs.machines.Machine.{Scope, fresh, Frame, in_bracket, in_brace, in_quantifier, Cell, TermFrame, in_argument, in_group, Base, base}
use Rattle.ll_parser.proofs.machines.Machine.{State, want, whole, binder, slash, term_want, term_whole, up_to_formula, fold_cells, Shut, at_bottom, at_bracket}
use Rattle.ll_parser.proofs.machines.Machine.{at_brace, shut, shut_end, shut_whole, Closed, closed, step, final, parse, run, start, Around, on_right, within}
use Rattle.ll_parser.proofs.machines.Machine.{Inside, in_lead, in_item, led, lead_want, expr_want, expr_whole, fill, fill_lead, sided, settled}
use Rattle.ll_parser.proofs.machines.Complete.{Closes, at_end, at_right, at_brace_right, resume, whole-closes}
use Rattle.ll_parser.proofs.machines.Sound.{so_far, shut_tokens, shut-whole-tokens, step-adds, AddsTo}

abbrev pub closed_tokens : Closed → List Tok
closed_tokens (closed f) = formula_tokens f

end-tokens : (h : Shut) → IfSome (shut_end h) (λ q. closed_tokens q ≡ shut_tokens h)
end-tokens (at_bottom f) = refl
end-tokens (at_bracket f at s k) = tt
end-tokens (at_brace f at s k) = tt

pub final-tokens : (s : State) → IfSome (final s) (λ q. closed_tokens q ≡ so_far s)
final-tokens (whole p s k) = rw (← shut-whole-tokens p s k) (end-tokens (shut_whole p s k))
final-tokens (want s k) = tt
final-tokens (binder q at s k) = tt
final-tokens (slash q at w s k) = tt
final-tokens (term_want cs tk b) = tt
final-tokens (term_whole a cs tk b) = tt
final-tokens (led l s k) = tt
final-tokens (lead_want h s k) = tt
final-tokens (expr_want h a s k) = tt
final-tokens (expr_whole e i s k) = tt

parse-next : (o : Option State) (ts : List Tok) (xs : List Tok) → ((s : State) → IfSome (parse s ts) (λ q. closed_tokens q ≡ so_far s ++ ts)) → (t : Tok)
    → AddsTo xs t o → IfSome (option_and_then (λ next. parse next ts) o) (λ q. closed_tokens q ≡ xs ++ t ∷ ts)
parse-next None ts xs ih t h = tt
parse-next (Some s) ts xs ih t h = let e : so_far s ++ ts ≡ xs ++ t ∷ ts = rw h (rw append_assoc refl) in rw (← e) (ih s)

pub parse-tokens : (ts : List Tok) (s : State) → IfSome (parse s ts) (λ q. closed_tokens q ≡ so_far s ++ ts)
parse-tokens [] s = rw append-nil (final-tokens s)
parse-tokens (t ∷ ts) s = parse-next (step s t) ts (so_far s) (parse-tokens ts) t (step-adds s t)

pub sound : (ts : List Tok) (q : Closed) → parse start ts ≡ Some q → closed_tokens q ≡ ts
sound ts q e = let h = parse-tokens ts start in rw e at h

run-next : (o : Option State) (ts us : List Tok) → ((s : State) → parse s (ts ++ us) ≡ option_and_then (λ next. parse next us) (run s ts))
    → option_and_then (λ next. parse next (ts ++ us)) o ≡ option_and_then (λ next. parse next us) (option_and_then (λ next. run next ts) o)
run-next None ts us ih = refl
run-next (Some s) ts us ih = ih s

pub run-parse : (ts us : List Tok) (s : State) → parse s (ts ++ us) ≡ option_and_then (λ next. parse next us) (run s ts)
run-parse [] us s = refl
run-parse (t ∷ ts) us s = run-next (step s t) ts us (run-parse ts us)

somewhere : Place
somewhere = record { line = 1; column = 1 }

pub record CanClose (h : Shut) : Type 0 where
  pub more : List Tok
  pub closes : Closes more
  pub formula : Closed
  pub resumes : resume h more ≡ Some formula

can_close : {o : Bool} (k : List Frame) (f : Formula o) → CanClose (shut k f)
can_close [] f = record { more = []; closes = at_end; formula = closed f; resumes = refl }
can_close (in_bracket at s ∷ k) f =
    let c = can_close k (up_to_formula s (bracket at f somewhere)) in
    record {
      more = paren_right somewhere ∷ c.more;
      closes = at_right somewhere c.more;
      formula = c.formula;
      resumes =
          whole-closes (bracket at f somewhere) s k c.more c.closes ∙ c.resumes;
    }
can_close (in_brace at s ∷ k) f =
    let c = can_close k (up_to_formula s (brace at f somewhere)) in
    record {
      more = brace_right somewhere ∷ c.more;
      closes = at_brace_right somewhere c.more;
      formula = c.formula;
      resumes =
          whole-closes (brace at f somewhere) s k c.more c.closes ∙ c.resumes;
    }
can_close (in_quantifier q at w sl s ∷ k) f = can_close k (up_to_formula s (quantified q at w sl f))

pub record CanEnd (s : State) : Type 0 where
  pub more : List Tok
  pub formula : Closed
  pub parses : parse s more ≡ Some formula

whole_can : (p : Primary false) (s : Scope) (k : List Frame) → CanEnd (whole p s k)
whole_can p s k =
    let c = can_close k (up_to_formula s p) in
    record { more = c.more; formula = c.formula; parses = whole-closes p s k c.more c.closes ∙ c.resumes }

want_can : (s : Scope) (k : List Frame) → CanEnd (want s k)
want_can s k =
    let c = whole_can (truly somewhere) s k in
    record { more = true_word somewhere ∷ c.more; formula = c.formula; parses = c.parses }

term_whole_can : (tk : List TermFrame) (a : App) (cs : List Cell) (b : Base) → CanEnd (term_whole a cs tk b)
term_whole_can [] a cs (base at w ss s k) =
    let c = whole_can (atom w (and_then ss (simple_bracket at (fold_cells cs (of_app a)) somewhere))) s k in
    record { more = paren_right somewhere ∷ c.more; formula = c.formula; parses = c.parses }
term_whole_can (in_argument at w ss ds ∷ tk) a cs b =
    let c = term_whole_can tk (applied w (and_then ss (simple_bracket at (fold_cells cs (of_app a)) somewhere))) ds b in
    record { more = paren_right somewhere ∷ c.more; formula = c.formula; parses = c.parses }
term_whole_can (in_group at ds ∷ tk) a cs b =
    let c = term_whole_can tk (app_bracket at (fold_cells cs (of_app a)) somewhere) ds b in
    record { more = paren_right somewhere ∷ c.more; formula = c.formula; parses = c.parses }

led_can : (l : Lead) (s : Scope) (k : List Frame) → CanEnd (led l s k)
led_can l s k =
    let c = whole_can (tested l by_less somewhere (of_product (of_item (item_plain (plain_any somewhere))))) s k in
    record { more = less_sign somewhere ∷ any somewhere ∷ c.more; formula = c.formula; parses = c.parses }

mutual
  settled_can : (e : Expr) (a : Around) (s : Scope) (k : List Frame) → CanEnd (settled e a s k)
  settled_can e (on_right d) s k = whole_can (sided d e) s k
  settled_can e (within i) s k = inside_can e i s k

  inside_can : (e : Expr) (i : Inside) (s : Scope) (k : List Frame) → CanEnd (expr_whole e i s k)
  inside_can e (in_lead at h) s k =
      let c = led_can (fill_lead h (item_bracket at e somewhere)) s k in
      record { more = paren_right somewhere ∷ c.more; formula = c.formula; parses = c.parses }
  inside_can e (in_item at h a) s k =
      let c = settled_can (fill h (item_bracket at e somewhere)) a s k in
      record { more = paren_right somewhere ∷ c.more; formula = c.formula; parses = c.parses }

pub can_end : (s : State) → CanEnd s
can_end (want s k) = want_can s k
can_end (whole p s k) = whole_can p s k
can_end (binder q at s k) =
    let n : Identifier = record { text = []; at = somewhere } in
    let c = want_can fresh (in_quantifier q at (lower n) somewhere s ∷ k) in
    record { more = name n ∷ backslash somewhere ∷ c.more; formula = c.formula; parses = c.parses }
can_end (slash q at w s k) =
    let c = want_can fresh (in_quantifier q at w somewhere s ∷ k) in
    record { more = backslash somewhere ∷ c.more; formula = c.formula; parses = c.parses }
can_end (term_want cs tk b) =
    let c = term_whole_can tk (app_any somewhere) cs b in
    record { more = any somewhere ∷ c.more; formula = c.formula; parses = c.parses }
can_end (term_whole a cs tk b) = term_whole_can tk a cs b
can_end (led l s k) = led_can l s k
can_end (lead_want h s k) =
    let c = led_can (fill_lead h (item_plain (plain_any somewhere))) s k in
    record { more = any somewhere ∷ c.more; formula = c.formula; parses = c.parses }
can_end (expr_want h a s k) =
    let c = settled_can (fill h (item_plain (plain_any somewhere))) a s k in
    record { more = any somewhere ∷ c.more; formula = c.formula; parses = c.parses }
can_end (expr_whole e i s k) = inside_can e i s k
