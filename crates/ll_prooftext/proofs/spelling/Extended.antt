-- Texts of terms stay when names and terms are added.
use Rattle.std.proofs.Common.{◌≡◌, ℕ, zero, suc, ◌<◌, true, false, List, [], ◌∷◌, ◌++◌, length, All, refl, ap, sym, subst, ◌∙◌, arith, codes, append_assoc}
use Rattle.std.proofs.Common.{inl, inr, IsTrue}
use Rattle.std.specs.List.{flat_map}
use Rattle.std.proofs.lemmas.List.Elements.{All-head, All-tail}
use Rattle.std.specs.Str.{bytes_eq}
use Rattle.ll_bank.specs.declared.Head.{Head}
use Rattle.ll_bank.specs.declared.Head.TheVariants.{Name, Eigen, Bound}
use Rattle.ll_bank.specs.Term.{Term, Var, Int, Con, Ap, apply, app, is_spine, is_closed}
use Rattle.ll_bank.specs.Nodes.{Nodes, term_tree, Extends}
use Rattle.ll_bank.proofs.CallerLemmas.{HasTerm-extends, term_tree-extends}
use Rattle.ll_laws.specs.Output.{name_text, head_text, is_cons_head, is_cons, has_arguments, term_text, applied_text, argument_text}
use Rattle.ll_laws.specs.ProofText.{term_field}
use Rattle.ll_printer.specs.Stack.{arguments_text}
use Rattle.ll_printer.proofs.CallerLemmas.{applied_text-apply}
use Rattle.ll_lexer.specs.Spelling.{is_name, is_lower}
use Rattle.ll_prooftext.specs.Admitted.{IsPlainName, IsPlainHead, IsPairHead, IsSpelledTerm, IsSpelledSpine}
use Rattle.ll_prooftext.specs.Terms.{Grows, IsSpelledAt, text_at, argument_at}
use Rattle.ll_prooftext.proofs.spelling.Spellings.{name_full, name_shaped, apart}

-- ---- more names

text_kept : (names more : List (List ℕ)) (n : ℕ) → 0 < length (name_text names n) → name_text (names ++ more) n ≡ name_text names n
text_kept [] more n h = absurd (omega arith)
text_kept (x ∷ names) more zero h = refl
text_kept (x ∷ names) more (suc n) h = text_kept names more n h

cons_full : (names : List (List ℕ)) (n : ℕ) → IsTrue (is_cons_head names (Name n)) → 0 < length (name_text names n)
cons_full names n h = by_text (name_text names n) h
  where
    by_text : (w : List ℕ) → bytes_eq w (codes "::") ≡ true → 0 < length w
    by_text [] e = absurd cc
    by_text (b ∷ w) e = omega arith

-- a name is no `::`
pub plain_apart : (names : List (List ℕ)) (h : Head) → IsPlainHead names h → is_cons_head names h ≡ false
unfolding is_lower
plain_apart names (Name n) p = apart (name_text names n) (codes "::") (λ e. let s : false ≡ true =
    ap is_name (sym e) ∙ name_shaped (name_text names n) p.spelled in let y : ⊥ = cc in y)
plain_apart names (Eigen n) p = refl
plain_apart names (Bound n) p = absurd p

module _ (names more : List (List ℕ)) where
  abbrev pub grown : List (List ℕ)
  grown = names ++ more

  record KeptHead (h : Head) : Type 0 where
    pub text : head_text grown h ≡ head_text names h
    pub cons : is_cons_head grown h ≡ is_cons_head names h

  name_kept : (n : ℕ) → 0 < length (name_text names n) → KeptHead (Name n)
  name_kept n h = let e = text_kept names more n h in record { text = e; cons = ap (λ w. bytes_eq w (codes "::")) e }

  head_kept : (h : Head) → IsPairHead names h → KeptHead h
  head_kept (Name n) (inl p) = name_kept n (name_full (name_text names n) p)
  head_kept (Name n) (inr c) = name_kept n (cons_full names n c)
  head_kept (Eigen n) p = record { text = refl; cons = refl }
  head_kept (Bound n) p = record { text = refl; cons = refl }

  plain_kept : (h : Head) → IsPlainHead names h → IsPlainHead grown h
  plain_kept (Name n) p = let k : KeptHead (Name n) = head_kept (Name n) (inl p) in subst IsPlainName (sym k.text) p
  plain_kept (Eigen n) p = p
  plain_kept (Bound n) p = p

  pair_head_kept : (h : Head) → IsPairHead names h → IsPairHead grown h
  pair_head_kept h (inl p) = inl (plain_kept h p)
  pair_head_kept h (inr c) = inr ((head_kept h (inr c)).cons ∙ c)

  pub record KeptTerm (t : Term) : Type 0 where
    pub text : term_text grown t ≡ term_text names t
    pub cons : is_cons grown t ≡ is_cons names t
    pub spelled : IsSpelledTerm grown t

  pub record KeptSpine (t : Term) : Type 0 where
    pub text : applied_text grown t ≡ applied_text names t
    pub spelled : IsSpelledSpine grown t

  applied_kept : (f g a : List ℕ) (b : List ℕ) (t : Term) → f ≡ g → a ≡ b → f ++ codes " " ++ argument_text t a ≡ g ++ codes " " ++ argument_text t b
  applied_kept f g a b t e k = cc

  pair_kept : (h : Head) (x l : Term) → IsPairHead names h → KeptTerm x → KeptTerm l → KeptTerm (Ap (Ap (Con h) x) l)
  pair_kept h x l p kx kl =
      let k = head_kept h p in
      record {
        text =
            let a = k.text in let b = k.cons in let c = kx.text in let d = kx.cons in let e = kl.text in
            rw (a, b, c, d, e) refl;
        cons = k.cons;
        spelled = (pair_head_kept h p, (kx.spelled, kl.spelled));
      }

  mutual
    pub term_kept : (t : Term) → IsSpelledTerm names t → KeptTerm t
    term_kept (Var n) s = record { text = refl; cons = refl; spelled = s }
    term_kept (Int z) s = record { text = refl; cons = refl; spelled = s }
    term_kept (Con h) s = record { text = (head_kept h (inl s)).text; cons = refl; spelled = plain_kept h s }
    term_kept (Ap (Ap (Con h) x) l) s = pair_kept h x l s.0 (term_kept x s.1.0) (term_kept l s.1.1)
    term_kept (Ap f a) s =
        let g = spine_kept f s.0 in
        let b = term_kept a s.1 in
        record {
          text = applied_kept (applied_text grown f) (applied_text names f) (term_text grown a) (term_text names a) a g.text b.text;
          cons = refl;
          spelled = (g.spelled, b.spelled);
        }

    spine_kept : (f : Term) → IsSpelledSpine names f → KeptSpine f
    spine_kept (Var n) s = absurd s
    spine_kept (Int z) s = absurd s
    spine_kept (Con h) s = record { text = (head_kept h (inl s)).text; spelled = plain_kept h s }
    spine_kept (Ap f a) s =
        let g = spine_kept f s.0 in
        let b = term_kept a s.1 in
        record {
          text = applied_kept (applied_text grown f) (applied_text names f) (term_text grown a) (term_text names a) a g.text b.text;
          spelled =
              (g.spelled, b.spelled);
        }

pub head_on : (names new : List (List ℕ)) (h : Head) → Grows names new → IsPlainHead names h → IsPlainHead new h × (head_text new h ≡ head_text names h)
head_on names new h g p =
    let k = head_kept names g.more h (inl p) in
    (subst (λ ns. IsPlainHead ns h) (sym g.is) (plain_kept names g.more h p), ap (λ ns. head_text ns h) g.is ∙ k.text)

pub cons_on : (names new : List (List ℕ)) (n : ℕ) → Grows names new → IsTrue (is_cons_head names (Name n)) → IsTrue (is_cons_head new (Name n))
cons_on names new n g c = ap (λ ns. is_cons_head ns (Name n)) g.is ∙ ((head_kept names g.more (Name n) (inr c)).cons ∙ c)

-- ---- heads with arguments

abbrev no_cons : List (List ℕ) → Term → Type 0
no_cons names (Var n) = ⊥
no_cons names (Int z) = ⊥
no_cons names (Con h) = is_cons_head names h ≡ false
no_cons names (Ap f a) = no_cons names f

term_applied : (names : List (List ℕ)) (t : Term) → no_cons names t → term_text names t ≡ applied_text names t
term_applied names (Var n) p = refl
term_applied names (Int z) p = refl
term_applied names (Con h) p = refl
term_applied names (Ap (Ap (Con h) x) l) p = rw p refl
term_applied names (Ap f a) p = refl

pub arguments_fields : (names : List (List ℕ)) (ts : List Term) → arguments_text names ts ≡ flat_map (term_field names) ts
arguments_fields names [] = refl
arguments_fields names (t ∷ ts) = append_assoc (codes " ") (argument_text t (term_text names t)) (arguments_text names ts)
    ∙ ap (λ us. term_field names t ++ us) (arguments_fields names ts)

no_cons_apply : (names : List (List ℕ)) (f : Term) (ts : List Term) → no_cons names f → no_cons names (apply f ts)
no_cons_apply names f [] p = p
no_cons_apply names f (t ∷ ts) p = no_cons_apply names (Ap f t) ts p

pub app_text : (names : List (List ℕ)) (h : Head) (ts : List Term) → IsPlainHead names h
    → term_text names (app h ts) ≡ head_text names h ++ flat_map (term_field names) ts
app_text names h ts p = term_applied names (app h ts) (no_cons_apply names (Con h) ts (plain_apart names h p))
    ∙ (applied_text-apply names (Con h) ts ∙ ap (λ us. head_text names h ++ us) (arguments_fields names ts))

spine_term : (names : List (List ℕ)) (t : Term) → IsSpelledSpine names t → IsSpelledTerm names t
spine_term names (Var n) s = absurd s
spine_term names (Int z) s = absurd s
spine_term names (Con h) s = s
spine_term names (Ap (Ap (Con h) x) l) s = (inl s.0.0, (s.0.1, s.1))
spine_term names (Ap f a) s = s

spelled_apply : (names : List (List ℕ)) (f : Term) (ts : List Term) → IsSpelledSpine names f → All (IsSpelledTerm names) ts → IsSpelledSpine names (apply f ts)
spelled_apply names f [] s a = s
spelled_apply names f (t ∷ ts) s a = spelled_apply names (Ap f t) ts (s, All-head (IsSpelledTerm names) t ts a) (All-tail (IsSpelledTerm names) t ts a)

pub app_spelled : (names : List (List ℕ)) (h : Head) (ts : List Term) → IsPlainHead names h → All (IsSpelledTerm names) ts → IsSpelledTerm names (app h ts)
app_spelled names h ts p a = spine_term names (app h ts) (spelled_apply names (Con h) ts p a)

abbrev IsClosed : Term → Type 0
IsClosed t = is_closed t ≡ true

closed_apply : (f : Term) (ts : List Term) → is_spine f ≡ true → is_closed f ≡ true → All IsClosed ts → is_closed (apply f ts) ≡ true
closed_apply f [] s c a = c
closed_apply f (t ∷ ts) s c a =
    let d : is_closed t ≡ true = All-head IsClosed t ts a in
    closed_apply (Ap f t) ts s (rw (s, c, d) refl) (All-tail IsClosed t ts a)

plain_closed : (names : List (List ℕ)) (h : Head) → IsPlainHead names h → is_closed (Con h) ≡ true
plain_closed names (Name n) p = refl
plain_closed names (Eigen n) p = refl
plain_closed names (Bound n) p = absurd p

pub app_closed : (names : List (List ℕ)) (h : Head) (ts : List Term) → IsPlainHead names h → All IsClosed ts → is_closed (app h ts) ≡ true
app_closed names h ts p a = closed_apply (Con h) ts refl (plain_closed names h p) a

apply_has : (f : Term) (ts : List Term) → has_arguments f ≡ true → has_arguments (apply f ts) ≡ true
apply_has f [] h = h
apply_has f (t ∷ ts) h = apply_has (Ap f t) ts refl

pub app_has : (h : Head) (t : Term) (ts : List Term) → has_arguments (app h (t ∷ ts)) ≡ true
app_has h t ts = apply_has (Ap (Con h) t) ts refl

pub app_no_cons : (names : List (List ℕ)) (h : Head) (ts : List Term) → IsPlainHead names h → is_cons names (app h ts) ≡ false
app_no_cons names h ts p = by_term (app h ts) (no_cons_apply names (Con h) ts (plain_apart names h p))
  where
    by_term : (t : Term) → no_cons names t → is_cons names t ≡ false
    by_term (Var n) q = refl
    by_term (Int z) q = refl
    by_term (Con h) q = refl
    by_term (Ap (Ap (Con h) x) l) q = q
    by_term (Ap f a) q = refl

-- ---- places

pub record KeptAt (names : List (List ℕ)) (bank : Nodes) (new : List (List ℕ)) (over : Nodes) (at : ℕ) : Type 0 where
  pub good : IsSpelledAt new over at
  pub tree : term_tree over at ≡ term_tree bank at
  pub text : text_at new over at ≡ text_at names bank at
  pub argument : argument_at new over at ≡ argument_at names bank at
  pub cons : is_cons new (term_tree over at) ≡ is_cons names (term_tree bank at)

pub at_kept : (names : List (List ℕ)) (bank : Nodes) (new : List (List ℕ)) (over : Nodes) (at : ℕ) → Grows names new → Extends bank over
    → IsSpelledAt names bank at → KeptAt names bank new over at
at_kept names bank new over at g e s =
    let t : term_tree over at ≡ term_tree bank at = term_tree-extends e at s.inside in
    let k = term_kept names g.more (term_tree bank at) s.spelled in
    let text : term_text new (term_tree over at) ≡ term_text names (term_tree bank at) =
    ap (term_text new) t ∙ (ap (λ ns. term_text ns (term_tree bank at)) g.is ∙ k.text) in
    record {
      good = record {
        inside = HasTerm-extends e at s.inside;
        spelled =
            subst (IsSpelledTerm new) (sym t) (subst (λ ns. IsSpelledTerm ns (term_tree bank at)) (sym g.is) k.spelled);
        closed = ap is_closed t ∙ s.closed;
      };
      tree = t;
      text = text;
      argument = rw (text, t) refl;
      cons = ap (is_cons new) t ∙ (ap (λ ns. is_cons ns (term_tree bank at)) g.is ∙ k.cons);
    }
