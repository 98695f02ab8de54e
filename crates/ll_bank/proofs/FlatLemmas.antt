-- Flat vectors and the nodes that they hold: what each call reads and leaves.
use Rattle.std.proofs.Common.{◌≡◌, ℕ, ◌+◌, ◌-◌, ◌≤◌, List, [], ◌∷◌, ◌++◌, length, map, All, get_or, take, drop, refl, ap, sym, subst, ◌∙◌, arith}
use Rattle.std.proofs.Common.{length-append, length-drop, Option, Some, None}
use Rattle.std.specs.Prelude.{ℤ, FitsSigned, sum_by, Result, Ok, Err, OnOk, OnErr}
use Rattle.std.specs.Int.{w64}
use Rattle.std.proofs.Common.{to_z, of_z}
use Rattle.std.proofs.lemmas.Int.{to_z-of_z}
use Rattle.std.proofs.Math.ListN.{get_or-map}
use Rattle.std.proofs.Math.Nat.{le_trans}
use Rattle.std.proofs.lemmas.List.{append-nil, length-map, map-append, drop-append-le, take-append-le, take-append-drop, length-take-le, take-map, take_all}
use Rattle.std.proofs.lemmas.List.{drop_at}
use Rattle.std.proofs.lemmas.List.Elements.{All-head, All-tail, All-push, All-take, All-cons}
use Rattle.std.proofs.lemmas.List.Sums.{sum_by-cons}
use Rattle.ll_list_laws.proofs.CallerLemmas.{map_same_on as same_nodes}
use Rattle.ll_bank.specs.declared.At.{At}
use Rattle.ll_bank.specs.declared.Head.{Head}
use Rattle.ll_bank.specs.declared.BankSize.{BankSize}
use Rattle.ll_bank.specs.declared.FormNode.{FormNode}
use Rattle.ll_bank.specs.declared.FormNode.TheVariants.{Top as TopView, One as OneView, Atom as AtomView, With as WithView, Tensor as TensorView}
use Rattle.ll_bank.specs.declared.FormNode.TheVariants.{Plus as PlusView, Bang as BangView, Lolli as LolliView, Imp as ImpView, Forall as ForallView}
use Rattle.ll_bank.specs.declared.FormNode.TheVariants.{Exists as ExistsView, Use as UseView, Is as IsView, Less as LessView, Most as MostView}
use Rattle.ll_bank.specs.declared.flat.Span.{Span}
use Rattle.ll_bank.specs.declared.flat.StoredTerm.{StoredTerm}
use Rattle.ll_bank.specs.declared.flat.StoredTerm.TheVariants.{Var as StoredVar, Int as StoredInt, App as StoredApp}
use Rattle.ll_bank.specs.declared.flat.StoredForm.{StoredForm}
use Rattle.ll_bank.specs.declared.flat.StoredForm.TheVariants.{Top as StoredTop, One as StoredOne, Atom as StoredAtom, With as StoredWith}
use Rattle.ll_bank.specs.declared.flat.StoredForm.TheVariants.{Tensor as StoredTensor, Plus as StoredPlus, Bang as StoredBang, Lolli as StoredLolli}
use Rattle.ll_bank.specs.declared.flat.StoredForm.TheVariants.{Imp as StoredImp, Forall as StoredForall, Exists as StoredExists, Use as StoredUse}
use Rattle.ll_bank.specs.declared.flat.StoredForm.TheVariants.{Is as StoredIs, Less as StoredLess, Most as StoredMost}
use Rattle.ll_bank.specs.Nodes.{AppNode, UseNode, places, node_of, argument_count, load_argument_count, size_of, front}
use Rattle.ll_bank.specs.Kept.{DeepNodes, deep_term, deep_form, deep_front}
use Rattle.ll_bank.specs.Storage.{children_of, term_node, form_node, nodes_of, stored_term_depth, deep_of, span_from, stored_as, load_arguments_of, IsWithin}
use Rattle.ll_bank.specs.Storage.{IsTermStored, IsFormStored, term_span, form_span, AreInTurn, IsStored}

-- ---- spans in turn

-- how many children a span has
abbrev span_size : Option Span → ℕ
span_size None = 0
span_size (Some span) = span.to - span.from

-- a span ends within so many children
abbrev EndsBy : ℕ → Option Span → Type 0
EndsBy n None = Unit {0}
EndsBy n (Some span) = (span.from ≤ span.to) × (span.to ≤ n)

-- spans in turn end where the sum of their sizes says
turn_end : (spans : List (Option Span)) (from to : ℕ) → AreInTurn from spans to → to ≡ from + sum_by span_size spans
turn_end [] from to h = omega (arith, h)
turn_end (None ∷ spans) from to h = let e = sum_by-cons span_size None spans in let k = turn_end spans from to h in omega arith
turn_end (Some span ∷ spans) from to h =
    let e = sum_by-cons span_size (Some span) spans in let k = turn_end spans span.to to h.2 in let a = h.0 in let b = h.1 in omega arith

-- more spans follow
turn_append : (xs ys : List (Option Span)) (from middle to : ℕ) → AreInTurn from xs middle → AreInTurn middle ys to → AreInTurn from (xs ++ ys) to
turn_append [] ys from middle to h k = subst (λ m. AreInTurn m ys to) (sym h) k
turn_append (None ∷ xs) ys from middle to h k = turn_append xs ys from middle to h k
turn_append (Some span ∷ xs) ys from middle to h k = (h.0, h.1, turn_append xs ys span.to middle to h.2 k)

-- the first spans are in turn, and so are the others behind them
turn_split : (xs ys : List (Option Span)) (from to : ℕ) → AreInTurn from (xs ++ ys) to → (middle : ℕ) × (AreInTurn from xs middle × AreInTurn middle ys to)
turn_split [] ys from to h = (from, (refl, h))
turn_split (None ∷ xs) ys from to h = turn_split xs ys from to h
turn_split (Some span ∷ xs) ys from to h = let r = turn_split xs ys span.to to h.2 in (r.0, ((h.0, h.1, r.1.0), r.1.1))

-- each span ends by the end of all
turn_ends : (spans : List (Option Span)) (from to : ℕ) → AreInTurn from spans to → All (EndsBy to) spans
turn_ends [] from to h = λ k d l. absurd (omega arith)
turn_ends (None ∷ spans) from to h = All-cons (EndsBy to) None spans tt (turn_ends spans from to h)
turn_ends (Some span ∷ spans) from to h =
    All-cons (EndsBy to) (Some span) spans (h.1, (let e = turn_end spans span.to to h.2 in omega arith)) (turn_ends spans span.to to h.2)

-- ---- nodes over children, of terms and of formulas alike

module _ {S N : Type 0} (span : S → Option Span) (node : List At → S → N) (count : N → ℕ) (IsOk : List At → S → Type 0)
    (same : (cs more : List At) (s : S) → IsOk cs s → node (cs ++ more) s ≡ node cs s)
    (ok_more : (cs more : List At) (s : S) → IsOk cs s → IsOk (cs ++ more) s)
    (ok_less : (cs more : List At) (s : S) → IsOk (cs ++ more) s → EndsBy (length cs) (span s) → IsOk cs s)
    (counts : (cs : List At) (s : S) → IsOk cs s → count (node cs s) ≡ span_size (span s)) where
  -- the counts of nodes are the sizes of their spans
  sum_counts : (cs : List At) (ss : List S) → All (IsOk cs) ss → sum_by count (map (node cs) ss) ≡ sum_by span_size (map span ss)
  sum_counts cs [] h = refl
  sum_counts cs (s ∷ ss) h =
      let e = sum_by-cons count (node cs s) (map (node cs) ss) in let f = sum_by-cons span_size (span s) (map span ss) in
      let g = counts cs s (All-head (IsOk cs) s ss h) in let k = sum_counts cs ss (All-tail (IsOk cs) s ss h) in omega arith

  module _ (cs : List At) (ss : List S) (ok : All (IsOk cs) ss) (turn : AreInTurn 0 (map span ss) (length cs)) where
    -- so all nodes together have all children
    all_counts : sum_by count (map (node cs) ss) ≡ length cs
    all_counts = let e = sum_counts cs ss ok in let f = turn_end (map span ss) 0 (length cs) turn in omega arith

    module _ (more : List At) (s : S) (here : IsOk (cs ++ more) s) (next : AreInTurn (length cs) (span s ∷ []) (length (cs ++ more))) where
      push_ok : All (IsOk (cs ++ more)) (ss ++ s ∷ [])
      push_ok = All-push (IsOk (cs ++ more)) ss s (λ k d l. ok_more cs more (get_or ss k d) (ok k d l)) here

      push_turn : AreInTurn 0 (map span (ss ++ s ∷ [])) (length (cs ++ more))
      push_turn = rw (map-append span ss (s ∷ [])) (turn_append (map span ss) (span s ∷ []) 0 (length cs) (length (cs ++ more)) turn next)

      push_view : map (node (cs ++ more)) (ss ++ s ∷ []) ≡ map (node cs) ss ++ node (cs ++ more) s ∷ []
      push_view = map-append (node (cs ++ more)) ss (s ∷ [])
          ∙ ap (λ ns. ns ++ node (cs ++ more) s ∷ []) (same_nodes (node (cs ++ more)) (node cs) (IsOk cs) ss (same cs more) ok)

    module _ (n c : ℕ) (is : sum_by count (take n (map (node cs) ss)) ≡ c) where
      -- the spans of the first nodes
      split : (middle : ℕ) × (AreInTurn 0 (map span (take n ss)) middle × AreInTurn middle (map span (drop n ss)) (length cs))
      split = turn_split (map span (take n ss)) (map span (drop n ss)) 0 (length cs)
          (subst (λ xs. AreInTurn 0 xs (length cs)) (map-append span (take n ss) (drop n ss)) (rw (take-append-drop n ss) turn))

      -- end at c
      middle_is : split.0 ≡ c
      middle_is =
          let e = turn_end (map span (take n ss)) 0 split.0 split.1.0 in
          let f = sum_counts cs (take n ss) (All-take (IsOk cs) n ss ok) in
          let g = ap (sum_by count) (take-map (node cs) n ss) in omega arith

      cut_le : c ≤ length cs
      cut_le = let e = turn_end (map span (drop n ss)) split.0 (length cs) split.1.1 in let m = middle_is in omega arith

      cut_length : length (take c cs) ≡ c
      cut_length = length-take-le c cs cut_le

      cut_turn : AreInTurn 0 (map span (take n ss)) (length (take c cs))
      cut_turn = rw cut_length (subst (AreInTurn 0 (map span (take n ss))) middle_is split.1.0)

      cut_ok : All (IsOk (take c cs)) (take n ss)
      cut_ok = λ k d l.
          ok_less (take c cs) (drop c cs) (get_or (take n ss) k d)
          (subst (λ xs. IsOk xs (get_or (take n ss) k d)) (sym (take-append-drop c cs)) (All-take (IsOk cs) n ss ok k d l))
          (subst (EndsBy (length (take c cs))) (get_or-map span (take n ss) k d)
          (turn_ends (map span (take n ss)) 0 (length (take c cs)) cut_turn k (span d) (rw length-map l)))

      cut_view : map (node (take c cs)) (take n ss) ≡ take n (map (node cs) ss)
      cut_view =
          sym (same_nodes (node (take c cs ++ drop c cs)) (node (take c cs)) (IsOk (take c cs)) (take n ss) (same (take c cs) (drop c cs)) cut_ok)
          ∙ (ap (λ xs. map (node xs) (take n ss)) (take-append-drop c cs) ∙ sym (take-map (node cs) n ss))

-- ---- terms

-- a span shows the same children where more stand behind
children_more : (cs more : List At) (span : Span) → IsWithin cs span → children_of (cs ++ more) span ≡ children_of cs span
children_more cs more span h =
    let small : span.to - span.from ≤ length (drop span.from cs) = simp length-drop (omega (arith, h.0, h.1)) in
    ap (take (span.to - span.from)) (drop-append-le span.from cs more (le_trans h.0 h.1)) ∙ take-append-le (span.to - span.from) (drop span.from cs) more small

-- the children behind others
children_behind : (cs more : List At) → children_of (cs ++ more) (span_from (length cs) (length more)) ≡ more
children_behind cs more =
    ap (take ((length cs + length more) - length cs)) (drop_at cs more (length cs) refl) ∙ take_all ((length cs + length more) - length cs) more (omega arith)

-- a span within the children has as many as its size
length-children : (cs : List At) (span : Span) → IsWithin cs span → length (places (children_of cs span)) ≡ span.to - span.from
length-children cs span h =
    length-map (children_of cs span) (λ a. a.0)
    ∙ length-take-le (span.to - span.from) (drop span.from cs) (let a = h.0 in let b = h.1 in simp length-drop (omega arith))

within_more : (cs more : List At) (span : Span) → IsWithin cs span → IsWithin (cs ++ more) span
within_more cs more span h = (h.0, simp length-append (omega (arith, h.1)))

term_same : (cs more : List At) (t : StoredTerm) → IsTermStored cs t → term_node (cs ++ more) t ≡ term_node cs t
term_same cs more (StoredVar n) h = refl
term_same cs more (StoredInt z) h = refl
term_same cs more (StoredApp d k span) h = ap (λ xs. AppNode k (places xs)) (children_more cs more span h)

term_more : (cs more : List At) (t : StoredTerm) → IsTermStored cs t → IsTermStored (cs ++ more) t
term_more cs more (StoredVar n) h = tt
term_more cs more (StoredInt z) h = h
term_more cs more (StoredApp d k span) h = within_more cs more span h

term_less : (cs more : List At) (t : StoredTerm) → IsTermStored (cs ++ more) t → EndsBy (length cs) (term_span t) → IsTermStored cs t
term_less cs more (StoredVar n) h e = tt
term_less cs more (StoredInt z) h e = h
term_less cs more (StoredApp d k span) h e = e

term_counts : (cs : List At) (t : StoredTerm) → IsTermStored cs t → argument_count (term_node cs t) ≡ span_size (term_span t)
term_counts cs (StoredVar n) h = refl
term_counts cs (StoredInt z) h = refl
term_counts cs (StoredApp d k span) h = length-children cs span h

-- ---- formulas

form_same : (cs more : List At) (f : StoredForm) → IsFormStored cs f → form_node (cs ++ more) f ≡ form_node cs f
form_same cs more (StoredUse m span g) h = ap (λ xs. UseNode m (places xs) g.0) (children_more cs more span h)
form_same cs more _ h = refl

form_more : (cs more : List At) (f : StoredForm) → IsFormStored cs f → IsFormStored (cs ++ more) f
form_more cs more (StoredUse m span g) h = within_more cs more span h
form_more cs more StoredTop h = tt
form_more cs more StoredOne h = tt
form_more cs more (StoredAtom a) h = tt
form_more cs more (StoredWith f g) h = tt
form_more cs more (StoredTensor f g) h = tt
form_more cs more (StoredPlus f g) h = tt
form_more cs more (StoredBang f) h = tt
form_more cs more (StoredLolli f g) h = tt
form_more cs more (StoredImp f g) h = tt
form_more cs more (StoredForall f) h = tt
form_more cs more (StoredExists f) h = tt
form_more cs more (StoredIs t u) h = tt
form_more cs more (StoredLess t u) h = tt
form_more cs more (StoredMost t u) h = tt

form_less : (cs more : List At) (f : StoredForm) → IsFormStored (cs ++ more) f → EndsBy (length cs) (form_span f) → IsFormStored cs f
form_less cs more (StoredUse m span g) h e = e
form_less cs more StoredTop h e = tt
form_less cs more StoredOne h e = tt
form_less cs more (StoredAtom a) h e = tt
form_less cs more (StoredWith f g) h e = tt
form_less cs more (StoredTensor f g) h e = tt
form_less cs more (StoredPlus f g) h e = tt
form_less cs more (StoredBang f) h e = tt
form_less cs more (StoredLolli f g) h e = tt
form_less cs more (StoredImp f g) h e = tt
form_less cs more (StoredForall f) h e = tt
form_less cs more (StoredExists f) h e = tt
form_less cs more (StoredIs t u) h e = tt
form_less cs more (StoredLess t u) h e = tt
form_less cs more (StoredMost t u) h e = tt

form_counts : (cs : List At) (f : StoredForm) → IsFormStored cs f → load_argument_count (form_node cs f) ≡ span_size (form_span f)
form_counts cs (StoredUse m span g) h = length-children cs span h
form_counts cs StoredTop h = refl
form_counts cs StoredOne h = refl
form_counts cs (StoredAtom a) h = refl
form_counts cs (StoredWith f g) h = refl
form_counts cs (StoredTensor f g) h = refl
form_counts cs (StoredPlus f g) h = refl
form_counts cs (StoredBang f) h = refl
form_counts cs (StoredLolli f g) h = refl
form_counts cs (StoredImp f g) h = refl
form_counts cs (StoredForall f) h = refl
form_counts cs (StoredExists f) h = refl
form_counts cs (StoredIs t u) h = refl
form_counts cs (StoredLess t u) h = refl
form_counts cs (StoredMost t u) h = refl

-- a formula put behind the others
stored_as-ok : (cs : List At) (view : FormNode) → IsFormStored (cs ++ load_arguments_of view) (stored_as (length cs) view)
stored_as-ok cs TopView = tt
stored_as-ok cs OneView = tt
stored_as-ok cs (AtomView a) = tt
stored_as-ok cs (WithView f g) = tt
stored_as-ok cs (TensorView f g) = tt
stored_as-ok cs (PlusView f g) = tt
stored_as-ok cs (BangView f) = tt
stored_as-ok cs (LolliView f g) = tt
stored_as-ok cs (ImpView f g) = tt
stored_as-ok cs (ForallView f) = tt
stored_as-ok cs (ExistsView f) = tt
stored_as-ok cs (UseView m args f) = (omega arith, simp length-append (omega arith))
stored_as-ok cs (IsView t u) = tt
stored_as-ok cs (LessView t u) = tt
stored_as-ok cs (MostView t u) = tt

stored_as-turn : (cs : List At) (view : FormNode) → AreInTurn (length cs) (form_span (stored_as (length cs) view) ∷ []) (length (cs ++ load_arguments_of view))
stored_as-turn cs TopView = ap length (sym (append-nil cs))
stored_as-turn cs OneView = ap length (sym (append-nil cs))
stored_as-turn cs (AtomView a) = ap length (sym (append-nil cs))
stored_as-turn cs (WithView f g) = ap length (sym (append-nil cs))
stored_as-turn cs (TensorView f g) = ap length (sym (append-nil cs))
stored_as-turn cs (PlusView f g) = ap length (sym (append-nil cs))
stored_as-turn cs (BangView f) = ap length (sym (append-nil cs))
stored_as-turn cs (LolliView f g) = ap length (sym (append-nil cs))
stored_as-turn cs (ImpView f g) = ap length (sym (append-nil cs))
stored_as-turn cs (ForallView f) = ap length (sym (append-nil cs))
stored_as-turn cs (ExistsView f) = ap length (sym (append-nil cs))
stored_as-turn cs (UseView m args f) = (refl, omega arith, sym (length-append cs args.now))
stored_as-turn cs (IsView t u) = ap length (sym (append-nil cs))
stored_as-turn cs (LessView t u) = ap length (sym (append-nil cs))
stored_as-turn cs (MostView t u) = ap length (sym (append-nil cs))

stored_as-node : (cs : List At) (view : FormNode) → form_node (cs ++ load_arguments_of view) (stored_as (length cs) view) ≡ node_of view
stored_as-node cs TopView = refl
stored_as-node cs OneView = refl
stored_as-node cs (AtomView a) = refl
stored_as-node cs (WithView f g) = refl
stored_as-node cs (TensorView f g) = refl
stored_as-node cs (PlusView f g) = refl
stored_as-node cs (BangView f) = refl
stored_as-node cs (LolliView f g) = refl
stored_as-node cs (ImpView f g) = refl
stored_as-node cs (ForallView f) = refl
stored_as-node cs (ExistsView f) = refl
stored_as-node cs (UseView m args f) = ap (λ xs. UseNode m (places xs) f.0) (children_behind cs args.now)
stored_as-node cs (IsView t u) = refl
stored_as-node cs (LessView t u) = refl
stored_as-node cs (MostView t u) = refl

-- ---- what the calls leave

-- a whole number of 64 bits is pushed as it is
pub pushed_int : (ts us : List StoredTerm) (z : ℤ) → FitsSigned w64 z → us ≡ ts ++ StoredInt (to_z w64 (of_z w64 z)) ∷ [] → us ≡ ts ++ StoredInt z ∷ []
pushed_int ts us z fits e = e ∙ ap (λ v. ts ++ StoredInt v ∷ []) (to_z-of_z w64 z fits)

module _ (cs ls : List At) (ts : List StoredTerm) (fs : List StoredForm) (stored : IsStored cs ls ts fs) where
  -- a term without arguments was pushed
  pub stored_leaf : (t : StoredTerm) (us : List StoredTerm) → us ≡ ts ++ t ∷ [] → IsTermStored cs t → term_span t ≡ None → IsStored cs ls us fs
  stored_leaf t us e ok none = rw e (record {
    each_term = All-push (IsTermStored cs) ts t stored.each_term ok;
    each_form = stored.each_form;
    term_spans = rw (map-append term_span ts (t ∷ [])) (turn_append (map term_span ts) (term_span t ∷ []) 0 (length cs) (length cs) stored.term_spans
        (rw none refl));
    form_spans = stored.form_spans;
  })

  -- a head with arguments was pushed
  module _ (h : Head) (args : List At) (depth : ℕ) (ds : List At) (us : List StoredTerm)
      (pushed : us ≡ ts ++ StoredApp depth h (span_from (length cs) (length args)) ∷ []) (behind : ds ≡ cs ++ args) where
    app_ok : IsTermStored (cs ++ args) (StoredApp depth h (span_from (length cs) (length args)))
    app_ok = (omega arith, simp length-append (omega arith))

    app_turn : AreInTurn (length cs) (Some (span_from (length cs) (length args)) ∷ []) (length (cs ++ args))
    app_turn = (refl, omega arith, sym (length-append cs args))

    pub stored_app : IsStored ds ls us fs
    stored_app = rw (pushed, behind) (record {
      each_term = push_ok term_span term_node argument_count IsTermStored term_same term_more term_less term_counts cs ts stored.each_term stored.term_spans
          args (StoredApp depth h (span_from (length cs) (length args))) app_ok app_turn;
      each_form = stored.each_form;
      term_spans = push_turn term_span term_node argument_count IsTermStored term_same term_more term_less term_counts cs ts stored.each_term stored.term_spans
          args (StoredApp depth h (span_from (length cs) (length args))) app_ok app_turn;
      form_spans = stored.form_spans;
    })

    pub app_view : (old : DeepNodes) → deep_of cs ls ts fs ≡ old → deep_of ds ls us fs ≡ deep_term old (AppNode h (places args)) depth
    app_view old view = subst (λ n. deep_of ds ls us fs ≡ deep_term n (AppNode h (places args)) depth) view (rw (pushed, behind) (λ i. record {
      nodes = record {
        terms = (push_view term_span term_node argument_count IsTermStored term_same term_more term_less term_counts cs ts stored.each_term stored.term_spans
            args (StoredApp depth h (span_from (length cs) (length args))) app_ok app_turn
            ∙ ap (λ xs. map (term_node cs) ts ++ AppNode h (places xs) ∷ []) (children_behind cs args)) i;
        forms = map (form_node ls) fs;
      };
      depths = map-append stored_term_depth ts (StoredApp depth h (span_from (length cs) (length args)) ∷ []) i;
    }))

  -- a formula was pushed
  module _ (view : FormNode) (ds : List At) (gs : List StoredForm) (pushed : gs ≡ fs ++ stored_as (length ls) view ∷ [])
      (behind : ds ≡ ls ++ load_arguments_of view) where
    pub stored_formula : IsStored cs ds ts gs
    stored_formula = rw (pushed, behind) (record {
      each_term = stored.each_term;
      each_form = push_ok form_span form_node load_argument_count IsFormStored form_same form_more form_less form_counts ls fs stored.each_form
          stored.form_spans (load_arguments_of view) (stored_as (length ls) view) (stored_as-ok ls view) (stored_as-turn ls view);
      term_spans = stored.term_spans;
      form_spans = push_turn form_span form_node load_argument_count IsFormStored form_same form_more form_less form_counts ls fs stored.each_form
          stored.form_spans (load_arguments_of view) (stored_as (length ls) view) (stored_as-ok ls view) (stored_as-turn ls view);
    })

    pub form_view : (old : DeepNodes) → deep_of cs ls ts fs ≡ old → deep_of cs ds ts gs ≡ deep_form old (node_of view)
    form_view old is = subst (λ n. deep_of cs ds ts gs ≡ deep_form n (node_of view)) is (rw (pushed, behind) (λ i. record {
      nodes = record {
        terms = map (term_node cs) ts;
        forms = (push_view form_span form_node load_argument_count IsFormStored form_same form_more form_less form_counts ls fs stored.each_form
            stored.form_spans (load_arguments_of view) (stored_as (length ls) view) (stored_as-ok ls view) (stored_as-turn ls view)
            ∙ ap (λ n. map (form_node ls) fs ++ n ∷ []) (stored_as-node ls view)) i;
      };
      depths = map stored_term_depth ts;
    }))

  -- the numbers of nodes and of children
  pub stored_size : (old : DeepNodes) → deep_of cs ls ts fs ≡ old → (size : BankSize) → size.terms ≡ length ts → size.forms ≡ length fs
      → size.arguments ≡ length cs
      → size.load_arguments ≡ length ls → size ≡ size_of old.nodes
  stored_size old view size a b c d = subst (λ n. size ≡ size_of n.nodes) view (λ i. record {
    terms = (a ∙ sym (length-map ts (term_node cs))) i;
    forms = (b ∙ sym (length-map fs (form_node ls))) i;
    arguments =
        (c ∙ sym (all_counts term_span term_node argument_count IsTermStored term_same term_more term_less term_counts cs ts stored.each_term
        stored.term_spans)) i;
    load_arguments =
        (d ∙ sym (all_counts form_span form_node load_argument_count IsFormStored form_same form_more form_less form_counts ls fs stored.each_form
        stored.form_spans)) i;
  })

  -- the first nodes are kept
  module _ (size : BankSize) (is : size_of (front (nodes_of cs ls ts fs) size) ≡ size) where
    term_sum : sum_by argument_count (take size.terms (map (term_node cs) ts)) ≡ size.arguments
    term_sum = ap (λ s. s.arguments) is

    form_sum : sum_by load_argument_count (take size.forms (map (form_node ls) fs)) ≡ size.load_arguments
    form_sum = ap (λ s. s.load_arguments) is

    pub arguments_le : size.arguments ≤ length cs
    arguments_le = cut_le term_span term_node argument_count IsTermStored term_same term_more term_less term_counts cs ts stored.each_term stored.term_spans
        size.terms size.arguments term_sum

    pub load_arguments_le : size.load_arguments ≤ length ls
    load_arguments_le = cut_le form_span form_node load_argument_count IsFormStored form_same form_more form_less form_counts ls fs stored.each_form
        stored.form_spans size.forms size.load_arguments form_sum

    pub stored_front : IsStored (take size.arguments cs) (take size.load_arguments ls) (take size.terms ts) (take size.forms fs)
    stored_front = record {
      each_term = cut_ok term_span term_node argument_count IsTermStored term_same term_more term_less term_counts cs ts stored.each_term stored.term_spans
          size.terms size.arguments term_sum;
      each_form = cut_ok form_span form_node load_argument_count IsFormStored form_same form_more form_less form_counts ls fs stored.each_form stored.form_spans
          size.forms size.load_arguments form_sum;
      term_spans = cut_turn term_span term_node argument_count IsTermStored term_same term_more term_less term_counts cs ts stored.each_term stored.term_spans
          size.terms size.arguments term_sum;
      form_spans = cut_turn form_span form_node load_argument_count IsFormStored form_same form_more form_less form_counts ls fs stored.each_form
          stored.form_spans size.forms size.load_arguments form_sum;
    }

    pub front_view : nodes_of (take size.arguments cs) (take size.load_arguments ls) (take size.terms ts) (take size.forms fs)
        ≡ front (nodes_of cs ls ts fs) size
    front_view = λ i. record {
      terms = cut_view term_span term_node argument_count IsTermStored term_same term_more term_less term_counts cs ts stored.each_term stored.term_spans
          size.terms size.arguments term_sum i;
      forms = cut_view form_span form_node load_argument_count IsFormStored form_same form_more form_less form_counts ls fs stored.each_form stored.form_spans
          size.forms size.load_arguments form_sum i;
    }

    -- and so they are held by vectors that have what stood first
    module _ (cs' ls' : List At) (ts' : List StoredTerm) (fs' : List StoredForm) (a : cs' ≡ take size.arguments cs) (b : ls' ≡ take size.load_arguments ls)
        (d : ts' ≡ take size.terms ts) (e : fs' ≡ take size.forms fs) where
      pub stored_cut : IsStored cs' ls' ts' fs'
      stored_cut = rw (a, b, d, e) stored_front

      pub cut_nodes : deep_of cs' ls' ts' fs' ≡ deep_front (deep_of cs ls ts fs) size
      cut_nodes = rw (a, b, d, e) (λ i. record { nodes = front_view i; depths = sym (take-map stored_term_depth size.terms ts) i })

-- the size of what stands first, by the nodes that callers see
pub front_of : (nodes old : DeepNodes) → nodes ≡ old → (size : BankSize) → size_of (front old.nodes size) ≡ size → size_of (front nodes.nodes size) ≡ size
front_of nodes old view size is = subst (λ n. size_of (front n.nodes size) ≡ size) (sym view) is

-- ---- after a call that may refuse

-- what follows from either outcome
pub on_either : {T E P Q R S G : Type 0} (r : Result T E) → OnOk r P → OnOk r Q → OnErr r R → OnErr r S → (P → Q → G) → (R → S → G) → G
on_either (Ok x) p q r s f g = f p q
on_either (Err e) p q r s f g = g r s

-- what follows from success
pub on_ok : {T E P Q G : Type 0} (r : Result T E) → OnOk r P → OnOk r Q → (P → Q → G) → OnOk r G
on_ok (Ok x) p q f = f p q
on_ok (Err e) p q f = tt

-- vectors that are as before hold what they held
pub stored_same : (cs ls cs' ls' : List At) (ts ts' : List StoredTerm) (fs fs' : List StoredForm) → IsStored cs ls ts fs → cs' ≡ cs → ls' ≡ ls → ts' ≡ ts
    → fs' ≡ fs → IsStored cs' ls' ts' fs'
stored_same cs ls cs' ls' ts ts' fs fs' stored a b d e = rw (a, b, d, e) stored
