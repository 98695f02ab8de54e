-- Signs, and the ends of brackets.
use Rattle.std.proofs.Common.{◌≡◌, ℕ, ◌-◌, take, Bool, true, false, List, [], ◌∷◌, ◌++◌, length, map, reverse, All, refl, ap, sym, subst, ◌∙◌, arith, codes}
use Rattle.std.proofs.Common.{append_assoc, append-nil, inr, Some, None}
use Rattle.std.specs.Prelude.{◌||◌, not}
use Rattle.std.specs.List.{flat_map}
use Rattle.std.proofs.lemmas.List.Concat.{flat_map-append}
use Rattle.std.proofs.lemmas.List.Elements.{All-head, All-tail, All-nil, All-cons}
use Rattle.std.proofs.lemmas.Bool.{or_parts as parts_false}
use Rattle.ll_bank.specs.declared.At.{At}
use Rattle.ll_bank.specs.declared.Head.{Head}
use Rattle.ll_bank.specs.declared.Head.TheVariants.{Name}
use Rattle.ll_bank.specs.Term.{Term, is_closed}
use Rattle.ll_bank.specs.Nodes.{Nodes, term_tree, ShowsTerm, Extends}
use Rattle.ll_bank.proofs.CallerLemmas.{Extends-trans, Extends-refl}
use Rattle.ll_laws.specs.Output.{is_cons_head, is_cons, bracket_if, has_arguments, term_text}
use Rattle.ll_prooftext.specs.declared.words.Word.{Word}
use Rattle.ll_prooftext.specs.declared.words.Word.TheVariants.{Head as HeadWord, Term as LeafWord}
use Rattle.ll_prooftext.specs.declared.terms.Item.{Item}
use Rattle.ll_prooftext.specs.declared.terms.Bracket.{Bracket}
use Rattle.ll_prooftext.specs.declared.terms.Open.{Open}
use Rattle.ll_prooftext.specs.declared.terms.Step.{Step}
use Rattle.ll_prooftext.specs.declared.terms.Step.TheVariants.{Stuck, More, Whole}
use Rattle.ll_prooftext.specs.Admitted.{IsSpelledTerm}
use Rattle.ll_prooftext.specs.Reading.{is_none}
use Rattle.ll_prooftext.specs.Terms.{Wanted, Closed, frame, takes, closes, Accepts, Moves, IsSpelledAt, text_at, argument_at}
use Rattle.ll_prooftext.specs.Brackets.{shape_of, frame_of, frames, item_text, part_text, args_text, bracket_text, gap, outer_text, open_text, IsGoodItem}
use Rattle.ll_prooftext.specs.Brackets.{IsGoodPart, IsGoodBracket, IsGood, Turns, Ends, IsTermFrom, chain_term, HasItem, IsSign, IsStep, IsItemStep}
use Rattle.ll_prooftext.proofs.spelling.Kept.{grows_none, flat_same, arg_same}
use Rattle.ll_prooftext.proofs.spelling.Found.{moves_still, moves_over, moves_behind, moves_sign}
use Rattle.ll_prooftext.proofs.spelling.Mentioning.{close_mentions}
use Rattle.ll_prooftext.proofs.spelling.Extended.{at_kept}
use Rattle.ll_prooftext.proofs.spelling.Steps.{part_same, open_good, open_same, bracket_good, bracket_same, frames_push, known_part, takes_head, part_term}
use Rattle.ll_prooftext.proofs.spelling.Steps.{IsArgued, argued_good, argued_text, argued_frames, item_put_good, item_put_text, item_put_frames}
use Rattle.ll_prooftext.proofs.spelling.Ways.{sign_on, close_none, close_whole, close_argument, close_refused, close_item_on, close_item_none}

-- the text of a part's term, in the bank that has it
over_text : (names : List (List ℕ)) (bank over : Nodes) (x : Word) (args : List At) (at : ℕ) → IsGoodPart names bank (Some x) args
    → All (λ a. IsSpelledAt names bank a.0) args → IsTermFrom bank over x args at → Extends bank over
    → text_at names over at ≡ part_text names over (Some x) ++ args_text names over args
over_text names bank over x args at p a t e =
    let k = part_term names bank over x args at p a t e in
    let u : part_text names over (Some x) ≡ part_text names bank (Some x) = part_same names bank names over (grows_none names) e (Some x) args p in
    let v : args_text names over args ≡ args_text names bank args =
    flat_same (λ (a : At). IsSpelledAt names bank a.0) (λ (a : At). codes " " ++ argument_at names over a.0)
    (λ (a : At). codes " " ++ argument_at names bank a.0) (arg_same names bank names over (grows_none names) e) args a in
    k.text ∙ (ap (λ z. z ++ args_text names bank args) (sym u) ∙ ap (λ z. part_text names over (Some x) ++ z) (sym v))

-- the part of the innermost bracket
part_known : (names : List (List ℕ)) (bank : Nodes) (o : Open) (x : Word) → IsGood names bank o → o.top.part ≡ Some x
    → IsGoodPart names bank (Some x) o.top.args.items
part_known names bank o x good n = subst (λ z. IsGoodPart names bank z o.top.args.items) n good.top.part

-- what is read, where the part is known
open_known : (names : List (List ℕ)) (bank : Nodes) (o : Open) (x : Word) → o.top.part ≡ Some x
    → open_text names bank o ≡ flat_map (outer_text names bank) o.outer.items
    ++ (40 ∷ (flat_map (item_text names bank) o.top.items.items ++ (part_text names bank (Some x) ++ args_text names bank o.top.args.items)))
open_known names bank o x n = ap (λ z. flat_map (outer_text names bank) o.outer.items
    ++ (40 ∷ (flat_map (item_text names bank) o.top.items.items ++ (part_text names bank z ++ args_text names bank o.top.args.items)))) n

-- a `::` behind a part
pub sign_put : (names : List (List ℕ)) (bank : Nodes) (o p : Open) (x : Word) (new : List (List ℕ)) (over : Nodes) (i : Item) (left : List ℕ)
    → IsGood names bank o → o.top.part ≡ Some x → IsSign names new i.sign → IsTermFrom bank over x o.top.args.items i.at.0 → Extends bank over
    → HasItem o.top p.top i → p.outer.items ≡ o.outer.items
    → Turns names bank o (58 ∷ 58 ∷ left) new over p left
sign_put names bank o p x new over i left good n s t e has outer =
    let early = open_good names bank new bank s.grows (Extends-refl bank) o good in
    let part = part_known new bank o x early n in
    let k = part_term new bank over x o.top.args.items i.at.0 part early.top.args t e in
    let g = open_good names bank new over s.grows e o good in
    let it : IsGoodItem new over i = record { good = k.good; sign = s.sign } in
    let txt : item_text new over i ≡ (part_text new over (Some x) ++ args_text new over o.top.args.items) ++ codes "::" = let b = k.bare in
    rw b (ap (λ z. z ++ codes "::") (over_text new bank over x o.top.args.items i.at.0 part early.top.args t e)) in
    record {
      good = item_put_good new over o p i g has outer it;
      text =
          ap (λ z. z ++ left) (item_put_text new over o p i g has outer it
          ∙ ap (λ z. (flat_map (outer_text new over) o.outer.items ++ (40 ∷ flat_map (item_text new over) o.top.items.items)) ++ z) txt)
          ∙ (together (flat_map (outer_text new over) o.outer.items) (flat_map (item_text new over) o.top.items.items) (part_text new over (Some x))
          (args_text new over o.top.args.items)
          ∙ ap (λ z. z ++ (58 ∷ 58 ∷ left)) (sym (open_known new over o x n) ∙ open_same names bank new over s.grows e o good));
      moves = moves_sign names new bank over left s.added e;
      shorter = omega arith;
      goes = λ end a. subst (λ hs. Accepts end hs left) (sym (item_put_frames new over o p i g has outer it))
          (sign_on end (not (is_none o.top.items.items)) (shape_of o.top.part o.top.args.items) (reverse (map frame_of o.outer.items)) left (known_part o x n)
          a);
    }
  where
    together : (a b c d : List ℕ) → ((a ++ (40 ∷ b)) ++ ((c ++ d) ++ codes "::")) ++ left ≡ (a ++ (40 ∷ (b ++ (c ++ d)))) ++ (58 ∷ 58 ∷ left)
    together a b c d = simp append_assoc

-- ---- chains

record IsChain (names : List (List ℕ)) (bank : Nodes) (items : List Item) (t : Term) : Type 0 where
  pub text : term_text names (chain_term bank items t) ≡ flat_map (item_text names bank) items ++ term_text names t
  pub spelled : IsSpelledTerm names (chain_term bank items t)
  pub closed : is_closed (chain_term bank items t) ≡ true
  pub cons : not (is_none items) ≡ true → is_cons names (chain_term bank items t) ≡ true
  pub has : (not (is_none items) || has_arguments t) ≡ true → has_arguments (chain_term bank items t) ≡ true

chain_is : (names : List (List ℕ)) (bank : Nodes) (items : List Item) (t : Term) → All (IsGoodItem names bank) items → IsSpelledTerm names t
    → is_closed t ≡ true → IsChain names bank items t
chain_is names bank [] t a s c = record { text = refl; spelled = s; closed = c; cons = λ f. absurd cc; has = λ h. h }
chain_is names bank (i ∷ is) t a s c =
    let g = All-head (IsGoodItem names bank) i is a in
    let k = chain_is names bank is t (All-tail (IsGoodItem names bank) i is a) s c in
    let sign : is_cons_head names (Name i.sign) ≡ true = g.sign in
    let shut : is_closed (term_tree bank i.at.0) ≡ true = g.good.closed in
    let more = k.closed in
    record {
      text = rw sign (ap (λ z. item_text names bank i ++ z) k.text
          ∙ sym (append_assoc (item_text names bank i) (flat_map (item_text names bank) is) (term_text names t)));
      spelled = (inr g.sign, (g.good.spelled, k.spelled));
      closed = rw (shut, more) refl;
      cons = λ f. sign;
      has = λ f. refl;
    }

-- ---- the end of a bracket

-- the term of the innermost bracket
pub record IsClosedTerm (names : List (List ℕ)) (bank over : Nodes) (o : Open) (at : ℕ) : Type 0 where
  pub good : IsSpelledAt names over at
  pub boxed : bracket_if true (text_at names over at) ≡ bracket_text names bank o.top ++ 41 ∷ []
  pub has : has_arguments (term_tree over at) ≡ true
  pub cons : not (is_none o.top.items.items) ≡ true → is_cons names (term_tree over at) ≡ true
  pub keeps : Extends bank over

pub closed_term : (names : List (List ℕ)) (bank mid over : Nodes) (o : Open) (x : Word) (last at : ℕ) → IsGood names bank o → o.top.part ≡ Some x
    → (not (is_none o.top.items.items) || not (is_none o.top.args.items)) ≡ true → IsTermFrom bank mid x o.top.args.items last → Extends bank mid
    → ShowsTerm over at (chain_term mid o.top.items.items (term_tree mid last)) → Extends mid over → IsClosedTerm names bank over o at
closed_term names bank mid over o x last at good n cl t e sh f =
    let part = part_known names bank o x good n in
    let k = part_term names bank mid x o.top.args.items last part good.top.args t e in
    let later = bracket_good names bank names mid (grows_none names) e o.top good.top in
    let c = chain_is names mid o.top.items.items (term_tree mid last) later.items k.good.spelled k.good.closed in
    let inside : text_at names over at ≡ flat_map (item_text names mid) o.top.items.items
    ++ (part_text names mid (Some x) ++ args_text names mid o.top.args.items) =
    ap (term_text names) sh.tree ∙ (c.text ∙ ap (λ z. flat_map (item_text names mid) o.top.items.items ++ z)
    (over_text names bank mid x o.top.args.items last part good.top.args t e)) in
    let top : 40 ∷ (flat_map (item_text names mid) o.top.items.items ++ (part_text names mid (Some x) ++ args_text names mid o.top.args.items))
    ≡ bracket_text names mid o.top =
    ap (λ z. 40 ∷ (flat_map (item_text names mid) o.top.items.items ++ (part_text names mid z ++ args_text names mid o.top.args.items))) (sym n) in
    record {
      good = record { inside = sh.inside; spelled = subst (IsSpelledTerm names) (sym sh.tree) c.spelled; closed = ap is_closed sh.tree ∙ c.closed };
      boxed = ap (λ z. 40 ∷ (z ++ 41 ∷ [])) inside ∙ ap (λ z. z ++ 41 ∷ []) (top ∙ bracket_same names bank names mid (grows_none names) e o.top good.top);
      has = ap has_arguments sh.tree ∙ c.has (ap (λ z. not (is_none o.top.items.items) || z) k.has ∙ cl);
      cons = λ h. ap (is_cons names) sh.tree ∙ c.cons h;
      keeps = Extends-trans e f;
    }

-- an argument with arguments stands in brackets
boxed_argument : (names : List (List ℕ)) (over : Nodes) (at : ℕ) → has_arguments (term_tree over at) ≡ true
    → argument_at names over at ≡ bracket_if true (text_at names over at)
boxed_argument names over at h = rw h refl

module _ (names : List (List ℕ)) (bank over : Nodes) (o : Open) (x : Word) (at : ℕ) (left : List ℕ) (good : IsGood names bank o) (n : o.top.part ≡ Some x)
    (k : IsClosedTerm names bank over o at) where
  closed_moves : Moves names bank (41 ∷ left) names over left
  closed_moves = moves_behind names bank (41 ∷ left) (41 ∷ []) left names over left refl (close_mentions left)
      (moves_over names bank left names bank over left (moves_still names bank left) k.keeps)

  pub ends_whole : o.outer.items ≡ [] → Ends names bank o (41 ∷ left) names over at left
  ends_whole none = record {
    good = k.good;
    text = ap (λ z. z ++ left) (boxed_argument names over at k.has ∙ k.boxed)
        ∙ (append_assoc (bracket_text names bank o.top) (41 ∷ []) left
        ∙ ap (λ z. (flat_map (outer_text names bank) z ++ bracket_text names bank o.top) ++ (41 ∷ left)) (sym none));
    moves = closed_moves;
    ends = λ end a. close_whole end (not (is_none o.top.items.items)) (shape_of o.top.part o.top.args.items) (reverse (map frame_of o.outer.items)) left
        (known_part o x n) (ap (λ z. reverse (map frame_of z)) none) a;
  }

  -- the bracket round it
  module _ (q : Open) (out : o.outer.items ≡ q.outer.items ++ q.top ∷ []) where
    pub popped_good : IsGood names bank q
    popped_good =
        let a = subst (All (IsGoodBracket names bank)) out good.outer in
        record { outer = front q.outer.items a; top = last q.outer.items a }
      where
        front : (xs : List Bracket) → All (IsGoodBracket names bank) (xs ++ q.top ∷ []) → All (IsGoodBracket names bank) xs
        front [] a = All-nil (IsGoodBracket names bank)
        front (y ∷ ys) a = All-cons (IsGoodBracket names bank) y ys (All-head (IsGoodBracket names bank) y (ys ++ q.top ∷ []) a)
            (front ys (All-tail (IsGoodBracket names bank) y (ys ++ q.top ∷ []) a))

        last : (xs : List Bracket) → All (IsGoodBracket names bank) (xs ++ q.top ∷ []) → IsGoodBracket names bank q.top
        last [] a = All-head (IsGoodBracket names bank) q.top [] a
        last (y ∷ ys) a = last ys (All-tail (IsGoodBracket names bank) y (ys ++ q.top ∷ []) a)

    pub popped_frames : frames o ≡ frame_of o.top ∷ frames q
    popped_frames = ap (λ z. frame_of o.top ∷ reverse (map frame_of z)) out ∙ ap (λ z. frame_of o.top ∷ z) (frames_push q.outer.items q.top)

    pub popped_text : open_text names bank o ≡ (open_text names bank q ++ gap q.top.part) ++ bracket_text names bank o.top
    popped_text = ap (λ z. flat_map (outer_text names bank) z ++ bracket_text names bank o.top) out
        ∙ (ap (λ z. z ++ bracket_text names bank o.top) (flat_map-append (outer_text names bank) q.outer.items (q.top ∷ []))
        ∙ together (flat_map (outer_text names bank) q.outer.items) (bracket_text names bank q.top) (gap q.top.part) (bracket_text names bank o.top))
      where
        together : (a b c d : List ℕ) → (a ++ ((b ++ c) ++ [])) ++ d ≡ ((a ++ b) ++ c) ++ d
        together a b c d = simp (append_assoc, append-nil)

    later : IsGood names over q
    later = open_good names bank names over (grows_none names) k.keeps q popped_good

    pub closes_argument : (p : Open) (place : At) (h : Head) → place.0 ≡ at → q.top.part ≡ Some (HeadWord h) → IsArgued q p place
        → Turns names bank o (41 ∷ left) names over p left
    closes_argument p place h same head put =
        let arg : IsSpelledAt names over place.0 = subst (IsSpelledAt names over) (sym same) k.good in
        let boxed : argument_at names over place.0 ≡ bracket_text names bank o.top ++ 41 ∷ [] =
        ap (argument_at names over) same ∙ (boxed_argument names over at k.has ∙ k.boxed) in
        record {
          good = argued_good names over q p place h later head put arg;
          text =
              ap (λ z. z ++ left) (argued_text names over q p place h later head put arg ∙ ap (λ z. open_text names over q ++ (32 ∷ z)) boxed)
              ∙ (ap (λ z. (z ++ (32 ∷ (bracket_text names bank o.top ++ 41 ∷ []))) ++ left)
              (open_same names bank names over (grows_none names) k.keeps q popped_good)
              ∙ (together (open_text names bank q) (bracket_text names bank o.top)
              ∙ (ap (λ z. ((open_text names bank q ++ gap z) ++ bracket_text names bank o.top) ++ (41 ∷ left)) (sym head)
              ∙ ap (λ z. z ++ (41 ∷ left)) (sym popped_text))));
          moves = closed_moves;
          shorter = omega arith;
          goes = λ end a.
              let b = subst (λ hs. Accepts end hs (41 ∷ left)) popped_frames a in
              let tk : takes (shape_of q.top.part q.top.args.items) ≡ true =
              ap (λ z. takes (shape_of z q.top.args.items)) head ∙ takes_head h q.top.args.items in
              let c = close_argument end (not (is_none o.top.items.items)) (shape_of o.top.part o.top.args.items) (not (is_none q.top.items.items))
              (shape_of q.top.part q.top.args.items) (reverse (map frame_of q.outer.items)) left (known_part o x n) tk b in
              subst (λ hs. Accepts end hs left) (sym (argued_frames names over q p place h later head put arg)) c;
        }
      where
        together : (a b : List ℕ) → (a ++ (32 ∷ (b ++ 41 ∷ []))) ++ left ≡ ((a ++ 32 ∷ []) ++ b) ++ (41 ∷ left)
        together a b = simp append_assoc

    pub closes_leaf : (b : At) → q.top.part ≡ Some (LeafWord b) → (end : List ℕ) → Accepts end (frames o) (41 ∷ left) → ⊥
    closes_leaf b leaf end a =
        let e : frames q ≡ frame (not (is_none q.top.items.items)) Closed ∷ reverse (map frame_of q.outer.items) =
        ap (λ z. frame (not (is_none q.top.items.items)) (shape_of z q.top.args.items) ∷ reverse (map frame_of q.outer.items)) leaf in
        close_refused end (not (is_none o.top.items.items)) (shape_of o.top.part o.top.args.items) (not (is_none q.top.items.items))
        (reverse (map frame_of q.outer.items)) left (known_part o x n)
        (subst (λ hs. Accepts end hs (41 ∷ left)) (popped_frames ∙ ap (λ z. frame_of o.top ∷ z) e) a)

    wanted_frames : q.top.part ≡ None → frames o ≡ frame_of o.top ∷ frame (not (is_none q.top.items.items)) Wanted ∷ reverse (map frame_of q.outer.items)
    wanted_frames w = popped_frames ∙ ap (λ z. frame_of o.top ∷ frame (not (is_none q.top.items.items)) (shape_of z q.top.args.items)
        ∷ reverse (map frame_of q.outer.items)) w

    pub closes_no_item : q.top.part ≡ None → (not (is_none o.top.items.items) ≡ true → (rest : List ℕ) → left ≡ 58 ∷ 58 ∷ rest → ⊥) → (end : List ℕ)
        → Accepts end (frames o) (41 ∷ left) → ⊥
    closes_no_item w none end a = close_item_none end (not (is_none o.top.items.items)) (shape_of o.top.part o.top.args.items) (not (is_none q.top.items.items))
        (reverse (map frame_of q.outer.items)) left (known_part o x n) none (subst (λ hs. Accepts end hs (41 ∷ left)) (wanted_frames w) a)

    pub closes_item : (p : Open) (i : Item) (new : List (List ℕ)) (rest : List ℕ) → i.at.0 ≡ at → q.top.part ≡ None → not (is_none o.top.items.items) ≡ true
        → left ≡ 58 ∷ 58 ∷ rest → IsSign names new i.sign → HasItem q.top p.top i → p.outer.items ≡ q.outer.items
        → Turns names bank o (41 ∷ left) new over p rest
    closes_item p i new rest same w chain l s has outer =
        let g = open_good names bank new over s.grows k.keeps q popped_good in
        let kept = at_kept names over new over at s.grows (Extends-refl over) k.good in
        let it : IsGoodItem new over i = record { good = subst (IsSpelledAt new over) (sym same) kept.good; sign = s.sign } in
        let cons : is_cons new (term_tree over i.at.0) ≡ true = ap (λ z. is_cons new (term_tree over z)) same ∙ (kept.cons ∙ k.cons chain) in
        let txt : item_text new over i ≡ (bracket_text names bank o.top ++ 41 ∷ []) ++ codes "::" =
        rw cons (ap (λ z. bracket_if true z ++ codes "::") (ap (text_at new over) same ∙ kept.text) ∙ ap (λ z. z ++ codes "::") k.boxed) in
        record {
          good = item_put_good new over q p i g has outer it;
          text =
              ap (λ z. z ++ rest) (item_put_text new over q p i g has outer it
              ∙ ap (λ z. (flat_map (outer_text new over) q.outer.items ++ (40 ∷ flat_map (item_text new over) q.top.items.items)) ++ z) txt)
              ∙ (ap (λ z. (z ++ ((bracket_text names bank o.top ++ 41 ∷ []) ++ codes "::")) ++ rest)
              (sym front ∙ open_same names bank new over s.grows k.keeps q popped_good)
              ∙ (together (open_text names bank q) (bracket_text names bank o.top)
              ∙ (ap (λ z. ((open_text names bank q ++ gap z) ++ bracket_text names bank o.top) ++ (41 ∷ 58 ∷ 58 ∷ rest)) (sym w)
              ∙ (ap (λ z. z ++ (41 ∷ 58 ∷ 58 ∷ rest)) (sym popped_text) ∙ ap (λ z. open_text names bank o ++ (41 ∷ z)) (sym l)))));
          moves = moves_behind names bank (41 ∷ left) (41 ∷ []) left new over rest refl (close_mentions left)
              (subst (λ z. Moves names bank z new over rest) (sym l) (moves_sign names new bank over rest s.added k.keeps));
          shorter = let m = ap length l in omega arith;
          goes = λ end a.
              let b = subst (λ bs. Accepts end (frame_of o.top ∷ frame (not (is_none q.top.items.items)) Wanted ∷ reverse (map frame_of q.outer.items))
              (41 ∷ bs)) l (subst (λ hs. Accepts end hs (41 ∷ left)) (wanted_frames w) a) in
              let c = close_item_on end (not (is_none o.top.items.items)) (shape_of o.top.part o.top.args.items) (not (is_none q.top.items.items))
              (reverse (map frame_of q.outer.items)) rest (known_part o x n) b in
              subst (λ hs. Accepts end hs rest) (sym (item_put_frames new over q p i g has outer it)) c;
        }
      where
        none : q.top.args.items ≡ []
        none = subst (λ z. IsGoodPart names bank z q.top.args.items) w popped_good.top.part

        front : open_text new over q ≡ flat_map (outer_text new over) q.outer.items ++ (40 ∷ flat_map (item_text new over) q.top.items.items)
        front = let e = none in
            rw (w, e) (ap (λ z. flat_map (outer_text new over) q.outer.items ++ (40 ∷ z)) (append-nil (flat_map (item_text new over) q.top.items.items)))

        together : (a b : List ℕ) → (a ++ ((b ++ 41 ∷ []) ++ codes "::")) ++ rest ≡ ((a ++ []) ++ b) ++ (41 ∷ 58 ∷ 58 ∷ rest)
        together a b = simp (append_assoc, append-nil)

-- a bracket round no term with arguments
pub closes_none : (o : Open) (x : Word) (left : List ℕ) → o.top.part ≡ Some x → (not (is_none o.top.items.items) || not (is_none o.top.args.items)) ≡ false
    → (end : List ℕ) → Accepts end (frames o) (41 ∷ left) → ⊥
closes_none o x left n none end a =
    let c = parts_false (not (is_none o.top.items.items)) (not (is_none o.top.args.items)) none in
    let f : closes (not (is_none o.top.items.items)) (shape_of o.top.part o.top.args.items) ≡ false =
    ap (λ z. closes z (shape_of o.top.part o.top.args.items)) c.0
    ∙ (ap (λ z. closes false (shape_of z o.top.args.items)) n ∙ bare x o.top.args.items c.1) in
    close_none end (not (is_none o.top.items.items)) (shape_of o.top.part o.top.args.items) (reverse (map frame_of o.outer.items)) left (known_part o x n) c.0 f
    a
  where
    bare : (x : Word) (args : List At) → not (is_none args) ≡ false → closes false (shape_of (Some x) args) ≡ false
    bare (HeadWord h) [] e = refl
    bare (HeadWord h) (b ∷ args) e = absurd cc
    bare (LeafWord b) args e = refl

-- a `::` behind the bracket, or none
pub item_step : (names : List (List ℕ)) (bank over : Nodes) (o : Open) (x : Word) (at : At) (left : List ℕ) → IsGood names bank o → o.top.part ≡ Some x
    → IsClosedTerm names bank over o at.0 → (q : Open) → o.outer.items ≡ q.outer.items ++ q.top ∷ [] → q.top.part ≡ None → (chain : Bool)
    → chain ≡ not (is_none o.top.items.items)
    → (new : List (List ℕ)) (p : Open) (step : Step) → IsItemStep chain at q left names new p step → IsStep names bank o (41 ∷ left) new over p step
item_step names bank over o x at left good n k q out w chain e new p Stuck i =
    λ end a. closes_no_item names bank over o x at.0 left good n k q out w (λ h rest f. i (e ∙ h) rest f) end a
item_step names bank over o x at left good n k q out w chain e new p (More rest) i =
    closes_item names bank over o x at.0 left good n k q out p (record { at = at; sign = i.1.1.0 }) new rest.now refl w (sym e ∙ i.0) i.1.0 i.1.1.1.0
    i.1.1.1.1.0 i.1.1.1.1.1
item_step names bank over o x at left good n k q out w chain e new p (Whole b rest) i = absurd i

-- nothing was taken off
pub none_popped : {X : Type 0} (xs ys : List X) (n : ℕ) → xs ≡ ys ++ [] → ys ≡ take (n - 1) xs → n ≡ 0 → xs ≡ []
none_popped xs ys n e f z = e ∙ (append-nil ys ∙ (f ∙ ap (λ k. take (k - 1) xs) z))
