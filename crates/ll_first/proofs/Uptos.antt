-- The shortest prefix with so many answers.
use Rattle.std.proofs.Common.{◌≡◌, ℕ, zero, suc, ◌+◌, ◌<◌, ◌≤◌, List, [], ◌∷◌, ◌++◌, refl, sym, ap, ◌∙◌, arith, Option, Some, None}
use Rattle.std.specs.Prelude.{count_by, option_map, if◌then◌else◌}
use Rattle.std.proofs.lemmas.List.Sums.{sum_by-append, sum_by-cons}
use Rattle.ll_laws.specs.declared.Event.{Event}
use Rattle.ll_laws.specs.declared.Event.TheVariants.{Answer, Reached}
use Rattle.ll_laws.specs.Search.{is_answer}
use Rattle.ll_first.specs.Upto.{upto}

count_answer : (a : _) (es : List Event) → count_by is_answer (Answer a ∷ es) ≡ suc (count_by is_answer es)
count_answer a es = let s : count_by is_answer (Answer a ∷ es) ≡ 1 + count_by is_answer es = sum_by-cons _ (Answer a) es in omega arith

count_reached : (es : List Event) → count_by is_answer (Reached ∷ es) ≡ count_by is_answer es
count_reached es = let s : count_by is_answer (Reached ∷ es) ≡ 0 + count_by is_answer es = sum_by-cons _ Reached es in omega arith

-- an event in front of a prefix
pub in_front : (e : Event) (o : Option (List Event)) (front : List Event) → option_map (λ f. e ∷ f) o ≡ Some front
    → (rest : List Event) × (o ≡ Some rest) × (front ≡ e ∷ rest)
in_front e None front h = absurd (cc)
in_front e (Some rest) front h = let same : e ∷ rest ≡ front = cc in (rest, refl, sym same)

-- it is a prefix, and has so many answers
pub upto_front : (es : List Event) (k : ℕ) (front : List Event) → upto es k ≡ Some front
    → (back : List Event) × (es ≡ front ++ back) × (count_by is_answer front ≡ k)
upto_front es zero front h = let same : [] ≡ front = cc in (es, ap (λ l. l ++ es) same, ap (count_by is_answer) (sym same))
upto_front [] (suc k) front h = absurd (cc)
upto_front (Answer a ∷ es) (suc k) front h =
    let m = in_front (Answer a) (upto es k) front h in
    let i = upto_front es k m.0 m.1 in
    (i.0, ap (λ l. Answer a ∷ l) i.1 ∙ ap (λ l. l ++ i.0) (sym m.2), ap (count_by is_answer) m.2 ∙ (count_answer a m.0 ∙ ap suc i.2))
upto_front (Reached ∷ es) (suc k) front h =
    let m = in_front Reached (upto es (suc k)) front h in
    let i = upto_front es (suc k) m.0 m.1 in
    (i.0, ap (λ l. Reached ∷ l) i.1 ∙ ap (λ l. l ++ i.0) (sym m.2), ap (count_by is_answer) m.2 ∙ (count_reached m.0 ∙ i.2))

-- there is none where the events have fewer
pub upto_none : (es : List Event) (k : ℕ) → count_by is_answer es < k → upto es k ≡ None
upto_none es zero few = absurd (omega arith)
upto_none [] (suc k) few = refl
upto_none (Answer a ∷ es) (suc k) few = let c = count_answer a es in ap (option_map (λ f. Answer a ∷ f)) (upto_none es k (omega arith))
upto_none (Reached ∷ es) (suc k) few = let c = count_reached es in ap (option_map (λ f. Reached ∷ f)) (upto_none es (suc k) (omega arith))

-- and there is one where they don't
pub upto_some : (es : List Event) (k : ℕ) → k ≤ count_by is_answer es → (front : List Event) × (upto es k ≡ Some front)
upto_some es zero many = ([], refl)
upto_some [] (suc k) many = absurd (omega arith)
upto_some (Answer a ∷ es) (suc k) many =
    let c = count_answer a es in let i = upto_some es k (omega arith) in (Answer a ∷ i.0, ap (option_map (λ f. Answer a ∷ f)) i.1)
upto_some (Reached ∷ es) (suc k) many =
    let c = count_reached es in let i = upto_some es (suc k) (omega arith) in (Reached ∷ i.0, ap (option_map (λ f. Reached ∷ f)) i.1)

-- all events have at least as many answers
pub upto_enough : (es : List Event) (k : ℕ) (front : List Event) → upto es k ≡ Some front → k ≤ count_by is_answer es
upto_enough es k front h =
    let f = upto_front es k front h in
    let sum : count_by is_answer (front ++ f.0) ≡ count_by is_answer front + count_by is_answer f.0 = sum_by-append _ front f.0 in
    let same = ap (count_by is_answer) f.1 in let has = f.2 in omega arith

-- it ends with the event that makes the answers as many
pub upto_here : (front : List Event) (e : Event) (back : List Event) (k : ℕ) → count_by is_answer front < k → k ≤ count_by is_answer (front ++ e ∷ [])
    → upto (front ++ e ∷ back) k ≡ Some (front ++ e ∷ [])
upto_here front e back zero few enough = absurd (omega arith)
upto_here [] (Answer a) back (suc zero) few enough = refl
upto_here [] (Answer a) back (suc (suc k)) few enough = absurd (let c = count_answer a [] in omega arith)
upto_here [] Reached back (suc k) few enough = absurd (let c = count_reached [] in omega arith)
upto_here (Answer a ∷ front) e back (suc k) few enough =
    let c = count_answer a front in let d = count_answer a (front ++ e ∷ []) in
    ap (option_map (λ f. Answer a ∷ f)) (upto_here front e back k (omega arith) (omega arith))
upto_here (Reached ∷ front) e back (suc k) few enough =
    let c = count_reached front in let d = count_reached (front ++ e ∷ []) in
    ap (option_map (λ f. Reached ∷ f)) (upto_here front e back (suc k) (omega arith) (omega arith))

-- what has fewer answers stands in front of it
pub upto_past : (some rest : List Event) (k : ℕ) (front : List Event) → count_by is_answer some < k → upto (some ++ rest) k ≡ Some front
    → (more : List Event) × (front ≡ some ++ more)
upto_past some rest zero front few h = absurd (omega arith)
upto_past [] rest (suc k) front few h = (front, refl)
upto_past (Answer a ∷ some) rest (suc k) front few h =
    let c = count_answer a some in
    let m = in_front (Answer a) (upto (some ++ rest) k) front h in
    let i = upto_past some rest k m.0 (omega arith) m.1 in (i.0, m.2 ∙ ap (λ l. Answer a ∷ l) i.1)
upto_past (Reached ∷ some) rest (suc k) front few h =
    let c = count_reached some in
    let m = in_front Reached (upto (some ++ rest) (suc k)) front h in
    let i = upto_past some rest (suc k) m.0 (omega arith) m.1 in (i.0, m.2 ∙ ap (λ l. Reached ∷ l) i.1)

-- and so does the event behind that
pub upto_next : (some : List Event) (e : Event) (rest : List Event) (k : ℕ) (front : List Event) → count_by is_answer some < k
    → upto (some ++ e ∷ rest) k ≡ Some front → (more : List Event) × (front ≡ some ++ e ∷ more)
upto_next some e rest zero front few h = absurd (omega arith)
upto_next [] e rest (suc k) front few h = let m = in_front e (upto rest (if is_answer e then k else suc k)) front h in (m.0, m.2)
upto_next (Answer a ∷ some) e rest (suc k) front few h =
    let c = count_answer a some in
    let m = in_front (Answer a) (upto (some ++ e ∷ rest) k) front h in
    let i = upto_next some e rest k m.0 (omega arith) m.1 in (i.0, m.2 ∙ ap (λ l. Answer a ∷ l) i.1)
upto_next (Reached ∷ some) e rest (suc k) front few h =
    let c = count_reached some in
    let m = in_front Reached (upto (some ++ e ∷ rest) (suc k)) front h in
    let i = upto_next some e rest (suc k) m.0 (omega arith) m.1 in (i.0, m.2 ∙ ap (λ l. Reached ∷ l) i.1)
