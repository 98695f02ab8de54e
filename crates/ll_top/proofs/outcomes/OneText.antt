-- Words and texts determine what is written.
use Rattle.std.proofs.Common.{◌≡◌, ◌+◌, ℕ, List, Option, Some, None, refl, ap, sym, subst, ◌∙◌, inl, inr, arith, IfSome}
use Rattle.std.specs.Prelude.{slice_get, codes, option_map}
use Rattle.std.specs.Str.Parse.{digits_value}
use Rattle.ll_edge.specs.Texts.{Texts}
use Rattle.ll_top.specs.forms.Words.{RunWords, SessionWords, DeepenWords, CheckWords, ConvertWords, HasFirst, IsInForm, IsRun, IsSession, IsDeepen, IsCheckForm}
use Rattle.ll_top.specs.forms.Words.{IsCheck, IsConvert, IsMake, IsMadeRun, IsBadWord, number_behind}
use Rattle.ll_top.specs.Making.{make_text}
use Rattle.ll_top.specs.forms.Making.{MakeWords, MadeRunWords}
use Rattle.ll_top.specs.MadeRuns.{MadeRunComesTo}
use Rattle.ll_top.specs.texts.Faults.{Usage, fault_text}
use Rattle.ll_top.specs.Outcome.{RunComesTo}
use Rattle.ll_top.specs.texts.Outcome.{AnyName, NoName, PrintComesTo}
use Rattle.ll_top.specs.textbook.Laws.{ShownFollows}
use Rattle.ll_top.specs.texts.CallEnds.{Ends, whole, unwritable, no_memory}
use Rattle.ll_top.specs.checks.Outcome.{CheckComesTo, IsProved}
use Rattle.ll_top.proofs.verdicts.ProvedLemmas.{comes-proved}
use Rattle.ll_top.specs.Sessions.{SessionComesTo}
use Rattle.ll_top.specs.Deepening.{DeepenComesTo}
use Rattle.ll_top.specs.texts.Converting.{ConvertComesTo}
use Rattle.ll_top.specs.Calls.{ComesTo, misused, runs, sessions, deepens, prints, checks, converts, makes, runs_made}
use Rattle.ll_top.proofs.wording.FirstBad.{one-bad}
use Rattle.ll_top.proofs.wording.WordValues.{word-behind}
use Rattle.ll_top.proofs.wording.FirstWords.{check-not-cover, bad-not-in-form, checked-kind}
use Rattle.ll_top.proofs.wording.MakeLemmas.{same-kind}
use Rattle.ll_top.proofs.outcomes.CallLemmas.{comes-kind, comes-in-form}

-- ---- words

-- two values of one option are one
pub some-same : {A : Type 0} (x y : A) (o : Option A) → o ≡ Some x → o ≡ Some y → x ≡ y
some-same x y o e f = cc

one-number : (words : List (List ℕ)) (n m : ℕ) → IsBadWord words n → IsBadWord words m → n ≡ m
one-number words n m b c = b.is ∙ (ap (λ p. p + 1) (one-bad IsInForm words b.place c.place b.bad c.bad) ∙ sym c.is)

-- the option stands among the words, or it does not
one-first : (words : List (List ℕ)) (k l : Option ℕ) → HasFirst words k → HasFirst words l → k ≡ l
one-first words None None h g = refl
one-first words None (Some l) h g = absurd (let e = word-behind (codes "--first") words l g in cc)
one-first words (Some k) None h g = absurd (let e = word-behind (codes "--first") words k h in cc)
one-first words (Some k) (Some l) h g = sym h ∙ g

pub one-run : (words : List (List ℕ)) (r s : RunWords) → IsRun words r → IsRun words s → r ≡ s
one-run words r s h k =
    let p = some-same r.program s.program (slice_get words 1) h.program k.program in
    let q = some-same r.query s.query (slice_get words 2) h.query k.query in
    let b = some-same r.bound s.bound (number_behind (codes "--bound") words) h.bound k.bound in
    let w = some-same r.workers s.workers (number_behind (codes "--workers") words) h.workers k.workers in
    let o = sym h.proofs ∙ k.proofs in
    let f = one-first words r.first s.first h.first k.first in
    λ i. record { program = p i; query = q i; bound = b i; workers = w i; proofs = o i; first = f i }

pub one-session : (words : List (List ℕ)) (r s : SessionWords) → IsSession words r → IsSession words s → r ≡ s
one-session words r s h k =
    let p = some-same r.program s.program (slice_get words 1) h.program k.program in
    let q = some-same r.queries s.queries (slice_get words 2) h.queries k.queries in
    let b = some-same r.bound s.bound (number_behind (codes "--bound") words) h.bound k.bound in
    let w = some-same r.workers s.workers (number_behind (codes "--workers") words) h.workers k.workers in
    let o = sym h.proofs ∙ k.proofs in
    λ i. record { program = p i; queries = q i; bound = b i; workers = w i; proofs = o i }

pub one-deepen : (words : List (List ℕ)) (r s : DeepenWords) → IsDeepen words r → IsDeepen words s → r ≡ s
one-deepen words r s h k =
    let p = some-same r.program s.program (slice_get words 1) h.program k.program in
    let q = some-same r.query s.query (slice_get words 2) h.query k.query in
    let a = some-same r.series.from s.series.from (number_behind (codes "--from") words) h.from_is k.from_is in
    let b = some-same r.series.by s.series.by (number_behind (codes "--by") words) h.by_is k.by_is in
    let c = some-same r.series.to s.series.to (number_behind (codes "--to") words) h.to_is k.to_is in
    let w = some-same r.workers s.workers (number_behind (codes "--workers") words) h.workers k.workers in
    let o = sym h.proofs ∙ k.proofs in
    λ i. record { program = p i; query = q i; series = record { from = a i; by = b i; to = c i }; workers = w i; proofs = o i }

one-bound : (words : List (List ℕ)) (b c : Option ℕ) → IsCheckForm words b → IsCheckForm words c → b ≡ c
one-bound words None None f g = refl
one-bound words None (Some c) f g = absurd (check-not-cover words f g.0)
one-bound words (Some b) None f g = absurd (check-not-cover words g f.0)
one-bound words (Some b) (Some c) f g = sym f.1 ∙ g.1

pub one-check : (words : List (List ℕ)) (c d : CheckWords) → IsCheck words c → IsCheck words d → c ≡ d
one-check words c d h k =
    let p = some-same c.program d.program (slice_get words 1) h.program k.program in
    let q = some-same c.query d.query (slice_get words 2) h.query k.query in
    let r = some-same c.proof d.proof (slice_get words 3) h.proof k.proof in
    let b = one-bound words c.bound d.bound h.form k.form in
    λ i. record { program = p i; query = q i; proof = r i; bound = b i }

pub one-convert : (words : List (List ℕ)) (c d : ConvertWords) → IsConvert words c → IsConvert words d → c ≡ d
one-convert words c d h k =
    let p = some-same c.proof d.proof (slice_get words 1) h.proof k.proof in
    let v = some-same c.version d.version (number_behind (codes "--to") words) h.version k.version in
    λ i. record { proof = p i; version = v i }

one-make : (words : List (List ℕ)) (m n : MakeWords) → IsMake words m → IsMake words n → m ≡ n
one-make words m n h k =
    let e = same-kind words m.kind n.kind (inl h.form) (inl k.form) in
    let v = some-same m.number n.number (option_map (digits_value 10) (slice_get words 2)) h.number k.number in
    λ i. record { kind = e i; number = v i }

pub one-made-run : (words : List (List ℕ)) (m n : MadeRunWords) → IsMadeRun words m → IsMadeRun words n → m ≡ n
one-made-run words m n h k =
    let e = same-kind words m.make.kind n.make.kind (inr h.form) (inr k.form) in
    let v = some-same m.make.number n.make.number (option_map (digits_value 10) (slice_get words 2)) h.number k.number in
    let b = some-same m.bound n.bound (number_behind (codes "--bound") words) h.bound k.bound in
    let w = some-same m.workers n.workers (number_behind (codes "--workers") words) h.workers k.workers in
    λ i. record { make = record { kind = e i; number = v i }; bound = b i; workers = w i }

-- ---- calls

module _ (texts : Texts)
    (run-once : (run : RunWords) (s t : ℕ) (u v : List ℕ) → RunComesTo (Some texts) AnyName NoName run s u → RunComesTo (Some texts) AnyName NoName run t v
    → (s ≡ t) × (u ≡ v))
    (session-once : (session : SessionWords) (s t : ℕ) (u v : List ℕ) → SessionComesTo (Some texts) AnyName NoName session s u
    → SessionComesTo (Some texts) AnyName NoName session t v → (s ≡ t) × (u ≡ v))
    (deepen-once : (deepen : DeepenWords) (s t : ℕ) (u v : List ℕ) → DeepenComesTo (Some texts) AnyName NoName deepen s u
    → DeepenComesTo (Some texts) AnyName NoName deepen t v → (s ≡ t) × (u ≡ v))
    (print-once : (name : List ℕ) (s t : ℕ) (u v : List ℕ) → PrintComesTo (Some texts) AnyName NoName name s u
    → PrintComesTo (Some texts) AnyName NoName name t v
    → (s ≡ t) × (u ≡ v))
    (check-once : (check : CheckWords) (s t : ℕ) (u v : List ℕ) → CheckComesTo (Some texts) AnyName NoName check s u
    → CheckComesTo (Some texts) AnyName NoName check t v → (s ≡ t) × (u ≡ v))
    (convert-once : (convert : ConvertWords) (s t : ℕ) (u v : List ℕ) → ConvertComesTo (Some texts) AnyName NoName convert s u
    → ConvertComesTo (Some texts) AnyName NoName convert t v → (s ≡ t) × (u ≡ v))
    (made-once : (run : MadeRunWords) (s t : ℕ) (u v : List ℕ) → MadeRunComesTo run s u → MadeRunComesTo run t v → (s ≡ t) × (u ≡ v)) where
  pub one-text : (words : List (List ℕ)) (s t : ℕ) (u v : List ℕ) → ComesTo words (Some texts) AnyName NoName s u
      → ComesTo words (Some texts) AnyName NoName t v
      → (s ≡ t) × (u ≡ v)
  one-text words s t u v (misused n b e f) (misused m c g h) = (e ∙ sym g, f ∙ (ap (λ k. fault_text (Usage k)) (one-number words n m b c) ∙ sym h))
  one-text words s t u v (runs r h c) (runs q k d) = run-once q s t u v (subst (λ x. RunComesTo (Some texts) AnyName NoName x s u) (one-run words r q h k) c) d
  one-text words s t u v (sessions r h c) (sessions q k d) =
      session-once q s t u v (subst (λ x. SessionComesTo (Some texts) AnyName NoName x s u) (one-session words r q h k) c) d
  one-text words s t u v (deepens r h c) (deepens q k d) = deepen-once q s t u v
      (subst (λ x. DeepenComesTo (Some texts) AnyName NoName x s u) (one-deepen words r q h k) c) d
  one-text words s t u v (prints r h c) (prints q k d) = print-once q s t u v
      (subst (λ x. PrintComesTo (Some texts) AnyName NoName x s u) (some-same r q (slice_get words 1) h.program k.program) c) d
  one-text words s t u v (checks r h c) (checks q k d) = check-once q s t u v
      (subst (λ x. CheckComesTo (Some texts) AnyName NoName x s u) (one-check words r q h k) c) d
  one-text words s t u v (converts r h c) (converts q k d) =
      convert-once q s t u v (subst (λ x. ConvertComesTo (Some texts) AnyName NoName x s u) (one-convert words r q h k) c) d
  one-text words s t u v (makes r h c) (makes q k d) = (c.succeeds ∙ sym d.succeeds, c.is ∙ (ap make_text (one-make words r q h k) ∙ sym d.is))
  one-text words s t u v (runs_made r h c) (runs_made q k d) = made-once q s t u v (subst (λ x. MadeRunComesTo x s u) (one-made-run words r q h k) c) d
  one-text words s t u v (misused n b e f) d = absurd (bad-not-in-form words n b (comes-in-form words (Some texts) AnyName NoName t v d refl))
  one-text words s t u v c (misused n b e f) = absurd (bad-not-in-form words n b (comes-in-form words (Some texts) AnyName NoName s u c refl))
  one-text words s t u v c d = absurd (let k = sym (comes-kind words (Some texts) AnyName NoName s u c refl)
      ∙ comes-kind words (Some texts) AnyName NoName t v d refl in cc)

-- ---- a check that ends with status 0

module _ (follows : ShownFollows) (words : List (List ℕ)) (told : Option Texts) (absence read_failed : List ℕ → Type 0) (check : CheckWords) where
  comes-shown : (status : ℕ) (text : List ℕ) → IsCheck words check → status ≡ 0 → ComesTo words told absence read_failed status text → IsProved told check
  comes-shown status text is zero (checks other k c) = comes-proved follows told check absence read_failed status text zero
      (subst (λ x. CheckComesTo told absence read_failed x status text) (one-check words other check k is) c)
  comes-shown status text is zero (misused n b s t) = absurd (omega (arith, s, zero))
  comes-shown status text is zero c =
      absurd (let k = sym (checked-kind words check.bound is.form) ∙ comes-kind words told absence read_failed status text c refl in cc)

  module _ (write_failed : Type 0) (before after : Option (List ℕ)) where
    pub call-shown : (status : ℕ) → Ends (ComesTo words told absence read_failed) write_failed before after status → IsCheck words check → status ≡ 0
        → IsProved told check
    call-shown status (whole text c a) is zero = comes-shown status text is zero c
    call-shown status (unwritable meant text c w s a) is zero = absurd (omega (arith, s, zero))
    call-shown status (no_memory s a) is zero = absurd (omega (arith, s, zero))

    pub plain-shown : (answer : Option ℕ) → IfSome answer (Ends (ComesTo words told absence read_failed) write_failed before after) → IsCheck words check
        → answer ≡ Some 0 → IsProved told check
    plain-shown answer ends is e =
        call-shown 0 (subst (λ o. IfSome o (Ends (ComesTo words told absence read_failed) write_failed before after)) e ends) is refl
