-- The forms, by the word that they begin with, and what words ask for.
use Rattle.std.proofs.Common.{◌≡◌, ℕ, suc, ◌+◌, true, false, List, [], ◌∷◌, ◌++◌, take, slice_get, Option, Some, None, refl, ap, sym}
use Rattle.std.proofs.Common.{subst, ◌∙◌, inl, inr, arith}
use Rattle.std.specs.Prelude.{IfSome, IsSomeAnd, codes, option_map, Result, Ok, Err, MatchResult}
use Rattle.std.proofs.lemmas.Option.{slice_get-map}
use Rattle.std.specs.Borrow.{Bor}
use Rattle.ll_make.specs.declared.kind.MakeKind.{MakeKind}
use Rattle.ll_make.specs.declared.kind.MakeKind.TheVariants.{Perm, Choice, Chain}
use Rattle.ll_top.specs.declared.forms.words.FormWord.{FormWord}
use Rattle.ll_top.specs.declared.forms.words.FormWord.TheVariants.{Run, Session, Deepen, Print, Check, Cover, Convert, Make}
use Rattle.ll_top.specs.declared.forms.words.Command.{Command}
use Rattle.ll_top.specs.declared.forms.words.Command.TheVariants as command
use Rattle.ll_top.specs.declared.forms.searches.SearchForm.TheVariants as search
use Rattle.ll_top.specs.forms.Begins.{IsFirstBad}
use Rattle.ll_top.specs.forms.Words.{word_texts}
use Rattle.ll_top.specs.forms.Words.{Part, ThisWord, is_word, OptionForm, FitsParts, part, done, FitsForm, run_form, session_form, IsDeepenForm, print_form}
use Rattle.ll_top.specs.forms.Words.{check_form, cover_form, convert_form, make_form, made_run_form, IsInForm, IsInWorkersForm}
use Rattle.ll_top.specs.forms.Words.{IsBadWord, IsCheckForm, IsCommand}
use Rattle.ll_top.specs.forms.FormWords.{HasPart, LacksPart, form_word, IsNoFormWord}
use Rattle.ll_top.specs.forms.SearchOptions.{IsSearchForm}
use Rattle.ll_top.specs.forms.MakeForm.{IsMakeForm, IsBadMakeWord}
use Rattle.ll_top.specs.forms.CommandKinds.{a_run, a_session, a_deepening, a_print, a_check, a_conversion, a_make, a_made_run}
use Rattle.ll_top.specs.forms.CommandKinds.{are_two, by_first, kind_of, command_kind, has_team}
use Rattle.ll_top.proofs.wording.FirstBad.{leads-start, leads-bad, good-or-bad, IsStuck}
use Rattle.ll_top.proofs.wording.Forms.{same-word, words-same, part-first, part-lacks, options-end, no-option}

-- ---- the table: the forms that begin with a word

abbrev Of : FormWord → List (List ℕ) → Type 0
Of Run words = IsSearchForm search.Run words
Of Session words = IsSearchForm search.Session words
Of Deepen words = IsSearchForm search.Deepen words
Of Print words = FitsForm print_form words
Of Check words = FitsForm check_form words
Of Cover words = FitsForm cover_form words
Of Convert words = FitsForm convert_form words
Of Make words = IsMakeForm words

in-form : (form : FormWord) (words : List (List ℕ)) → Of form words → IsInForm words
in-form Run words f = inl (inl f.2)
in-form Session words f = inl (inr (inl f.2))
in-form Deepen words f = inr f
in-form Print words f = inl (inr (inr (inl f)))
in-form Check words f = inl (inr (inr (inr (inl f))))
in-form Cover words f = inl (inr (inr (inr (inr (inl f)))))
in-form Convert words f = inl (inr (inr (inr (inr (inr (inl f))))))
in-form Make words (Perm, inl f) = inl (inr (inr (inr (inr (inr (inr (inl f)))))))
in-form Make words (Choice, inl f) = inl (inr (inr (inr (inr (inr (inr (inr (inl f))))))))
in-form Make words (Chain, inl f) = inl (inr (inr (inr (inr (inr (inr (inr (inr (inl f)))))))))
in-form Make words (Perm, inr f) = inl (inr (inr (inr (inr (inr (inr (inr (inr (inr (inl f))))))))))
in-form Make words (Choice, inr f) = inl (inr (inr (inr (inr (inr (inr (inr (inr (inr (inr (inl f)))))))))))
in-form Make words (Chain, inr f) = inl (inr (inr (inr (inr (inr (inr (inr (inr (inr (inr (inr (inl f))))))))))))

table : (words : List (List ℕ)) → IsInForm words → (form : FormWord) × Of form words
table words (inl (inl f)) = (Run, (0, omega arith, f))
table words (inl (inr (inl f))) = (Session, (0, omega arith, f))
table words (inl (inr (inr (inl f)))) = (Print, f)
table words (inl (inr (inr (inr (inl f))))) = (Check, f)
table words (inl (inr (inr (inr (inr (inl f)))))) = (Cover, f)
table words (inl (inr (inr (inr (inr (inr (inl f))))))) = (Convert, f)
table words (inl (inr (inr (inr (inr (inr (inr (inl f)))))))) = (Make, (Perm, inl f))
table words (inl (inr (inr (inr (inr (inr (inr (inr (inl f))))))))) = (Make, (Choice, inl f))
table words (inl (inr (inr (inr (inr (inr (inr (inr (inr (inl f)))))))))) = (Make, (Chain, inl f))
table words (inl (inr (inr (inr (inr (inr (inr (inr (inr (inr (inl f))))))))))) = (Make, (Perm, inr f))
table words (inl (inr (inr (inr (inr (inr (inr (inr (inr (inr (inr (inl f)))))))))))) = (Make, (Choice, inr f))
table words (inl (inr (inr (inr (inr (inr (inr (inr (inr (inr (inr (inr (inl f))))))))))))) = (Make, (Chain, inr f))
table words (inl (inr (inr (inr (inr (inr (inr (inr (inr (inr (inr (inr (inr f))))))))))))) = absurd f
table words (inr f) = (Deepen, f)

of-first : (form : FormWord) (w : List ℕ) (ws : List (List ℕ)) → Of form (w ∷ ws) → is_word w (form_word form) ≡ true
of-first Run w ws f = (part-first f.2).0
of-first Session w ws f = (part-first f.2).0
of-first Deepen w ws f = (part-first f.2).0
of-first Print w ws f = (part-first f).0
of-first Check w ws f = (part-first f).0
of-first Cover w ws f = (part-first f).0
of-first Convert w ws f = (part-first f).0
of-first Make w ws (kind, inl f) = (part-first f).0
of-first Make w ws (kind, inr f) = (part-first f).0

of-none : (form : FormWord) → Of form [] → ⊥
of-none Run f = part-lacks f.2
of-none Session f = part-lacks f.2
of-none Deepen f = part-lacks f.2
of-none Print f = part-lacks f
of-none Check f = part-lacks f
of-none Cover f = part-lacks f
of-none Convert f = part-lacks f
of-none Make (kind, inl f) = part-lacks f
of-none Make (kind, inr f) = part-lacks f

-- ---- each has a word of its own

one-word : (form other : FormWord) → is_word (form_word form) (form_word other) ≡ true → form ≡ other
one-word Run Run h = refl
one-word Run other h = cc
one-word Session Session h = refl
one-word Session other h = cc
one-word Deepen Deepen h = refl
one-word Deepen other h = cc
one-word Print Print h = refl
one-word Print other h = cc
one-word Check Check h = refl
one-word Check other h = cc
one-word Cover Cover h = refl
one-word Cover other h = cc
one-word Convert Convert h = refl
one-word Convert other h = cc
one-word Make Make h = refl
one-word Make other h = cc

pub check-not-cover : (words : List (List ℕ)) → FitsForm check_form words → FitsForm cover_form words → ⊥
check-not-cover [] f g = part-lacks f
check-not-cover (w ∷ ws) f g =
    let a = ap (λ v. is_word v (codes "check")) (words-same w (codes "cover") (part-first g).0) in
    let b = (part-first f).0 in
    cc

-- words in a form that begin with this word are in one of its forms
of-alone : (form : FormWord) (w : List ℕ) (ws : List (List ℕ)) → is_word w (form_word form) ≡ true → IsInForm (w ∷ ws) → Of form (w ∷ ws)
of-alone form w ws h f =
    let o = table (w ∷ ws) f in
    let e = one-word form o.0 (subst (λ v. is_word v (form_word o.0) ≡ true) (words-same w (form_word form) h) (of-first o.0 w ws o.1)) in
    subst (λ g. Of g (w ∷ ws)) (sym e) o.1

-- the first word through which none of these forms begins is that through which none at all does
pub bad-among : (form : FormWord) (words : List (List ℕ)) (number place : ℕ) → HasPart words 0 (ThisWord (form_word form)) → number ≡ place + 1
    → IsFirstBad (Of form) words place → IsBadWord words number
bad-among form [] number place h e b = absurd h
bad-among form (w ∷ ws) number place h e b = record {
  place = place;
  is = e;
  bad = record {
    within = b.within;
    before = (b.before.0, in-form form (take place (w ∷ ws) ++ b.before.0) b.before.1);
    here = λ l m. b.here l (m.0, front m.0 m.1);
    at_end = λ e m. b.at_end e (of-alone form w ws h m);
  };
}
  where
    front : (more : List (List ℕ)) → IsInForm (take (place + 1) (w ∷ ws) ++ more) → Of form (take (place + 1) (w ∷ ws) ++ more)
    front more m =
        subst (λ n. Of form (take n (w ∷ ws) ++ more)) (let e : suc place ≡ place + 1 = omega arith in e)
        (of-alone form w (take place ws ++ more) h (subst (λ n. IsInForm (take n (w ∷ ws) ++ more)) (let e : place + 1 ≡ suc place = omega arith in e) m))

-- words that begin as a make, and what they ask for
pub make-answer : {A : Type 0} (words : List (List ℕ)) (Good : A → Type 0) (r : Result A ℕ) → HasPart words 0 (ThisWord (codes "make"))
    → MatchResult r Good (IsBadMakeWord words) → MatchResult r Good (IsBadWord words)
make-answer words Good (Ok x) h m = m
make-answer words Good (Err n) h m = bad-among Make words n m.place h m.is m.bad

-- no form begins with the first word, or there is none
pub bad-first : (words : List (List ℕ)) → ((form : FormWord) → LacksPart words 0 (ThisWord (form_word form))) → IsBadWord words 1
bad-first words h = record {
  place = 0;
  is = refl;
  bad = leads-bad IsInForm IsInForm words 0 (leads-start IsInForm words) (
    codes "print" ∷ codes "p" ∷ [],
    in-form Print (codes "print" ∷ codes "p" ∷ []) (part refl (part refl (done refl))),
  ) (stuck (slice_get words 0) h);
}
  where
    stuck : (next : Option (List ℕ)) → ((form : FormWord) → IfSome next (λ w. is_word w (form_word form) ≡ false)) → IsStuck IsInForm next
    stuck None h = λ f. let o = table [] f in of-none o.0 o.1
    stuck (Some w) h = λ ys f. let o = table (w ∷ ys) f in let a = of-first o.0 w ys o.1 in let b = h o.0 in cc

-- ---- the first word

first-is : (words : List (Bor (List ℕ))) (word : Option (Bor (List ℕ))) → word ≡ slice_get words 0
    → slice_get (word_texts words) 0 ≡ option_map (λ w. w.now) word
first-is words word e = slice_get-map (λ w. w.now) words 0 ∙ ap (λ o. option_map (λ w. w.now) o) (sym e)

pub first-lacks : (words : List (Bor (List ℕ))) → None ≡ slice_get words 0 → (form : FormWord) → LacksPart (word_texts words) 0 (ThisWord (form_word form))
first-lacks words e form = subst (λ o. IfSome o (λ w. is_word w (form_word form) ≡ false)) (sym (first-is words None e)) tt

pub first-other : (words : List (Bor (List ℕ))) (word : Bor (Bor (List ℕ))) → Some word.now ≡ slice_get words 0 → IsNoFormWord word.now.now → (form : FormWord)
    → LacksPart (word_texts words) 0 (ThisWord (form_word form))
first-other words word e h form = subst (λ o. IfSome o (λ w. is_word w (form_word form) ≡ false)) (sym (first-is words (Some word.now) e)) (h form)

pub first-same : (form : FormWord) (words : List (Bor (List ℕ))) (word : Bor (Bor (List ℕ))) → Some word.now ≡ slice_get words 0 → word.now.now ≡ form_word form
    → HasPart (word_texts words) 0 (ThisWord (form_word form))
first-same form words word e h =
    subst (λ o. IsSomeAnd o (λ w. is_word w (form_word form) ≡ true)) (sym (first-is words (Some word.now) e))
    (ap (λ w. is_word w (form_word form)) h ∙ same-word (form_word form))

-- ---- what words ask for

-- words in a form with this first word
begins-with : (text w : List ℕ) (ws : List (List ℕ)) {ps : List Part} {os : List OptionForm} → FitsParts (ThisWord text ∷ ps) os (w ∷ ws)
    → kind_of (w ∷ ws) ≡ by_first text (are_two ws)
begins-with text w ws f = ap (λ v. by_first v (are_two ws)) (words-same w text (part-first f).0)

pub run-kind : (words : List (List ℕ)) → FitsForm run_form words → kind_of words ≡ a_run
run-kind [] f = absurd (part-lacks f)
run-kind (w ∷ ws) f = begins-with (codes "run") w ws f

pub session-kind : (words : List (List ℕ)) → FitsForm session_form words → kind_of words ≡ a_session
session-kind [] f = absurd (part-lacks f)
session-kind (w ∷ ws) f = begins-with (codes "session") w ws f

pub deepen-kind : (words : List (List ℕ)) → IsDeepenForm words → kind_of words ≡ a_deepening
deepen-kind [] f = absurd (part-lacks f.2)
deepen-kind (w ∷ ws) f = begins-with (codes "deepen") w ws f.2

pub print-kind : (words : List (List ℕ)) → FitsForm print_form words → kind_of words ≡ a_print
print-kind [] f = absurd (part-lacks f)
print-kind (w ∷ ws) f = begins-with (codes "print") w ws f

pub check-kind : (words : List (List ℕ)) → FitsForm check_form words → kind_of words ≡ a_check
check-kind [] f = absurd (part-lacks f)
check-kind (w ∷ ws) f = begins-with (codes "check") w ws f

pub cover-kind : (words : List (List ℕ)) → FitsForm cover_form words → kind_of words ≡ a_check
cover-kind [] f = absurd (part-lacks f)
cover-kind (w ∷ ws) f = begins-with (codes "cover") w ws f

pub convert-kind : (words : List (List ℕ)) → FitsForm convert_form words → kind_of words ≡ a_conversion
convert-kind [] f = absurd (part-lacks f)
convert-kind (w ∷ ws) f = begins-with (codes "convert") w ws f

pub make-kind : (words : List (List ℕ)) (kind : MakeKind) → FitsForm (make_form kind) words → kind_of words ≡ a_make
make-kind [] kind f = absurd (part-lacks f)
make-kind (w ∷ []) kind f = absurd (part-lacks (part-first f).1)
make-kind (w ∷ v ∷ []) kind f = absurd (part-lacks (part-first (part-first f).1).1)
make-kind (w ∷ v ∷ u ∷ []) kind f = begins-with (codes "make") w (v ∷ u ∷ []) f
make-kind (w ∷ v ∷ u ∷ x ∷ ws) kind f = absurd (no-option (part-first (part-first (part-first f).1).1).1)

pub made-run-kind : (words : List (List ℕ)) (kind : MakeKind) → FitsForm (made_run_form kind) words → kind_of words ≡ a_made_run
made-run-kind [] kind f = absurd (part-lacks f)
made-run-kind (w ∷ []) kind f = absurd (part-lacks (part-first f).1)
made-run-kind (w ∷ v ∷ []) kind f = absurd (part-lacks (part-first (part-first f).1).1)
made-run-kind (w ∷ v ∷ u ∷ []) kind f = absurd (let e = options-end (part-first (part-first (part-first f).1).1).1 in cc)
made-run-kind (w ∷ v ∷ u ∷ x ∷ ws) kind f = begins-with (codes "make") w (v ∷ u ∷ x ∷ ws) f

-- ---- commands

pub checked-kind : (words : List (List ℕ)) (bound : Option ℕ) → IsCheckForm words bound → kind_of words ≡ a_check
checked-kind words None f = check-kind words f
checked-kind words (Some bound) f = cover-kind words f.0

pub asked-kind : (words : List (List ℕ)) (c : Command) → IsCommand words c → kind_of words ≡ command_kind c
asked-kind words (command.Run run) a = run-kind words a.form
asked-kind words (command.Session session) a = session-kind words a.form
asked-kind words (command.Deepen deepen) a = deepen-kind words a.form
asked-kind words (command.Print name) a = print-kind words a.form
asked-kind words (command.Check check) a = checked-kind words check.bound a.form
asked-kind words (command.Convert convert) a = convert-kind words a.form
asked-kind words (command.Make make) a = make-kind words make.kind a.form
asked-kind words (command.MadeRun run) a = made-run-kind words run.make.kind a.form

pub run-in-form : (words : List (List ℕ)) → FitsForm run_form words → IsInForm words
run-in-form words f = in-form Run words (0, omega arith, f)

pub session-in-form : (words : List (List ℕ)) → FitsForm session_form words → IsInForm words
session-in-form words f = in-form Session words (0, omega arith, f)

pub deepen-in-form : (words : List (List ℕ)) → IsDeepenForm words → IsInForm words
deepen-in-form words f = in-form Deepen words f

pub print-in-form : (words : List (List ℕ)) → FitsForm print_form words → IsInForm words
print-in-form words f = in-form Print words f

pub checked-in-form : (words : List (List ℕ)) (bound : Option ℕ) → IsCheckForm words bound → IsInForm words
checked-in-form words None f = in-form Check words f
checked-in-form words (Some bound) f = in-form Cover words f.0

pub convert-in-form : (words : List (List ℕ)) → FitsForm convert_form words → IsInForm words
convert-in-form words f = in-form Convert words f

pub make-in-form : (words : List (List ℕ)) (kind : MakeKind) → FitsForm (make_form kind) words → IsInForm words
make-in-form words kind f = in-form Make words (kind, inl f)

pub made-run-in-form : (words : List (List ℕ)) (kind : MakeKind) → FitsForm (made_run_form kind) words → IsInForm words
made-run-in-form words kind f = in-form Make words (kind, inr f)

pub asked-in-form : (words : List (List ℕ)) (c : Command) → IsCommand words c → IsInForm words
asked-in-form words (command.Run run) a = run-in-form words a.form
asked-in-form words (command.Session session) a = session-in-form words a.form
asked-in-form words (command.Deepen deepen) a = deepen-in-form words a.form
asked-in-form words (command.Print name) a = print-in-form words a.form
asked-in-form words (command.Check check) a = checked-in-form words check.bound a.form
asked-in-form words (command.Convert convert) a = convert-in-form words a.form
asked-in-form words (command.Make make) a = make-in-form words make.kind a.form
asked-in-form words (command.MadeRun run) a = made-run-in-form words run.make.kind a.form

pub bad-not-in-form : (words : List (List ℕ)) (number : ℕ) → IsBadWord words number → IsInForm words → ⊥
bad-not-in-form words number b f = good-or-bad IsInForm words b.place f b.bad

-- ---- workers

pub workers-kind : (words : List (List ℕ)) → IsInWorkersForm words → has_team (kind_of words) ≡ true
workers-kind words (inl (inl f)) = ap has_team (run-kind words f)
workers-kind words (inl (inr (inl f))) = ap has_team (session-kind words f)
workers-kind words (inl (inr (inr (inl f)))) = ap has_team (made-run-kind words Perm f)
workers-kind words (inl (inr (inr (inr (inl f))))) = ap has_team (made-run-kind words Choice f)
workers-kind words (inl (inr (inr (inr (inr (inl f)))))) = ap has_team (made-run-kind words Chain f)
workers-kind words (inl (inr (inr (inr (inr (inr f)))))) = absurd f
workers-kind words (inr f) = ap has_team (deepen-kind words f)

pub workers-in-form : (words : List (List ℕ)) → IsInWorkersForm words → IsInForm words
workers-in-form words (inl (inl f)) = run-in-form words f
workers-in-form words (inl (inr (inl f))) = session-in-form words f
workers-in-form words (inl (inr (inr (inl f)))) = made-run-in-form words Perm f
workers-in-form words (inl (inr (inr (inr (inl f))))) = made-run-in-form words Choice f
workers-in-form words (inl (inr (inr (inr (inr (inl f)))))) = made-run-in-form words Chain f
workers-in-form words (inl (inr (inr (inr (inr (inr f)))))) = absurd f
workers-in-form words (inr f) = inr f

made-workers : (words : List (List ℕ)) (kind : MakeKind) → FitsForm (made_run_form kind) words → IsInWorkersForm words
made-workers words Perm f = inl (inr (inr (inl f)))
made-workers words Choice f = inl (inr (inr (inr (inl f))))
made-workers words Chain f = inl (inr (inr (inr (inr (inl f)))))

-- a command that says how many search, and no other one, is in such a form
pub asked-workers : (words : List (List ℕ)) (c : Command) → IsCommand words c → has_team (command_kind c) ≡ true → IsInWorkersForm words
asked-workers words (command.Run run) a h = inl (inl a.form)
asked-workers words (command.Session session) a h = inl (inr (inl a.form))
asked-workers words (command.Deepen deepen) a h = inr a.form
asked-workers words (command.MadeRun run) a h = made-workers words run.make.kind a.form
asked-workers words c a h = cc

pub asked-alone : (words : List (List ℕ)) (c : Command) → IsCommand words c → has_team (command_kind c) ≡ false → IsInWorkersForm words → ⊥
asked-alone words c a h f = let k = workers-kind words f in let e = ap has_team (asked-kind words c a) in cc

some-is : (x y : ℕ) → ◌≡◌ {A = Option ℕ} (Some x) (Some y) → x ≡ y
some-is x y e = cc

-- words of a run ask for no other command
pub asked-run : (words : List (List ℕ)) (c d : Command) → c ≡ d → IsCommand words c → FitsForm run_form words → a_run ≡ command_kind d
asked-run words c d e a f = sym (run-kind words f) ∙ (asked-kind words c a ∙ ap command_kind e)
