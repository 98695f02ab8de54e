use Rattle.std.proofs.Common.{◌≡◌, List, ℕ, true, refl, ap, sym, subst, le_refl}
use Rattle.std.specs.Borrow.{Bor}
use Rattle.ll_top.specs.declared.forms.words.CheckCommand.{CheckCommand}
use Rattle.ll_top.specs.declared.forms.words.ConvertCommand.{ConvertCommand}
use Rattle.ll_top.specs.declared.forms.making.MakeCommand.{MakeCommand}
use Rattle.ll_top.specs.declared.forms.words.Command.{Command}
use Rattle.ll_top.specs.declared.forms.words.Command.TheVariants as command
use Rattle.ll_top.specs.forms.Words.{IsCommand, IsBounded, shown_check, shown_convert, shown_make, word_texts}
use Rattle.ll_top.specs.forms.CommandKinds.{command_kind, has_team}
use Rattle.ll_list_laws.proofs.CallerLemmas.{none_not_some}
use Rattle.ll_top.proofs.wording.FirstWords.{asked-workers, asked-alone, asked-in-form, workers-in-form, bad-not-in-form}
use Rattle.ll_edge.proofs.CallerLemmas.{kept_none}
use Rattle.ll_top.proofs.outcomes.CallLemmas.{print-call, check-call, convert-call, make-call, usage-call, usage-misused}
use Rattle.ll_top.proofs.judging.ToldLemmas.{status-shelfless}
use Rattle.ll_top.proofs.serve_plain.Goals as goal

-- what is none of these says how many search
has-workers : (c : Command) → ((name : Bor (List ℕ)) → c ≡ command.Print name → ⊥) → ((check : CheckCommand) → c ≡ command.Check check → ⊥)
    → ((convert : ConvertCommand) → c ≡ command.Convert convert → ⊥) → ((make : MakeCommand) → c ≡ command.Make make → ⊥)
    → has_team (command_kind c) ≡ true
has-workers (command.Print name) p q r s = absurd (p name refl)
has-workers (command.Check check) p q r s = absurd (q check refl)
has-workers (command.Convert convert) p q r s = absurd (r convert refl)
has-workers (command.Make make) p q r s = absurd (s make refl)
has-workers (command.Run run) p q r s = refl
has-workers (command.Session session) p q r s = refl
has-workers (command.Deepen deepen) p q r s = refl
has-workers (command.MadeRun run) p q r s = refl

pub returns-in-Print-clause-workers : goal.returns-in-Print-clause-workers
returns-in-Print-clause-workers g c = (
  λ e. cc,
  λ f. absurd (asked-alone (word_texts c.args.words.now) c.in-Ok.command c.in-Ok.ensures.command
      (ap (λ x. has_team (command_kind x)) c.in-Print.is) f),
)

pub returns-in-Print-clause-untouched : goal.returns-in-Print-clause-untouched
returns-in-Print-clause-untouched g c = λ e. absurd (none_not_some _ (sym e))

pub returns-in-Print-clause-outcome : goal.returns-in-Print-clause-outcome
returns-in-Print-clause-outcome g c =
    let words = word_texts c.args.words.now in
    λ told fits. print-call words told _ _ _ _ _ _ c.in-Print.name.now (subst (IsCommand words) c.in-Print.is c.in-Ok.ensures.command)
    (c.serve_print.ensures.ends told fits)

pub returns-in-Print-clause-misused : goal.returns-in-Print-clause-misused
returns-in-Print-clause-misused g c = λ h. absurd (h (asked-in-form (word_texts c.args.words.now) c.in-Ok.command c.in-Ok.ensures.command))

pub returns-in-Print-clause-kept : goal.returns-in-Print-clause-kept
returns-in-Print-clause-kept g c = c.serve_print.ensures.kept

pub returns-in-Print-clause-sink_faults_kept : goal.returns-in-Print-clause-sink_faults_kept
returns-in-Print-clause-sink_faults_kept g c = c.serve_print.ensures.sink_faults_kept

pub returns-in-Check-clause-workers : goal.returns-in-Check-clause-workers
returns-in-Check-clause-workers g c = (
  λ e. cc,
  λ f. absurd (asked-alone (word_texts c.args.words.now) c.in-Ok.command c.in-Ok.ensures.command
      (ap (λ x. has_team (command_kind x)) c.in-Check.is) f),
)

pub returns-in-Check-clause-untouched : goal.returns-in-Check-clause-untouched
returns-in-Check-clause-untouched g c = λ e. absurd (none_not_some _ (sym e))

pub returns-in-Check-clause-outcome : goal.returns-in-Check-clause-outcome
returns-in-Check-clause-outcome g c =
    let words = word_texts c.args.words.now in
    λ told fits. check-call words told _ _ _ _ _ _ (shown_check c.in-Check.check) (subst (IsCommand words) c.in-Check.is c.in-Ok.ensures.command)
    (c.serve_check.ensures.ends told fits)

pub returns-in-Check-clause-misused : goal.returns-in-Check-clause-misused
returns-in-Check-clause-misused g c = λ h. absurd (h (asked-in-form (word_texts c.args.words.now) c.in-Ok.command c.in-Ok.ensures.command))

pub returns-in-Check-clause-kept : goal.returns-in-Check-clause-kept
returns-in-Check-clause-kept g c = c.serve_check.ensures.kept

pub returns-in-Check-clause-sink_faults_kept : goal.returns-in-Check-clause-sink_faults_kept
returns-in-Check-clause-sink_faults_kept g c = c.serve_check.ensures.sink_faults_kept

pub returns-in-Convert-clause-workers : goal.returns-in-Convert-clause-workers
returns-in-Convert-clause-workers g c = (
  λ e. cc,
  λ f. absurd (asked-alone (word_texts c.args.words.now) c.in-Ok.command c.in-Ok.ensures.command
      (ap (λ x. has_team (command_kind x)) c.in-Convert.is) f),
)

pub returns-in-Convert-clause-untouched : goal.returns-in-Convert-clause-untouched
returns-in-Convert-clause-untouched g c = λ e. absurd (none_not_some _ (sym e))

pub returns-in-Convert-clause-outcome : goal.returns-in-Convert-clause-outcome
returns-in-Convert-clause-outcome g c =
    let words = word_texts c.args.words.now in
    λ told fits. convert-call words told _ _ _ _ _ _ (shown_convert c.in-Convert.convert)
    (subst (IsCommand words) c.in-Convert.is c.in-Ok.ensures.command) (c.serve_convert.ensures.ends told fits)

pub returns-in-Convert-clause-misused : goal.returns-in-Convert-clause-misused
returns-in-Convert-clause-misused g c = λ h. absurd (h (asked-in-form (word_texts c.args.words.now) c.in-Ok.command c.in-Ok.ensures.command))

pub returns-in-Convert-clause-kept : goal.returns-in-Convert-clause-kept
returns-in-Convert-clause-kept g c = c.serve_convert.ensures.kept

pub returns-in-Convert-clause-sink_faults_kept : goal.returns-in-Convert-clause-sink_faults_kept
returns-in-Convert-clause-sink_faults_kept g c = c.serve_convert.ensures.sink_faults_kept

pub returns-in-Make-clause-workers : goal.returns-in-Make-clause-workers
returns-in-Make-clause-workers g c = (
  λ e. cc,
  λ f. absurd (asked-alone (word_texts c.args.words.now) c.in-Ok.command c.in-Ok.ensures.command
      (ap (λ x. has_team (command_kind x)) c.in-Make.is) f),
)

pub returns-in-Make-clause-untouched : goal.returns-in-Make-clause-untouched
returns-in-Make-clause-untouched g c = λ e. absurd (none_not_some _ (sym e))

pub returns-in-Make-clause-outcome : goal.returns-in-Make-clause-outcome
returns-in-Make-clause-outcome g c =
    let words = word_texts c.args.words.now in
    λ told fits. make-call words told _ _ _ _ _ _ (shown_make c.in-Make.make) (subst (IsCommand words) c.in-Make.is c.in-Ok.ensures.command)
    c.serve_make.ensures.ends

pub returns-in-Make-clause-misused : goal.returns-in-Make-clause-misused
returns-in-Make-clause-misused g c = λ h. absurd (h (asked-in-form (word_texts c.args.words.now) c.in-Ok.command c.in-Ok.ensures.command))

pub returns-in-Make-clause-kept : goal.returns-in-Make-clause-kept
returns-in-Make-clause-kept g c = kept_none

pub returns-in-Make-clause-sink_faults_kept : goal.returns-in-Make-clause-sink_faults_kept
returns-in-Make-clause-sink_faults_kept g c = c.serve_make.ensures.faults_kept

pub returns-in_default-clause-workers : goal.returns-in_default-clause-workers
returns-in_default-clause-workers g c = (
  λ e. asked-workers (word_texts c.args.words.now) c.in-Ok.command c.in-Ok.ensures.command
      (has-workers c.in-Ok.command c.in_default.not-Print c.in_default.not-Check c.in_default.not-Convert c.in_default.not-Make),
  λ f. refl,
)

pub returns-in_default-clause-untouched : goal.returns-in_default-clause-untouched
returns-in_default-clause-untouched g c = λ e. (refl, refl)

pub returns-in_default-clause-outcome : goal.returns-in_default-clause-outcome
returns-in_default-clause-outcome g c = tt

pub returns-in_default-clause-misused : goal.returns-in_default-clause-misused
returns-in_default-clause-misused g c = λ h. absurd (h (asked-in-form (word_texts c.args.words.now) c.in-Ok.command c.in-Ok.ensures.command))

pub returns-in_default-clause-kept : goal.returns-in_default-clause-kept
returns-in_default-clause-kept g c = kept_none

pub returns-in_default-clause-sink_faults_kept : goal.returns-in_default-clause-sink_faults_kept
returns-in_default-clause-sink_faults_kept g c = le_refl _

pub returns-in-Err-clause-workers : goal.returns-in-Err-clause-workers
returns-in-Err-clause-workers g c =
    let words = word_texts c.args.words.now in (λ e. cc, λ f. absurd (bad-not-in-form words c.in-Err.number c.in-Err.ensures.command (workers-in-form words f)))

pub returns-in-Err-clause-outcome : goal.returns-in-Err-clause-outcome
returns-in-Err-clause-outcome g c = λ told fits.
    usage-call (word_texts c.args.words.now) told _ _ _ _ _ _ c.in-Err.number c.in-Err.ensures.command c.refuse.ensures.refuses

pub returns-in-Err-clause-untouched : goal.returns-in-Err-clause-untouched
returns-in-Err-clause-untouched g c = λ e. absurd (none_not_some _ (sym e))

pub returns-in-Err-clause-misused : goal.returns-in-Err-clause-misused
returns-in-Err-clause-misused g c = λ h. usage-misused c.in-Err.number _ _ _ _ c.refuse.ensures.refuses

pub returns-in-Err-clause-kept : goal.returns-in-Err-clause-kept
returns-in-Err-clause-kept g c = kept_none

pub returns-in-Err-clause-sink_faults_kept : goal.returns-in-Err-clause-sink_faults_kept
returns-in-Err-clause-sink_faults_kept g c = c.refuse.ensures.faults_kept

pub serve_check-requires : goal.serve_check-requires
serve_check-requires g c = record { bound = subst IsBounded c.in-Check.is c.in-Ok.ensures.bound }

pub serve_convert-requires : goal.serve_convert-requires
serve_convert-requires g c = record { version = subst IsBounded c.in-Convert.is c.in-Ok.ensures.bound }

pub serve_make-requires : goal.serve_make-requires
serve_make-requires g c = subst IsBounded c.in-Make.is c.in-Ok.ensures.bound

pub returns-in-Print-clause-faults_told : goal.returns-in-Print-clause-faults_told
returns-in-Print-clause-faults_told g c = c.serve_print.ensures.faults_told

pub returns-in-Check-clause-faults_told : goal.returns-in-Check-clause-faults_told
returns-in-Check-clause-faults_told g c = c.serve_check.ensures.faults_told

pub returns-in-Convert-clause-faults_told : goal.returns-in-Convert-clause-faults_told
returns-in-Convert-clause-faults_told g c = c.serve_convert.ensures.faults_told

pub returns-in-Make-clause-faults_told : goal.returns-in-Make-clause-faults_told
returns-in-Make-clause-faults_told g c = status-shelfless _ c.serve_make.ensures.write_told

pub returns-in_default-clause-faults_told : goal.returns-in_default-clause-faults_told
returns-in_default-clause-faults_told g c = tt

pub returns-in-Err-clause-faults_told : goal.returns-in-Err-clause-faults_told
returns-in-Err-clause-faults_told g c = status-shelfless _ c.refuse.ensures.write_told
