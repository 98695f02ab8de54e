use Rattle.std.proofs.Common.{map, ap, subst, ◌∙◌}
use Rattle.std.specs.String.{string_bytes}
use Rattle.std.proofs.lemmas.Result.{IfOk-weaker, IfOk-from_err}
use Rattle.ll_bank.proofs.CallerLemmas.{Extends-refl}
use Rattle.ll_polarity.specs.Numbered.{text_of}
use Rattle.ll_polarity.specs.Places.{FindsFirst}
use Rattle.ll_polarity.proofs.putting.Shown.{few_texts_of}
use Rattle.ll_polarity.proofs.asking.added.Goals as goal

pub module_texts-requires : goal.module_texts-requires
module_texts-requires c = c.requires.numbered.named

pub places_by-requires : goal.places_by-requires
places_by-requires c = few_texts_of string_bytes c.deref.result.now (λ m. text_of c.args.met.now.names m.name) c.args.modules.now
    (ap (map string_bytes) c.deref.ensures.value ∙ c.in_ok-texts.ensures) c.requires.numbered.few_modules

pub returns-in_err-texts-clause-keeps : goal.returns-in_err-texts-clause-keeps
returns-in_err-texts-clause-keeps c = Extends-refl c.args.bank.now

pub returns-in_err-places-clause-keeps : goal.returns-in_err-places-clause-keeps
returns-in_err-places-clause-keeps c = Extends-refl c.args.bank.now

pub added_over-requires-clause-few : goal.added_over-requires-clause-few
added_over-requires-clause-few c = c.requires.numbered.few_texts

pub returns-clause-shows : goal.returns-clause-shows
returns-clause-shows c =
    IfOk-weaker c.added_over.result _ _ (λ p shows. λ heads.
    shows (map (λ m. text_of c.args.met.now.names m.name) c.args.modules.now) heads
    (subst (FindsFirst c.in_ok-places.places.places) (ap (map string_bytes) c.deref.ensures.value ∙ c.in_ok-texts.ensures) c.in_ok-places.ensures))
    c.added_over.ensures.shows

pub returns-in_err-texts-clause-shows : goal.returns-in_err-texts-clause-shows
returns-in_err-texts-clause-shows c = IfOk-from_err c.from_residual.result _ c.from_residual.ensures.0

pub returns-in_err-texts-clause-asked : goal.returns-in_err-texts-clause-asked
returns-in_err-texts-clause-asked c = IfOk-from_err c.from_residual.result _ c.from_residual.ensures.0

pub returns-in_err-texts-clause-names : goal.returns-in_err-texts-clause-names
returns-in_err-texts-clause-names c = IfOk-from_err c.from_residual.result _ c.from_residual.ensures.0

pub returns-in_err-texts-clause-inside : goal.returns-in_err-texts-clause-inside
returns-in_err-texts-clause-inside c = IfOk-from_err c.from_residual.result _ c.from_residual.ensures.0

pub returns-in_err-places-clause-shows : goal.returns-in_err-places-clause-shows
returns-in_err-places-clause-shows c = IfOk-from_err c.from_residual-in_err-places.result _ c.from_residual-in_err-places.ensures.0

pub returns-in_err-places-clause-asked : goal.returns-in_err-places-clause-asked
returns-in_err-places-clause-asked c = IfOk-from_err c.from_residual-in_err-places.result _ c.from_residual-in_err-places.ensures.0

pub returns-in_err-places-clause-names : goal.returns-in_err-places-clause-names
returns-in_err-places-clause-names c = IfOk-from_err c.from_residual-in_err-places.result _ c.from_residual-in_err-places.ensures.0

pub returns-in_err-places-clause-inside : goal.returns-in_err-places-clause-inside
returns-in_err-places-clause-inside c = IfOk-from_err c.from_residual-in_err-places.result _ c.from_residual-in_err-places.ensures.0
