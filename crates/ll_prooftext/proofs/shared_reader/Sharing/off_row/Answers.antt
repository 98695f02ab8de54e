use Rattle.std.proofs.lemmas.Result.{IfOk-from_err}
use Rattle.std.proofs.Common.{◌<◌, ◌++◌, List, length, get_or, All, ap, sym, subst, ◌∙◌, MatchOption}
use Rattle.std.specs.List.{flat_map}
use Rattle.std.proofs.lemmas.List.Elements.{All-append}
use Rattle.ll_bank.specs.declared.At.{At}
use Rattle.ll_bank.specs.Nodes.{term_trees, AllInTerms}
use Rattle.ll_prooftext.specs.declared.classes.Classes.{Classes}
use Rattle.ll_prooftext.specs.SharedReader.{AreInPlace, IsFirstOff}
use Rattle.ll_prooftext.specs.Short.{rule_places}
use Rattle.ll_prooftext.specs.Table.{completed, rows_in}
use Rattle.ll_prooftext.specs.Tables.{HasNumberAt}
use Rattle.ll_prooftext.proofs.reading.FaultsOver.{off_found}
use Rattle.ll_prooftext.proofs.writing.ShortLines.{All-right, inside_nodes}
use Rattle.ll_prooftext.proofs.tabling.TableSteps.{argument_numbered}
use Rattle.ll_prooftext.proofs.shared_reader.Sharing.off_row.Goals as goal

pub number_terms-requires : goal.number_terms-requires
number_terms-requires c =
    let o = c.args.self.now in
    let P : At → Type 0 = λ a. a.0 < length o.bank.terms in
    let fields = c.in_ok-fields.ensures ∙ (λ i. c.deref.ensures.value i ++ flat_map rule_places (c.deref-2.ensures.value i)) in
    let places = c.deref-5.ensures.value
    ∙ (c.in_ok-extend_from_slice-2.ensures.items
    ∙ (ap (λ (z : List At). z ++ c.deref-4.result.now) (c.in_ok-extend_from_slice.ensures.items
    ∙ ap (λ (z : List At). z ++ c.deref-3.result.now) c.new-places.ensures.items) ∙ (λ i. c.deref-3.ensures.value i ++ c.deref-4.ensures.value i))) in
    subst (AllInTerms o.bank) (sym places)
    (All-append P c.in_ok-fields.fields.items o.rows.items (subst (AllInTerms o.bank) (sym fields)
    (All-append P o.asked.items (flat_map rule_places o.nodes.items) c.requires.asked (inside_nodes o.bank o.nodes.items c.requires.nodes)))
    c.requires.rows)

pub first_off-requires : goal.first_off-requires
first_off-requires c =
    let o = c.args.self.now in
    let rows = o.rows.items in
    let table = c.in_ok-table.table in
    let Q : At → Type 0 = λ a. a.0 < length c.in_ok-classes.classes.numbers.items in
    let places = c.deref-5.ensures.value
    ∙ (c.in_ok-extend_from_slice-2.ensures.items
    ∙ (ap (λ (z : List At). z ++ c.deref-4.result.now) (c.in_ok-extend_from_slice.ensures.items
    ∙ ap (λ (z : List At). z ++ c.deref-3.result.now) c.new-places.ensures.items) ∙ (λ i. c.deref-3.ensures.value i ++ c.deref-4.ensures.value i))) in
    let reach = All-right Q c.in_ok-fields.fields.items rows (subst (λ (ps : List At). All Q ps) places c.in_ok-classes.ensures.reach) in
    let P : At → Type 0 = λ a. HasNumberAt table a.0 in
    let numbered : All P rows = λ k d l.
    argument_numbered o.bank table (rows_in (flat_map completed (term_trees o.bank c.deref-6.result.now))) c.in_ok-table.ensures.table (get_or rows k d).0
    (subst (λ (t : Classes). (get_or rows k d).0 < length t.numbers.items) (sym c.in_ok-table.ensures.same) (reach k d l)) in
    subst (λ (ps : List At). All P ps) (sym c.deref-7.ensures.value) numbered

pub returns : goal.returns
returns c =
    let o = c.args.self.now in
    let rows = o.rows.items in
    let table = c.in_ok-table.table in
    let Q : At → Type 0 = λ a. a.0 < length c.in_ok-classes.classes.numbers.items in
    let fields = c.in_ok-fields.ensures ∙ (λ i. c.deref.ensures.value i ++ flat_map rule_places (c.deref-2.ensures.value i)) in
    let places = c.deref-5.ensures.value
    ∙ (c.in_ok-extend_from_slice-2.ensures.items
    ∙ (ap (λ (z : List At). z ++ c.deref-4.result.now) (c.in_ok-extend_from_slice.ensures.items
    ∙ ap (λ (z : List At). z ++ c.deref-3.result.now) c.new-places.ensures.items) ∙ (λ i. c.deref-3.ensures.value i ++ c.deref-4.ensures.value i))) in
    let reach = All-right Q c.in_ok-fields.fields.items rows (subst (λ (ps : List At). All Q ps) places c.in_ok-classes.ensures.reach) in
    let P : At → Type 0 = λ a. HasNumberAt table a.0 in
    let numbered : All P rows = λ k d l.
    argument_numbered o.bank table (rows_in (flat_map completed (term_trees o.bank c.deref-6.result.now))) c.in_ok-table.ensures.table (get_or rows k d).0
    (subst (λ (t : Classes). (get_or rows k d).0 < length t.numbers.items) (sym c.in_ok-table.ensures.same) (reach k d l)) in
    off_found o table c.deref-6.result.now c.first_off.result (c.deref-6.ensures.value ∙ fields) c.in_ok-table.ensures.table numbered
    (subst (λ (ps : List At). MatchOption c.first_off.result (AreInPlace table ps (length ps)) (IsFirstOff table ps)) c.deref-7.ensures.value
    c.first_off.ensures)

pub returns-in_err-fields : goal.returns-in_err-fields
returns-in_err-fields c = IfOk-from_err c.from_residual.result _ c.from_residual.ensures.0

pub returns-in_err-extend_from_slice : goal.returns-in_err-extend_from_slice
returns-in_err-extend_from_slice c = IfOk-from_err c.from_residual-in_err-extend_from_slice.result _ c.from_residual-in_err-extend_from_slice.ensures.0

pub returns-in_err-extend_from_slice-2 : goal.returns-in_err-extend_from_slice-2
returns-in_err-extend_from_slice-2 c = IfOk-from_err c.from_residual-in_err-extend_from_slice-2.result _ c.from_residual-in_err-extend_from_slice-2.ensures.0

pub returns-in_err-classes : goal.returns-in_err-classes
returns-in_err-classes c = IfOk-from_err c.from_residual-in_err-classes.result _ c.from_residual-in_err-classes.ensures.0

pub returns-in_err-table : goal.returns-in_err-table
returns-in_err-table c = IfOk-from_err c.from_residual-in_err-table.result _ c.from_residual-in_err-table.ensures.0
