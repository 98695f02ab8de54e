-- A line that is taken over a table, and what it adds.
use Rattle.std.proofs.Common.{◌≡◌, ℕ, ◌+◌, ◌-◌, true, List, [], ◌∷◌, ◌++◌, length, ap, sym, subst, ◌∙◌}
use Rattle.std.specs.Prelude.{◌&&◌}
use Rattle.ll_bank.specs.declared.At.{At}
use Rattle.ll_bank.specs.Nodes.{Nodes, term_trees}
use Rattle.ll_laws.specs.ShownLines.{line_of}
use Rattle.ll_laws.specs.declared.Rule.{Rule}
use Rattle.ll_prooftext.specs.declared.shared_lines.Stage.{Stage}
use Rattle.ll_prooftext.specs.declared.shared_reader.Sharing.{Sharing}
use Rattle.ll_prooftext.specs.Reading.{is_none, children}
use Rattle.ll_prooftext.specs.SharedLines.{want_over, IsShareRow, IsLetOver, IsStepOver}
use Rattle.ll_prooftext.specs.RowWords.{IsRefused}
use Rattle.ll_prooftext.specs.declared.rows.Refusal.{Refusal}
use Rattle.ll_prooftext.specs.SharedReader.{TakesOver, share, variable, node}

pub takes_share : (names : List (List ℕ)) (o : Sharing) (line : List ℕ) (new : List (List ℕ)) (p : Sharing) (at : At) (stage : Stage) (rows : List At)
    → rows ≡ o.rows.items → stage.shares ≡ (is_none o.asked.items && is_none o.nodes.items)
    → (stage.shares ≡ true) × IsShareRow (term_trees o.bank rows) names o.bank line new p.bank at.0 → p.rows.items ≡ o.rows.items ++ at ∷ []
    → p.asked.items ≡ o.asked.items → p.nodes.items ≡ o.nodes.items → p.lacking ≡ o.lacking → TakesOver names o line new p
takes_share names o line new p at stage rows q e w x a n l =
    share at (sym e ∙ w.0) (subst (λ rs. IsShareRow (term_trees o.bank rs) names o.bank line new p.bank at.0) q w.1) x a n l

pub takes_variable : (names : List (List ℕ)) (o : Sharing) (line : List ℕ) (new : List (List ℕ)) (p : Sharing) (at : At) (stage : Stage) (rows : List At)
    → rows ≡ o.rows.items → stage.lets ≡ is_none o.nodes.items → (stage.lets ≡ true) × IsLetOver (term_trees o.bank rows) names o.bank line new p.bank at.0
    → p.rows.items ≡ o.rows.items → p.asked.items ≡ o.asked.items ++ at ∷ [] → p.nodes.items ≡ o.nodes.items → p.lacking ≡ o.lacking
    → TakesOver names o line new p
takes_variable names o line new p at stage rows q e w x a n l =
    variable at (sym e ∙ w.0) (subst (λ rs. IsLetOver (term_trees o.bank rs) names o.bank line new p.bank at.0) q w.1) x a n l

pub takes_step : (names : List (List ℕ)) (o : Sharing) (line : List ℕ) (new : List (List ℕ)) (p : Sharing) (r : Rule) (n : ℕ) (rows : List At)
    → rows ≡ o.rows.items → IsStepOver (term_trees o.bank rows) names o.bank line new p.bank r → p.rows.items ≡ o.rows.items → p.asked.items ≡ o.asked.items
    → p.nodes.items ≡ o.nodes.items ++ r ∷ [] → ((bank : Nodes) → n ≡ children (line_of bank r)) → p.lacking ≡ o.lacking - 1 + n → TakesOver names o line new p
takes_step names o line new p r n rows q w x a m c l = node r (subst (λ rs. IsStepOver (term_trees o.bank rs) names o.bank line new p.bank r) q w) x a m
    (l ∙ ap (λ z. o.lacking - 1 + z) (c p.bank))

-- a line that was refused
pub takes_refused_over : (o : Sharing) (rows : List At) (stage : Stage) (line : List ℕ) (x : Refusal) → rows ≡ o.rows.items
    → stage.shares ≡ (is_none o.asked.items && is_none o.nodes.items) → stage.lets ≡ is_none o.nodes.items
    → IsRefused (want_over (length rows) stage.shares stage.lets) line x
    → IsRefused (want_over (length o.rows.items) (is_none o.asked.items && is_none o.nodes.items) (is_none o.nodes.items)) line x
takes_refused_over o rows stage line x r s l h =
    subst (λ n. IsRefused (want_over n (is_none o.asked.items && is_none o.nodes.items) (is_none o.nodes.items)) line x) (ap length r)
    (subst (λ b. IsRefused (want_over (length rows) b (is_none o.nodes.items)) line x) s
    (subst (λ b. IsRefused (want_over (length rows) stage.shares b) line x) l h))
