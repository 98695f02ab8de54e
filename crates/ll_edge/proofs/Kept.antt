-- What calls of a shelf keep, and how a reading ended.
use Rattle.std.proofs.Common.{◌≡◌, ℕ, ◌≤◌, List, Option, refl, ◌∙◌}
use Rattle.std.proofs.Math.Nat.{le_refl, le_trans}
use Rattle.ll_edge.specs.Texts.{Texts}
use Rattle.ll_edge.specs.Log.{Answer, Entry, logged, Grew, ShelfKept, Reads, EndedAt, Met}
use Rattle.ll_edge.proofs.Counting.{Rose-later}
use Rattle.ll_edge.proofs.Logs.{grew_none, grew_by, grew_trans}

-- no call at all
pub kept_none : {S : Type 0} {texts : S → Option Texts} {faults absences : S → ℕ} {log : S → List Entry} {shelf : S}
    → ShelfKept texts faults absences log shelf shelf
kept_none {faults} {absences} {log} {shelf} = record {
  same_texts = refl;
  faults_kept = le_refl (faults shelf);
  absences_kept = le_refl (absences shelf);
  grew = grew_none (log shelf);
}

-- one call more
pub kept_call : {S : Type 0} {texts : S → Option Texts} {faults absences : S → ℕ} {log : S → List Entry} {before mid after : S}
    (name : List ℕ) (from : ℕ) (answer : Answer) → ShelfKept texts faults absences log before mid → texts after ≡ texts mid
    → faults mid ≤ faults after → absences mid ≤ absences after → log after ≡ logged (log mid) name from answer
    → ShelfKept texts faults absences log before after
kept_call {log} {before} {mid} {after} name from answer kept same faulty absent e = record {
  same_texts = same ∙ kept.same_texts;
  faults_kept = le_trans kept.faults_kept faulty;
  absences_kept = le_trans kept.absences_kept absent;
  grew = grew_by (log before) (log mid) (log after) name from answer kept.grew e;
}

-- calls, and then more calls
pub kept_trans : {S : Type 0} {texts : S → Option Texts} {faults absences : S → ℕ} {log : S → List Entry} {before mid after : S}
    → ShelfKept texts faults absences log before mid → ShelfKept texts faults absences log mid after → ShelfKept texts faults absences log before after
kept_trans {log} {before} {mid} {after} first second = record {
  same_texts = second.same_texts ∙ first.same_texts;
  faults_kept = le_trans first.faults_kept second.faults_kept;
  absences_kept = le_trans first.absences_kept second.absences_kept;
  grew = grew_trans (log before) (log mid) (log after) first.grew second.grew;
}

-- a reading between two logs ended with its last answer
pub ended_reads : {name : List ℕ} {before after : List Entry} {bytes : List ℕ} {answer : Answer} → Reads name before after bytes answer
    → EndedAt before after answer name
ended_reads {before} {bytes = bytes} r = record { bytes = bytes; begin = before; grew = grew_none before; reads = r }

-- and so it did after more calls before it
pub ended_later : {name : List ℕ} (first : List Entry) {before after : List Entry} {answer : Answer} → Grew first before
    → EndedAt before after answer name → EndedAt first after answer name
ended_later first {before} grew ended = record {
  bytes = ended.bytes;
  begin = ended.begin;
  grew = grew_trans first before ended.begin grew ended.grew;
  reads = ended.reads;
}

pub met_later : {S : Type 0} {texts : S → Option Texts} {faults absences count : S → ℕ} {log : S → List Entry} {first before after : S}
    {answer : Answer} {name : List ℕ} → ShelfKept texts faults absences log first before → count first ≤ count before
    → Met count log before after answer name → Met count log first after answer name
met_later {count} {log} {first} {before} {after} kept counted met = record {
  rose = Rose-later (count first) (count before) (count after) counted met.rose;
  ended = ended_later (log first) kept.grew met.ended;
}
