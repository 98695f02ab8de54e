-- What notes tell, one by one.
use Rattle.std.proofs.Common.{◌≡◌, ℕ, List, [], ◌∷◌, ◌++◌, ap, sym, ◌∙◌, append_assoc}
use Rattle.std.proofs.lemmas.List.{append-nil}
use Rattle.ll_edge.specs.Notes.{Note}
use Rattle.ll_edge.specs.Real.{bytes_noted}

-- the bytes of one note more
bytes_noted-one : (notes : List Note) (note : Note) → bytes_noted (notes ++ note ∷ []) ≡ bytes_noted notes ++ note.bytes
bytes_noted-one [] note = append-nil note.bytes
bytes_noted-one (first ∷ notes) note = ap (λ bytes. first.bytes ++ bytes) (bytes_noted-one notes note)
    ∙ sym (append_assoc first.bytes (bytes_noted notes) note.bytes)

-- the bytes once a call is noted
pub bytes_noted-noted : (old new : List Note) (numbers name bytes : List ℕ) → new ≡ old ++ record { numbers = numbers; name = name; bytes = bytes } ∷ []
    → bytes_noted new ≡ bytes_noted old ++ bytes
bytes_noted-noted old new numbers name bytes e = ap bytes_noted e ∙ bytes_noted-one old (record { numbers = numbers; name = name; bytes = bytes })
