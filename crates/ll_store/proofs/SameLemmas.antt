-- What the tests of cells and changes as they are kept tell.
use Rattle.std.proofs.Common.{◌≡◌, true, eqb}
use Rattle.std.proofs.lemmas.Bool.{and_parts, eqb-true}
use Rattle.ll_store.specs.declared.packed.Slot.{Slot}
use Rattle.ll_store.specs.declared.packed.Entry.{Entry}
use Rattle.ll_store.specs.declared.segment.Renewal.{Renewal}
use Rattle.ll_store.specs.contracts.packed.SlotPartialEq.TheImpl.{eq-value as slot_eq_value}
use Rattle.ll_store.specs.contracts.packed.EntryPartialEq.TheImpl.{eq-value as entry_eq_value}
use Rattle.ll_store.specs.contracts.segment.RenewalPartialEq.TheImpl.{eq-value as renewal_eq_value}

pub same_slot : (x y : Slot) → (slot_eq_value).it x y ≡ true → x ≡ y
same_slot x y e = let p = and_parts (eqb x.to y.to) (eqb x.level y.level) e in
    λ i. record { to = eqb-true x.to y.to p.0 i; level = eqb-true x.level y.level p.1 i }

pub same_entry : (x y : Entry) → (entry_eq_value).it x y ≡ true → x ≡ y
same_entry x y e = let p = and_parts (eqb x.var y.var) (eqb x.level y.level) e in
    λ i. record { var = eqb-true x.var y.var p.0 i; level = eqb-true x.level y.level p.1 i }

pub same_renewal : (x y : Renewal) → (renewal_eq_value).it x y ≡ true → x ≡ y
same_renewal x y e =
    let p = and_parts ((entry_eq_value).it x.entry y.entry) ((slot_eq_value).it x.slot y.slot) e in
    λ i. record { entry = same_entry x.entry y.entry p.0 i; slot = same_slot x.slot y.slot p.1 i }
