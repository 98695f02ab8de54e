-- How a store lends its bank.
use Rattle.std.specs.Borrow.{Lends, MutBor, Fml}
use Rattle.ll_bank.specs.Nodes.{Nodes}
use Rattle.ll_bank.specs.contracts.bank.Bank.{the_row as bank_row}
use Rattle.ll_store.specs.declared.store.Store.{Store}
use Rattle.ll_store.specs.contracts.store.Store.{the_row}

-- the store with this bank
abbrev pub with_bank : Store → Nodes → Store
with_bank s w = record s { bank = w }

-- the store ends with the bank that is left behind the reference
abbrev pub LendsBank : MutBor Store → MutBor Nodes → Fml
LendsBank s r = Lends the_row bank_row s r (with_bank s.now)
