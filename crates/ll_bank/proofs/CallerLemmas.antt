-- What the crates above may cite of the bank: they know it by its public contracts and by the laws named here.

-- ---- a bank that grows

-- a bank extends itself
pub use Rattle.ll_bank.proofs.Trees.{Extends-refl}
-- what extends an extension extends the first bank
pub use Rattle.ll_bank.proofs.Trees.{Extends-trans}
-- a bank extends a bank that is equal to it
pub use Rattle.ll_bank.proofs.Trees.{Extends-same}
-- a bank that grew has no smaller size
pub use Rattle.ll_bank.proofs.Trees.{IsNotPast-extends}
-- a bank has each size that is had by a bank with the same first nodes
pub use Rattle.ll_bank.proofs.BankLemmas.{HasSize-front}
-- a bank cut to its own size is itself
pub use Rattle.ll_bank.proofs.BankLemmas.{cut_same}
-- below a place of a term there are places of terms
pub use Rattle.ll_bank.proofs.PartLemmas.{HasTerm-below}
-- below a place of a formula there are places of formulas
pub use Rattle.ll_bank.proofs.PartLemmas.{HasForm-below}
-- ---- what its places show as it grows

-- a place of a term stays one
pub use Rattle.ll_bank.proofs.Trees.{HasTerm-extends}
-- a place of a formula stays one
pub use Rattle.ll_bank.proofs.Trees.{HasForm-extends}
-- places of terms stay ones
pub use Rattle.ll_bank.proofs.Trees.{AllInTerms-extends}
-- an old place shows the same term
pub use Rattle.ll_bank.proofs.Trees.{term_tree-extends}
-- old places show the same terms
pub use Rattle.ll_bank.proofs.Trees.{term_trees-extends}
-- an old place shows the same formula
pub use Rattle.ll_bank.proofs.Trees.{form_tree-extends}
-- a term that a place shows, it goes on showing
pub use Rattle.ll_bank.proofs.Trees.{ShowsTerm-extends}
-- a formula that a place shows, it goes on showing
pub use Rattle.ll_bank.proofs.Trees.{ShowsForm-extends}
-- arguments below a place of the bank are places of the bank
pub use Rattle.ll_bank.proofs.Trees.{AllInTerms-below}
-- places below a number, as numbers below it
pub use Rattle.ll_bank.proofs.BankLemmas.{below_places}
-- a place among places that lie below a number lies below it
pub use Rattle.ll_bank.proofs.BankLemmas.{place_below}
-- ---- heads and arguments

-- arguments leave the head of a term
pub use Rattle.ll_bank.proofs.Heads.{head_of-apply}
-- a head with arguments has this head
pub use Rattle.ll_bank.proofs.Heads.{head_of-app}
-- each argument adds one to the number of arguments
pub use Rattle.ll_bank.proofs.Heads.{arity-apply}
-- a head has as many arguments as it is given
pub use Rattle.ll_bank.proofs.Heads.{arity-app}
-- a term that begins with a head begins with it when it gets arguments
pub use Rattle.ll_bank.proofs.Heads.{is_spine-apply}
-- a term that has a head begins with it
pub use Rattle.ll_bank.proofs.Heads.{spine_of_head}
-- a substitution goes to what is applied and to each argument
pub use Rattle.ll_bank.proofs.Heads.{sub-apply}
-- a substitution goes to the arguments of a head
pub use Rattle.ll_bank.proofs.Heads.{sub-app}
-- one argument more behind others is given last
pub use Rattle.ll_bank.proofs.Heads.{apply-push}
-- there is one term a place
pub use Rattle.ll_bank.proofs.BankLemmas.{length-term_trees}
-- a substitution goes to the term of each place
pub use Rattle.ll_bank.proofs.BankLemmas.{sub-term_trees}
-- in a term of a bank nothing but a head has arguments
pub use Rattle.ll_bank.proofs.Trees.{applies_heads-term_tree}
-- in a formula of a bank nothing but a head has arguments
pub use Rattle.ll_bank.proofs.Trees.{form_applies_heads-form_tree}
-- where nothing but heads has arguments in an application, the same is so of each of its arguments
pub use Rattle.ll_bank.proofs.PartLemmas.{heads_args}
-- a term that gets arguments begins with a head
pub use Rattle.ll_bank.proofs.PartLemmas.{spine_of_value}
-- arguments behind arguments are given one list after the other
pub use Rattle.ll_bank.proofs.PartLemmas.{apply-append}
-- an application that gets more arguments has them behind its own
pub use Rattle.ll_bank.proofs.PartLemmas.{more_args}
-- closing an application closes what is applied and each argument
pub use Rattle.ll_bank.proofs.PartLemmas.{close-apply}
-- a closed application is its closed head at its closed arguments
pub use Rattle.ll_bank.proofs.PartLemmas.{opened_app}
-- where closed terms give arguments to heads alone, so does each of the closed terms
pub use Rattle.ll_bank.proofs.PartLemmas.{load_heads}
-- ---- nodes and views

-- the term node that is read at a place is the one that stands there
pub use Rattle.ll_bank.proofs.PartLemmas.{node_seen}
-- the formula node that is read at a place is the one that stands there
pub use Rattle.ll_bank.proofs.PartLemmas.{form_node_seen}
-- formula nodes that compare as equal are the same node
pub use Rattle.ll_bank.proofs.PartLemmas.{same_node}
-- equal formula nodes build one formula
pub use Rattle.ll_bank.proofs.PartLemmas.{same_form_of}
-- views of terms that compare as equal are of the same node
pub use Rattle.ll_bank.proofs.PartLemmas.{same_view}
-- heads that compare as equal are one
pub use Rattle.ll_bank.proofs.PartLemmas.{same_heads}
-- a view of an application shows its head at the terms of its arguments
pub use Rattle.ll_bank.proofs.PartLemmas.{same_term_of}
-- a term has at least one node
pub use Rattle.ll_bank.proofs.PartLemmas.{term_size-some}
-- a formula has at least one node
pub use Rattle.ll_bank.proofs.PartLemmas.{form_size-some}
-- an application has the nodes of what is applied and of its arguments
pub use Rattle.ll_bank.proofs.PartLemmas.{term_size-apply}
-- the sizes of arguments as parts are those of their terms
pub use Rattle.ll_bank.proofs.PartLemmas.{sizes_of_args}
-- what is done with arguments as parts is done with their places
pub use Rattle.ll_bank.proofs.PartLemmas.{spots_of_args}
-- no parts lie below a place
pub use Rattle.ll_bank.proofs.PartLemmas.{no_parts}
-- one part lies below a place where it does
pub use Rattle.ll_bank.proofs.PartLemmas.{one_part}
-- two parts lie below a place where each does
pub use Rattle.ll_bank.proofs.PartLemmas.{two_parts}
-- parts of the same sizes have the same size together
pub use Rattle.ll_bank.proofs.PartLemmas.{sum_same}
-- as a bank grows, the parts of a term at an old place stay
pub use Rattle.ll_bank.proofs.PartLemmas.{term_parts_same}
-- as a bank grows, the parts of a formula at an old place stay
pub use Rattle.ll_bank.proofs.PartLemmas.{form_parts_same}
-- a node that does not look like a load is none
pub use Rattle.ll_bank.proofs.PartLemmas.{no_load_node}
-- a node without terms has one of the signs without terms
pub use Rattle.ll_bank.proofs.PartLemmas.{no_other_node}
-- ---- lists of trees that grow node by node

-- nodes behind others grow over the trees of those
pub use Rattle.ll_bank.proofs.Growing.{grow-append}
-- there is one tree a node
pub use Rattle.ll_bank.proofs.Growing.{length-grow}
-- the trees that were there stay as more nodes come
pub use Rattle.ll_bank.proofs.Growing.{get_or-grow}
-- the trees of the first nodes stay as more nodes come
pub use Rattle.ll_bank.proofs.Growing.{grow_kept}
-- the last node builds its tree over those of the nodes before it
pub use Rattle.ll_bank.proofs.Growing.{grow_last}
-- the node at a place builds its tree over those of the nodes before it
pub use Rattle.ll_bank.proofs.Growing.{get_or-grow_at}
-- ---- lists that pass a test

-- lists whose items pass a test that tells that they are the same
pub use Rattle.ll_bank.proofs.SameLemmas.{same_list}
-- ---- texts and their numbers

-- a text of a list without doubles has its place as its number
pub use Rattle.ll_bank.proofs.NameLaws.{number_of-slice_get}
-- a text stands at its number
pub use Rattle.ll_bank.proofs.NameLaws.{slice_get-number_of}
-- a text that is there is not added again
pub use Rattle.ll_bank.proofs.NameLaws.{with_name-present}
-- adding a text makes a list longer by one text at most
pub use Rattle.ll_bank.proofs.NameLaws.{length-with_name}
-- an added text has a number: its old place, or the next one
pub use Rattle.ll_bank.proofs.NameLaws.{number_of-with_name}
-- a number keeps its text as another text is added
pub use Rattle.ll_bank.proofs.NameLaws.{slice_get-with_name}
-- texts that differ do so either way round
pub use Rattle.ll_bank.proofs.NameLaws.{differ_flipped}
-- ---- walks over the terms under some terms

-- one more than the greatest number of a list, or 0
pub use Rattle.ll_bank.proofs.Ceiling.{ceiling}
-- the ceiling is at most a number that is above all
pub use Rattle.ll_bank.proofs.Ceiling.{ceiling-le}
-- a number that stands last is below the ceiling
pub use Rattle.ll_bank.proofs.Ceiling.{last_below}
-- a step that takes the last place, and puts in places below it, lowers the ceiling
pub use Rattle.ll_bank.proofs.WalkLemmas.{ceiling_falls}
-- two numbers compare as equal where they are
pub use Rattle.ll_bank.proofs.Ceiling.{is_at-nat}
-- a test of keys after a key was put in
pub use Rattle.ll_bank.proofs.WalkLemmas.{inserted}
-- a key that was taken out changes nothing at other places
pub use Rattle.ll_bank.proofs.WalkLemmas.{removed_other}
-- after a key was taken out, what is a key was one before
pub use Rattle.ll_bank.proofs.WalkLemmas.{removed_less}
-- nothing is in a set without keys
pub use Rattle.ll_bank.proofs.WalkLemmas.{none_in}
-- a place that was put in is one more of the places of a list
pub use Rattle.ll_bank.proofs.WalkLemmas.{more_any}
-- one more place of a list
pub use Rattle.ll_bank.proofs.WalkLemmas.{places_more}
-- a number that is not above 0 is 0
pub use Rattle.ll_bank.proofs.WalkLemmas.{zero_unless}
-- a place that was entered into a map has its image
pub use Rattle.ll_bank.proofs.ImageLemmas.{image_here}
-- an entry into a map leaves the images of other places
pub use Rattle.ll_bank.proofs.ImageLemmas.{image_there}
-- ---- signs

-- signs that compare as equal are the same
pub use Rattle.ll_bank.proofs.SignLemmas.{same_sign}
-- a sign compares as equal to itself
pub use Rattle.ll_bank.proofs.SignLemmas.{sign_refl}
-- ---- closing

-- with no values a formula stays as it is
pub use Rattle.ll_bank.proofs.closes.Values.{form_empty}
-- and so does a term
pub use Rattle.ll_bank.proofs.closes.Values.{close_empty}
-- an environment has as many values as variables
pub use Rattle.ll_bank.proofs.EnvironmentLemmas.{length-before}
