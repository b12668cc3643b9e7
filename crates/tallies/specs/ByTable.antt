-- Document 02, "Tallies by inspection table": the tables' numbers and their limit, and what each table has, whatever that is. The ledger and the
-- program keep their counts alike. Assumes nothing.
use Rattle.std.specs.Prelude.{Bool, ◌&&◌, List, [], ◌∷◌, ℕ, zero, suc, leb, eqb, get_or}

-- "Eight tables feed one frame"
abbrev pub table_count : ℕ
table_count = 8

-- "A trial or preview names its table, 1 to 8."
abbrev pub is_table : ℕ → Bool
is_table table = leb 1 table && leb table table_count

-- so many numbers, from one on
abbrev pub up_from : ℕ → ℕ → List ℕ
up_from first zero = []
up_from first (suc n) = first ∷ up_from (suc first) n

abbrev pub table_numbers : List ℕ
table_numbers = up_from 1 table_count

-- "'Session full' now means that the named table's tallies sum to 100,000."
abbrev pub table_limit : ℕ
table_limit = 100000

abbrev pub is_full : ℕ → Bool
is_full count = eqb count table_limit

-- what a table has, of what tables 1, 2, .. have; any other number has what is said for none
abbrev pub at_table : {A : Type 0} → A → List A → ℕ → A
at_table none all zero = none
at_table none all (suc place) = get_or all place none

-- what tables 1, 2, .. have, after a change of what one of them has
abbrev pub changed_at : {A : Type 0} → (A → A) → List A → ℕ → List A
changed_at f [] table = []
changed_at f (a ∷ rest) zero = a ∷ rest
changed_at f (a ∷ rest) (suc zero) = f a ∷ rest
changed_at f (a ∷ rest) (suc (suc place)) = a ∷ changed_at f rest (suc place)
