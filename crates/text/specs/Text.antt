-- Numbers as decimal text, in ASCII codes, and text that is put into a buffer. Assumes nothing.
use Rattle.std.specs.Prelude.{◌≡◌, true, false, List, [], ◌∷◌, ◌++◌, ℕ, zero, suc, ◌+◌, ◌/◌, ◌%◌, ltb, ℤ, pos, negsuc, length}
use Rattle.std.proofs.lemmas.List.Edits.{sets}

-- the text of a digit
abbrev pub digit : ℕ → List ℕ
digit d = (48 + d) ∷ []

-- n in decimal, with no more digits than the fuel: the text of a tenth of it, and then its last digit
unfoldable pub decimal_by : ℕ → ℕ → List ℕ
decimal_by zero n = []
decimal_by (suc fuel) n = elim (ltb n 10) [ true ↦ digit n | false ↦ decimal_by fuel (n / 10) ++ digit (n % 10) ]

-- n in decimal
unfoldable pub decimal : ℕ → List ℕ
decimal n = decimal_by (suc n) n

-- a signed number in decimal: a minus sign, 45, where it is below 0
abbrev pub signed : ℤ → List ℕ
signed (pos n) = decimal n
signed (negsuc n) = 45 ∷ decimal (suc n)

-- after is before with the text in it from the place at on, and next is the place after the text
pub record Put (before : List ℕ) (at : ℕ) (text : List ℕ) (after : List ℕ) (next : ℕ) : Type 0 where
  pub ends : next ≡ at + length text
  pub holds : after ≡ sets before at text
