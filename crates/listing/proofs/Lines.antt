-- The lines of a listing: a line is its pieces one after the other, the lines from a shade on are its line and those after it, and the
-- colour under the opened light is the paper's. Assumes nothing.
use mathlib.Core.Path.{◌≡◌, refl, sym, ap, ◌∙◌}
use mathlib.Core.Bool.{true, false}
use mathlib.Core.List.{List, [], ◌++◌, append_assoc}
use Prim.Native.Nat.{ℕ, ◌+◌, ◌*◌, ◌≤◌, ◌<◌}
use native.Mathlib.Numerals.{add-one}
use native.Mathlib.Omega.{arith}
use lib.IntN.{ℤ}
use lib.ListN.{length, get_or, drop, drop_of_length-le}
use lib.Seq.{drop-cons, drop-drop}
use Rattle.std.specs.Prelude.{Result, Ok}
use Rattle.causes.specs.declared.Cause.{Cause}
use Rattle.causes.specs.Checks.{first_of}
use Rattle.causes.proofs.Checks.{first_passes, first_ends}
use Rattle.cie.specs.declared.Colour.{Colour}
use Rattle.cie.specs.Spacing.{unknown_spacing, rows_at}
use Rattle.cie.specs.Sums.{white_of}
use Rattle.cie.specs.Lights.{light_d65, light_tables}
use Rattle.cie.specs.Colour.{colour_of}
use Rattle.conditions.specs.declared.Conditions.{Conditions}
use Rattle.conditions.specs.declared.lent.Lent.{Lent}
use Rattle.conditions.specs.Lent.{conditions_lent}
use Rattle.conditions.specs.Checks.{light_checks}
use Rattle.conditions.specs.Conditions.{conditions_of, prepared_light, Prepares}
use Rattle.conditions.proofs.Answers.{prepared_ok}
use Rattle.conditions.proofs.Dots.{sums_same}
use Rattle.book.specs.Book.{readings_of, is_book, spectrum_of}
use Rattle.shades.specs.Shades.{shade_under}
use Rattle.text.specs.Text.{decimal, signed, Put}
use Rattle.text.proofs.Puts.{then, same}
use Rattle.listing.specs.Listing.{listed_spacing, shade_colour, spaced, line_end, line_of, lines_of, shade_lines, header, refusal, listing_of}

-- a line, by the pieces that are put
regroup : (s a b u v e : List ℕ) → s ++ (a ++ b) ++ (u ++ v) ++ e ≡ s ++ a ++ b ++ u ++ v ++ e
regroup s a b u v e = simp append_assoc

pub line_put : {d e f g h : List ℕ} {at r s t q l : ℕ} {a b u v : ℤ} (number : ℕ) (c : Colour) → l ≡ c.l → a ≡ c.a → b ≡ c.b → u ≡ c.u → v ≡ c.v
    → Put d at (decimal number ++ spaced (decimal l)) e r → Put e r (spaced (signed a) ++ spaced (signed b)) f s
    → Put f s (spaced (signed u) ++ spaced (signed v)) g t → Put g t line_end h q → Put d at (line_of number c) h q
unfolding line_of
line_put {l = l} {a = a} {b = b} {u = u} {v = v} number c el ea eb eu ev p₁ p₂ p₃ p₄ =
    let pieces = regroup (decimal number ++ spaced (decimal l)) (spaced (signed a)) (spaced (signed b)) (spaced (signed u)) (spaced (signed v))
    line_end in
    rw (el, ea, eb, eu, ev) at (same pieces (then (then (then p₁ p₂) p₃) p₄))

pub line_same : {m n : ℕ} {c k : Colour} → m ≡ n → c ≡ k → line_of m c ≡ line_of n k
line_same p q = cc

-- the lines from the i-th shade on
module _ (spacing : ℕ) (ns rs : List ℕ) (i : ℕ) where
  abbrev rows : ℕ
  rows = rows_at spacing

  pub lines_more : i < length ns → lines_of spacing (drop i ns) (drop (rows * i) rs)
      ≡ line_of (get_or ns i 0) (shade_colour spacing (spectrum_of rows rs i)) ++ lines_of spacing (drop (i + 1) ns) (drop (rows * (i + 1)) rs)
  unfolding lines_of spectrum_of
  lines_more h =
      let e : rows * i + rows ≡ rows * (i + 1) = omega arith in
      rw (drop-cons ns i 0 h, drop-drop rows (rows * i) rs, e, add-one)

  pub lines_none : length ns ≤ i → lines_of spacing (drop i ns) (drop (rows * i) rs) ≡ []
  unfolding lines_of
  lines_none h = rw (drop_of_length-le ns h)

-- the opened light, and a shade under it
module _ (spacing : ℕ) where
  pub opened_d65 : {r : Result Conditions Cause} → unknown_spacing spacing ≡ false → Prepares (prepared_light light_d65 spacing) r →
      r ≡ Ok (conditions_of (light_tables light_d65 spacing))
  opened_d65 h e = prepared_ok (first_of (light_checks light_d65 spacing)) _ e (first_passes _ _ _ h ∙ first_passes _ _ _ refl ∙ first_ends)

  pub lent_d65 : (l : Lent) {r : Result Conditions Cause} {k : Conditions} → unknown_spacing spacing ≡ false →
      Prepares (prepared_light light_d65 spacing) r → r ≡ Ok k → conditions_lent l ≡ k → conditions_lent l ≡ conditions_of (light_tables light_d65 spacing)
  lent_d65 l h e was lent = let opened = opened_d65 h e in cc

  pub shade_d65 : {k : Conditions} (s : List ℕ) (i : ℕ) → k ≡ conditions_of (light_tables light_d65 spacing) →
      shade_under k s i ≡ shade_colour spacing (spectrum_of (rows_at spacing) (readings_of (rows_at spacing) s) i)
  unfolding shade_colour
  shade_d65 s i e =
      let t = light_tables light_d65 spacing in
      ap (λ (x : Conditions). shade_under x s i) e
      ∙ ap (colour_of (white_of t)) (sums_same t (spectrum_of (rows_at spacing) (readings_of (rows_at spacing) s) i))

-- the whole, by the rows that the first body length tells
module _ (s : List ℕ) {n : ℕ} (told : n ≡ rows_at (listed_spacing s)) where
  pub listing_refused : {d e : List ℕ} {at r : ℕ} → is_book n s ≡ false → Put d at refusal e r → Put d at (listing_of s) e r
  unfolding listing_of
  listing_refused h p = rw (ap (λ (k : ℕ). is_book k s) (sym told) ∙ h) p

  pub listing_whole : {d e : List ℕ} {at r : ℕ} → is_book n s ≡ true → Put d at (header ++ shade_lines (listed_spacing s) s) e r
      → Put d at (listing_of s) e r
  unfolding listing_of
  listing_whole h p = rw (ap (λ (k : ℕ). is_book k s) (sym told) ∙ h) p
