-- The coordinates of a spectrum that is held in bytes: its checks run in their order. Assumes nothing.
use mathlib.Core.Path.{◌≡◌, sym, ap, ◌∙◌}
use mathlib.Core.Bool.{true, false, not}
use mathlib.Core.List.{List}
use Prim.Native.Nat.{ℕ, ◌≤◌}
use native.Mathlib.Omega.{arith}
use borrow.Author.Tests.{eq-eqb, ne_eqb}
use lib.ListN.{length}
use Rattle.causes.specs.declared.Cause.TheVariants.{ShortTable, OverBright, NoSuchLight}
use Rattle.causes.specs.Causes.{cause_number, Numbered, accepted, refused}
use Rattle.causes.proofs.Checks.{fires, passes, ends}
use Rattle.cie.specs.Spacing.{rows_at, spectrum_bytes}
use Rattle.cie.specs.Scales.{reader_limit, any_above}
use Rattle.cie.specs.Lights.{unknown_light, light_tables}
use Rattle.cie.specs.Colour.{colour_at}
use Rattle.cie.proofs.TableRows.{rows_few}
use Rattle.colour.specs.declared.Coordinates.{Coordinates}
use Rattle.colour.specs.Coordinates.{coordinates_in}
use Rattle.conditions.specs.Weights.{Spectrum}
use Rattle.endian.specs.Bytes.{words}
use Rattle.endian.proofs.Words.{length-words}
use Rattle.host.specs.Host.{host_spacing, host_rows, host_colour, coloured_by, coloured_of}

-- the readings in as many places as a spacing has rows, by whether one is above the limit
module _ (light spacing : ℕ) (bytes : List ℕ) {places : List ℕ} {n : ℕ} (r : n ≡ rows_at spacing) (e : places ≡ words bytes 0 2 n) where
  read : places ≡ words bytes 0 2 (rows_at spacing)
  read = e ∙ ap (words bytes 0 2) r

  pub bright : any_above reader_limit places ≡ true → refused (cause_number OverBright) ≡ coloured_by light spacing (words bytes 0 2 (rows_at spacing))
  unfolding coloured_by
  bright h = sym (fires _ _ _ _ _ (ap (any_above reader_limit) (sym read) ∙ h))

  module _ (h : any_above reader_limit places ≡ false) where
    pub summable : Spectrum places × (length places ≤ rows_at spacing)
    summable =
        let l : length places ≡ n = ap length e ∙ length-words bytes 0 2 n in
        (record { few = omega (arith, rows_few spacing); scale = h }, omega arith)

    pub fair : {c : Coordinates} → c ≡ coordinates_in (colour_at (light_tables light spacing) places) →
        accepted c ≡ coloured_by light spacing (words bytes 0 2 (rows_at spacing))
    unfolding coloured_by
    fair k =
        let colour = k ∙ ap (λ (q : List ℕ). coordinates_in (colour_at (light_tables light spacing) q)) read in
        ap accepted colour ∙ sym (passes _ _ _ _ _ (ap (any_above reader_limit) (sym read) ∙ h) ∙ ends _ _)

-- the returns, by the tests that led there
module _ (light : ℕ) (bytes : List ℕ) where
  pub no_light : unknown_light light ≡ true → refused (cause_number NoSuchLight) ≡ coloured_of light bytes
  unfolding coloured_of
  no_light h = sym (fires _ _ _ _ _ h)

  module _ (l : unknown_light light ≡ false) where
    pub short : (length bytes ≡ spectrum_bytes (host_rows bytes) → ⊥) → refused (cause_number ShortTable) ≡ coloured_of light bytes
    unfolding coloured_of
    short h = sym (passes _ _ _ _ _ l ∙ fires _ _ _ _ _ (ap not (ne_eqb _ _ h)))

    pub whole : length bytes ≡ spectrum_bytes (host_rows bytes) → {spacing : ℕ} {a : Numbered Coordinates} → spacing ≡ host_spacing bytes
        → a ≡ coloured_by light spacing (words bytes 0 2 (rows_at spacing)) → a ≡ coloured_of light bytes
    unfolding coloured_of coloured_by host_colour
    whole h s e =
        e ∙ ap (λ (k : ℕ). coloured_by light k (words bytes 0 2 (rows_at k))) s ∙ sym (passes _ _ _ _ _ l ∙ passes _ _ _ _ _ (ap not (eq-eqb _ _ h)))
