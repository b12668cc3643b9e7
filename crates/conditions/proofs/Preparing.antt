-- Where the preparation of tables ends: with the cause of the first check that holds, or with their conditions. A program has the rows, the tests, the
-- weights and the white. Assumes nothing.
use mathlib.Core.Path.{◌≡◌, sym, ◌∙◌, ap, subst}
use mathlib.Core.Bool.{Bool, true, false}
use mathlib.Core.List.{List}
use Prim.Native.Nat.{ℕ}
use Rattle.std.specs.Prelude.{Ok, Err}
use Rattle.causes.specs.declared.Cause.TheVariants.{ShortTable, OffScaleCondition, DarkWhite, LopsidedWhite}
use Rattle.causes.proofs.Checks.{fires, passes, ends}
use Rattle.cie.specs.declared.Sums.{Sums}
use Rattle.cie.specs.Spacing.{unknown_spacing, rows_at}
use Rattle.cie.specs.Sums.{Tables, white_of, dark, lopsided}
use Rattle.colour.specs.declared.white.WhitePoint.{WhitePoint}
use Rattle.colour.specs.White.{white_point_of}
use Rattle.conditions.specs.declared.Conditions.{Conditions}
use Rattle.conditions.specs.Weights.{weights_of, dots, white_readings, Weights}
use Rattle.conditions.specs.Checks.{any_short, any_off_scale}
use Rattle.conditions.specs.Conditions.{conditions_of, prepared_of, Prepares}
use Rattle.conditions.proofs.Fits.{Fit, short_as, fit, matched, weights_fit}
use Rattle.conditions.proofs.Sound.{white_same}
use Rattle.conditions.proofs.Answers.{refused_as, accepted_as}

module _ (t : Tables) {rows : ℕ} (n : rows ≡ rows_at t.spacing) (known : false ≡ unknown_spacing t.spacing) where
  shortness : {b : Bool} → b ≡ any_short rows t.illuminant t.x t.y t.z → any_short (rows_at t.spacing) t.illuminant t.x t.y t.z ≡ b
  shortness = short_as t.illuminant t.x t.y t.z n

  pub ends_short : true ≡ any_short rows t.illuminant t.x t.y t.z → Prepares (prepared_of t) (Err ShortTable)
  ends_short h = refused_as _ (passes _ _ _ _ _ (sym known) ∙ fires _ _ _ _ _ (shortness h))

  module _ (whole : false ≡ any_short rows t.illuminant t.x t.y t.z) where
    pub ends_off_scale : true ≡ any_off_scale t.illuminant t.x t.y t.z → Prepares (prepared_of t) (Err OffScaleCondition)
    ends_off_scale h = refused_as _ (passes _ _ _ _ _ (sym known) ∙ passes _ _ _ _ _ (shortness whole) ∙ fires _ _ _ _ _ (sym h))

    module _ (scaled : false ≡ any_off_scale t.illuminant t.x t.y t.z) {x y z : List ℕ}
        (p : x ≡ weights_of t.illuminant t.x) (q : y ≡ weights_of t.illuminant t.y) (r : z ≡ weights_of t.illuminant t.z) where
      fits : Fit t
      fits = fit t (shortness whole) (sym scaled)

      pub weighed : Weights x × Weights y × Weights z
      weighed =
          let i = fits.illuminant in
          let s = t.spacing in (
            subst Weights (sym p) (weights_fit s i fits.x),
            subst Weights (sym q) (weights_fit s i fits.y),
            subst Weights (sym r) (weights_fit s i fits.z),
          )

      module _ {w : Sums} (e : w ≡ dots x y z white_readings) where
        white : w ≡ white_of t
        white = e ∙ rw (p, q, r) (white_same t (matched t.spacing fits.illuminant fits.x).0)

        pub ends_dark : true ≡ dark w → Prepares (prepared_of t) (Err DarkWhite)
        ends_dark h =
            refused_as _
            (passes _ _ _ _ _ (sym known)
            ∙ passes _ _ _ _ _ (shortness whole)
            ∙ passes _ _ _ _ _ (sym scaled)
            ∙ fires _ _ _ _ _ (ap dark (sym white) ∙ sym h))

        module _ (lit : false ≡ dark w) where
          pub ends_lopsided : true ≡ lopsided w → Prepares (prepared_of t) (Err LopsidedWhite)
          ends_lopsided h =
              refused_as _
              (passes _ _ _ _ _ (sym known)
              ∙ passes _ _ _ _ _ (shortness whole)
              ∙ passes _ _ _ _ _ (sym scaled)
              ∙ passes _ _ _ _ _ (ap dark (sym white) ∙ sym lit)
              ∙ fires _ _ _ _ _ (ap lopsided (sym white) ∙ sym h))

          pub opens : false ≡ lopsided w → {m : WhitePoint} → m ≡ white_point_of w →
              Prepares (prepared_of t) (Ok (record { rows = rows; x = x; y = y; z = z; white = m }))
          opens h {m} k =
              let point : m ≡ white_point_of (white_of t) = k ∙ ap white_point_of white in
              let same : ◌≡◌ {A = Conditions} (record { rows = rows; x = x; y = y; z = z; white = m }) (conditions_of t) = cc in
              accepted_as t same
              (passes _ _ _ _ _ (sym known)
              ∙ passes _ _ _ _ _ (shortness whole)
              ∙ passes _ _ _ _ _ (sym scaled)
              ∙ passes _ _ _ _ _ (ap dark (sym white) ∙ sym lit)
              ∙ passes _ _ _ _ _ (ap lopsided (sym white) ∙ sym h)
              ∙ ends _ _)
