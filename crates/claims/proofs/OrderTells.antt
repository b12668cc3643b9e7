-- Why trials may be reordered only where no table reaches its limit: with one place left at a table, a lot that passes and one that fails are
-- counted by which comes first. Evaluated on the definitions. Assumes nothing.
use mathlib.Core.Path.{◌≡◌, refl, sym, ap, ◌∙◌}
use mathlib.Core.List.{List, [], ◌∷◌}
use Prim.Native.Nat.{ℕ, zero, suc, ◌-◌, ◌≤◌}
use native.Mathlib.Omega.{arith}
use lib.ListN.{get_or, replicate}
use Rattle.causes.specs.Checks.{first_of, unless}
use Rattle.cie.proofs.Marked.{square_root, cube_root, greatest, climb, next_bit}
use Rattle.cie.specs.declared.Space.TheVariants.{Cielab}
use Rattle.cie.specs.Scales.{any_above}
use Rattle.cie.specs.Spacing.{coarse_spacing, coarse_rows, rows_at, filled}
use Rattle.cie.specs.Tables.{observer_x, observer_y, observer_z, illuminant_d65}
use Rattle.cie.specs.Lights.{light_d65, every_second, table_at}
use Rattle.cie.specs.Sums.{row_sum, sums_of, white_of}
use Rattle.cie.specs.Colour.{tristimulus_of, chromaticity_of, step_at, lightness_at, a_at, b_at, coordinate, u_of, v_of, chroma, colour_of, lab_difference}
use Rattle.conditions.specs.Weights.{products_of, weights_of, dot}
use Rattle.tallies.specs.declared.Tallies.{Tallies}
use Rattle.tallies.specs.declared.TableTallies.{TableTallies}
use Rattle.tallies.specs.ByTable.{table_count, table_limit}
use Rattle.tallies.specs.Tallies.{no_tallies, tally_sum, set_of, Within}
use Rattle.tallies.proofs.ByTable.{same_at}
use Rattle.trials.specs.Tried.{tried_by}
use Rattle.session.specs.declared.Session.{Session}
use Rattle.session.specs.Call.{open_light, set_standard, set_tolerance}
use Rattle.session.specs.Served.{served, fresh_session, with_tallies, Valid}
use Rattle.session.proofs.Valid.{valid_fresh, valid_next}
use Rattle.claims.specs.ByTable.{Trial, after_trials, OrderTells}

-- a shade under D65 at 10 nm, and a tolerance of one unit
abbrev shade : List ℕ
shade = replicate coarse_rows 5000

abbrev opened : Session
opened = (served fresh_session (open_light light_d65 coarse_spacing)).session

abbrev shaded : Session
shaded = (served opened (set_standard shade)).session

abbrev ready : Session
ready = (served shaded (set_tolerance Cielab 10000)).session

-- all tables but the first have counted nothing
abbrev sets_with : Tallies → List Tallies
sets_with t = t ∷ replicate (table_count - 1) no_tallies

abbrev nearly : Session
nearly = with_tallies ready (record { sets = sets_with (record { passed = table_limit - 1; failed = 0; line = 0 }) })

-- it is a session like any other
within : (first table : ℕ) → first ≤ table_limit →
    tally_sum (set_of (sets_with (record { passed = first; failed = 0; line = 0 })) table) ≤ table_limit
within first zero h = omega arith
within first (suc zero) h = omega arith
within first (suc (suc place)) h = omega (arith, ap tally_sum (same_at no_tallies (table_count - 1) (suc place)))

ready_valid : Valid ready
ready_valid =
    valid_next shaded (set_tolerance Cielab 10000)
    (valid_next opened (set_standard shade) (valid_next fresh_session (open_light light_d65 coarse_spacing) valid_fresh))

nearly_valid : Valid nearly
nearly_valid =
    let v = ready_valid.standing in
    let tallies : Within nearly.tallies.sets = record { eight = refl; limit = λ table. within (table_limit - 1) table (omega arith) } in
    record { standing = record { sound = v.sound; standard = v.standard; tallies = tallies } }

-- the shade itself, and black
abbrev of_shade : Trial
of_shade = record { table = 1; readings = shade }

abbrev of_black : Trial
of_black = record { table = 1; readings = replicate coarse_rows 0 }

-- the first tallies, where the shade comes first and where black does
abbrev first_of_two : Trial → Trial → Tallies
first_of_two one other = get_or (after_trials nearly (one ∷ other ∷ [])).tallies.sets 0 no_tallies

evaluated : (first_of_two of_shade of_black ∷ first_of_two of_black of_shade ∷ [])
    ≡ record { passed = table_limit; failed = 0; line = 0 }
    ∷ record { passed = table_limit - 1; failed = 1; line = 0 }
    ∷ []
unfolding tried_by first_of unless any_above rows_at filled every_second table_at observer_x observer_y observer_z illuminant_d65 products_of weights_of dot
    row_sum sums_of white_of colour_of tristimulus_of chromaticity_of step_at lightness_at a_at b_at u_of v_of coordinate chroma lab_difference
    square_root cube_root greatest climb next_bit
evaluated = refl

pub order_tells : OrderTells
order_tells =
    record {
      session = nearly;
      valid = nearly_valid;
      one = of_shade;
      other = of_black;
      differ =
          λ e.
          let passed : ℕ → List Tallies → ℕ = λ i ts. (get_or ts i no_tallies).passed in
          let same = ap (λ (t : TableTallies). (get_or t.sets 0 no_tallies).passed) e in
          let k : table_limit ≡ table_limit - 1 = sym (ap (passed 0) evaluated) ∙ same ∙ ap (passed 1) evaluated in
          omega arith;
    }
