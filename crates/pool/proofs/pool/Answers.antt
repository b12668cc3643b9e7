-- `pool::pool` meets its contract: its tests are the checks, in their order, and then each place takes its pooled reading.
use Rattle.std.proofs.Common.{ℕ, sym, ap, ◌∙◌}
use Rattle.causes.specs.declared.Cause.TheVariants.{ShortTable, OverBright, UnknownSpacing, SpotCount}
use Rattle.pool.specs.Spots.{spots_of, pooled_spectrum}
use Rattle.pool.proofs.Outcomes.{unknown_spacing_lem, spot_count, short_spots, short_places, over_bright, pools, pool_refused, pool_accepted}
use Rattle.pool.proofs.pool.Goals as goal

pub returns-then-is_unknown : goal.returns-then-is_unknown
returns-then-is_unknown c =
    let p = pool_refused c.args.spacing c.args.count c.args.spots.now c.args.places.now UnknownSpacing
    (unknown_spacing_lem _ _ _ _ (sym c.if-is_unknown.ensures)) in
    record { result_value = p.0; places_after = p.1 }

pub returns-then-is_off : goal.returns-then-is_off
returns-then-is_off c =
    let p = pool_refused c.args.spacing c.args.count c.args.spots.now c.args.places.now SpotCount
    (spot_count _ _ _ _ (sym c.if-is_unknown.ensures) (sym c.if-is_off.ensures)) in
    record { result_value = p.0; places_after = p.1 }

pub returns-then-spots-rows : goal.returns-then-spots-rows
returns-then-spots-rows c =
    let p = pool_refused c.args.spacing c.args.count c.args.spots.now c.args.places.now ShortTable
    (short_spots _ _ _ _ (sym c.if-is_unknown.ensures) (sym c.if-is_off.ensures) c.rows_at-rows.ensures.0 c.if-spots-rows.true) in
    record { result_value = p.0; places_after = p.1 }

pub returns-then-places-rows : goal.returns-then-places-rows
returns-then-places-rows c =
    let p = pool_refused c.args.spacing c.args.count c.args.spots.now c.args.places.now ShortTable
    (short_places _ _ _ _ (sym c.if-is_unknown.ensures) (sym c.if-is_off.ensures) c.rows_at-rows.ensures.0 c.if-spots-rows.false
    c.if-places-rows.true) in
    record { result_value = p.0; places_after = p.1 }

pub returns-then-over_bright : goal.returns-then-over_bright
returns-then-over_bright c =
    let p = pool_refused c.args.spacing c.args.count c.args.spots.now c.args.places.now OverBright
    (over_bright _ _ _ _ (sym c.if-is_unknown.ensures) (sym c.if-is_off.ensures) c.rows_at-rows.ensures.0 c.if-spots-rows.false
    c.if-places-rows.false (sym c.if-over_bright.ensures)) in
    record { result_value = p.0; places_after = p.1 }

pub returns : goal.returns
returns c =
    let a = c.args in
    let p = pool_accepted a.spacing a.count a.spots.now a.places.now
    (pools _ _ _ _ (sym c.if-is_unknown.ensures) (sym c.if-is_off.ensures) c.rows_at-rows.ensures.0 c.if-spots-rows.false
    c.if-places-rows.false (sym c.if-over_bright.ensures))
    (c.pool_rows.ensures
    ∙ ap (λ (rows : ℕ). pooled_spectrum rows (spots_of rows a.count a.spots.now)) (c.if-places-rows.false ∙ c.rows_at-rows.ensures.0)) in
    record { result_value = p.0; places_after = p.1 }
