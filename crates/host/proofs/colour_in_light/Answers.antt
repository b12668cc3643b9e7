-- The checks of the light and of the length come before those of the readings. Assumes nothing.
use Rattle.std.proofs.Common.{sym, ap, ◌∙◌, length}
use Rattle.cie.specs.Spacing.{unknown_spacing, rows_at, spectrum_bytes}
use Rattle.cie.proofs.TableRows.{places_length, told_known}
use Rattle.host.proofs.Spectra.{no_light, short, whole}
use Rattle.host.proofs.colour_in_light.Goals as goal

pub returns-then-is_unknown : goal.returns-then-is_unknown
returns-then-is_unknown c = no_light c.args.light c.args.spectrum.now (sym c.is_unknown.ensures ∙ c.if-is_unknown.true)

pub returns-then-spectrum-rows : goal.returns-then-spectrum-rows
returns-then-spectrum-rows c =
    let rows = c.rows_at-rows.ensures.0 ∙ ap rows_at c.told_by-spacing.ensures in
    short c.args.light c.args.spectrum.now (sym c.is_unknown.ensures ∙ c.if-is_unknown.false)
    (λ e. c.if-spectrum-rows.true (e ∙ ap spectrum_bytes (sym rows)))

pub colour_through-requires : goal.colour_through-requires
colour_through-requires c =
    let e = c.rows_at-rows.ensures in
    let known = ap unknown_spacing c.told_by-spacing.ensures ∙ told_known (length c.args.spectrum.now) in
    (known, places_length e.2 ∙ e.0, c.if-spectrum-rows.false ∙ ap spectrum_bytes e.0)

pub returns : goal.returns
returns c =
    let rows = c.rows_at-rows.ensures.0 ∙ ap rows_at c.told_by-spacing.ensures in
    whole c.args.light c.args.spectrum.now (sym c.is_unknown.ensures ∙ c.if-is_unknown.false)
    (c.if-spectrum-rows.false ∙ ap spectrum_bytes rows) c.told_by-spacing.ensures c.colour_through.ensures
