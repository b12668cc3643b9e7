-- A book's readings are spectra, so each has its L.
use Rattle.std.proofs.Common.{length, sym, subst}
use Rattle.conditions.specs.Weights.{Spectrum}
use Rattle.shades.proofs.Spectra.{spectrum_fair}
use Rattle.shades.proofs.lightness_under.Goals as goal

pub lightness_by-requires : goal.lightness_by-requires
lightness_by-requires c =
    let a = c.args in
    let p = c.requires in
    (subst Spectrum (sym c.spectrum_at.ensures) (spectrum_fair (length a.places.now) a.book.now a.i p.2 p.0), p.3, p.4, p.5)
