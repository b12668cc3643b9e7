-- The shade's colour is sized, so E is that of the two colours.
use Rattle.std.proofs.Common.{sym, subst}
use Rattle.cie.specs.Sizes.{Sized}
use Rattle.shades.proofs.Spectra.{shade_sized}
use Rattle.book_search.proofs.comparing.compare.Goals as goal

pub lab_difference-requires : goal.lab_difference-requires
lab_difference-requires c =
    (c.requires.0, subst Sized (sym c.colour_under-colour.ensures) (shade_sized c.args.lent.sound c.args.book.now c.args.i c.requires.2))
