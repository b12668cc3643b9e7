-- A book's readings are spectra, so each has its colour.
use Rattle.shades.proofs.Spectra.{read_fair}
use Rattle.shades.proofs.colour_under.Goals as goal

pub colour_by-requires : goal.colour_by-requires
colour_by-requires c = read_fair c.args.book.now c.args.i c.args.lent.sound.few c.requires.0 c.requires.1 c.spectrum_at.ensures
