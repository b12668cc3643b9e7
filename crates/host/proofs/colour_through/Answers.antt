-- The places hold the words of the spectrum, and the test decides. Assumes nothing.
use Rattle.std.proofs.Common.{sym, ◌∙◌}
use Rattle.host.proofs.Spectra.{bright, summable, fair}
use Rattle.host.proofs.colour_through.Goals as goal

pub returns-then-over_bright : goal.returns-then-over_bright
returns-then-over_bright c =
    let a = c.args in
    bright a.light a.spacing a.spectrum.now c.requires.1 c.read_words.ensures (sym c.over_bright.ensures ∙ c.if-over_bright.true)

pub coordinates_in-requires : goal.coordinates_in-requires
coordinates_in-requires c =
    let a = c.args in
    let s = summable a.light a.spacing a.spectrum.now c.requires.1 c.read_words.ensures (sym c.over_bright.ensures ∙ c.if-over_bright.false) in
    (s.0, s.1, c.requires.0)

pub returns : goal.returns
returns c =
    let a = c.args in
    let dim = sym c.over_bright.ensures ∙ c.if-over_bright.false in
    fair a.light a.spacing a.spectrum.now c.requires.1 c.read_words.ensures dim c.coordinates_in.ensures
