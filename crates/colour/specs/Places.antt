-- The places of a colour in the two spaces, and the way from one place of a space to another: "the three squared differences". Assumes nothing.
use Rattle.std.specs.Prelude.{ℕ}
use Rattle.signed.specs.Apart.{distance, apart}
use Rattle.cie.specs.Colour.{squares}
use Rattle.cie.specs.declared.Colour.{Colour}
use Rattle.colour.specs.declared.difference.Place.{Place}

abbrev pub lab_place : Colour → Place
lab_place c = record { l = c.l; p = c.a; q = c.b }

abbrev pub luv_place : Colour → Place
luv_place c = record { l = c.l; p = c.u; q = c.v }

abbrev pub squares_between : Place → Place → ℕ
squares_between m n = squares (distance m.l n.l) (apart m.p n.p) (apart m.q n.q)
