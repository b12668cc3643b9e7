-- `colour::axes::Plane::chroma` meets its contract: a coordinate is at most 2^31 in size, so two squares add up to one word. Assumes nothing.
use Rattle.std.proofs.Common.{rules}
use Rattle.colour.proofs.Planes.{chroma_is}
use Rattle.colour.proofs.axes.Plane.chroma.Goals as goal

pub returns : goal.returns
returns c =
    let s = c.args.self in
    chroma_is s.p s.q _ _ (search rules) (search rules) c.unsigned_abs-p.ensures.value c.unsigned_abs-q.ensures.value _ c.square_root.ensures
