-- `signed::share` meets its contract: what is below 2^31 d fits 64 bits, and is a number that `towards_zero` takes.
use Rattle.std.proofs.Common.{arith}
use Rattle.signed.proofs.Signs.{made_fits, made_small}
use Rattle.signed.proofs.share.Goals as goal

pub overflow_mul-scaled : goal.overflow_mul-scaled
overflow_mul-scaled c =
    let a = c.args in
    made_fits a.k a.a a.b a.d c.requires.0 c.requires.1 (omega arith) (omega arith) (omega arith) (omega arith)

pub towards_zero-requires : goal.towards_zero-requires
towards_zero-requires c =
    let a = c.args in
    let small = made_small a.k a.a a.b a.d c.requires.0 c.requires.1 (omega arith) (omega arith) (omega arith) (omega arith) in
    grind (arith, small)
