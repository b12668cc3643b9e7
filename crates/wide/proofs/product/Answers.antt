-- `wide::product` meets its contract: the columns of the product by halves, with their carries, make up the product, and the lower word is
-- the same by either sum.
use Rattle.std.proofs.Common.{refl}
use Rattle.wide.proofs.Halves.{by_words}
use Rattle.wide.proofs.product.Goals as goal

pub returns : goal.returns
returns c = by_words c.args.a c.args.b refl
