-- `text::put_signed` meets its contract: a minus sign and the digits of the size are the text of a number below 0, the digits alone that of any other.
use Rattle.std.proofs.Common.{arith}
use mir.Facts.{to_z-of_z}
use Rattle.text.proofs.Decimal.{signed_below, signed_from}
use Rattle.text.proofs.Puts.{then, same}
use Rattle.text.proofs.put_signed.Goals as goal

pub returns-then-x-lt0 : goal.returns-then-x-lt0
returns-then-x-lt0 c = (
  same (signed_below (to_z-of_z c.ranges.x) c.unsigned_abs.ensures.value c.if-x-lt0.true) (then c.put-digits.ensures c.put_number.ensures.0),
  omega (arith, c.put-digits.ensures.ends, c.put_number.ensures.1),
)

pub returns : goal.returns
returns c = (
  same (signed_from (to_z-of_z c.ranges.x) c.unsigned_abs-2.ensures.value c.if-x-lt0.false) c.put_number-2.ensures.0,
  omega (arith, c.put_number-2.ensures.1),
)
