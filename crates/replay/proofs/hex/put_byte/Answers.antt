-- `replay::hex::put_byte` meets its contract: a byte has two digits.
use Rattle.std.proofs.Common.{ℕ, ◌-◌, ◌≤◌, ◌<◌, inl, inr, arith, rules}
use Rattle.std.proofs.Math.Nat.{pow-le-pow_right}
use Rattle.std.proofs.lemmas.Bool.{cases_lt}
use Rattle.io.specs.Digits.{IsDigitCount}
use Rattle.replay.proofs.hex.put_byte.Goals as goal

two : (n k : ℕ) → n < 256 → IsDigitCount 16 2 n k → k ≤ 2
two n k h f =
    elim (cases_lt 2 k) [
      | inl more ↦ absurd (omega (arith, f.2 more, pow-le-pow_right {n = 16} (omega arith) {i = 2} {j = k - 1} (omega arith)))
      | inr most ↦ most
    ]

pub put-requires : goal.put-requires
put-requires g c =
    let h = c.hex-count.ensures in
    omega (arith, h.in_bounds, two c.args.byte c.hex-count.result (search rules) h.len, c.requires)

pub returns : goal.returns
returns g c =
    let h = c.hex-count.ensures in
    omega (arith, c.put.ensures, h.in_bounds, two c.args.byte c.hex-count.result (search rules) h.len)
