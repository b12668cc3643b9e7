-- Numbers of two words. Assumes nothing.
use Rattle.std.specs.Prelude.{ℕ, ◌+◌, ◌*◌, ◌^◌}
use Rattle.wide.specs.declared.Wide.{Wide}

-- the number that two words hold
abbrev pub value : Wide → ℕ
value w = w.hi * 2 ^ 64 + w.lo
